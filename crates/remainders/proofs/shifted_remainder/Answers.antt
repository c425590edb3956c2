-- `remainders::shifted_remainder` meets its contract. Assumes nothing.
use mathlib.Core.Path.{ap, ◌∙◌}
use Prim.Native.Nat.{ℕ, ◌*◌, ◌%◌, ◌^◌, ◌<◌}
use native.Mathlib.Nat.{mod-lt}
use native.Mathlib.Omega.{arith}
use Rattle.remainders.proofs.Steps.{reduced, ten_more, last_ones}
use Rattle.remainders.proofs.shifted_remainder.Goals as goal

pub loop-left-init : goal.loop-left-init
loop-left-init c = record {
  below = mod-lt c.args.digits c.requires.above;
  same = reduced c.args.digits (2 ^ c.args.shift) c.args.divisor;
}

pub loop-left-preserved : goal.loop-left-preserved
loop-left-preserved c = record {
  below = mod-lt (c.loop-left.rest * 1024) c.requires.above;
  same = ten_more c.loop-left.rest c.loop-left.left c.args.divisor c.loop-left-test.true ∙ c.loop-left.invariant.same;
}

pub returns : goal.returns
returns c =
    let h : c.loop-left.rest < 2 ^ 53 = omega (arith, c.loop-left.invariant.below, c.requires.below) in
    ap (λ (z : ℕ). z % c.args.divisor) (last_ones c.loop-left.rest c.loop-left.left h c.loop-left-test.false)
    ∙ c.loop-left.invariant.same
