-- `remainders::of_finite` meets its contract. Assumes nothing.
use mathlib.Core.Path.{ap, ap₂, ◌∙◌}
use mathlib.Core.Bool.{Bool}
use Prim.Native.Nat.{ℕ, ◌*◌, ◌^◌}
use Rattle.remainders.specs.Units.{of_units}
use Rattle.remainders.proofs.Patterns.{finite_number}
use Rattle.remainders.proofs.Cases.{nan_constant}
use Rattle.remainders.proofs.Units.{rem_none, rem_smaller, rem_larger}
use Rattle.remainders.proofs.of_finite.Goals as goal

pub returns-then-b-eq0 : goal.returns-then-b-eq0
returns-then-b-eq0 c =
    nan_constant ∙ rem_none c.args.x c.args.y c.size_of-b.result.digits c.size_of-b.result.exponent c.requires.finite_x c.size_of-b.ensures c.if-b-eq0.true

pub is_sign_negative-negative-requires : goal.is_sign_negative-negative-requires
is_sign_negative-negative-requires c = finite_number c.args.x c.requires.finite_x

pub returns-then-a-b : goal.returns-then-a-b
returns-then-a-b c =
    c.of_size.ensures
    ∙ ap (λ (s : Bool). of_units s (c.size_of-a.result.digits * 2 ^ c.size_of-a.result.exponent)) c.is_sign_negative-negative.ensures
    ∙ rem_smaller c.args.x c.args.y c.size_of-a.result.digits c.size_of-a.result.exponent c.size_of-b.result.digits c.size_of-b.result.exponent
    c.size_of-a.ensures c.size_of-b.ensures c.if-b-eq0.false c.if-a-b.true

pub returns : goal.returns
returns c =
    c.of_size-2.ensures
    ∙ ap₂ (λ (s : Bool) (n : ℕ). of_units s (n * 2 ^ c.size_of-b.result.exponent)) c.is_sign_negative-negative.ensures c.shifted_remainder-rest.ensures
    ∙ rem_larger c.args.x c.args.y c.size_of-a.result.digits c.size_of-a.result.exponent c.size_of-b.result.digits c.size_of-b.result.exponent
    c.size_of-a.ensures c.size_of-b.ensures c.if-b-eq0.false c.if-a-b.false
