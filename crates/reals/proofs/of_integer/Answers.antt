-- `reals::of_integer` meets its contract. Assumes nothing.
use mathlib.Core.Path.{sym, ap, ◌∙◌}
use Prim.Native.Nat.{ℕ, suc, ◌-◌, ◌^◌}
use lib.IntN.{pos, nat_abs}
use lib.Ieee.{binary64, of_int, neg}
use Rattle.integers.specs.Integers.{width}
use Rattle.integers.proofs.Codes.{low, high}
use Rattle.reals.proofs.Divide.{neg_whole}
use Rattle.reals.proofs.of_integer.Goals as goal

pub returns-then-a-lt2147483648 : goal.returns-then-a-lt2147483648
returns-then-a-lt2147483648 c = sym (ap (of_int binary64) (low width c.args.a c.if-a-lt2147483648.true))

pub returns : goal.returns
returns c = let e = high width c.args.a c.if-a-lt2147483648.false in
    ap (λ (n : ℕ). neg (of_int binary64 (pos n))) (c.magnitude.ensures ∙ ap nat_abs e)
    ∙ neg_whole binary64 (2 ^ width - suc c.args.a)
    ∙ sym (ap (of_int binary64) e)
