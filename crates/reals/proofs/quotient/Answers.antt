-- `reals::quotient` meets its contract. Assumes nothing.
use mathlib.Core.Path.{ap, ◌∙◌}
use Prim.Native.Nat.{ℕ, ◌^◌, ◌<◌, ◌≤◌}
use native.Mathlib.Nat.{le_trans, pow-le-pow_right, one-le-pow, zero-lt-suc, le_of_suc-le-suc}
use native.Mathlib.Omega.{arith}
use lib.IntN.{pos}
use lib.Dec.{le→leb, lit≤}
use lib.Ieee.{binary64, of_int, div, in_float}
use Rattle.reals.proofs.Divide.{whole_quotient}
use Rattle.reals.proofs.quotient.Goals as goal

exact : (n : ℕ) → n < 15 → 10 ^ n ≤ 2 ^ 53
exact n h = le_trans (pow-le-pow_right (zero-lt-suc 9) (le_of_suc-le-suc h)) (lit≤ tt)

pub int_to_float-result : goal.int_to_float-result
unfolding in_float
int_to_float-result c = le→leb c.args.digits (2 ^ 53) (omega arith)

pub int_to_float-result-2 : goal.int_to_float-result-2
unfolding in_float
int_to_float-result-2 c = le→leb c.power_of_ten.result (2 ^ 53)
    (rw c.power_of_ten.ensures (exact c.args.places c.requires.1))

pub returns : goal.returns
returns c = ap (λ (p : ℕ). div binary64 (of_int binary64 (pos c.args.digits)) (of_int binary64 (pos p)))
    c.power_of_ten.ensures
    ∙ whole_quotient binary64 c.args.digits (10 ^ c.args.places) (omega arith) (exact c.args.places c.requires.1)
    (one-le-pow c.args.places 10 (zero-lt-suc 9))
