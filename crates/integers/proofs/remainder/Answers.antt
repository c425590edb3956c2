-- `integers::remainder` meets its contract. Assumes nothing.
use Rattle.std.proofs.Common.{ℕ, ◌%◌, ◌<◌, sym, subst, ap₂, lt_of_le_of_lt, arith, rules}
use native.Mathlib.Nat.{mod-le}
use Rattle.integers.specs.Integers.{width}
use Rattle.integers.proofs.Codes.{abs_pos, remainder_by_zero, as_pos, as_neg, negation_code, rem_low, rem_high}
use Rattle.integers.proofs.remainder.Goals as goal

pub returns-then-b-eq0 : goal.returns-then-b-eq0
returns-then-b-eq0 c = remainder_by_zero width c.args.a c.args.b (search rules) c.if-b-eq0.true

pub nonzero_rem-m : goal.nonzero_rem-m
nonzero_rem-m c = subst (λ (x : ℕ). 0 < x) (sym c.magnitude-2.ensures)
    (abs_pos width c.args.b (omega arith) (search rules))

pub returns-then-a-lt-NEGATIVE : goal.returns-then-a-lt-NEGATIVE
returns-then-a-lt-NEGATIVE c = as_pos width _ _ (c.magnitude.result % c.magnitude-2.result) (lt_of_le_of_lt (mod-le c.magnitude.result c.magnitude-2.result) (search rules))
    (ap₂ ◌%◌ c.magnitude.ensures c.magnitude-2.ensures)
    (rem_low width c.args.a c.args.b c.if-a-lt-NEGATIVE.true)

pub returns : goal.returns
returns c = as_neg width _ _ (c.magnitude.result % c.magnitude-2.result) _ (negation_code width _ (c.magnitude.result % c.magnitude-2.result)
    (lt_of_le_of_lt (mod-le c.magnitude.result c.magnitude-2.result) (search rules)) c.negation.ensures) (ap₂ ◌%◌
    c.magnitude.ensures c.magnitude-2.ensures)
    (rem_high width c.args.a c.args.b c.if-a-lt-NEGATIVE.false)
