-- `integers::quotient` meets its contract. Assumes nothing.
use Rattle.std.proofs.Common.{ℕ, ◌/◌, ◌<◌, sym, subst, ap₂, lt_of_le_of_lt, div-le_self, arith, rules}
use Rattle.integers.specs.Integers.{width}
use Rattle.integers.proofs.Codes.{abs_pos, quotient_by_zero, as_pos, as_neg, negation_code, like_low, like_high, unlike_low, unlike_high}
use Rattle.integers.proofs.quotient.Goals as goal

pub returns-then-b-eq0 : goal.returns-then-b-eq0
returns-then-b-eq0 c = quotient_by_zero width c.args.a c.args.b c.if-b-eq0.true

pub nonzero_div-q : goal.nonzero_div-q
nonzero_div-q c = subst (λ (x : ℕ). 0 < x) (sym c.magnitude-2.ensures)
    (abs_pos width c.args.b (omega arith) (search rules))

pub returns-then-b-lt-NEGATIVE : goal.returns-then-b-lt-NEGATIVE
returns-then-b-lt-NEGATIVE c = as_pos width _ _ (c.magnitude.result / c.magnitude-2.result) (lt_of_le_of_lt (div-le_self c.magnitude.result c.magnitude-2.result) (search rules)) (ap₂ ◌/◌
    c.magnitude.ensures c.magnitude-2.ensures)
    (like_low width c.args.a c.args.b c.if-a-lt-NEGATIVE.true c.if-b-lt-NEGATIVE.true)

pub returns-then-a-lt-NEGATIVE : goal.returns-then-a-lt-NEGATIVE
returns-then-a-lt-NEGATIVE c = as_neg width _ _ (c.magnitude.result / c.magnitude-2.result) _ (negation_code width _ (c.magnitude.result / c.magnitude-2.result)
    (lt_of_le_of_lt (div-le_self c.magnitude.result c.magnitude-2.result) (search rules)) c.negation.ensures)
    (ap₂ ◌/◌ c.magnitude.ensures c.magnitude-2.ensures)
    (unlike_low width c.args.a c.args.b c.if-a-lt-NEGATIVE.true c.if-b-lt-NEGATIVE.false)

pub returns-then-b-lt-NEGATIVE-2 : goal.returns-then-b-lt-NEGATIVE-2
returns-then-b-lt-NEGATIVE-2 c = as_neg width _ _ (c.magnitude.result / c.magnitude-2.result) _ (negation_code width _ (c.magnitude.result / c.magnitude-2.result)
    (lt_of_le_of_lt (div-le_self c.magnitude.result c.magnitude-2.result) (search rules)) c.negation-then-b-lt-NEGATIVE-2.ensures)
    (ap₂ ◌/◌ c.magnitude.ensures c.magnitude-2.ensures)
    (unlike_high width c.args.a c.args.b c.if-a-lt-NEGATIVE.false c.if-b-lt-NEGATIVE-2.true)

pub returns : goal.returns
returns c = as_pos width _ _ (c.magnitude.result / c.magnitude-2.result) (lt_of_le_of_lt (div-le_self c.magnitude.result c.magnitude-2.result) (search rules)) (ap₂ ◌/◌
    c.magnitude.ensures c.magnitude-2.ensures)
    (like_high width c.args.a c.args.b c.if-a-lt-NEGATIVE.false c.if-b-lt-NEGATIVE-2.false)
