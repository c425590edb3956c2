-- Arithmetic, and unary plus and minus. Assumes nothing.
use Rattle.std.specs.Prelude.{ℕ, true, cond, ◌&&◌, [], ◌∷◌, eqb, Float}
use Rattle.std.specs.Float.Ieee as Ieee
use Rattle.std.specs.Float.{binary64}
use Rattle.integers.specs.Integers.{width, wrapped_sum, wrapped_difference, wrapped_product, wrapped_negation, truncated_quotient, signed_remainder}
use Rattle.values.specs.declared.Value.{Value}
use Rattle.values.specs.declared.Value.TheVariants.{Error, Integer, Real}
use Rattle.arithmetic.specs.declared.Arithmetic.{Arithmetic}
use Rattle.arithmetic.specs.declared.Arithmetic.TheVariants.{Sum, Difference, Product, Quotient, Remainder}
use Rattle.operands.specs.Strict.{is_integer, is_number, code_of, to_real, strict}

-- 'Integer `+ - *` .. wrap at 32 bits; `/` truncates, `%` takes the dividend's sign; a zero divisor is Error.'
abbrev pub integers_result : Arithmetic → ℕ → ℕ → Value
integers_result Sum x y = Integer (wrapped_sum width x y)
integers_result Difference x y = Integer (wrapped_difference width x y)
integers_result Product x y = Integer (wrapped_product width x y)
integers_result Quotient x y = cond (eqb y 0) Error (Integer (truncated_quotient width x y))
integers_result Remainder x y = cond (eqb y 0) Error (Integer (signed_remainder width x y))

-- 'Real operations round once each', which Exact.antt says over whole numbers (`RoundsOnce`). 'Division by 0.0 gives infinity or
-- not-a-number, never Error.'
abbrev pub reals_result : Arithmetic → Float → Float → Float
reals_result Sum x y = Ieee.add binary64 x y
reals_result Difference x y = Ieee.sub binary64 x y
reals_result Product x y = Ieee.mul binary64 x y
reals_result Quotient x y = Ieee.div binary64 x y
reals_result Remainder x y = Ieee.rem binary64 x y

-- the result of two numbers: two Integers', else that of two Reals, as 'Mixed: the Integer becomes Real first.'
abbrev pub numbers_result : Arithmetic → Value → Value → Value
numbers_result op a b = cond (is_integer a && is_integer b) (integers_result op (code_of a) (code_of b)) (Real (reals_result op (to_real a) (to_real b)))

-- 'Strict operators are arithmetic ..'; 'Arithmetic admits two numbers'
abbrev pub arithmetic_value : Arithmetic → Value → Value → Value
arithmetic_value op a b = strict is_number (a ∷ b ∷ []) (is_number a && is_number b) (numbers_result op a b)

-- 'Integer .. unary `-` wrap'; of a Real, its sign is turned over
abbrev pub negated : Value → Value
negated a = cond (is_integer a) (Integer (wrapped_negation width (code_of a))) (Real (Ieee.neg (to_real a)))

-- 'Strict operators are .. unary plus and minus': minus
abbrev pub minus_value : Value → Value
minus_value a = strict is_number (a ∷ []) true (negated a)

-- 'Strict operators are .. unary plus and minus': plus, which gives the number back
abbrev pub plus_value : Value → Value
plus_value a = strict is_number (a ∷ []) true a
