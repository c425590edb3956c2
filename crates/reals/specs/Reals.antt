-- What a real literal is worth, and what an Integer is as a Real. Assumes nothing.
use Rattle.std.specs.Prelude.{ℕ, ◌^◌, Bool, false, cond, ◌&&◌, leb, ltb, pos, Float}
use Rattle.std.specs.Float.{binary64}
use Rattle.std.specs.Float.Ieee.{round, of_int}
use Rattle.integers.specs.Integers.{signed}

-- 'A real literal is the whole number of its digits divided by the power of ten of its places, one rounding.' What one rounding
-- gives is said over whole numbers in Laws/Nearest.antt, `literal_nearest`.
abbrev pub literal_real : ℕ → ℕ → Float
literal_real digits places = round binary64 false digits (10 ^ places)

-- the numbers of a real literal: 'digits, a point, digits; at most 15 digits in all', so that 1 to 14 stand after the point
abbrev pub in_range : ℕ → ℕ → Bool
in_range digits places = ltb digits (10 ^ 15) && (leb 1 places && ltb places 15)

-- the Real of any two stored numbers: of a literal's 'the whole number of its digits divided by the power of ten of its places',
-- and 0.0 of all others
abbrev pub stored_real : ℕ → ℕ → Float
stored_real digits places = cond (in_range digits places) (literal_real digits places) (of_int binary64 (pos 0))

-- 'the Integer becomes Real': the Integer of a code of w bits, rounded once
abbrev pub integer_real : ℕ → ℕ → Float
integer_real w a = of_int binary64 (signed w a)
