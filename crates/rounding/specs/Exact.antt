-- The exact result of an operation on finite values, before it is rounded. The size of a finite value x is the fraction num x / den x.
-- Assumes nothing.
use Rattle.std.specs.Prelude.{Bool, true, false, ◌&&◌, ℕ, zero, suc, ◌*◌, ℤ, pos, negsuc, neg_ℤ, ◌+ℤ◌, ◌-ℤ◌, Float}
use Rattle.std.specs.Float.{nan, inf, fin}
use Rattle.std.specs.Float.Ieee.Positive.{num, den}

-- n, or -n where s is true
abbrev pub with_sign : Bool → ℕ → ℤ
with_sign false n = pos n
with_sign true n = neg_ℤ (pos n)

-- whether a whole number is below zero
abbrev pub negative : ℤ → Bool
negative (pos n) = false
negative (negsuc n) = true

-- a value's sign bit; not-a-number has none here
abbrev pub sign : Float → Bool
sign nan = false
sign (inf s) = s
sign (fin s m e) = s

-- the numerator of x + y over den x * den y
abbrev pub exact_sum : Float → Float → ℤ
exact_sum x y = with_sign (sign x) (num x * den y) +ℤ with_sign (sign y) (num y * den x)

-- the numerator of x - y over den x * den y
abbrev pub exact_difference : Float → Float → ℤ
exact_difference x y = with_sign (sign x) (num x * den y) -ℤ with_sign (sign y) (num y * den x)

-- the sign of a sum z of two numbers with the signs s and t: its own, and of a sum that is exactly zero minus only where both are
abbrev pub sum_sign : ℤ → Bool → Bool → Bool
sum_sign (pos zero) s t = s && t
sum_sign (pos (suc n)) s t = false
sum_sign (negsuc n) s t = true
