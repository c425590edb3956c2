-- The exact result of an operator on two finite Reals, a fraction of whole numbers with a sign, before it is rounded. Assumes nothing.
use Rattle.std.specs.Prelude.{Bool, not, ℕ, ◌*◌, ◌%◌, ◌<◌, nat_abs, T, Float}
use Rattle.std.specs.Float.{binary64}
use Rattle.std.specs.Float.Ieee.{unlike}
use Rattle.std.specs.Float.Ieee.Positive.{num, den}
use Rattle.std.specs.Float.Ieee.Scale.{finite}
use Rattle.rounding.specs.Nearest.{Nearest}
use Rattle.rounding.specs.Exact.{sign, exact_sum, exact_difference, sum_sign}
use Rattle.arithmetic.specs.declared.Arithmetic.{Arithmetic}
use Rattle.arithmetic.specs.declared.Arithmetic.TheVariants.{Sum, Difference, Product, Quotient, Remainder}
use Rattle.arithmetic.specs.Arithmetic.{reals_result}

-- its sign, true for minus: a remainder has the dividend's
abbrev pub exact_sign : Arithmetic → Float → Float → Bool
exact_sign Sum x y = sum_sign (exact_sum x y) (sign x) (sign y)
exact_sign Difference x y = sum_sign (exact_difference x y) (sign x) (not (sign y))
exact_sign Product x y = unlike (sign x) (sign y)
exact_sign Quotient x y = unlike (sign x) (sign y)
exact_sign Remainder x y = sign x

-- its numerator; a remainder is what the quotient, cut to a whole number, leaves
abbrev pub exact_num : Arithmetic → Float → Float → ℕ
exact_num Sum x y = nat_abs (exact_sum x y)
exact_num Difference x y = nat_abs (exact_difference x y)
exact_num Product x y = num x * num y
exact_num Quotient x y = num x * den y
exact_num Remainder x y = num x * den y % (num y * den x)

-- its denominator
abbrev pub exact_den : Arithmetic → Float → Float → ℕ
exact_den Sum x y = den x * den y
exact_den Difference x y = den x * den y
exact_den Product x y = den x * den y
exact_den Quotient x y = num y * den x
exact_den Remainder x y = den x * den y

-- there is an exact result: two finite operands, and a divisor that is no zero
abbrev pub Exact : Arithmetic → Float → Float → Type 0
Exact Sum x y = T (finite x) × T (finite y)
Exact Difference x y = T (finite x) × T (finite y)
Exact Product x y = T (finite x) × T (finite y)
Exact Quotient x y = T (finite x) × T (finite y) × (0 < num y)
Exact Remainder x y = T (finite x) × T (finite y) × (0 < num y)

-- 'Real operations round once each.' The result is the Real nearest to the exact result; proved in Laws/Nearest.antt.
abbrev pub RoundsOnce : Type 0
RoundsOnce =
    (op : Arithmetic) (x y : Float) → Exact op x y → Nearest binary64 (exact_sign op x y) (exact_num op x y) (exact_den op x y) (reals_result op x y)
