-- A real literal and an Integer as a Real are each rounded once: the value nearest to the exact one, over whole numbers. Assumes nothing.
use Rattle.std.specs.Prelude.{◌≡◌, false, ℕ, ◌^◌, ◌<◌, ◌≤◌, nat_abs, Float}
use Rattle.std.proofs.Common.{sym, subst, lt-ltb, le-leb}
use Rattle.std.specs.Float.{binary64}
use Rattle.integers.specs.Integers.{signed}
use Rattle.rounding.specs.Nearest.{Nearest}
use Rattle.rounding.specs.Exact.{negative}
use Rattle.rounding.proofs.Laws.Operations.{decimal_nearest, whole_nearest}
use Rattle.reals.specs.Reals.{literal_real, stored_real, integer_real}

-- 'A real literal is the whole number of its digits divided by the power of ten of its places, one rounding.'
pub literal_nearest : (digits places : ℕ) → Nearest binary64 false digits (10 ^ places) (literal_real digits places)
literal_nearest digits places = decimal_nearest binary64 digits places

-- the same of a literal as it is stored
pub stored_nearest : (digits places : ℕ) → digits < 10 ^ 15 → 1 ≤ places → places < 15 → Nearest binary64 false digits (10 ^ places) (stored_real digits places)
stored_nearest digits places h i k =
    let e : stored_real digits places ≡ literal_real digits places = rw (lt-ltb digits (10 ^ 15) h, le-leb 1 places i, lt-ltb places 15 k) in
    subst (λ (x : Float). Nearest binary64 false digits (10 ^ places) x) (sym e) (literal_nearest digits places)

-- 'the Integer becomes Real', of any width w
pub integer_nearest : (w a : ℕ) → Nearest binary64 (negative (signed w a)) (nat_abs (signed w a)) 1 (integer_real w a)
integer_nearest w a = whole_nearest binary64 (signed w a)
