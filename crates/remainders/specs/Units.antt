-- Finite floats as whole numbers of units: a unit is 2 ^ -1074, the smallest value of the format. Assumes nothing.
use Rattle.std.specs.Prelude.{ℕ, ◌*◌, ◌^◌, ◌<◌, ◌≤◌, Bool, Float}
use Rattle.std.specs.Float.{binary64, is_sign_negative}
use Rattle.std.specs.Float.Ieee.{round, low}
use Rattle.std.specs.Float.Ieee.Exact.{HasValue}

-- x is n units, with the sign s
unfoldable pub IsUnits : Float → Bool → ℕ → Type 0
IsUnits x s n = HasValue x s n (2 ^ low binary64)

-- the float of n units, with the sign s
unfoldable pub of_units : Bool → ℕ → Float
of_units s n = round binary64 s n (2 ^ low binary64)

-- x is digits * 2 ^ exponent units, and the digits have the leading one where they can
pub record Measures (x : Float) (digits exponent : ℕ) : Type 0 where
  pub value : IsUnits x (is_sign_negative x) (digits * 2 ^ exponent)
  pub digits_fit : digits < 2 ^ 53
  pub leading : 0 < exponent → 2 ^ 52 ≤ digits
  pub exponent_fits : exponent < 2046
