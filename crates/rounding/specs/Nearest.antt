-- What it is to round a fraction once, over whole numbers: to the nearest value of a binary format, ties to even, with overflow and
-- underflow. Assumes nothing.
use Rattle.std.specs.Prelude.{◌≡◌, ◌≢◌, Bool, ℕ, suc, ◌+◌, ◌-◌, ◌*◌, ◌%◌, ◌^◌, ◌≤◌, ◌<◌, Float}
use Rattle.std.specs.Float.{nan, inf, fin, Format}
use Rattle.std.specs.Float.Ieee.{prec, emax, low, up, down}

-- the format f has the number m * 2 ^ k / 2 ^ low: the significand m has at most `prec` bits, and the number is below
-- 2 ^ (emax + 1). For binary64: m < 2 ^ 53, below 2 ^ 1024, in units of 2 ^ -1074.
pub record Representable (f : Format) (m k : ℕ) : Type 0 where
  pub digits : m < 2 ^ prec f
  pub finite : m * 2 ^ k < 2 ^ suc (emax f) * 2 ^ low f

-- |a - b|
abbrev pub gap : ℕ → ℕ → ℕ
gap a b = (a - b) + (b - a)

-- how far num / den is from m * 2 ^ k / 2 ^ low, times den * 2 ^ low: one unit for every number of the format
abbrev pub distance : Format → ℕ → ℕ → ℕ → ℕ → ℕ
distance f num den m k = gap (num * 2 ^ low f) (m * 2 ^ k * den)

-- of the numbers that f has, m * 2 ^ k / 2 ^ low is the nearest to num / den, and of two that are as near the one with the even
-- significand. The significand has all its bits, but at the lowest exponent, where underflow is gradual.
pub record NearestAt (f : Format) (num den m k : ℕ) : Type 0 where
  pub representable : Representable f m k
  pub normalized : 0 < k → 2 ^ (prec f - 1) ≤ m
  pub nearest : (n j : ℕ) → Representable f n j → distance f num den m k ≤ distance f num den n j
  pub even : (n j : ℕ) → Representable f n j → n * 2 ^ j ≢ m * 2 ^ k → distance f num den n j ≡ distance f num den m k → m % 2 ≡ 0

-- the least size that overflows: the middle between the largest number that f has and 2 ^ (emax + 1). For binary64: 2 ^ 1024 - 2 ^ 970.
abbrev pub overflow : Format → ℕ
overflow f = (2 ^ suc (prec f) - 1) * 2 ^ (emax f - prec f)

-- 'one rounding': x is the value of f nearest to num / den, ties to even, with the sign s (true is minus), which a zero has too. From
-- `overflow` on it is an infinity; it is never not-a-number.
abbrev pub Nearest : Format → Bool → ℕ → ℕ → Float → Type 0
Nearest f s num den nan = ⊥
Nearest f s num den (inf t) = (t ≡ s) × (overflow f * den ≤ num)
Nearest f s num den (fin t m e) =
    (t ≡ s) × (num < overflow f * den) × ((n k : ℕ) × (m * up e * 2 ^ low f ≡ n * 2 ^ k * down e) × NearestAt f num den n k)
