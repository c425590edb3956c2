-- What the functions over a stored ad give, over plain variables. Assumes nothing.
use Prim.Native.Nat.{ℕ, zero, suc, ◌+◌, ◌-◌, ◌≤◌, ◌<◌}
use native.Mathlib.Omega.{arith}
use mathlib.Core.Path.{◌≡◌, refl, ap}
use mathlib.Core.Bool.{true, false}
use mathlib.Core.List.{List}
use Rattle.text.specs.Strings.{same_name}
use Rattle.ad.specs.Stored.{offset_at, length_at, bytes_at}
use Rattle.ad.specs.Inner.Names.{defined_in}

-- ---- a name is looked for

module _ (w b name : List ℕ) (j d : ℕ) where
  pub look_more : j < d → same_name (bytes_at b (offset_at w j) (length_at w j)) name ≡ false → defined_in w b name j (d - j) ≡ defined_in w b name (j + 1) (d - (j + 1))
  unfolding defined_in
  look_more h e = let i : d - j ≡ suc (d - (j + 1)) = omega arith in rw (i, e) refl

  pub look_found : j < d → same_name (bytes_at b (offset_at w j) (length_at w j)) name ≡ true → true ≡ defined_in w b name j (d - j)
  unfolding defined_in
  look_found h e = let i : d - j ≡ suc (d - (j + 1)) = omega arith in rw (i, e) refl

  pub look_end : d ≤ j → false ≡ defined_in w b name j (d - j)
  unfolding defined_in
  look_end h = let i : d - j ≡ zero = omega arith in rw i refl

pub look_all : (w b name : List ℕ) (d : ℕ) → defined_in w b name 0 (d - 0) ≡ defined_in w b name 0 d
look_all w b name d = let i : d - 0 ≡ d = omega arith in ap (defined_in w b name 0) i
