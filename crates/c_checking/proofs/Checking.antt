-- The check's answer as numbers. Assumes nothing.
use Prim.Native.Nat.{ℕ, ◌≤◌, ◌<◌}
use mathlib.Core.Path.{◌≡◌, refl, ◌∙◌}
use mathlib.Core.List.{List}
use lib.ListN.{length}
use borrow.Author.Tests.{lt-ltb, le-ltb}
use Rattle.well_formed.specs.WellFormed.{Answers}
use Rattle.well_formed.specs.declared.Checked.{Checked}
use Rattle.std.proofs.Common.{Option, Some, None}
use mathlib.Core.List.{[], ◌∷◌}
use Rattle.c_checking.specs.Checking.{CheckReported, no_room, malformed, well_formed}
use Rattle.c_checking.specs.Inner.Numbers.{check_numbers}

module _ (w b : List ℕ) where
  pub small_words : {n : List ℕ} → length w < 4864 → n ≡ 1 ∷ 0 ∷ 0 ∷ 0 ∷ [] → CheckReported w b n
  small_words h e = no_room (rw (lt-ltb (length w) 4864 h) refl) e

  pub small_bytes : {n : List ℕ} → 4864 ≤ length w → length b < 16384 → n ≡ 1 ∷ 0 ∷ 0 ∷ 0 ∷ [] → CheckReported w b n
  small_bytes h k e = no_room (rw (le-ltb (length w) 4864 h, lt-ltb (length b) 16384 k) refl) e

  pub checked : (r : Option Checked) {n : List ℕ} → 4864 ≤ length w → 16384 ≤ length b → Answers w b r → n ≡ check_numbers r → CheckReported w b n
  checked (Some c) h i (a, x, y, z, u) e =
      well_formed (rw (le-ltb (length w) 4864 h, le-ltb (length b) 16384 i) refl) a x (e ∙ (λ j. 0 ∷ y j ∷ z j ∷ u j ∷ []))
  checked None h i f e = malformed (rw (le-ltb (length w) 4864 h, le-ltb (length b) 16384 i) refl) f e
