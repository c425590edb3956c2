-- Whether all numbers are zero, one after the other and with no stop. Assumes nothing.
use Prim.Native.Nat.{ℕ, ◌+◌, ◌≤◌, ◌<◌}
use native.Mathlib.Omega.{arith}
use mathlib.Core.Path.{◌≡◌, refl, sym, ap, ◌∙◌}
use mathlib.Core.Bool.{Bool, true, false, ◌&&◌}
use mathlib.Core.List.{List}
use lib.ListN.{length, drop, get_or, drop_of_length-le}
use Rattle.syntax.specs.Inner.Lexeme.{every}
use Rattle.text.specs.Parts.{drop_one}
use Rattle.unused_room.specs.Inner.Zeros.{is_zero}

-- one number more, or none
module _ (s : List ℕ) (i : ℕ) where
  every_more : i < length s → every is_zero (drop i s) ≡ (is_zero (get_or s i 0) && every is_zero (drop (i + 1) s))
  unfolding every
  every_more h = ap (every is_zero) (drop_one s i h)

  every_end : length s ≤ i → true ≡ every is_zero (drop i s)
  unfolding every
  every_end h = sym (ap (every is_zero) (drop_of_length-le s h))

-- the first i numbers are zero or not, and those behind decide the rest
pub record Looked (s : List ℕ) (i : ℕ) (clear : Bool) : Type 0 where
  pub inside : i ≤ length s
  pub so_far : (clear && every is_zero (drop i s)) ≡ every is_zero s

pub start : (s : List ℕ) → Looked s 0 true
start s = record { inside = omega arith; so_far = refl }

pub next : (s : List ℕ) (i : ℕ) (clear r : Bool) → i < length s → Looked s i clear → r ≡ (clear && is_zero (get_or s i 0)) → Looked s (i + 1) r
next s i clear r h l e = record { inside = omega arith; so_far = go clear (is_zero (get_or s i 0)) refl l.so_far e }
  where
    go : (a z : Bool) → is_zero (get_or s i 0) ≡ z → (a && every is_zero (drop i s)) ≡ every is_zero s → r ≡ (a && z) → (r && every is_zero (drop (i + 1) s)) ≡ every is_zero s
    go false z f g k = rw k g
    go true true f g k = rw k (sym (rw f at (every_more s i h)) ∙ g)
    go true false f g k = rw k (sym (rw f at (every_more s i h)) ∙ g)

pub end : (s : List ℕ) (i : ℕ) (clear : Bool) → length s ≤ i → Looked s i clear → clear ≡ every is_zero s
end s i clear h l = go clear l.so_far
  where
    go : (a : Bool) → (a && every is_zero (drop i s)) ≡ every is_zero s → a ≡ every is_zero s
    go false g = g
    go true g = every_end s i h ∙ g
