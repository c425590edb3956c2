-- One byte more, a block more, a byte that is found, and the end of the text. Assumes nothing.
use Prim.Native.Nat.{ℕ, zero, suc, ◌+◌, ◌-◌, ◌≤◌, ◌<◌}
use native.Mathlib.Omega.{arith}
use native.Mathlib.Numerals.{add-one}
use native.Mathlib.Nat.{add-zero}
use mathlib.Core.Path.{◌≡◌, refl, ap, ◌∙◌}
use mathlib.Core.List.{List}
use lib.ListN.{length, get_or, take, drop, drop_of_length-le, length-take, length-drop}
use lib.Seq.{drop-cons, get_or-take, get_or-drop}
use borrow.Author.Tests.{eq-eqb, ne_eqb}
use Rattle.lines.specs.Lines.{up_to}

module _ (x : ℕ) (s : List ℕ) (i : ℕ) where
  pub passed : i < length s → (get_or s i 0 ≡ x → ⊥) → i + length (up_to x (drop i s)) ≡ i + 1 + length (up_to x (drop (i + 1) s))
  unfolding up_to
  passed h k = rw (drop-cons s i 0, ne_eqb (get_or s i 0) x k, add-one i) (omega arith)

  pub found : i < length s → get_or s i 0 ≡ x → i + length (up_to x (drop i s)) ≡ i
  unfolding up_to
  found h k = rw (drop-cons s i 0, eq-eqb (get_or s i 0) x k) (omega arith)

  pub ended : length s ≤ i → i + length (up_to x (drop i s)) ≡ i
  unfolding up_to
  ended h = rw (drop_of_length-le s h) (omega arith)

all_passed : (x : ℕ) (s : List ℕ) (i n : ℕ) → i + n ≤ length s → ((k : ℕ) → k < n → get_or s (i + k) 0 ≡ x → ⊥) →
    i + length (up_to x (drop i s)) ≡ i + n + length (up_to x (drop (i + n) s))
all_passed x s i zero h none = rw add-zero refl
all_passed x s i (suc n) h none =
    let e : i + n + 1 ≡ i + suc n = omega arith in
    all_passed x s i n (omega arith) (λ k l. none k (omega arith))
    ∙ passed x s (i + n) (omega arith) (none n (omega arith))
    ∙ ap (λ (m : ℕ). m + length (up_to x (drop m s))) e

-- a block from `i` to `end` that has no x
pub block_passed : (x : ℕ) (s : List ℕ) (i end : ℕ) → i ≤ end → end ≤ length s →
    ((k : ℕ) → k < length (take (end - i) (drop i s)) → get_or (take (end - i) (drop i s)) k 0 ≡ x → ⊥) →
    i + length (up_to x (drop i s)) ≡ end + length (up_to x (drop end s))
block_passed x s i end h l none =
    let e : i + (end - i) ≡ end = omega arith in
    all_passed x s i (end - i) (omega arith) (λ k m q.
    none k (simp (length-take, length-drop) (omega arith))
    (get_or-take (end - i) (drop i s) k 0 m ∙ get_or-drop i s k 0 ∙ q))
    ∙ ap (λ (m : ℕ). m + length (up_to x (drop m s))) e
