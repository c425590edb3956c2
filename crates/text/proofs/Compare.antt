-- Strings compared: which are the same, and their order, one byte at a time in lower case. Assumes nothing.
use mathlib.Core.Path.{◌≡◌, refl, sym, ap, ◌∙◌}
use mathlib.Core.Bool.{Bool, true, false, cond, ◌&&◌}
use mathlib.Core.List.{List, [], ◌∷◌, map}
use Prim.Native.Nat.{ℕ, zero, suc, ◌+◌, ◌-◌, ◌≤◌, ◌<◌, min}
use native.Mathlib.Numerals.{add-one}
use native.Mathlib.Omega.{arith}
use lib.Dec.{eqb, leb}
use lib.ListN.{length, drop, get_or, drop_of_length-le, length-map, get_or-map}
use lib.Seq.{drop-cons}
use Rattle.std.proofs.Common.{nat_cmp}
use Rattle.std.specs.Prelude.{bit_and}
use Rattle.std.specs.Ordering.{MatchOrdering, is_ne, ordering_then}
use Rattle.std.specs.declared.cmp.Ordering.{Ordering}
use Rattle.std.specs.declared.cmp.Ordering.TheVariants.{Less, Equal, Greater}
use Rattle.std.proofs.lemmas.Bool.Decides.{nat_tests, Decides-eqb, Decides-below_and}
use Rattle.std.proofs.lemmas.Cmp.{ranked}
use Rattle.text.specs.Bytes.{between, lower_case}
use Rattle.text.specs.Strings.{same_bytes, same_name, bytes_order}
use Rattle.text.specs.Laws.Booleans.{both}

-- ---- the same bytes
same_told : (s t : List ℕ) → same_bytes s t ≡ true → s ≡ t
unfolding same_bytes
same_told [] [] e = refl
same_told [] (y ∷ ys) e = cc
same_told (x ∷ xs) [] e = cc
same_told (x ∷ xs) (y ∷ ys) e =
    let h = both (eqb x y) (same_bytes xs ys) e in
    let a : x ≡ y = grind (arith, nat_tests) in
    let b = same_told xs ys h.1 in
    cc

-- ---- the same but for case
abbrev pub lowered : List ℕ → List ℕ
lowered s = map lower_case s

lowered_length : (s : List ℕ) → length (lowered s) ≡ length s
lowered_length s = length-map s lower_case

lowered_at : (s : List ℕ) (i : ℕ) → get_or (lowered s) i 0 ≡ lower_case (get_or s i 0)
unfolding lower_case
lowered_at s i = get_or-map lower_case s i 0

pub names_unequal : (s t : List ℕ) → (length s ≡ length t → ⊥) → false ≡ same_name s t
unfolding same_name
names_unequal s t n = unlike (same_bytes (lowered s) (lowered t)) (λ h. n (sym (lowered_length s) ∙ ap (λ (l : List ℕ). length l) (same_told _ _ h) ∙ lowered_length t))
  where
    unlike : (b : Bool) → (b ≡ true → ⊥) → false ≡ b
    unlike true h = absurd (h refl)
    unlike false h = refl

-- `& 0xDF`, 223, makes the two cases of a letter the same
letters_masked : ℕ → Bool
letters_masked zero = true
letters_masked (suc n) = eqb (bit_and (n + 97) 223) (bit_and (n + 65) 223) && letters_masked n

letter_masked : (k : ℕ) → k < 26 → bit_and (k + 97) 223 ≡ bit_and (k + 65) 223
unfolding letters_masked
letter_masked = (Decides-below_and _ _ letters_masked (λ k. Decides-eqb (bit_and (k + 97) 223) (bit_and (k + 65) 223)) refl (λ _. refl) 26).0 refl

masked : (x : ℕ) → bit_and (lower_case x) 223 ≡ bit_and x 223
unfolding lower_case
masked x = by (between 65 90 x) refl
  where
    by : (b : Bool) → between 65 90 x ≡ b → bit_and (cond b (x + 32) x) 223 ≡ bit_and x 223
    by true e =
        let h = both (leb 65 x) (leb x 90) e in
        let low : 65 ≤ x = grind (arith, nat_tests) in
        let high : x ≤ 90 = grind (arith, nat_tests) in
        let small : (x - 65) + 97 ≡ x + 32 = omega arith in
        let capital : (x - 65) + 65 ≡ x = omega arith in
        rw (← small) (letter_masked (x - 65) (omega arith) ∙ ap (λ n. bit_and n 223) capital)
    by false e = refl

-- the same from a place on
abbrev pub same_from : (s t : List ℕ) → ℕ → Bool
same_from s t k = same_bytes (drop k (lowered s)) (drop k (lowered t))

module _ (s t : List ℕ) (i : ℕ) where
  letter : (x y : ℕ) → i < length s → i < length t → x ≡ get_or s i 0 → y ≡ get_or t i 0 → same_from s t i ≡ eqb (lower_case x) (lower_case y) && same_from s t (i + 1)
  unfolding same_bytes
  letter x y h k p q =
      rw (drop-cons (lowered s) i 0 (rw (lowered_length s) h), drop-cons (lowered t) i 0 (rw (lowered_length t) k), add-one i, lowered_at s i, lowered_at t i, p, q)

  pub one_more : (x y : ℕ) (r : Bool) → i < length s → i < length t → x ≡ get_or s i 0 → y ≡ get_or t i 0 → (r && same_from s t i) ≡ ((r && eqb (lower_case x) (lower_case y)) && same_from s t (i + 1))
  one_more x y true h k p q = letter x y h k p q
  one_more x y false h k p q = refl

  -- bytes that differ in more than a letter's case
  pub no_match : (x y : ℕ) → x ≡ get_or s i 0 → y ≡ get_or t i 0 → (bit_and x 223 ≡ bit_and y 223 → ⊥) → same_name s t ≡ false
  unfolding same_name
  no_match x y p q n = by (same_bytes (lowered s) (lowered t)) refl
    where
      by : (b : Bool) → same_bytes (lowered s) (lowered t) ≡ b → b ≡ false
      by false e = refl
      by true e =
          let same = ap (λ l. get_or l i 0) (same_told _ _ e) in
          let lower : lower_case x ≡ lower_case y = ap lower_case p ∙ sym (lowered_at s i) ∙ same ∙ lowered_at t i ∙ sym (ap lower_case q) in
          absurd (n (sym (masked x) ∙ ap (λ l. bit_and l 223) lower ∙ masked y))

  pub names_ended : i ≡ min (length s) (length t) → length s ≡ length t → same_from s t i ≡ true
  unfolding same_bytes
  names_ended e h = rw (drop_of_length-le (lowered s) {i = i} (rw (lowered_length s) (omega arith)), drop_of_length-le (lowered t) {i = i} (rw (lowered_length t) (omega arith)))

-- what the bytes before have told decides once none is left
pub told : (r b l : Bool) → l ≡ (r && b) → b ≡ true → r ≡ l
told true b l e h = sym (e ∙ h)
told false b l e h = sym e

-- ---- the order
module _ (s t : List ℕ) (i : ℕ) where
  abbrev pub rest : ℕ → Ordering
  rest k = bytes_order (drop k (lowered s)) (drop k (lowered t))

  step : (x y : ℕ) → i < length s → i < length t → x ≡ get_or s i 0 → y ≡ get_or t i 0 → rest i ≡ ordering_then (nat_cmp (lower_case x) (lower_case y)) (rest (i + 1))
  unfolding bytes_order
  step x y h k p q =
      rw (drop-cons (lowered s) i 0 (rw (lowered_length s) h), drop-cons (lowered t) i 0 (rw (lowered_length t) k), add-one i, lowered_at s i, lowered_at t i, p, q) (grind (arith, nat_tests))

  -- the first bytes that differ decide
  pub decided : (x y : ℕ) (r : Ordering) → i < length s → i < length t → x ≡ get_or s i 0 → y ≡ get_or t i 0 → r ≡ nat_cmp (lower_case x) (lower_case y) → is_ne r ≡ true → rest i ≡ r
  decided x y Less h k p q e n = step x y h k p q ∙ rw (← e) refl
  decided x y Equal h k p q e n = cc
  decided x y Greater h k p q e n = step x y h k p q ∙ rw (← e) refl

  pub next : (x y : ℕ) (r : Ordering) → i < length s → i < length t → x ≡ get_or s i 0 → y ≡ get_or t i 0 → r ≡ nat_cmp (lower_case x) (lower_case y) → is_ne r ≡ false → rest i ≡ rest (i + 1)
  next x y Less h k p q e n = cc
  next x y Equal h k p q e n = step x y h k p q ∙ rw (← e) refl
  next x y Greater h k p q e n = cc

  close : (r : Ordering) → i ≡ min (length s) (length t) → MatchOrdering r (length s < length t) (length s ≡ length t) (length t < length s) → rest i ≡ r
  unfolding bytes_order
  close Less e h = rw (drop_of_length-le (lowered s) {i = i} (rw (lowered_length s) (omega arith)), drop-cons (lowered t) i 0 (rw (lowered_length t) (omega arith)))
  close Equal e h = rw (drop_of_length-le (lowered s) {i = i} (rw (lowered_length s) (omega arith)), drop_of_length-le (lowered t) {i = i} (rw (lowered_length t) (omega arith)))
  close Greater e h = rw (drop-cons (lowered s) i 0 (rw (lowered_length s) (omega arith)), drop_of_length-le (lowered t) {i = i} (rw (lowered_length t) (omega arith)))

  -- where one ends, the longer is greater
  pub ended : (r : Ordering) → i ≡ min (length s) (length t) → r ≡ nat_cmp (length s) (length t) → rest i ≡ r
  ended r e h = close r e (ranked (length s) (length t) r h)
