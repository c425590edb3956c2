-- Line feeds, of one byte more and of one block more, and how many lines there are by them. Assumes nothing.
use Prim.Native.Nat.{ℕ, zero, suc, ◌+◌, ◌-◌, ◌≤◌, ◌<◌}
use Prim.Native.Char.{code}
use native.Mathlib.Omega.{arith}
use native.Mathlib.Numerals.{add-one}
use mathlib.Core.Path.{◌≡◌, refl, ap, ◌∙◌}
use mathlib.Core.Bool.{Bool, true, false, cond}
use mathlib.Core.List.{List, [], ◌∷◌, ◌++◌}
use lib.ListN.{length, get_or, take, drop, length-take}
use lib.Seq.{take-suc, take-add}
use lib.Dec.{eqb}
use borrow.Author.Tests.{eq-eqb, ne_eqb}
use Rattle.lines.specs.Lines.{joined, lines_of}
use Rattle.lines.specs.Inner.Feeds.{feeds_in}

feeds_both : (s t : List ℕ) → feeds_in (s ++ t) ≡ feeds_in s + feeds_in t
unfolding feeds_in
feeds_both [] t = omega arith
feeds_both (b ∷ s) t = go (eqb b (code "\n")) (feeds_both s t)
  where
    go : (y : Bool) → feeds_in (s ++ t) ≡ feeds_in s + feeds_in t → cond y (suc (feeds_in (s ++ t))) (feeds_in (s ++ t)) ≡ cond y (suc (feeds_in s)) (feeds_in s) + feeds_in t
    go true e = omega arith
    go false e = e

feeds_few : (s : List ℕ) → feeds_in s ≤ length s
unfolding feeds_in
feeds_few [] = omega arith
feeds_few (b ∷ s) = go (eqb b (code "\n")) (feeds_few s)
  where
    go : (y : Bool) → feeds_in s ≤ length s → cond y (suc (feeds_in s)) (feeds_in s) ≤ suc (length s)
    go true h = omega arith
    go false h = omega arith

pub first_few : (s : List ℕ) (n : ℕ) → feeds_in (take n s) ≤ n
first_few s n = omega (arith, feeds_few (take n s), length-take n s)

pub no_feeds : feeds_in [] ≡ 0
unfolding feeds_in
no_feeds = refl

feeds_one : (b : ℕ) → b ≡ code "\n" → feeds_in (b ∷ []) ≡ 1
unfolding feeds_in
feeds_one b e = rw (eq-eqb b (code "\n") e) refl

feeds_other : (b : ℕ) → (b ≡ code "\n" → ⊥) → feeds_in (b ∷ []) ≡ 0
unfolding feeds_in
feeds_other b e = rw (ne_eqb b (code "\n") e) refl

module _ (s : List ℕ) (j : ℕ) (h : j < length s) where
  one_more : feeds_in (take (j + 1) s) ≡ feeds_in (take j s) + feeds_in (get_or s j 0 ∷ [])
  one_more = rw (add-one j, take-suc s j 0 h) (feeds_both (take j s) (get_or s j 0 ∷ []))

  pub fed : get_or s j 0 ≡ code "\n" → feeds_in (take (j + 1) s) ≡ feeds_in (take j s) + 1
  fed e = omega (arith, one_more, feeds_one (get_or s j 0) e)

  pub unfed : (get_or s j 0 ≡ code "\n" → ⊥) → feeds_in (take (j + 1) s) ≡ feeds_in (take j s)
  unfed e = omega (arith, one_more, feeds_other (get_or s j 0) e)

-- a block from `i` to `end` more
pub block_fed : (s : List ℕ) (i end : ℕ) → i ≤ end → feeds_in (take end s) ≡ feeds_in (take i s) + feeds_in (take (end - i) (drop i s))
block_fed s i end h =
    let e : end ≡ i + (end - i) = omega arith in
    ap (λ (n : ℕ). feeds_in (take n s)) e ∙ ap feeds_in (take-add i (end - i) s) ∙ feeds_both (take i s) (take (end - i) (drop i s))

-- ---- lines by line feeds

pub no_lines : (s : List ℕ) → length s ≡ 0 → length (lines_of s) ≡ 0
unfolding lines_of
no_lines [] e = refl
no_lines (b ∷ s) e = absurd (let q : ⊥ = omega arith in q)

joined_length : (b : ℕ) (ls : List (List ℕ)) → 0 < length ls → length (joined b ls) ≡ length ls
joined_length b [] h = absurd (let q : ⊥ = omega arith in q)
joined_length b (l ∷ ls) h = refl

-- HOW MANY LINES: one more than there are line feeds before the last byte
pub lines_fed : (s : List ℕ) (m : ℕ) → length s ≡ suc m → length (lines_of s) ≡ suc (feeds_in (take m s))
unfolding lines_of feeds_in
lines_fed [] m e = absurd (let q : ⊥ = omega arith in q)
lines_fed (b ∷ []) zero e = go (eqb b (code "\n"))
  where
    go : (y : Bool) → length (cond y ([] ∷ []) ((b ∷ []) ∷ [])) ≡ 1
    go true = refl
    go false = refl
lines_fed (b ∷ []) (suc m) e = absurd (let q : ⊥ = omega arith in q)
lines_fed (b ∷ a ∷ s) zero e = absurd (let q : ⊥ = omega arith in q)
lines_fed (b ∷ a ∷ s) (suc m) e = go (eqb b (code "\n")) (lines_fed (a ∷ s) m (omega arith))
  where
    go : (y : Bool) → length (lines_of (a ∷ s)) ≡ suc (feeds_in (take m (a ∷ s))) →
        length (cond y ([] ∷ lines_of (a ∷ s)) (joined b (lines_of (a ∷ s)))) ≡ suc (cond y (suc (feeds_in (take m (a ∷ s)))) (feeds_in (take m (a ∷ s))))
    go true h = ap suc h
    go false h = joined_length b (lines_of (a ∷ s)) (omega arith) ∙ h
