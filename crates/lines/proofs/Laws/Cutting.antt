-- A text is cut into lines, and a line at its tab, by the place of a byte. Assumes nothing.
use Rattle.std.specs.Prelude.{ℕ, suc, ◌+◌, ◌-◌, ◌≤◌, ◌<◌, min, ◌≡◌, refl, Bool, true, false, cond, List, [], ◌∷◌, length, take, drop, eqb, leb}
use Prim.Native.Char.{code}
use Rattle.std.proofs.Math.Nat.{min-eq_left, min-eq_right}
use Rattle.std.proofs.Common.{arith, sym, ap, ◌∙◌, length-drop, drop_of_length-le, drop-drop, leb-true, leb-false}
use Rattle.std.proofs.Math.Seq.{drop-length}
use Rattle.lines.specs.Lines.{joined, lines_of, untabbed, ad, entry_of, up_to}

-- ---- the bytes in front of the first x

pub up_to_short : (x : ℕ) (s : List ℕ) → length (up_to x s) ≤ length s
unfolding up_to
up_to_short x [] = omega arith
up_to_short x (b ∷ s) = go (eqb b x) (up_to_short x s)
  where
    go : (t : Bool) → length (up_to x s) ≤ length s → length (cond t [] (b ∷ up_to x s)) ≤ suc (length s)
    go true h = omega arith
    go false h = omega arith

pub up_to_front : (x : ℕ) (s : List ℕ) → take (length (up_to x s)) s ≡ up_to x s
unfolding up_to
up_to_front x [] = refl
up_to_front x (b ∷ s) = go (eqb b x) (up_to_front x s)
  where
    go : (t : Bool) → take (length (up_to x s)) s ≡ up_to x s → take (length (cond t [] (b ∷ up_to x s))) (b ∷ s) ≡ cond t [] (b ∷ up_to x s)
    go true e = refl
    go false e = ap (λ (l : List ℕ). b ∷ l) e

-- a byte's place is inside the text, or its end
pub found_inside : (x : ℕ) (s : List ℕ) (at end : ℕ) → at ≤ length s → end ≡ at + length (up_to x (drop at s)) → (at ≤ end) × (end ≤ length s)
found_inside x s at end h e = (omega arith, omega (arith, up_to_short x (drop at s), length-drop at s))

-- the next line begins later, or at the text's end
pub behind_later : (at end next n : ℕ) → at ≤ end → at < n → next ≡ min (end + 1) n → (at < next) × (next ≤ n)
behind_later at end next n h k e = go (leb (end + 1) n) refl
  where
    go : (t : Bool) → leb (end + 1) n ≡ t → (at < next) × (next ≤ n)
    go true q = let l = leb-true (end + 1) n q in let f : next ≡ end + 1 = e ∙ min-eq_left l in (omega arith, omega arith)
    go false q =
        let l : n ≤ end + 1 = omega (arith, leb-false (end + 1) n q) in
        let f : next ≡ n = e ∙ min-eq_right l in
        (omega arith, omega arith)

-- ---- the first line, and those behind it

lines_joined : (b : ℕ) (s : List ℕ) → joined b (lines_of s) ≡ (b ∷ up_to (code "\n") s) ∷ lines_of (drop (suc (length (up_to (code "\n") s))) s) →
    lines_of (b ∷ s) ≡ up_to (code "\n") (b ∷ s) ∷ lines_of (drop (suc (length (up_to (code "\n") (b ∷ s)))) (b ∷ s))
unfolding lines_of up_to
lines_joined b s e = go (eqb b (code "\n"))
  where
    go : (t : Bool) → cond t ([] ∷ lines_of s) (joined b (lines_of s)) ≡ cond t [] (b ∷ up_to (code "\n") s) ∷ lines_of (drop (suc (length (cond t [] (b ∷ up_to (code "\n") s)))) (b ∷ s))
    go true = refl
    go false = e

pub lines_first : (s : List ℕ) → 0 < length s → lines_of s ≡ up_to (code "\n") s ∷ lines_of (drop (suc (length (up_to (code "\n") s))) s)
unfolding lines_of up_to
lines_first [] h = absurd (let q : ⊥ = omega arith in q)
lines_first (b ∷ []) h = lines_joined b [] refl
lines_first (b ∷ a ∷ s) h = lines_joined b (a ∷ s) (ap (joined b) (lines_first (a ∷ s) (omega arith)))

-- a place beyond the text is its end
drop_min : (n : ℕ) (s : List ℕ) → drop (min n (length s)) s ≡ drop n s
drop_min n s = go (leb n (length s)) refl
  where
    go : (t : Bool) → leb n (length s) ≡ t → drop (min n (length s)) s ≡ drop n s
    go true e = rw (min-eq_left (leb-true n (length s) e)) refl
    go false e =
        let h : length s ≤ n = omega (arith, leb-false n (length s) e) in
        rw (min-eq_right h) (drop-length s ∙ sym (drop_of_length-le s h))

-- THE LINES FROM `at` ON: the one that ends at `end`, and those from the next place on
pub lines_from : (s : List ℕ) (at end next : ℕ) → at < length s → end ≡ at + length (up_to (code "\n") (drop at s)) → next ≡ min (end + 1) (length s) →
    lines_of (drop at s) ≡ take (end - at) (drop at s) ∷ lines_of (drop next s)
lines_from s at end next h e f =
    lines_first (drop at s) (omega (arith, length-drop at s)) ∙ (λ i. sym first i ∷ lines_of (rest i))
  where
    first : take (end - at) (drop at s) ≡ up_to (code "\n") (drop at s)
    first = let q : end - at ≡ length (up_to (code "\n") (drop at s)) = omega arith in rw q (up_to_front (code "\n") (drop at s))

    rest : drop (suc (length (up_to (code "\n") (drop at s)))) (drop at s) ≡ drop next s
    rest =
        let q : at + suc (length (up_to (code "\n") (drop at s))) ≡ end + 1 = omega arith in
        drop-drop (suc (length (up_to (code "\n") (drop at s)))) at s ∙ ap (λ (n : ℕ). drop n s) q ∙ sym (ap (λ (n : ℕ). drop n s) f ∙ drop_min (end + 1) s)

-- ---- a line at its tab

pub no_tab : (l : List ℕ) → length (up_to (code "\t") l) ≡ length l → entry_of l ≡ untabbed
unfolding entry_of up_to
no_tab [] e = refl
no_tab (b ∷ l) e = go (eqb b (code "\t")) e (no_tab l)
  where
    go : (t : Bool) → length (cond t [] (b ∷ up_to (code "\t") l)) ≡ suc (length l) → (length (up_to (code "\t") l) ≡ length l → entry_of l ≡ untabbed) → cond t (ad l) (entry_of l) ≡ untabbed
    go true e h = absurd (let q : ⊥ = omega arith in q)
    go false e h = h (omega arith)

pub behind_tab : (l : List ℕ) → length (up_to (code "\t") l) < length l → entry_of l ≡ ad (drop (suc (length (up_to (code "\t") l))) l)
unfolding entry_of up_to
behind_tab [] h = absurd (let q : ⊥ = omega arith in q)
behind_tab (b ∷ l) h = go (eqb b (code "\t")) h (behind_tab l)
  where
    go : (t : Bool) → length (cond t [] (b ∷ up_to (code "\t") l)) < suc (length l) → (length (up_to (code "\t") l) < length l → entry_of l ≡ ad (drop (suc (length (up_to (code "\t") l))) l)) → cond t (ad l) (entry_of l) ≡ ad (drop (suc (length (cond t [] (b ∷ up_to (code "\t") l)))) (b ∷ l))
    go true h k = refl
    go false h k = k (omega arith)
