-- Laws of parts of lists that several crates cite. Assumes nothing.
use Rattle.std.specs.Prelude.{ℕ, zero, suc, ◌+◌, ◌-◌, ◌≤◌, ◌<◌, ◌≡◌, refl, List, [], ◌∷◌, ◌++◌, length, get_or, take, drop, set}
use Rattle.std.proofs.Common.{arith, add-zero, add-suc, suc-add, add-one, sym, ◌∙◌, ap, length-take, drop_of_length-le, drop-cons, drop-drop, take-suc}
use Rattle.std.proofs.lemmas.List.Edits.{sets}
use Rattle.std.proofs.Math.Seq.{slice, slice-cons, take-nil}
use Rattle.std.proofs.lemmas.List.{drop-append-le}

-- the byte at i, and those behind it
pub drop_one : (s : List ℕ) (i : ℕ) → i < length s → drop i s ≡ get_or s i 0 ∷ drop (i + 1) s
drop_one s i h = rw (add-one i) (drop-cons s i 0 h)

-- a part that ends where it begins or before is empty: for the runs of 'digits, read in base ten' and of 'letters, digits, `_`'
pub slice_back : (s : List ℕ) (f t : ℕ) → t ≤ f → slice f t s ≡ []
slice_back s f t h = let e : length (take t s) ≤ f = omega (arith, length-take t s) in drop_of_length-le (take t s) e

-- a part one byte longer: for the runs of 'letters, digits, `_`' and 'Longest token wins.'
pub slice_snoc : (s : List ℕ) (f i : ℕ) → f ≤ i → i < length s → slice f (i + 1) s ≡ slice f i s ++ (get_or s i 0 ∷ [])
slice_snoc s f i h h' = rw (add-one i, take-suc s i 0 h') (drop-append-le f (take i s) (get_or s i 0 ∷ []) (omega (arith, length-take i s)))

-- a part by its first byte
pub slice_one : (s : List ℕ) (i q : ℕ) → i < q → q ≤ length s → slice i q s ≡ get_or s i 0 ∷ slice (i + 1) q s
slice_one s i q h h' = rw (add-one i) (slice-cons i q s 0 h h')

-- behind the part from p up to q stands what is behind q
pub drop_behind : (s : List ℕ) (p q : ℕ) → p ≤ q → drop (q - p) (drop p s) ≡ drop q s
drop_behind s p q h = let e : p + (q - p) ≡ q = omega arith in drop-drop (q - p) p s ∙ ap (λ (k : ℕ). drop k s) e

-- a run of stores in two parts: for an ad's memory, of which 'reading some text .. would leave exactly this content'
pub sets_append : (xs ys w : List ℕ) (i : ℕ) → sets w i (xs ++ ys) ≡ sets (sets w i xs) (i + length xs) ys
sets_append [] ys w i = rw add-zero refl
sets_append (x ∷ xs) ys w i = sets_append xs ys (set w i x) (suc i) ∙ ap (λ (k : ℕ). sets (sets (set w i x) (suc i) xs) k ys) (suc-add i (length xs) ∙ sym (add-suc i (length xs)))

-- the two ways to cut a part out: for names, which 'are kept as written'
pub part_slice : (s : List ℕ) (p q : ℕ) → p ≤ q → take (q - p) (drop p s) ≡ slice p q s
part_slice s zero q h = let e : q - zero ≡ q = omega arith in ap (λ (k : ℕ). take k s) e
part_slice [] (suc p) zero h = absurd (omega arith)
part_slice [] (suc p) (suc q) h = take-nil (suc q - suc p)
part_slice (b ∷ s) (suc p) zero h = absurd (omega arith)
part_slice (b ∷ s) (suc p) (suc q) h = let e : suc q - suc p ≡ q - p = omega arith in ap (λ (k : ℕ). take k (drop p s)) e ∙ part_slice s p q (omega arith)
