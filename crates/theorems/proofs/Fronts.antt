-- OF LENT MEMORY ONLY THE ROOM'S FRONT PART COUNTS: memory with the same front parts has the same matches. So an ad that is printed and
-- read back, into any memory, matches as before. Assumes nothing.
use Rattle.std.specs.Prelude.{ℕ, ◌<◌, ◌≤◌, ◌≡◌, ◌||◌, refl, Result, Ok, List, length, take, drop, ltb}
use Rattle.std.proofs.Math.Decide.{dec_lt}
use Rattle.std.proofs.Common.{arith, sym, ap, ap₂, ◌∙◌, subst, length-take, take_at, le-ltb, lt-ltb}
use Rattle.ad.specs.Layout.{ad_words, ad_bytes_room}
use Rattle.well_formed.specs.WellFormed.{Holds}
use Rattle.well_formed.specs.Laws.Whole.{holds_long}
use Rattle.printer.specs.Prints.{Roomy, Prints}
use Rattle.ad.specs.declared.Counts.{Counts}
use Rattle.syntax.specs.declared.Refusal.{Refusal}
use Rattle.reader.specs.Content.{Answered}
use Rattle.matching.specs.Matching.{Matched, refused, matches, small, table_words}
use Rattle.admission.specs.Admission.{Well, Refuses, no_room, first_malformed, second_malformed, Admits}
use Rattle.matching.specs.declared.Outcome.{Outcome}
use Rattle.theorems.proofs.Texts.{match_cast}
use Rattle.text_theorems.specs.Printing.{ReadBack, print_then_read}
use Rattle.theorems.specs.Fronts.{SameFront}

-- ---- rooms and trees

short_front : (n : ℕ) (x y : List ℕ) → take n x ≡ take n y → ltb (length x) n ≡ ltb (length y) n
short_front n x y e = go (dec_lt (length x) n)
  where
    same : length (take n x) ≡ length (take n y)
    same = ap length e

    go : Dec (length x < n) → ltb (length x) n ≡ ltb (length y) n
    go (yes h) =
        let k = same in
        let l : length y < n = omega (arith, length-take n x, length-take n y) in
        lt-ltb _ _ h ∙ sym (lt-ltb _ _ l)
    go (no h) =
        let k = same in
        let h' : ¬ (length x < n) = h in
        let l : n ≤ length x = omega arith in
        let q : n ≤ length y = omega (arith, length-take n x, length-take n y) in
        le-ltb _ _ l ∙ sym (le-ltb _ _ q)

well_front : {w b w₁ b₁ : List ℕ} → SameFront w b w₁ b₁ → Well w b → Well w₁ b₁
well_front {b = b} {w₁} s (a, h) = (a, subst (λ (x : List ℕ). Holds (take ad_words w₁) x a) s.bytes (subst (λ (x : List ℕ). Holds x (take ad_bytes_room b) a) s.words h))

pub front_back : {w b w₁ b₁ : List ℕ} → SameFront w b w₁ b₁ → SameFront w₁ b₁ w b
front_back s = record { words = sym s.words; bytes = sym s.bytes }

small_front : (v b w c v₁ b₁ w₁ c₁ table list : List ℕ) → SameFront v b v₁ b₁ → SameFront w c w₁ c₁ → small v b w c table list ≡ small v₁ b₁ w₁ c₁ table list
small_front v b w c v₁ b₁ w₁ c₁ table list s t =
    ap₂ ◌||◌ (short_front ad_words v v₁ s.words)
    (ap₂ ◌||◌ (short_front ad_bytes_room b b₁ s.bytes) (ap₂ ◌||◌ (short_front ad_words w w₁ t.words) (ap₂ ◌||◌ (short_front ad_bytes_room c c₁ t.bytes) refl)))

module _ {v b w c v₁ b₁ w₁ c₁ : List ℕ} (s : SameFront v b v₁ b₁) (t : SameFront w c w₁ c₁) (table list : List ℕ) where
  abbrev roomy_front : small v₁ b₁ w₁ c₁ table list ≡ small v b w c table list
  roomy_front = sym (small_front v b w c v₁ b₁ w₁ c₁ table list s t)

  refuses_front : {k : ℕ} → Refuses v b w c (length table) table_words (length list) k → Refuses v₁ b₁ w₁ c₁ (length table) table_words (length list) k
  refuses_front (no_room e) = no_room (roomy_front ∙ e)
  refuses_front (first_malformed e n) = first_malformed (roomy_front ∙ e) (λ h. n (well_front (front_back s) h))
  refuses_front (second_malformed e h n) = second_malformed (roomy_front ∙ e) (well_front s h) (λ k. n (well_front (front_back t) k))

  admits_front : Admits v b w c (length table) table_words (length list) → Admits v₁ b₁ w₁ c₁ (length table) table_words (length list)
  admits_front a = record { roomy = roomy_front ∙ a.roomy; first_well = well_front s a.first_well; second_well = well_front t a.second_well }

-- MEMORY WITH THE SAME FRONT PARTS HAS THE SAME MATCHES, refused ones too
pub matched_front : {v b w c v₁ b₁ w₁ c₁ : List ℕ} {budget : ℕ} {table list table' list' : List ℕ} {r : Result Outcome Refusal} → SameFront v b v₁ b₁ → SameFront w c w₁ c₁ →
    Matched v b w c budget table list table' list' r → Matched v₁ b₁ w₁ c₁ budget table list table' list' r
matched_front {table = table} {list} s t (refused e a p q) = refused (refuses_front s t table list e) a p q
matched_front {table = table} {list} s t (matches e f values entries m p q) = matches (admits_front s t table list e) f values entries (match_cast s.words s.bytes t.words t.bytes m) p q

-- what is read back has the front parts that were printed
pub back_front : {w b w₀ b₀ w₁ b₁ : List ℕ} {r : Result Counts Refusal} → ReadBack w b w₀ b₀ w₁ b₁ r → SameFront w b w₁ b₁
back_front {w} {b} {w₀} {b₀} x =
    let l = holds_long x.tree x.stored in
    record {
      words = sym (ap (take ad_words) x.words ∙ take_at (take ad_words w) (drop ad_words w₀) ad_words l.0);
      bytes = sym (ap (take ad_bytes_room) x.bytes ∙ take_at (take ad_bytes_room b) (drop ad_bytes_room b₀) ad_bytes_room l.1);
    }

-- AN AD THAT IS PRINTED AND READ BACK MATCHES AS BEFORE: two printed ads, read back into any memory with room; `matched_one` says that no
-- other answer can be given, and no other memory left
pub printed_matches : {v b w c o o₁ u u₁ v₀ b₀ w₀ c₀ v₂ b₂ w₂ c₂ : List ℕ} {n k budget : ℕ} {x y : Result Counts Refusal} {table list table' list' : List ℕ} {r : Result Outcome Refusal} → Prints v b o o₁ (Ok n) → Prints w c u u₁ (Ok k) →
    Roomy v₀ b₀ → Roomy w₀ c₀ → Answered (take n o₁) v₀ b₀ v₂ b₂ x → Answered (take k u₁) w₀ c₀ w₂ c₂ y →
    Matched v b w c budget table list table' list' r → Matched v₂ b₂ w₂ c₂ budget table list table' list' r
printed_matches p q h l x y m = matched_front (back_front (print_then_read p h x)) (back_front (print_then_read q l y)) m
