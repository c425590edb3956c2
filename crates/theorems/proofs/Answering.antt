-- EVERY MEMORY HAS AN ANSWER: the contracts of `check`, `print` and `match_ads` can be met whatever is lent, and, with `check_one`,
-- `print_one` and `matched_one`, in one way only. Assumes nothing.
use Rattle.std.specs.Prelude.{ℕ, ◌≤◌, ◌≡◌, refl, Bool, true, false, ◌&&◌, Option, Some, None, Result, Ok, Err, List, ◌++◌, length, take, drop}
use Rattle.std.proofs.Math.Decide.{ℕ_discrete, dec_le}
use Rattle.std.proofs.Common.{arith, sym, ap, ◌∙◌}
use Rattle.links.specs.Pair.{pair_slots}
use Rattle.syntax.specs.Bounds.{text_bytes}
use Rattle.syntax.specs.Tree.{Ad, nodes}
use Rattle.syntax.specs.Print.{printed_ad}
use Rattle.ad.specs.Layout.{ad_words, ad_bytes_room, ad_bytes}
use Rattle.well_formed.specs.WellFormed.{Holds, Answers}
use Rattle.well_formed.specs.Inner.Decode.{FoundAd, all, none, ad_at, new_from}
use Rattle.unused_room.specs.Inner.Zeros.{zero_behind}
use Rattle.well_formed.specs.Laws.Whole.{holds_long, holds_found, found_holds}
use Rattle.well_formed.specs.declared.Checked.{Checked}
use Rattle.printer.specs.Prints.{Roomy, Stored, small, malformed, long, PrintsText}
use Rattle.syntax.specs.Refusals.{refusal}
use Rattle.syntax.specs.declared.Refusal.{Refusal}
use Rattle.matching.specs.Matching as M
use Rattle.matching.specs.Matching.{Matched, refused, matches, table_words}
use Rattle.admission.specs.Admission.{Well, no_room, first_malformed, second_malformed}
use Rattle.admission.specs.Laws.Wells.{formed_of}
use Rattle.matching.specs.declared.Outcome.{Outcome}
use Rattle.theorems.proofs.Existing.{match_exists}

apart : {A : Type 0} → true ≡ false → A
apart e = let z : ◌≡◌ {A = ℕ} 0 1 = cc in absurd (omega arith)

-- WHETHER MEMORY IS WELL FORMED IS DECIDED: 'stored numbers are no well-formed tree within the bounds above'
pub holds_dec : (w b : List ℕ) → Dec ((a : Ad) × Holds w b a)
holds_dec w b = room (ℕ_discrete (length w) 4864) (ℕ_discrete (length b) 16384)
  where
    tests : (p : length w ≡ 4864) (q : length b ≡ 16384) (a : Ad) → ad_at 256 w b 0 0 0 ≡ all a →
        (t : Bool) → (new_from w b 0 (length a) && zero_behind w b (length a) (nodes a) (length (ad_bytes a))) ≡ t → Dec ((a : Ad) × Holds w b a)
    tests p q a e true h = yes (a, found_holds w b p q a e h)
    tests p q a e false h = no (λ x. wrong x.0 x.1)
      where
        wrong : (d : Ad) → Holds w b d → ⊥
        wrong d x =
            let k = holds_found w b p q d x in
            let f : d ≡ a = cc k.0 in
            apart (sym k.1 ∙ ap (λ (y : Ad). new_from w b 0 (length y) && zero_behind w b (length y) (nodes y) (length (ad_bytes y))) f ∙ h)

    found : (p : length w ≡ 4864) (q : length b ≡ 16384) (r : FoundAd) → ad_at 256 w b 0 0 0 ≡ r → Dec ((a : Ad) × Holds w b a)
    found p q (all a) e = tests p q a e (new_from w b 0 (length a) && zero_behind w b (length a) (nodes a) (length (ad_bytes a))) refl
    found p q none e = no (λ x. let k = (holds_found w b p q x.0 x.1).0 in let z : ◌≡◌ {A = ℕ} 0 1 = cc in omega arith)

    room : Dec (length w ≡ 4864) → Dec (length b ≡ 16384) → Dec ((a : Ad) × Holds w b a)
    room (yes p) (yes q) = found p q (ad_at 256 w b 0 0 0) refl
    room (yes p) (no n) = no (λ x. n (holds_long x.0 x.1).1)
    room (no n) d = no (λ x. n (holds_long x.0 x.1).0)

-- OF `check`
pub check_exists : (w b : List ℕ) → (r : Option Checked) × Answers w b r
check_exists w b = go (holds_dec (take ad_words w) (take ad_bytes_room b))
  where
    go : Dec ((a : Ad) × Holds (take ad_words w) (take ad_bytes_room b) a) → (r : Option Checked) × Answers w b r
    go (yes (a, h)) = (Some (record { counts = record { definitions = length a; nodes = nodes a }; print_length = length (printed_ad a) }), (a, h, refl, refl, refl))
    go (no n) = (None, λ a h. n (a, h))

-- OF `print`, whatever the text t of an ad is
pub print_exists : (t : Ad → List ℕ) (w b o : List ℕ) → (o' : List ℕ) × (r : Result ℕ Refusal) × PrintsText t w b o o' r
print_exists t w b o = room (dec_le ad_words (length w)) (dec_le ad_bytes_room (length b))
  where
    fit : (m : Roomy w b) (a : Ad) → Stored w b a → Dec (length (t a) ≤ length o) → Dec (length (t a) ≤ text_bytes) → (o' : List ℕ) × (r : Result ℕ Refusal) × PrintsText t w b o o' r
    fit m a h (yes p) (yes q) = (t a ++ drop (length (t a)) o, Ok (length (t a)), (a, h, record { lent = p; bounded = q }, refl, refl))
    fit m a h (yes p) (no n) = (o, Err (refusal 11 0), (long m h (λ f. n f.bounded), refl, refl))
    fit m a h (no n) d = (o, Err (refusal 11 0), (long m h (λ f. n f.lent), refl, refl))

    tree : Roomy w b → Dec ((a : Ad) × Stored w b a) → (o' : List ℕ) × (r : Result ℕ Refusal) × PrintsText t w b o o' r
    tree m (yes (a, h)) = fit m a h (dec_le (length (t a)) (length o)) (dec_le (length (t a)) text_bytes)
    tree m (no n) = (o, Err (refusal 10 0), (malformed m (λ a h. n (a, h)), refl, refl))

    room : Dec (ad_words ≤ length w) → Dec (ad_bytes_room ≤ length b) → (o' : List ℕ) × (r : Result ℕ Refusal) × PrintsText t w b o o' r
    room (yes p) (yes q) = tree (record { words = p; bytes = q }) (holds_dec (take ad_words w) (take ad_bytes_room b))
    room (yes p) (no n) = (o, Err (refusal 1 0), (small (λ m. n m.bytes), refl, refl))
    room (no n) d = (o, Err (refusal 1 0), (small (λ m. n m.words), refl, refl))

-- OF `match_ads`, with every budget
pub matched_exists : (v b w c : List ℕ) (budget : ℕ) (table list : List ℕ) → (table' list' : List ℕ) × (r : Result Outcome Refusal) × Matched v b w c budget table list table' list' r
matched_exists v b w c budget table list = room (M.small v b w c table list) refl (holds_dec (take ad_words v) (take ad_bytes_room b)) (holds_dec (take ad_words w) (take ad_bytes_room c))
  where
    room : (t : Bool) → M.small v b w c table list ≡ t → Dec (Well v b) → Dec (Well w c) → (table' list' : List ℕ) × (r : Result Outcome Refusal) × Matched v b w c budget table list table' list' r
    room true e p q = (table, list, Err (refusal 1 0), refused (no_room e) refl refl refl)
    room false e (no n) q = (table, list, Err (refusal 10 0), refused (first_malformed e n) refl refl refl)
    room false e (yes p) (no n) = (table, list, Err (refusal 10 0), refused (second_malformed e p n) refl refl refl)
    room false e (yes p) (yes q) =
        let m = match_exists (take ad_words v) (take ad_bytes_room b) (take ad_words w) (take ad_bytes_room c) (formed_of v b p) (formed_of w c q) budget in
        (m.table ++ drop table_words table, m.list ++ drop pair_slots list, Ok m.answer, matches (record { roomy = e; first_well = p; second_well = q }) refl m.table m.list m.is_match refl refl)
