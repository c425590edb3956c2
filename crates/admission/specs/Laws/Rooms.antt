-- What the test of the rooms gives: each room is large enough, and has a front part of its size. Assumes nothing.
use Rattle.std.specs.Prelude.{ℕ, ◌≤◌, ◌≡◌, refl, Bool, false, ◌||◌, List, length, take, ltb}
use Rattle.std.proofs.Common.{sym, ◌∙◌, arith, length-take-le, ltb-false}
use Rattle.links.specs.Pair.{pair_slots}
use Rattle.text.specs.Laws.Booleans.{neither}
use Rattle.ad.specs.Layout.{ad_words, ad_bytes_room}
use Rattle.links.specs.declared.pair.AdPair.{AdPair}
use Rattle.admission.specs.Admission.{small_pair}
use Rattle.admission.specs.Inner.Admitting.{AdmitsWith}

pub record Rooms (v b w c : List ℕ) (lent room entries : ℕ) : Type 0 where
  pub first_words : ad_words ≤ length v
  pub first_bytes : ad_bytes_room ≤ length b
  pub second_words : ad_words ≤ length w
  pub second_bytes : ad_bytes_room ≤ length c
  pub values : room ≤ lent
  pub entries_fit : pair_slots ≤ entries

pub rooms : (v b w c : List ℕ) (lent room entries : ℕ) → small_pair v b w c lent room entries ≡ false → Rooms v b w c lent room entries
rooms v b w c lent room entries e =
    go (ltb (length v) ad_words) refl (ltb (length b) ad_bytes_room) refl (ltb (length w) ad_words) refl (ltb (length c) ad_bytes_room) refl (ltb lent room) refl (ltb entries pair_slots) refl e
  where
    go : (p : Bool) → ltb (length v) ad_words ≡ p → (q : Bool) → ltb (length b) ad_bytes_room ≡ q → (r : Bool) → ltb (length w) ad_words ≡ r → (s : Bool) → ltb (length c) ad_bytes_room ≡ s →
        (t : Bool) → ltb lent room ≡ t → (u : Bool) → ltb entries pair_slots ≡ u → (p || (q || (r || (s || (t || u))))) ≡ false → Rooms v b w c lent room entries
    go p e₁ q e₂ r e₃ s e₄ t e₅ u e₆ h =
        let h₁ = (neither p (q || (r || (s || (t || u)))) h).1 in
        let h₂ = (neither q (r || (s || (t || u))) h₁).1 in
        let h₃ = (neither r (s || (t || u)) h₂).1 in
        let h₄ = (neither s (t || u) h₃).1 in
        record {
          first_words = ltb-false (length v) ad_words (e₁ ∙ (neither p (q || (r || (s || (t || u)))) h).0);
          first_bytes = ltb-false (length b) ad_bytes_room (e₂ ∙ (neither q (r || (s || (t || u))) h₁).0);
          second_words = ltb-false (length w) ad_words (e₃ ∙ (neither r (s || (t || u)) h₂).0);
          second_bytes = ltb-false (length c) ad_bytes_room (e₄ ∙ (neither s (t || u) h₃).0);
          values = ltb-false lent room (e₅ ∙ (neither t u h₄).0);
          entries_fit = ltb-false entries pair_slots (e₆ ∙ (neither t u h₄).1);
        }

-- what is lent of two ads that are admitted: each front part has its size
module _ {v b w c : List ℕ} {lent room entries : ℕ} {p : AdPair} (a : AdmitsWith v b w c lent room entries p) where
  pub fit : Rooms v b w c lent room entries
  fit = rooms v b w c lent room entries a.admits.roomy

  pub first_words_front : ad_words ≡ length (take ad_words v)
  first_words_front = sym (length-take-le ad_words v fit.first_words)

  pub first_bytes_front : ad_bytes_room ≡ length (take ad_bytes_room b)
  first_bytes_front = sym (length-take-le ad_bytes_room b fit.first_bytes)

  pub second_words_front : ad_words ≡ length (take ad_words w)
  second_words_front = sym (length-take-le ad_words w fit.second_words)

  pub second_bytes_front : ad_bytes_room ≡ length (take ad_bytes_room c)
  second_bytes_front = sym (length-take-le ad_bytes_room c fit.second_bytes)

  pub values_front : (t : List ℕ) → lent ≡ length t → room ≡ length (take room t)
  values_front t e = sym (length-take-le room t (let h = fit.values in omega arith))

  pub list_front : (l : List ℕ) → entries ≡ length l → pair_slots ≡ length (take pair_slots l)
  list_front l e = sym (length-take-le pair_slots l (let h = fit.entries_fit in omega arith))
