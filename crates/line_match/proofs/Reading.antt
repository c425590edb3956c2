-- What `read` answers and leaves in exactly the room of an ad. Assumes nothing.
use Prim.Native.Nat.{ℕ, ◌≤◌}
use native.Mathlib.Omega.{arith}
use mathlib.Core.Path.{◌≡◌, refl, sym, ap, ◌∙◌, subst}
use mathlib.Core.Bool.{Bool, true, false, ◌||◌}
use mathlib.Core.List.{List, ◌++◌, append-nil}
use lib.ListN.{length, drop, drop_of_length-le}
use lib.Dec.{ltb}
use borrow.Author.Tests.{le-ltb}
use Rattle.syntax.specs.Bounds.{text_bytes}
use Rattle.syntax.specs.Token.{pick}
use Rattle.syntax.specs.Tree.{Ad, nodes}
use Rattle.syntax.specs.Reader as R
use Rattle.ad.specs.Layout.{small_ad, ad_words, ad_bytes_room, stored_words, stored_bytes}
use Rattle.links.specs.Inner.Asked.{Measured}
use Rattle.links.specs.Laws.Layout.{stored_measured}
use Rattle.admission.specs.Laws.Wells.{stored_of}
use Rattle.well_formed.specs.Laws.Bounds.{read_holds}
use Rattle.std.proofs.Common.{Result, Ok, Err}
use Rattle.ad.specs.declared.Counts.{Counts}
use Rattle.syntax.specs.Refusals.{refusal}
use Rattle.syntax.specs.declared.Refusal.{Refusal}
use Rattle.reader.specs.Content.{answer_of, words_of, bytes_of, answer, words_after, bytes_after, Answered}

-- a text over the bound is not accepted
long : (s : List ℕ) → ltb text_bytes (length s) ≡ true → R.read s ≡ R.denied 2 0
unfolding R.read
long s h = rw h refl

-- an ad that was read: its tree, and its words with their counts
pub record Read (s w c : List ℕ) (k : Counts) : Type 0 where
  pub tree : Ad
  pub reads : R.read s ≡ R.accepted tree
  pub words_are : w ≡ stored_words tree
  pub bytes_are : c ≡ stored_bytes tree
  pub measured : Measured w k.nodes k.definitions

large : (w c : List ℕ) → ad_words ≤ length w → ad_bytes_room ≤ length c → small_ad w c ≡ false
large w c e f = rw (le-ltb (length w) ad_words e) (le-ltb (length c) ad_bytes_room f)

-- nothing lies behind a part that is all
whole : {x : List ℕ} (n : ℕ) (y z : List ℕ) → length y ≡ n → x ≡ z ++ drop n y → x ≡ z
whole n y z e p = let h : length y ≤ n = omega arith in p ∙ ap (λ (l : List ℕ). z ++ l) (drop_of_length-le y h) ∙ append-nil z

-- a refusal where there is room is that of the text
pub record WasRefused (s : List ℕ) (e : Refusal) : Type 0 where
  pub number : ℕ
  pub place : ℕ
  pub reads : R.read s ≡ R.denied number place
  pub is : e ≡ refusal number place

pub was_refused : {s w c w' c' : List ℕ} {e : Refusal} {r : Result Counts Refusal} → ad_words ≤ length w → ad_bytes_room ≤ length c → Answered s w c w' c' r → r ≡ Err e → WasRefused s e
unfolding answer
was_refused {s} {w} {c} {e = e} {r} room room' x q = go (R.read s) refl (sym q ∙ x.answers ∙ ap (λ (t : Bool). pick t (λ _. Err (refusal 1 0)) (λ _. answer_of (R.read s))) (large w c room room'))
  where
    go : (y : R.Answer) → R.read s ≡ y → Err e ≡ answer_of (R.read s) → WasRefused s e
    go (R.accepted a) f g = let h : ◌≡◌ {A = Result Counts Refusal} (Err e) (Ok (record { definitions = length a; nodes = nodes a })) = g ∙ ap answer_of f in let z : ◌≡◌ {A = ℕ} 0 1 = cc in absurd (omega arith)
    go (R.denied i j) f g =
        let h : ◌≡◌ {A = Result Counts Refusal} (Err e) (Err (refusal i j)) = g ∙ ap answer_of f in
        record { number = i; place = j; reads = f; is = cc }

module _ {s w c w' c' : List ℕ} (room : length w ≡ ad_words) (room' : length c ≡ ad_bytes_room) where
  pub was_accepted : {k : Counts} {r : Result Counts Refusal} → Answered s w c w' c' r → r ≡ Ok k → Read s w' c' k
  unfolding answer words_after bytes_after
  was_accepted {k} {r} x e =
      go (R.read s) refl (sym e ∙ x.answers ∙ ap (λ (t : Bool). pick t (λ _. Err (refusal 1 0)) (λ _. answer_of (R.read s))) (large w c (let h = room in omega arith) (let h = room' in omega arith)))
      (x.words ∙ ap (λ (t : Bool). pick (t || ltb text_bytes (length s)) (λ _. w) (λ _. words_of (R.read s) ++ drop ad_words w)) (large w c (let h = room in omega arith) (let h = room' in omega arith)))
      (x.bytes ∙ ap (λ (t : Bool). pick (t || ltb text_bytes (length s)) (λ _. c) (λ _. bytes_of (R.read s) ++ drop ad_bytes_room c)) (large w c (let h = room in omega arith) (let h = room' in omega arith)))
    where
      go : (q : R.Answer) → R.read s ≡ q → Ok k ≡ answer_of (R.read s) → w' ≡ pick (ltb text_bytes (length s)) (λ _. w) (λ _. words_of (R.read s) ++ drop ad_words w) →
          c' ≡ pick (ltb text_bytes (length s)) (λ _. c) (λ _. bytes_of (R.read s) ++ drop ad_bytes_room c) → Read s w' c' k
      go (R.denied l p) f g i j = let h : ◌≡◌ {A = Result Counts Refusal} (Ok k) (Err (refusal l p)) = g ∙ ap answer_of f in let z : ◌≡◌ {A = ℕ} 0 1 = cc in absurd (omega arith)
      go (R.accepted a) f g i j = short (ltb text_bytes (length s)) refl i j
        where
          h : ◌≡◌ {A = Result Counts Refusal} (Ok k) (Ok (record { definitions = length a; nodes = nodes a }))
          h = g ∙ ap answer_of f

          short : (t : Bool) → ltb text_bytes (length s) ≡ t → w' ≡ pick t (λ _. w) (λ _. words_of (R.read s) ++ drop ad_words w) → c' ≡ pick t (λ _. c) (λ _. bytes_of (R.read s) ++ drop ad_bytes_room c) → Read s w' c' k
          short true t i j = let m = sym (long s t) ∙ f in let z : ◌≡◌ {A = ℕ} 0 1 = cc in absurd (omega arith)
          short false t i j =
              let u : w' ≡ stored_words a = whole ad_words w (stored_words a) room (i ∙ ap (λ (q : R.Answer). words_of q ++ drop ad_words w) f) in
              let v : c' ≡ stored_bytes a = whole ad_bytes_room c (stored_bytes a) room' (j ∙ ap (λ (q : R.Answer). bytes_of q ++ drop ad_bytes_room c) f) in
              let e : k ≡ record { definitions = length a; nodes = nodes a } = cc in
              let e₁ : k.definitions ≡ length a = ap (λ (x : Counts). x.definitions) e in
              let e₂ : k.nodes ≡ nodes a = ap (λ (x : Counts). x.nodes) e in
              record {
                tree = a;
                reads = f;
                words_are = u;
                bytes_are = v;
                measured = subst (λ (l : List ℕ). Measured l k.nodes k.definitions) (sym u) (stored_measured (stored_of (read_holds s a f)) e₂ e₁);
              }
