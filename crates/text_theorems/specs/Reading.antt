-- WHAT AN ACCEPTED READING LEAVES: the tree that the text reads as, stored in front of what was there. And `read` leaves one answer and
-- one memory. Assumes nothing.
use Rattle.std.specs.Prelude.{ℕ, ◌≡◌, refl, Bool, true, false, ◌||◌, Result, Ok, Err, List, ◌++◌, length, take, drop, ltb}
use Rattle.std.proofs.Common.{arith, sym, ap, ◌∙◌, take_at, le-ltb, ltb-false}
use Rattle.syntax.specs.Bounds.{text_bytes}
use Rattle.syntax.specs.Tree.{Ad, nodes}
use Rattle.syntax.specs.Token.{pick}
use Rattle.syntax.specs.Reader as R
use Rattle.ad.specs.Layout.{ad_words, ad_bytes_room, stored_words, stored_bytes}
use Rattle.well_formed.specs.WellFormed.{Holds}
use Rattle.well_formed.specs.Laws.Bounds.{bounded, read_holds}
use Rattle.well_formed.specs.Laws.Whole.{holds_long}
use Rattle.acceptance.specs.Acceptance.{long}
use Rattle.well_formed.specs.Laws.Named.{bounded_named}
use Rattle.admission.specs.Laws.Wells.{stored_of}
use Rattle.ad.specs.Stored.{node_count}
use Rattle.links.specs.Inner.Asked.{Formed}
use Rattle.links.specs.Laws.Layout.{stored_nodes, stored_formed}
use Rattle.printer.specs.Prints.{Roomy}
use Rattle.ad.specs.declared.Counts.{Counts}
use Rattle.syntax.specs.Refusals.{refusal}
use Rattle.syntax.specs.declared.Refusal.{Refusal}
use Rattle.reader.specs.Content.{answer_of, answer, words_after, bytes_after, Answered}

-- the text s was read as the tree a: 'accepted with its counts', and 'equal trees have equal content'
pub record ReadAs (s w b w' b' : List ℕ) (r : Result Counts Refusal) (a : Ad) : Type 0 where
  pub reads : R.read s ≡ R.accepted a
  pub answers : r ≡ Ok (record { definitions = length a; nodes = nodes a })
  -- 'Unused room is zero after acceptance'; 'Memory lent beyond these sizes is never changed.'
  pub words : w' ≡ stored_words a ++ drop ad_words w
  pub bytes : b' ≡ stored_bytes a ++ drop ad_bytes_room b

short_text : (s : List ℕ) (a : Ad) → R.read s ≡ R.accepted a → ltb text_bytes (length s) ≡ false
short_text s a e = go (ltb text_bytes (length s)) refl
  where
    go : (t : Bool) → ltb text_bytes (length s) ≡ t → t ≡ false
    go true h = let k = long s h in let z : ◌≡◌ {A = ℕ} 0 1 = cc in absurd (omega arith)
    go false h = refl

-- A TEXT THAT READS AS A TREE IS ACCEPTED where there is room, and leaves the tree
pub read_answered : {s w b w' b' : List ℕ} {r : Result Counts Refusal} (a : Ad) → Roomy w b → R.read s ≡ R.accepted a → Answered s w b w' b' r → ReadAs s w b w' b' r a
unfolding answer words_after bytes_after
read_answered {s} {w} {b} {w'} {b'} a h e x =
    let l = short_text s a e in
    let p = le-ltb (length w) ad_words h.words in
    let q = le-ltb (length b) ad_bytes_room h.bytes in
    record {
      reads = e;
      answers = x.answers ∙ rw (p, q, e) refl;
      words = x.words ∙ rw (p, q, l, e) refl;
      bytes = x.bytes ∙ rw (p, q, l, e) refl;
    }

-- AN ACCEPTED READING leaves the tree that the text reads as
pub accepted_tree : {s w b w' b' : List ℕ} {counts : Counts} → Answered s w b w' b' (Ok counts) → (a : Ad) × ReadAs s w b w' b' (Ok counts) a
unfolding answer
accepted_tree {s} {w} {b} {w'} {b'} {counts} x = go (ltb (length w) ad_words) refl (ltb (length b) ad_bytes_room) refl (R.read s) refl x.answers
  where
    go : (t : Bool) → ltb (length w) ad_words ≡ t → (u : Bool) → ltb (length b) ad_bytes_room ≡ u → (r : R.Answer) → R.read s ≡ r →
        ◌≡◌ {A = Result Counts Refusal} (Ok counts) (pick (t || u) (λ _. Err (refusal 1 0)) (λ _. answer_of r)) → (a : Ad) × ReadAs s w b w' b' (Ok counts) a
    go true p u q r e h = let z : ◌≡◌ {A = ℕ} 0 1 = cc in absurd (omega arith)
    go false p true q r e h = let z : ◌≡◌ {A = ℕ} 0 1 = cc in absurd (omega arith)
    go false p false q (R.denied k m) e h = let z : ◌≡◌ {A = ℕ} 0 1 = cc in absurd (omega arith)
    go false p false q (R.accepted a) e h = (a, read_answered a (record { words = ltb-false (length w) ad_words p; bytes = ltb-false (length b) ad_bytes_room q }) e x)

-- THE CONTRACT OF `read` LEAVES ONE ANSWER and one memory
pub read_one : {s w b w₁ b₁ w₂ b₂ : List ℕ} {q r : Result Counts Refusal} → Answered s w b w₁ b₁ q → Answered s w b w₂ b₂ r → (q ≡ r) × (w₁ ≡ w₂) × (b₁ ≡ b₂)
read_one x y = (x.answers ∙ sym y.answers, x.words ∙ sym y.words, x.bytes ∙ sym y.bytes)

-- A TREE THAT A TEXT READS AS IS WELL FORMED where it is stored, as a match asks
pub read_formed : (s : List ℕ) (a : Ad) → R.read s ≡ R.accepted a → Formed (stored_words a)
read_formed s a e =
    let h = read_holds s a e in
    stored_formed {b = stored_bytes a} {a = a} (stored_of h)

-- ---- the front parts

module _ {s w b w' b' : List ℕ} {r : Result Counts Refusal} {a : Ad} (x : ReadAs s w b w' b' r a) where
  pub tree_holds : Holds (stored_words a) (stored_bytes a) a
  tree_holds = read_holds s a x.reads

  -- the words and bytes of the tree, within the room
  pub front_words : take ad_words w' ≡ stored_words a
  front_words = ap (take ad_words) x.words ∙ take_at (stored_words a) (drop ad_words w) ad_words (holds_long a tree_holds).0

  pub front_bytes : take ad_bytes_room b' ≡ stored_bytes a
  front_bytes = ap (take ad_bytes_room) x.bytes ∙ take_at (stored_bytes a) (drop ad_bytes_room b) ad_bytes_room (holds_long a tree_holds).1

  -- the nodes that a match counts in memory are those that reading counted
  pub front_nodes : node_count (take ad_words w') ≡ nodes a
  front_nodes =
      let k = bounded tree_holds in
      ap node_count front_words ∙ stored_nodes a k.within.few_nodes k.within.few_definitions (bounded_named a k)
