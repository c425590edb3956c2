-- WHAT `read` ACCEPTS, A MATCH ACCEPTS. 'two ads are accepted where their match is given neither', 1 nor 10. Assumes nothing.
use Rattle.std.specs.Prelude.{ℕ, ◌≤◌, ◌≡◌, refl, Bool, true, false, ◌||◌, Result, Ok, Err, List, ◌++◌, length, take, drop, ltb}
use Rattle.std.proofs.Common.{arith, sym, ap, ◌∙◌, subst, length-append, take_at, le-ltb}
use Rattle.links.specs.Pair.{pair_slots}
use Rattle.syntax.specs.Bounds.{text_bytes}
use Rattle.syntax.specs.Tree.{Ad}
use Rattle.syntax.specs.Token.{pick}
use Rattle.syntax.specs.Reader as R
use Rattle.ad.specs.Layout.{small_ad, ad_words, ad_bytes_room, stored_words, stored_bytes}
use Rattle.well_formed.specs.WellFormed.{Holds}
use Rattle.well_formed.specs.Laws.Bounds.{read_holds}
use Rattle.well_formed.specs.Laws.Whole.{holds_long}
use Rattle.ad.specs.declared.Counts.{Counts}
use Rattle.syntax.specs.Refusals.{refusal}
use Rattle.syntax.specs.declared.Refusal.{Refusal}
use Rattle.reader.specs.Content.{answer_of, words_of, bytes_of, answer, words_after, bytes_after, Answered}
use Rattle.matching.specs.Matching as M
use Rattle.matching.specs.Matching.{Matched, refused, matches, table_words}
use Rattle.admission.specs.Admission.{Well}
use Rattle.admission.specs.Laws.Refusing.{refused_not_admitted}
use Rattle.matching.specs.declared.Outcome.{Outcome}

-- memory that is large enough and holds a well-formed ad, of which a match gives 'neither' 1 nor 10
pub record Ready (w b : List ℕ) : Type 0 where
  pub words : ad_words ≤ length w
  pub bytes : ad_bytes_room ≤ length b
  pub well : Well w b

module _ (s w b w' b' : List ℕ) where
  -- the stored content of the tree a, in front of what was there
  stored : (a : Ad) → R.read s ≡ R.accepted a → w' ≡ stored_words a ++ drop ad_words w → b' ≡ stored_bytes a ++ drop ad_bytes_room b → Ready w' b'
  stored a e f g =
      let h = read_holds s a e in
      let l = holds_long a h in
      record {
        words = rw f (front (stored_words a) (drop ad_words w) l.0);
        bytes = rw g (front (stored_bytes a) (drop ad_bytes_room b) l.1);
        well = (a, subst (λ (x : List ℕ). Holds x (take ad_bytes_room b') a) (sym (part ad_words (stored_words a) (drop ad_words w) f l.0)) (subst (λ (x : List ℕ). Holds (stored_words a) x a) (sym (part ad_bytes_room (stored_bytes a) (drop ad_bytes_room b) g l.1)) h));
      }
    where
      front : {n : ℕ} (x y : List ℕ) → length x ≡ n → n ≤ length (x ++ y)
      front {n} x y e = omega (arith, length-append x y)

      part : {z : List ℕ} (n : ℕ) (x y : List ℕ) → z ≡ x ++ y → length x ≡ n → take n z ≡ x
      part n x y e l = ap (take n) e ∙ take_at x y n l

-- a text over the bound is not accepted: 'text over 16,384 bytes'
pub long : (s : List ℕ) → ltb text_bytes (length s) ≡ true → R.read s ≡ R.denied 2 0
unfolding R.read
long s h = rw h refl

-- WHAT AN ACCEPTED READING LEAVES IS READY FOR A MATCH, whatever the memory was
pub accepted_ready : (s w b w' b' : List ℕ) (counts : Counts) → Answered s w b w' b' (Ok counts) → Ready w' b'
unfolding answer words_after bytes_after
accepted_ready s w b w' b' counts x = go (small_ad w b) (R.read s) refl x.answers x.words x.bytes
  where
    go : (t : Bool) (r : R.Answer) → R.read s ≡ r → ◌≡◌ {A = Result Counts Refusal} (Ok counts) (pick t (λ _. Err (refusal 1 0)) (λ _. answer_of r)) →
        w' ≡ pick (t || ltb text_bytes (length s)) (λ _. w) (λ _. words_of r ++ drop ad_words w) → b' ≡ pick (t || ltb text_bytes (length s)) (λ _. b) (λ _. bytes_of r ++ drop ad_bytes_room b) → Ready w' b'
    go true r e a f g = let z : ◌≡◌ {A = ℕ} 0 1 = cc in absurd (omega arith)
    go false (R.denied k p) e a f g = let z : ◌≡◌ {A = ℕ} 0 1 = cc in absurd (omega arith)
    go false (R.accepted tree) e a f g = short (ltb text_bytes (length s)) refl f g
      where
        short : (u : Bool) → ltb text_bytes (length s) ≡ u → w' ≡ pick u (λ _. w) (λ _. stored_words tree ++ drop ad_words w) → b' ≡ pick u (λ _. b) (λ _. stored_bytes tree ++ drop ad_bytes_room b) → Ready w' b'
        short true h p q = let k = long s h in let z : ◌≡◌ {A = ℕ} 0 1 = cc in absurd (omega arith)
        short false h p q = stored s w b w' b' tree e p q

-- such memory is never refused by a match that has room for its table and list
pub ready_matches : {v b w c : List ℕ} {budget : ℕ} {table list table' list' : List ℕ} {r : Result Outcome Refusal} → Ready v b → Ready w c → table_words ≤ length table → pair_slots ≤ length list →
    Matched v b w c budget table list table' list' r → (e : Refusal) → r ≡ Err e → ⊥
ready_matches {v} {b} {w} {c} {budget} {table} {list} {r = r} p q h l m e is = go m
  where
    room : M.small v b w c table list ≡ false
    room = rw (le-ltb (length v) ad_words p.words, le-ltb (length b) ad_bytes_room p.bytes, le-ltb (length w) ad_words q.words, le-ltb (length c) ad_bytes_room q.bytes, le-ltb (length table) table_words h) (le-ltb (length list) pair_slots l)

    go : {table' list' : List ℕ} → Matched v b w c budget table list table' list' r → ⊥
    go (refused x r t u) = refused_not_admitted x (record { roomy = room; first_well = p.well; second_well = q.well })
    go (matches {o} x f values entries m t u) = let y : ◌≡◌ {A = Result Outcome Refusal} (Ok o) (Err e) = sym f ∙ is in let z : ◌≡◌ {A = ℕ} 0 1 = cc in omega arith
