-- WHAT IS PRINTED READS BACK INTO MEMORY AS IT WAS, and the contracts of `check` and `print` leave one answer and one output. Assumes
-- nothing.
use Rattle.std.specs.Prelude.{ℕ, ◌≡◌, refl, Option, Some, None, Result, Ok, Err, List, [], ◌++◌, length, take, drop}
use Rattle.std.proofs.Common.{arith, sym, ap, ◌∙◌, subst, inl, inr, length-take, take_at}
use Rattle.syntax.specs.Tree.{Ad, nodes}
use Rattle.syntax.specs.Print.{printed_ad}
use Rattle.syntax.specs.Reader as R
use Rattle.ad.specs.Layout.{ad_words, ad_bytes_room}
use Rattle.well_formed.specs.WellFormed.{Holds, Answers}
use Rattle.well_formed.specs.Laws.Bounds.{bounded}
use Rattle.well_formed.specs.Laws.Whole.{holds_long, holds_found}
use Rattle.well_formed.specs.declared.Checked.{Checked}
use Rattle.round_trip.proofs.Laws.RoundTrip.{read_back}
use Rattle.printer.specs.Prints.{Roomy, Stored, Fitting, Refuses, small, malformed, long, PrintsText, Prints, HandsBack}
use Rattle.ad.specs.declared.Counts.{Counts}
use Rattle.syntax.specs.Refusals.{number_of, refusal}
use Rattle.syntax.specs.declared.Refusal.{Refusal}
use Rattle.syntax.proofs.Laws.Numbered.{refusal_numbered}
use Rattle.reader.specs.Content.{Answered}
use Rattle.text_theorems.specs.Reading.{read_answered}

-- what reading a printed text back leaves: the ad that was printed, of whose memory w and b only the room's front part counts, in front
-- of what was there ('Memory lent beyond these sizes is never changed.')
pub record ReadBack (w b w₀ b₀ w₁ b₁ : List ℕ) (r : Result Counts Refusal) : Type 0 where
  pub tree : Ad
  pub stored : Stored w b tree
  -- 'accepted with its counts'
  pub answers : r ≡ Ok (record { definitions = length tree; nodes = nodes tree })
  -- 'equal trees have equal content'
  pub words : w₁ ≡ take ad_words w ++ drop ad_words w₀
  pub bytes : b₁ ≡ take ad_bytes_room b ++ drop ad_bytes_room b₀

-- ---- printing, then reading

tree_back : {w b o s w₀ b₀ w₁ b₁ : List ℕ} {r : Result Counts Refusal} (a : Ad) → Stored w b a → Fitting o (printed_ad a) → s ≡ printed_ad a → Roomy w₀ b₀ → Answered s w₀ b₀ w₁ b₁ r → ReadBack w b w₀ b₀ w₁ b₁ r
tree_back {w₀ = w₀} {b₀} a h f e m x =
    let y = read_answered a m (ap R.read e ∙ read_back a (bounded h) f.bounded) x in
    record {
      tree = a;
      stored = h;
      answers = y.answers;
      words = y.words ∙ ap (λ (l : List ℕ). l ++ drop ad_words w₀) (sym h.words);
      bytes = y.bytes ∙ ap (λ (l : List ℕ). l ++ drop ad_bytes_room b₀) (sym h.bytes);
    }

-- A TEXT THAT `print` WROTE IS ACCEPTED BY `read`, in any memory with room, AND THE MEMORY THAT WAS PRINTED IS LEFT
pub print_then_read : {w b o o' w₀ b₀ w₁ b₁ : List ℕ} {n : ℕ} {r : Result Counts Refusal} → Prints w b o o' (Ok n) → Roomy w₀ b₀ → Answered (take n o') w₀ b₀ w₁ b₁ r → ReadBack w b w₀ b₀ w₁ b₁ r
print_then_read {o = o} {n = n} (a, h, f, e, q) m x = tree_back a h f (ap (take n) q ∙ take_at (printed_ad a) (drop n o) n (sym e)) m x

-- and so is one that `text` handed back: 'The text is handed back as the front part of the caller's output'
pub text_then_read : {w b o t w₀ b₀ w₁ b₁ : List ℕ} {r : Result Counts Refusal} → HandsBack w b o t → (t ≡ [] → ⊥) → Roomy w₀ b₀ → Answered t w₀ b₀ w₁ b₁ r → ReadBack w b w₀ b₀ w₁ b₁ r
text_then_read (inl (a, h, f, e)) n m x = tree_back a h f e m x
text_then_read (inr (k, p, e)) n m x = absurd (n e)

-- ---- one answer

-- memory holds one tree at most: 'equal trees have equal content', and the other way round
pub holds_one : {w b : List ℕ} {a e : Ad} → Holds w b a → Holds w b e → a ≡ e
holds_one {w} {b} {a} {e} x y = let l = holds_long a x in let p = (holds_found w b l.0 l.1 a x).0 in let q = (holds_found w b l.0 l.1 e y).0 in cc

-- THE CONTRACT OF `check` LEAVES ONE ANSWER
pub check_one : (w b : List ℕ) (q r : Option Checked) → Answers w b q → Answers w b r → q ≡ r
check_one w b (Some p) (Some q) (a, x, i, j, l) (e, y, i', j', l') =
    let s = holds_one x y in
    let d = i ∙ ap length s ∙ sym i' in
    let n = j ∙ ap nodes s ∙ sym j' in
    let k = l ∙ ap (λ (z : Ad). length (printed_ad z)) s ∙ sym l' in
    λ t. Some (record { counts = record { definitions = d t; nodes = n t }; print_length = k t })
check_one w b (Some p) None (a, x, i, j, l) f = absurd (f a x)
check_one w b None (Some p) f (a, x, i, j, l) = absurd (f a x)
check_one w b None None f g = refl

stored_roomy : {w b : List ℕ} {a : Ad} → Stored w b a → Roomy w b
stored_roomy {w} {b} {a} h =
    let k = holds_long a h in
    let p : length (take ad_words w) ≡ 4864 = k.0 in
    let q : length (take ad_bytes_room b) ≡ 16384 = k.1 in
    record { words = omega (arith, length-take ad_words w); bytes = omega (arith, length-take ad_bytes_room b) }

-- 'Printing checks 1, 10, then 11.': one number
refuses_one : {t : Ad → List ℕ} {w b o : List ℕ} {j k : ℕ} → Refuses t w b o j → Refuses t w b o k → j ≡ k
refuses_one (small n) (small n') = refl
refuses_one (small n) (malformed h m) = absurd (n h)
refuses_one (small n) (long h s f) = absurd (n h)
refuses_one (malformed h m) (small n) = absurd (n h)
refuses_one (malformed h m) (malformed h' m') = refl
refuses_one (malformed h m) (long h' {a} s f) = absurd (m a s)
refuses_one (long h s f) (small n) = absurd (n h)
refuses_one (long h {a} s f) (malformed h' m) = absurd (m a s)
refuses_one (long h s f) (long h' s' f') = refl

-- what fits is not refused
printed_not : {t : Ad → List ℕ} {w b o : List ℕ} {k : ℕ} (a : Ad) → Stored w b a → Fitting o (t a) → Refuses t w b o k → ⊥
printed_not a h f (small n) = n (stored_roomy h)
printed_not a h f (malformed m n) = n a h
printed_not {t} {o = o} a h f (long m s n) = n (subst (λ (e : Ad). Fitting o (t e)) (holds_one h s) f)

-- a refusal is its number and its place
same_refusal : (r r' : Refusal) → number_of r.reason ≡ number_of r'.reason → r.place ≡ r'.place → r ≡ r'
same_refusal r r' e f = refusal_numbered r ∙ (λ i. refusal (e i) (f i)) ∙ sym (refusal_numbered r')

-- A PRINTER'S CONTRACT LEAVES ONE ANSWER and one output, whatever the text t of an ad is
pub prints_one : (t : Ad → List ℕ) (w b o : List ℕ) {o₁ o₂ : List ℕ} (q r : Result ℕ Refusal) → PrintsText t w b o o₁ q → PrintsText t w b o o₂ r → (q ≡ r) × (o₁ ≡ o₂)
prints_one t w b o (Ok n) (Ok n') (a, h, f, e, p) (a', h', f', e', p') =
    let s = holds_one h h' in
    let i : n ≡ n' = e ∙ ap (λ (x : Ad). length (t x)) s ∙ sym e' in
    (ap Ok i, p ∙ ap (λ (x : Ad). t x ++ drop n o) s ∙ ap (λ (m : ℕ). t a' ++ drop m o) i ∙ sym p')
prints_one t w b o (Ok n) (Err r) (a, h, f, e, q) (x, y, z) = absurd (printed_not a h f x)
prints_one t w b o (Err r) (Ok n) (x, y, z) (a, h, f, e, q) = absurd (printed_not a h f x)
prints_one t w b o (Err r) (Err r') (x, y, z) (x', y', z') = (ap Err (same_refusal r r' (refuses_one x x') (y ∙ sym y')), z ∙ sym z')

-- THE CONTRACT OF `print` LEAVES ONE ANSWER and one output
pub print_one : (w b o : List ℕ) {o₁ o₂ : List ℕ} (q r : Result ℕ Refusal) → Prints w b o o₁ q → Prints w b o o₂ r → (q ≡ r) × (o₁ ≡ o₂)
print_one w b o = prints_one printed_ad w b o

-- THE CONTRACT OF `text` LEAVES ONE TEXT
pub text_one : (w b o : List ℕ) {t u : List ℕ} → HandsBack w b o t → HandsBack w b o u → t ≡ u
text_one w b o (inl (a, h, f, e)) (inl (a', h', f', e')) = e ∙ ap printed_ad (holds_one h h') ∙ sym e'
text_one w b o (inl (a, h, f, e)) (inr (k, p, e')) = absurd (printed_not a h f p)
text_one w b o (inr (k, p, e)) (inl (a, h, f, e')) = absurd (printed_not a h f p)
text_one w b o (inr (k, p, e)) (inr (k', p', e')) = e ∙ sym e'
