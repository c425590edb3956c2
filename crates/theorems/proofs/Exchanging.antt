-- THE TWO ADS EXCHANGED, in terms of what callers hold: two matches in any memory are refused alike, or the verdict is kept and the ranks
-- change places; also with two budgets, where both finish; and of two texts. Assumes nothing.
use Rattle.std.specs.Prelude.{ℕ, ◌+◌, ◌≤◌, ◌<◌, ◌≡◌, refl, Bool, true, false, cond, ◌||◌, Result, Err, List, length, take, ltb}
use Rattle.std.proofs.Math.Decide.{dec_lt}
use Rattle.std.proofs.Common.{arith, sym, ap, ◌∙◌, true≢false, le-ltb}
use Rattle.std.proofs.Math.Bool.{or-true}
use Rattle.ad.specs.Layout.{ad_words, ad_bytes_room}
use Rattle.links.specs.Inner.Asked.{Formed}
use Rattle.matching.specs.Matching as M
use Rattle.matching.specs.Matching.{Match, Matched, matches, small, table_words}
use Rattle.admission.specs.Laws.Refusing.{refused_not_admitted}
use Rattle.admission.specs.Admission.{Refuses, no_room, first_malformed, second_malformed, Admits}
use Rattle.admission.specs.Laws.Wells.{formed_of}
use Rattle.matching.proofs.Laws.Exchange.{Exchanged, finished, unfinished, exchange}
use Rattle.matching.specs.declared.Outcome.{Outcome}
use Rattle.matching.specs.declared.Outcome.TheVariants.{Finished, Unfinished}
use Rattle.syntax.specs.Refusals.{refusal}
use Rattle.syntax.specs.declared.Refusal.{Refusal}
use Rattle.theorems.specs.Existing.{TheAnswer, answer_at}
use Rattle.theorems.proofs.Laws.Budgets.{match_budget}
use Rattle.theorems.specs.Exchanging.{Turns, refused, answered, FinishedAs, Swapped, short}

-- ---- one budget or two

-- a finished answer had a budget that covers the list
pub covers : {v b w c : List ℕ} {budget : ℕ} {table list : List ℕ} {verdict : Bool} {i j steps : ℕ} {r : Outcome} (m : Match v b w c budget table list r) → FinishedAs verdict i j steps r → length m.order ≤ budget
covers {budget = budget} {r = r} m (count, e) = go (dec_lt budget (length m.order))
  where
    go : Dec (budget < length m.order) → length m.order ≤ budget
    go (yes h) = let u = m.unfinished h in let z : ◌≡◌ {A = ℕ} 0 1 = cc in absurd (omega arith)
    go (no h) = let h' : ¬ (budget < length m.order) = h in omega arith

-- OF TWO WELL-FORMED ADS, with two budgets that both finish
pub exchange_finished : {v b w c : List ℕ} {i j : ℕ} {table list table' list' : List ℕ} {verdict verdict' : Bool} {p q n p' q' n' : ℕ} {r s : Outcome} → Formed v → Formed w →
    Match v b w c i table list r → Match w c v b j table' list' s → FinishedAs verdict p q n r → FinishedAs verdict' p' q' n' s →
    Swapped verdict verdict' p q n p' q' n'
exchange_finished {v} {b} {w} {c} {i} {j} {verdict = verdict} {verdict'} {p} {q} {n} {p'} {q'} {n'} {r} {s} f g m m' x y =
    go (exchange v b w c f g (match_budget (i + j) m (covers m x) (let h = covers m x in omega arith)) (match_budget (i + j) m' (covers m' y) (let h = covers m' y in omega arith))) x.1 y.1
  where
    go : {k k' : ℕ} → Exchanged r s → r ≡ Finished verdict p q n k → s ≡ Finished verdict' p' q' n' k' → Swapped verdict verdict' p q n p' q' n'
    go (finished e e') a a' = record { kept = cc; first = cc; second = cc; as_many = cc }
    go (unfinished e e') a a' = let z : ◌≡◌ {A = ℕ} 0 1 = cc in absurd (omega arith)

-- a budget that covers the steps finishes
pub at_most : (verdict : Bool) (i j steps count budget : ℕ) → steps ≤ budget → FinishedAs verdict i j steps (answer_at verdict i j steps count budget)
at_most verdict i j steps count budget h = (count, ap (λ (t : Bool). cond t (Unfinished budget count) (Finished verdict i j steps count)) (le-ltb _ _ h))

-- THE ANSWERS OF TWO ADS, as functions of them, no budget being given: exchanged, what every match answers with any budget
pub answer_exchange : {v b w c : List ℕ} → Formed v → Formed w → (x : TheAnswer v b w c) (y : TheAnswer w c v b) →
    Swapped x.verdict y.verdict x.first_rank x.second_rank x.steps y.first_rank y.second_rank y.steps
answer_exchange f g x y =
    let n = x.steps + y.steps in
    exchange_finished f g (x.has_match n).2 (y.has_match n).2 (at_most x.verdict x.first_rank x.second_rank x.steps x.count n (omega arith))
    (at_most y.verdict y.first_rank y.second_rank y.steps y.count n (omega arith))

-- ---- any memory

turn_room : (p q r s t : Bool) → (p || (q || (r || (s || t)))) ≡ (r || (s || (p || (q || t))))
turn_room true q r s t = sym (ap (λ (z : Bool). r || z) (or-true s) ∙ or-true r)
turn_room false true r s t = sym (ap (λ (z : Bool). r || z) (or-true s) ∙ or-true r)
turn_room false false r s t = refl

small_turned : (v b w c table list table₂ list₂ : List ℕ) → short table list ≡ short table₂ list₂ → small v b w c table list ≡ small w c v b table₂ list₂
small_turned v b w c table list table₂ list₂ e =
    turn_room (ltb (length v) ad_words) (ltb (length b) ad_bytes_room) (ltb (length w) ad_words) (ltb (length c) ad_bytes_room) (short table list)
    ∙ ap (λ (z : Bool). ltb (length w) ad_words || (ltb (length c) ad_bytes_room || (ltb (length v) ad_words || (ltb (length b) ad_bytes_room || z)))) e

module _ (v b w c table list table₂ list₂ : List ℕ) (same : short table list ≡ short table₂ list₂) where
  abbrev turned : small v b w c table list ≡ small w c v b table₂ list₂
  turned = small_turned v b w c table list table₂ list₂ same

  refuses_turned : {k l : ℕ} → Refuses v b w c (length table) table_words (length list) k → Refuses w c v b (length table₂) table_words (length list₂) l → k ≡ l
  refuses_turned (no_room e) (no_room e') = refl
  refuses_turned (no_room e) (first_malformed e' n) = absurd (true≢false (sym e ∙ turned ∙ e'))
  refuses_turned (no_room e) (second_malformed e' h n) = absurd (true≢false (sym e ∙ turned ∙ e'))
  refuses_turned (first_malformed e n) (no_room e') = absurd (true≢false (sym e' ∙ sym turned ∙ e))
  refuses_turned (first_malformed e n) (first_malformed e' n') = refl
  refuses_turned (first_malformed e n) (second_malformed e' h n') = refl
  refuses_turned (second_malformed e h n) (no_room e') = absurd (true≢false (sym e' ∙ sym turned ∙ e))
  refuses_turned (second_malformed e h n) (first_malformed e' n') = refl
  refuses_turned (second_malformed e h n) (second_malformed e' h' n') = refl

  admits_turned : Admits v b w c (length table) table_words (length list) → Admits w c v b (length table₂) table_words (length list₂)
  admits_turned a = record { roomy = sym turned ∙ a.roomy; first_well = a.second_well; second_well = a.first_well }

-- IN ANY MEMORY: two matches of the same memory with the ads exchanged, with the same budget; the rooms lent for table and list may be
-- others, if both are large enough or neither is
pub matched_exchange : {v b w c : List ℕ} {budget : ℕ} {table list table' list' table₂ list₂ table₂' list₂' : List ℕ} {r s : Result Outcome Refusal} → short table list ≡ short table₂ list₂ →
    Matched v b w c budget table list table' list' r → Matched w c v b budget table₂ list₂ table₂' list₂' s → Turns r s
matched_exchange {v} {b} {w} {c} {table = table} {list} {table₂ = table₂} {list₂} same (M.refused {k} x a t l) (M.refused x' a' t' l') =
    refused (record { told = refusal k 0; answers = a; number = refl; at = refl })
    (record { told = refusal k 0; answers = a' ∙ ap (λ (k : ℕ). Err (refusal k 0)) (sym (refuses_turned v b w c table list table₂ list₂ same x x')); number = refl; at = refl })
matched_exchange {v} {b} {w} {c} {table = table} {list} {table₂ = table₂} {list₂} same (M.refused x a t l) (matches e f values entries m t' l') =
    absurd (refused_not_admitted x (admits_turned w c v b table₂ list₂ table list (sym same) e))
matched_exchange {v} {b} {w} {c} {table = table} {list} {table₂ = table₂} {list₂} same (matches e f values entries m t l) (M.refused x a' t' l') =
    absurd (refused_not_admitted x (admits_turned v b w c table list table₂ list₂ same e))
matched_exchange {v} {b} {w} {c} same (matches e f values entries m t l) (matches e' f' values' entries' m' t' l') =
    answered f f' (exchange (take ad_words v) (take ad_bytes_room b) (take ad_words w) (take ad_bytes_room c) (formed_of v b e.first_well) (formed_of w c e.second_well) m m')
