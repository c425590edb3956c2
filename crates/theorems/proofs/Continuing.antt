-- A MATCH CONTINUED: a run from the entry at which a match stopped leaves the table that a match with both budgets together leaves.
-- Assumes nothing.
use Rattle.std.specs.Prelude.{ℕ, ◌+◌, ◌≡◌, refl, Bool, List, [], ◌∷◌, ◌++◌, take, drop, replicate}
use Rattle.std.proofs.Common.{sym, ap, ap₂, ◌∙◌, take-add}
use Rattle.graph.specs.Graph.{Graph, needs}
use Rattle.graph.proofs.Laws.Traversal.{list_unique}
use Rattle.links.specs.Pair.{pair_graph}
use Rattle.values.specs.declared.Value.{Value}
use Rattle.evaluation.specs.Evaluation.{rule_at, step_words, steps_words, RunTo}
use Rattle.matching.specs.Matching.{Match}
use Rattle.matching.proofs.Laws.Concluding.{flags_same}
use Rattle.matching.specs.declared.Outcome.{Outcome}

words_append : (need : ℕ → List ℕ) (rule : ℕ → List Value → Value) (xs ys t : List ℕ) → steps_words need rule (xs ++ ys) t ≡ steps_words need rule ys (steps_words need rule xs t)
unfolding steps_words
words_append need rule [] ys t = refl
words_append need rule (x ∷ xs) ys t = words_append need rule xs ys (step_words need rule t x)

-- 'The run starts at any entry': at entry i, over the table that a match with the budget i left; `run_from` of
-- matching/proofs/Laws/Running.antt gives the run, from marks
pub match_continued : {v b w c : List ℕ} {i j steps : ℕ} {table list after table₂ list₂ : List ℕ} {r s : Outcome} (m : Match v b w c i table list r) →
    RunTo (needs (pair_graph v b w c) m.circular) (rule_at v b w c) m.order i j table after steps → Match v b w c (i + j) table₂ list₂ s → table₂ ≡ after
match_continued {v} {b} {w} {c} {i} {j} {after = after} {table₂} m r n =
    let G : Graph = pair_graph v b w c in
    let f : n.circular ≡ m.circular = flags_same G n.flagged m.flagged in
    let l : n.order ≡ m.order = list_unique G n.order m.order (n.circular, n.flagged, n.entered) (m.circular, m.flagged, m.entered) in
    n.words
    ∙ ap₂ (λ (d : ℕ → Bool) (o : List ℕ). steps_words (needs G d) (rule_at v b w c) (take (i + j) o) (replicate 4096 0)) f l
    ∙ ap (λ (o : List ℕ). steps_words (needs G m.circular) (rule_at v b w c) o (replicate 4096 0)) (take-add i j m.order)
    ∙ words_append (needs G m.circular) (rule_at v b w c) (take i m.order) (take j (drop i m.order)) (replicate 4096 0)
    ∙ ap (steps_words (needs G m.circular) (rule_at v b w c) (take j (drop i m.order))) (sym m.words)
    ∙ sym r.words
