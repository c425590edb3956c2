-- A budget that covers the list makes no difference, and moves are counted exactly. Assumes nothing.
use Rattle.std.specs.Prelude.{ℕ, ◌≤◌, ◌≡◌, List, length, take, replicate}
use Rattle.std.proofs.Common.{arith, sym, ap, ◌∙◌, subst, take_all}
use Rattle.graph.specs.Members.{◌∈◌}
use Rattle.graph.specs.Graph.{needs}
use Rattle.links.specs.Pair.{pair_graph}
use Rattle.evaluation.specs.Evaluation.{rule_at, steps_words}
use Rattle.matching.specs.Matching.{Match}
use Rattle.matching.specs.declared.Outcome.{Outcome}

pub match_budget : {v b w c : List ℕ} {i : ℕ} {table list : List ℕ} {r : Outcome} (j : ℕ) (m : Match v b w c i table list r) → length m.order ≤ i → length m.order ≤ j → Match v b w c j table list r
match_budget {v} {b} {w} {c} {i} j m h k = record {
  circular = m.circular;
  flagged = m.flagged;
  order = m.order;
  entered = m.entered;
  listed = m.listed;
  words = m.words ∙ ap (λ (l : List ℕ). steps_words (needs (pair_graph v b w c) m.circular) (rule_at v b w c) l (replicate 4096 0)) same;
  ran = record {
    holds = λ x n. m.ran.holds x (subst (λ (l : List ℕ). x ∈ l) (sym same) n);
    blanks = λ x n. m.ran.blanks x (λ y. n (subst (λ (l : List ℕ). x ∈ l) same y));
  };
  count = m.count;
  counted = m.counted;
  finished = λ _. m.finished h;
  unfinished = λ l. absurd (let z : ⊥ = omega arith in z);
}
  where
    same : take i m.order ≡ take j m.order
    same = take_all i m.order h ∙ sym (take_all j m.order k)
