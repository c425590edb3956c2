-- EVERY TWO WELL-FORMED ADS HAVE A MATCH, one only, with every budget: verdict, ranks, steps, table and list are functions of the two
-- ads. Assumes nothing.
use Rattle.std.specs.Prelude.{ℕ, ◌≤◌, ◌<◌, ◌≡◌, Bool, cond, List, length}
use Rattle.std.proofs.Math.Decide.{dec_lt}
use Rattle.std.proofs.Common.{arith, sym, ap, ◌∙◌, subst, le-ltb, lt-ltb}
use Rattle.graph.proofs.Laws.Traversal.{list_unique}
use Rattle.links.specs.Pair.{pair_graph}
use Rattle.links.specs.Inner.Asked.{Formed}
use Rattle.matching.specs.Matching.{Match}
use Rattle.matching.proofs.Laws.OneAnswer.{match_one, count_one}
use Rattle.matching.specs.declared.Outcome.{Outcome}
use Rattle.matching.specs.declared.Outcome.TheVariants.{Finished, Unfinished}
use Rattle.theorems.specs.Listing.{Done}
use Rattle.theorems.proofs.Listing.{match_list}
use Rattle.theorems.proofs.Laws.Making.{found}
use Rattle.theorems.proofs.Laws.Budgets.{match_budget}
use Rattle.theorems.specs.Existing.{TheMatch, answer_at, TheAnswer}

-- OF EVERY TWO WELL-FORMED ADS, with every budget
pub match_exists : (v b w c : List ℕ) → Formed v → Formed w → (budget : ℕ) → TheMatch v b w c budget
match_exists v b w c f g budget =
    let x = found v b w c f g budget in
    record { table = x.0; list = x.1; answer = x.2; is_match = x.3; only = λ m. match_one v b w c budget x.3 m }

-- VERDICT, RANKS, STEPS AND MOVES ARE FUNCTIONS OF THE TWO ADS: there is an answer with every budget, and it is the same
pub answer_exists : (v b w c : List ℕ) → Formed v → Formed w → TheAnswer v b w c
answer_exists v b w c f g = record {
  verdict = top.verdict;
  first_rank = top.first_rank;
  second_rank = top.second_rank;
  steps = length whole.is_match.order;
  count = whole.is_match.count;
  has_match = λ budget. let x = match_exists v b w c f g budget in (x.table, x.list, subst (λ (r : Outcome). Match v b w c budget x.table x.list r) (answered x.is_match) x.is_match);
  only = answered;
}
  where
    -- with the largest budget that is ever needed
    whole : TheMatch v b w c 2048
    whole = match_exists v b w c f g 2048

    top : Done (length whole.is_match.order) whole.is_match.count whole.answer
    top = (match_list f g whole.is_match).always (omega arith)

    short : length whole.is_match.order ≤ 2048
    short = (match_list f g whole.is_match).room

    answered : {budget : ℕ} {table list : List ℕ} {r : Outcome} → Match v b w c budget table list r →
        r ≡ answer_at top.verdict top.first_rank top.second_rank (length whole.is_match.order) whole.is_match.count budget
    answered {budget} {r = r} m = go (dec_lt budget (length m.order))
      where
        as_long : length m.order ≡ length whole.is_match.order
        as_long = ap length (list_unique (pair_graph v b w c) m.order whole.is_match.order (m.circular, m.flagged, m.entered) (whole.is_match.circular, whole.is_match.flagged, whole.is_match.entered))

        go : Dec (budget < length m.order) → r ≡ answer_at top.verdict top.first_rank top.second_rank (length whole.is_match.order) whole.is_match.count budget
        go (yes h) =
            let k : budget < length whole.is_match.order = let e = as_long in omega arith in
            m.unfinished h ∙ ap (Unfinished budget) same_count ∙ sym (ap (λ (t : Bool). cond t (Unfinished budget whole.is_match.count) (Finished top.verdict top.first_rank top.second_rank (length whole.is_match.order) whole.is_match.count)) (lt-ltb _ _ k))
          where
            same_count : m.count ≡ whole.is_match.count
            same_count = count_one (pair_graph v b w c) m.count whole.is_match.count m.counted whole.is_match.counted
        go (no h) =
            let h' : ¬ (budget < length m.order) = h in
            let few : length m.order ≤ budget = omega arith in
            let k : length whole.is_match.order ≤ budget = let e = as_long in omega arith in
            let s = whole.only (match_budget 2048 m few (let e = as_long in let z = short in omega arith)) in
            sym s.answers ∙ top.answers ∙ sym (ap (λ (t : Bool). cond t (Unfinished budget whole.is_match.count) (Finished top.verdict top.first_rank top.second_rank (length whole.is_match.order) whole.is_match.count)) (le-ltb _ _ k))
