-- THE LIST OF A MATCH: no entry stands twice, and there are no more entries than the two ads have nodes. So no match takes more steps
-- than that, and a budget of 2,048 is always enough. Assumes nothing.
use Rattle.std.specs.Prelude.{ℕ, ◌+◌, ◌≤◌, ◌<◌, min, ◌≡◌, Result, Err, List, length, take}
use Rattle.std.proofs.Math.Decide.{dec_lt}
use Rattle.std.proofs.Common.{arith, sym, ap, ◌∙◌, subst}
use Rattle.ad.specs.Layout.{ad_words}
use Rattle.ad.specs.Stored.{node_count}
use Rattle.graph.specs.Members.{Distinct}
use Rattle.graph.proofs.Laws.Traversal.{TheList, the_list}
use Rattle.links.specs.Pair.{pair_graph}
use Rattle.links.specs.Inner.Asked.{Formed}
use Rattle.links.specs.Laws.Counting.{nodes_few}
use Rattle.links.specs.Laws.Numbering.{pair_size}
use Rattle.links.specs.Laws.Soundness.{pair_sound}
use Rattle.matching.specs.Matching.{Match, Matched, refused, matches}
use Rattle.admission.specs.Laws.Wells.{formed_of}
use Rattle.matching.specs.declared.Outcome.{Outcome}
use Rattle.syntax.specs.declared.Refusal.{Refusal}
use Rattle.theorems.specs.Listing.{steps_of, count_of, Done, Listed, Within}

-- OF EVERY MATCH of two well-formed ads
pub match_list : {v b w c : List ℕ} {budget : ℕ} {table list : List ℕ} {r : Outcome} → Formed v → Formed w → (m : Match v b w c budget table list r) →
    Listed (node_count v + node_count w) budget m.order m.count r
match_list {v} {b} {w} {c} {budget} {table} {list} {r} f g m = record {
  once = subst Distinct (sym is_it) it.once;
  short = few;
  room = small;
  steps = steps;
  few_steps = let e = steps in let l = few in omega arith;
  finishes = λ h. let l = few in done (omega arith);
  always = λ h. let l = small in done (omega arith);
}
  where
    it : TheList (pair_graph v b w c)
    it = the_list (pair_graph v b w c) (pair_sound v b w c f g)

    is_it : m.order ≡ it.list
    is_it = it.only m.order (m.circular, m.flagged, m.entered)

    few : length m.order ≤ node_count v + node_count w
    few = let e = ap length is_it in let s = it.short in let z = pair_size v b w c in omega arith

    small : length m.order ≤ 2048
    small = let l = few in let p = nodes_few v in let q = nodes_few w in omega arith

    done : length m.order ≤ budget → Done (length m.order) m.count r
    done h =
        let k = m.finished h in
        record { verdict = _; first_rank = _; second_rank = _; answers = k.answers }

    steps : steps_of r ≡ min budget (length m.order)
    steps = go (dec_lt budget (length m.order))
      where
        go : Dec (budget < length m.order) → steps_of r ≡ min budget (length m.order)
        go (yes h) = ap steps_of (m.unfinished h) ∙ (let z : budget ≡ min budget (length m.order) = omega arith in z)
        go (no h) =
            let h' : ¬ (budget < length m.order) = h in
            let l : length m.order ≤ budget = omega arith in
            ap steps_of (m.finished l).answers ∙ (let z : length m.order ≡ min budget (length m.order) = omega arith in z)

-- OF EVERY MATCH IN ANY MEMORY that is not refused
pub matched_list : {v b w c : List ℕ} {budget : ℕ} {table list table' list' : List ℕ} {r : Result Outcome Refusal} → Matched v b w c budget table list table' list' r → ((e : Refusal) → r ≡ Err e → ⊥) →
    Within (node_count (take ad_words v) + node_count (take ad_words w)) budget r
matched_list (refused e a t l) u = absurd (u _ a)
matched_list {v} {b} {w} {c} {budget} (matches {o} e a values entries m t l) u =
    let x = match_list (formed_of v b e.first_well) (formed_of w c e.second_well) m in
    record {
      outcome = o;
      answers = a;
      few_steps = x.few_steps;
      in_budget = let s = x.steps in omega arith;
      finishes = λ k. counted (x.finishes k);
      always = λ k. counted (x.always k);
    }
  where
    counted : {n k : ℕ} → Done n k o → Done (steps_of o) (count_of o) o
    counted {n} {k} d =
        subst (λ (y : ℕ). Done (steps_of o) y o) (sym (ap count_of d.answers)) (subst (λ (x : ℕ). Done x k o) (sym (ap steps_of d.answers)) d)
