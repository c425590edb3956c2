-- A match is made: the traversal gives the circular references, the list and the count of moves, and the run the table. Assumes nothing.
use Rattle.std.specs.Prelude.{ℕ, zero, suc, ◌+◌, ◌-◌, ◌*◌, ◌≤◌, ◌<◌, ◌≡◌, refl, ◌⊎◌, Bool, true, false, cond, ◌&&◌, List, [], ◌∷◌, ◌++◌, map, length, take, replicate, ltb}
use native.Mathlib.Omega.{arith}
use Rattle.std.proofs.Common.{sym, ap, subst, inl, inr, take_all, le-ltb, lt-ltb}
use Rattle.std.proofs.Math.ListN.{length-replicate}
use Rattle.matching.proofs.Assembling.{blank_zeros}
use Rattle.syntax.specs.Bounds.{max_nodes}
use Rattle.graph.specs.Members.{◌∈◌, here, there, Each}
use Rattle.graph.proofs.Laws.Members.{mem_nil, mem_cons}
use Rattle.graph.specs.Graph.{Sound, Node, Flags, needs, Entered}
use Rattle.graph.specs.Transition.{transitions, first}
use Rattle.graph.proofs.Laws.Traversal.{needs_links, needs_acyclic, within_square}
use Rattle.graph.proofs.Laws.Progress.{Exactly, traverse_exactly}
use Rattle.links.specs.Pair.{roots_of, requirements, rank, pair_graph}
use Rattle.links.specs.Inner.Asked.{Formed}
use Rattle.links.specs.Laws.Soundness.{pair_sound}
use Rattle.values.specs.declared.Value.{Value}
use Rattle.slots.specs.declared.Slot.{Slot}
use Rattle.slots.specs.declared.Slot.TheVariants.{Blank, Held}
use Rattle.slots.specs.Packed.{slot_at}
use Rattle.nodes.specs.Nodes.{value_in}
use Rattle.valuation.specs.Run.{Ran}
use Rattle.valuation.proofs.Laws.Values.{entered_in}
use Rattle.valuation.proofs.Laws.Transfer.{entered_part}
use Rattle.valuation.proofs.Laws.Runs.{run_ran}
use Rattle.evaluation.specs.Evaluation.{rule_at, seen, steps_words}
use Rattle.verdict.specs.Verdict.{is_true, rank_of}
use Rattle.matching.specs.Matching.{Worth, Counted, Match}
use Rattle.matching.proofs.Laws.Concluding.{flags_same, worth_of, roots_first, roots_second, ranks_first, ranks_second}
use Rattle.matching.specs.declared.Outcome.{Outcome}
use Rattle.matching.specs.declared.Outcome.TheVariants.{Finished, Unfinished}
use Rattle.theorems.proofs.Laws.Slots.{steps_slots}

-- ---- a match, from the circular references, the list and the count of moves

take_in : {x : ℕ} (n : ℕ) (l : List ℕ) → x ∈ take n l → x ∈ l
take_in zero l m = absurd (mem_nil m)
take_in (suc n) [] m = m
take_in {x} (suc n) (y ∷ l) m = go (λ k. take_in n l k) (mem_cons m)
  where
    go : (x ∈ take n l → x ∈ l) → (x ≡ y) ⊎ (x ∈ take n l) → x ∈ (y ∷ l)
    go ih (inl e) = here e
    go ih (inr k) = there (ih k)

module _ (v b w c : List ℕ) (f : Formed v) (g : Formed w) (circular : ℕ → Bool) (flagged : Flags (pair_graph v b w c) circular) (order : List ℕ)
    (entered : Entered (needs (pair_graph v b w c) circular) [] (pair_graph v b w c).roots order) (count : ℕ) (counted : Counted (pair_graph v b w c) count) (budget : ℕ) where
  abbrev need : ℕ → List ℕ
  need = needs (pair_graph v b w c) circular

  abbrev values : List ℕ
  values = steps_words need (rule_at v b w c) (take budget order) (replicate 4096 0)

  sound : Sound (pair_graph v b w c)
  sound = pair_sound v b w c f g

  in_room : (x : ℕ) → Node (pair_graph v b w c) x → x * 2 + 1 < length (replicate {A = ℕ} 4096 0)
  unfolding pair_graph
  in_room x n = let k : x < max_nodes + max_nodes = (pair_sound v b w c f g).in_slots x n in let e = length-replicate {A = ℕ} 4096 0 in omega arith

  nodes : Each (Node (pair_graph v b w c)) order
  nodes = entered_part (λ x n y m. sound.links_in x y (needs_links (pair_graph v b w c) sound circular flagged x y m)) entered (λ y m. absurd (mem_nil m)) sound.roots_in

  ran : Ran Held seen need (rule_at v b w c) Blank order budget (slot_at values)
  ran =
      subst (λ (s : ℕ → Slot). Ran Held seen need (rule_at v b w c) Blank order budget s)
      (sym (steps_slots need v b w c (take budget order) (replicate 4096 0) (λ x m. in_room x (nodes x (take_in budget order m)))))
      (run_ran Held seen need (rule_at v b w c) (needs_acyclic (pair_graph v b w c) sound circular flagged) entered (λ u. refl) Blank budget (slot_at (replicate 4096 0)) (blank_zeros 4096))

  abbrev held : Bool → List ℕ → List ℕ → List ℕ → Value
  held second words bytes name = value_in (map (λ y. seen (slot_at values y)) (roots_of second words bytes name)) 0

  worked : length order ≤ budget → (l : List ℕ) → Each (λ y. y ∈ (pair_graph v b w c).roots) l → Worth need (rule_at v b w c) l (value_in (map (λ y. seen (slot_at values y)) l) 0)
  worked h l m = worth_of (slot_at values) l (λ x k. ran.holds x (subst (λ (u : List ℕ). x ∈ u) (sym (take_all budget order h)) (entered_in entered x (m x k))))

  abbrev made : Outcome
  made = cond (ltb budget (length order)) (Unfinished budget count) (Finished (is_true (held false v b requirements) && is_true (held true w c requirements)) (rank_of (held false v b rank)) (rank_of (held true w c rank)) (length order) count)

  made_match : Match v b w c budget values (map suc order ++ replicate (2048 - length order) 0) made
  made_match = record {
    circular = circular;
    flagged = flagged;
    order = order;
    entered = entered;
    listed = refl;
    words = refl;
    ran = ran;
    count = count;
    counted = counted;
    finished = λ h. record {
      first_requirement = held false v b requirements;
      second_requirement = held true w c requirements;
      first_rank = held false v b rank;
      second_rank = held true w c rank;
      first_required = worked h (roots_of false v b requirements) (roots_first v b w c);
      second_required = worked h (roots_of true w c requirements) (roots_second v b w c);
      first_ranked = worked h (roots_of false v b rank) (ranks_first v b w c);
      second_ranked = worked h (roots_of true w c rank) (ranks_second v b w c);
      answers = ap (λ (t : Bool). cond t (Unfinished budget count) (Finished (is_true (held false v b requirements) && is_true (held true w c requirements)) (rank_of (held false v b rank)) (rank_of (held true w c rank)) (length order) count)) (le-ltb _ _ h);
    };
    unfinished = λ h. ap (λ (t : Bool). cond t (Unfinished budget count) (Finished (is_true (held false v b requirements) && is_true (held true w c requirements)) (rank_of (held false v b rank)) (rank_of (held true w c rank)) (length order) count)) (lt-ltb _ _ h);
  }

-- ---- the traversal has them

module _ (v b w c : List ℕ) (f : Formed v) (g : Formed w) where
  traversal : Exactly (pair_graph v b w c) (pair_sound v b w c f g)
  traversal = traverse_exactly (pair_graph v b w c) (pair_sound v b w c f g)

  abbrev flags : ℕ → Bool
  flags = (transitions (pair_graph v b w c) traversal.count (first (pair_graph v b w c))).flag

  traversal_list : Entered (needs (pair_graph v b w c) flags) [] (pair_graph v b w c).roots traversal.ends.order
  traversal_list = go traversal.ends.is_list
    where
      go : (d : ℕ → Bool) × Flags (pair_graph v b w c) d × Entered (needs (pair_graph v b w c) d) [] (pair_graph v b w c).roots traversal.ends.order →
          Entered (needs (pair_graph v b w c) flags) [] (pair_graph v b w c).roots traversal.ends.order
      go (d, k, e) = subst (λ (h : ℕ → Bool). Entered (needs (pair_graph v b w c) h) [] (pair_graph v b w c).roots traversal.ends.order) (flags_same (pair_graph v b w c) k traversal.ends.flagged) e

  traversal_counted : Counted (pair_graph v b w c) traversal.count
  traversal_counted = record { ends = traversal.ends.ended; exact = traversal.awake; linear = traversal.small; small = within_square (pair_graph v b w c) (pair_sound v b w c f g) traversal.count traversal.small }

  pub found : (budget : ℕ) → (table list : List ℕ) × (r : Outcome) × Match v b w c budget table list r
  found budget = (_, _, _, made_match v b w c f g flags traversal.ends.flagged traversal.ends.order traversal_list traversal.count traversal_counted budget)
