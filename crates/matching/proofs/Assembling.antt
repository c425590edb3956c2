-- A traversal and a run from its list make a match. Assumes nothing.
use Prim.Native.Nat.{ℕ, zero, suc, ◌+◌, ◌-◌, ◌*◌, ◌≤◌, ◌<◌, min}
use native.Mathlib.Omega.{arith}
use mathlib.Core.Path.{◌≡◌, refl, sym, ap, ◌∙◌, subst}
use mathlib.Core.Bool.{Bool, true, false, ◌&&◌}
use mathlib.Core.List.{List, [], ◌∷◌, ◌++◌, map}
use lib.ListN.{length, get_or, take, replicate, length-append, length-map, length-replicate, get_or-append}
use lib.Seq.{take_all, length-take-le, get_or-take}
use Rattle.graph.specs.Members.{◌∈◌, Each, raised}
use Rattle.graph.proofs.Laws.Members.{mem_nil, at_mem}
use Rattle.std.proofs.Common.{Option}
use Rattle.graph.specs.Transition.{marked}
use Rattle.graph.specs.Graph.{Sound, Node, needs, Entered}
use Rattle.graph.proofs.Laws.Traversal.{needs_links, needs_acyclic}
use Rattle.links.specs.Pair.{pair_graph, roots_of, requirements, rank}
use Rattle.links.specs.Inner.Asked.{Formed, Stands, RootMarks, mark_of}
use Rattle.links.specs.Laws.Soundness.{pair_sound}
use Rattle.dependency.specs.Traversal.{Traversed}
use Rattle.dependency.specs.Laws.Use.{clear_zeros}
use Rattle.values.specs.declared.Value.{Value}
use Rattle.slots.specs.declared.Slot.{Slot}
use Rattle.slots.specs.declared.Slot.TheVariants.{Blank, Held}
use Rattle.slots.specs.Packed.{slot_at}
use Rattle.nodes.specs.Nodes.{value_in}
use Rattle.valuation.specs.Run.{Ran}
use Rattle.valuation.proofs.Laws.Values.{entered_in}
use Rattle.valuation.proofs.Laws.Transfer.{entered_part}
use Rattle.valuation.proofs.Laws.Runs.{run_ran}
use Rattle.evaluation.specs.Evaluation.{rule_at, seen, needed, entries, RunTo}
use Rattle.evaluation.specs.Inner.Asked.{AtRun}
use Rattle.verdict.specs.Verdict.{is_true, rank_of}
use Rattle.verdict.specs.Inner.Worth.{worth_at}
use Rattle.verdict.specs.Laws.Marked.{worth_marked}
use Rattle.matching.specs.Matching.{Worth, Match}
use Rattle.matching.proofs.Laws.Traversed.{entered_of, counted_of}
use Rattle.matching.proofs.Laws.Running.{run_from}
use Rattle.matching.proofs.Laws.Concluding.{worth_of, roots_first, roots_second, ranks_first, ranks_second}
use Rattle.matching.specs.declared.Outcome.{Outcome}
use Rattle.matching.specs.declared.Outcome.TheVariants.{Finished, Unfinished}

pub blank_zeros : (n x : ℕ) → slot_at (replicate n 0) x ≡ Blank
blank_zeros n x = rw (clear_zeros n (x * 2)) refl

pub clear_long : {l : List ℕ} → l ≡ replicate 4096 0 → 4096 ≤ length l
clear_long e = let h = ap length e in let k = length-replicate {A = ℕ} 4096 0 in omega arith

suc_at : (l : List ℕ) (i : ℕ) → i < length l → get_or (map suc l) i 0 ≡ suc (get_or l i 0)
suc_at [] i h = absurd (let q : ⊥ = omega arith in q)
suc_at (x ∷ l) zero h = refl
suc_at (x ∷ l) (suc i) h = suc_at l i (let k : suc i < suc (length l) = h in omega arith)

module _ (v b w c : List ℕ) {count len : ℕ} {ta fl ls : List ℕ} (f : Formed v) (g : Formed w) (t : Traversed (pair_graph v b w c) count len ta fl ls) where
  sound : Sound (pair_graph v b w c)
  sound = pair_sound v b w c f g

  entered : Entered (needs (pair_graph v b w c) (raised fl)) [] (pair_graph v b w c).roots t.order
  entered = entered_of t

  nodes : Each (Node (pair_graph v b w c)) t.order
  nodes = entered_part (λ x n y m. sound.links_in x y (needs_links (pair_graph v b w c) sound (raised fl) t.circular x y m)) entered (λ y m. absurd (mem_nil m)) sound.roots_in

  long : (length ls ≡ length t.order + (length ls - length t.order))
  long =
      ap length t.written ∙ length-append (map suc t.order) (replicate (length ls - length t.order) 0)
      ∙ (let p = length-map t.order suc in let q = length-replicate {A = ℕ} (length ls - length t.order) 0 in
      let z : length (map suc t.order) + length (replicate {A = ℕ} (length ls - length t.order) 0) ≡ length t.order + (length ls - length t.order) = omega arith in z)

  entry_at : (i : ℕ) → i < len → get_or ls i 0 ≡ suc (get_or t.order i 0)
  entry_at i h =
      let e = t.length_is in
      let k = length-map t.order suc in
      ap (λ (l : List ℕ). get_or l i 0) t.written ∙ get_or-append (map suc t.order) _ 0 i (omega arith) ∙ suc_at t.order i (omega arith)

  stands : (x : ℕ) → Node (pair_graph v b w c) x → Stands v w x
  unfolding pair_graph
  stands x h = h

  pub list_long : len ≤ length ls
  list_long = let e = t.length_is in let z = long in omega arith

  -- the entries of the list's part are those of the list
  entries_part : entries (length (take len ls)) (take len ls) ≡ entries len ls
  unfolding entries
  entries_part = ap (map (λ e. e - 1)) (take_all (length (take len ls)) (take len ls) (omega arith))

  -- what the run asks
  pub at_run : {tb : List ℕ} → 2048 ≤ length ta → 2048 ≤ length fl → 4096 ≤ length tb → AtRun v w ta fl (take len ls) tb
  at_run h k m = record {
    target_room = h;
    flag_room = k;
    table_room_lem = m;
    listed = λ i l'.
        let n = t.length_is in
        let l : i < len = let z = length-take-le len ls list_long in omega arith in
        let e = get_or-take len ls i 0 l ∙ entry_at i l in
        (omega arith, subst (λ (u : ℕ). Stands v w u) (let q : get_or t.order i 0 ≡ get_or (take len ls) i 0 - 1 = omega arith in q) (stands _ (nodes (get_or t.order i 0) (at_mem t.order i (omega arith)))));
  }

  module _ {budget steps : ℕ} {before tb : List ℕ} (clear : before ≡ replicate 4096 0) (r : RunTo (needed (pair_graph v b w c) ta fl) (rule_at v b w c) (entries (length (take len ls)) (take len ls)) 0 budget before tb steps) where
    run_is : RunTo (needs (pair_graph v b w c) (raised fl)) (rule_at v b w c) t.order 0 budget (replicate 4096 0) tb steps
    run_is = (run_from f g t t.circular entered
        (subst (λ (es : List ℕ). RunTo (needed (pair_graph v b w c) ta fl) (rule_at v b w c) es 0 budget (replicate 4096 0) tb steps) entries_part
        (subst (λ (l : List ℕ). RunTo (needed (pair_graph v b w c) ta fl) (rule_at v b w c) (entries (length (take len ls)) (take len ls)) 0 budget l tb steps) clear r))).run

    ran_is : Ran Held seen (needs (pair_graph v b w c) (raised fl)) (rule_at v b w c) Blank t.order budget (slot_at tb)
    ran_is =
        subst (λ (s : ℕ → Slot). Ran Held seen (needs (pair_graph v b w c) (raised fl)) (rule_at v b w c) Blank t.order budget s) (sym run_is.slots)
        (run_ran Held seen (needs (pair_graph v b w c) (raised fl)) (rule_at v b w c) (needs_acyclic (pair_graph v b w c) sound (raised fl) t.circular) entered
        (λ u. refl) Blank budget (slot_at (replicate 4096 0)) (blank_zeros 4096))

    abbrev held : Bool → List ℕ → List ℕ → List ℕ → Value
    held second words bytes name = value_in (map (λ y. seen (slot_at tb y)) (roots_of second words bytes name)) 0

    -- a root's value is in the table where the list is covered
    worked : length t.order ≤ budget → (l : List ℕ) → Each (λ y. y ∈ (pair_graph v b w c).roots) l → Worth (needs (pair_graph v b w c) (raised fl)) (rule_at v b w c) l (value_in (map (λ y. seen (slot_at tb y)) l) 0)
    worked h l m = worth_of (slot_at tb) l (λ x k. ran_is.holds x (subst (λ (u : List ℕ). x ∈ u) (sym (take_all budget t.order h)) (entered_in entered x (m x k))))

    steps_are : steps ≡ min budget (length t.order)
    steps_are = run_is.counts ∙ ap (λ (n : ℕ). min budget n) (let q : length t.order - 0 ≡ length t.order = omega arith in q)

    -- a root's value by its mark
    worth_is : (l : List ℕ) (o : Option ℕ) → mark_of o ≡ marked l → worth_at tb o ≡ value_in (map (λ y. seen (slot_at tb y)) l) 0
    worth_is l o e = worth_marked tb l o (λ q. ap mark_of (sym q) ∙ e) (λ y q. ap mark_of (sym q) ∙ e)

    -- the roots' marks give the four values
    concluded : (p q i j : Option ℕ) → RootMarks v b w c (mark_of p) (mark_of q) (mark_of i) (mark_of j) → (n : ℕ) →
        Finished (is_true (worth_at tb p) && is_true (worth_at tb q)) (rank_of (worth_at tb i)) (rank_of (worth_at tb j)) n count ≡
        Finished (is_true (held false v b requirements) && is_true (held true w c requirements)) (rank_of (held false v b rank)) (rank_of (held true w c rank)) n count
    concluded p q i j m n = λ t. Finished
        (is_true (worth_is (roots_of false v b requirements) p m.first_required t) && is_true (worth_is (roots_of true w c requirements) q m.second_required t))
        (rank_of (worth_is (roots_of false v b rank) i m.first_ranked t)) (rank_of (worth_is (roots_of true w c rank) j m.second_ranked t)) n count

    -- THE MATCH
    pub match_of : {o : Outcome} (p q i j : Option ℕ) → length ls ≡ 2048 → RootMarks v b w c (mark_of p) (mark_of q) (mark_of i) (mark_of j) → (steps < len → o ≡ Unfinished steps count) →
        (len ≤ steps → o ≡ Finished (is_true (worth_at tb p) && is_true (worth_at tb q)) (rank_of (worth_at tb i)) (rank_of (worth_at tb j)) steps count) →
        Match v b w c budget tb ls o
    match_of {o} p q i j h m u e = record {
      circular = raised fl;
      flagged = t.circular;
      order = t.order;
      entered = entered;
      listed = t.written ∙ ap (λ (n : ℕ). map suc t.order ++ replicate (n - length t.order) 0) h;
      words = run_is.words;
      ran = ran_is;
      count = count;
      counted = counted_of t;
      finished = λ k.
          let a = steps_are in
          let z = t.length_is in
          let same : steps ≡ length t.order = omega arith in
          record {
            first_requirement = held false v b requirements;
            second_requirement = held true w c requirements;
            first_rank = held false v b rank;
            second_rank = held true w c rank;
            first_required = worked k (roots_of false v b requirements) (roots_first v b w c);
            second_required = worked k (roots_of true w c requirements) (roots_second v b w c);
            first_ranked = worked k (roots_of false v b rank) (ranks_first v b w c);
            second_ranked = worked k (roots_of true w c rank) (ranks_second v b w c);
            answers = e (omega arith) ∙ concluded p q i j m steps ∙ ap (λ (n : ℕ). Finished (is_true (held false v b requirements) && is_true (held true w c requirements)) (rank_of (held false v b rank)) (rank_of (held true w c rank)) n count) same;
          };
      unfinished = λ k.
          let a = steps_are in
          let z = t.length_is in
          let same : steps ≡ budget = omega arith in
          u (omega arith) ∙ ap (λ (n : ℕ). Unfinished n count) same;
    }
