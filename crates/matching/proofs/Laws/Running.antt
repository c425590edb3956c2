-- THE RUN FROM ANY ENTRY, over any table and with any budget, in terms of document 01's own needs and list. Assumes nothing.
use Prim.Native.Nat.{ℕ, suc, ◌-◌}
use Rattle.std.proofs.Common.{arith, ◌∙◌, subst}
use Rattle.std.specs.Prelude.{◌≡◌, refl, Bool, drop}
use Rattle.std.proofs.Math.Path.{sym, ap, fun_ext}
use mathlib.Core.List.{List, [], ◌∷◌, ◌++◌, map}
use Rattle.std.proofs.Math.ListN.{length, take, replicate}
use Rattle.std.proofs.lemmas.List.{length-map}
use Rattle.std.proofs.Math.Seq.{take-append_seam}
use Rattle.graph.specs.Members.{◌∈◌, raised}
use Rattle.graph.proofs.Laws.Members.{mem_right}
use Rattle.graph.specs.Graph.{Graph, Sound, Path⁺, Flags, needs, Entered}
use Rattle.graph.proofs.Laws.Traversal.{needs_acyclic, list_unique}
use Rattle.links.specs.Pair.{pair_graph}
use Rattle.links.specs.Inner.Asked.{Formed}
use Rattle.links.specs.Laws.Soundness.{pair_sound}
use Rattle.dependency.specs.Traversal.{Traversed}
use Rattle.dependency.specs.Laws.Use.{needs_led}
use Rattle.values.specs.declared.Value.{Value}
use Rattle.slots.specs.declared.Slot.{Slot}
use Rattle.slots.specs.declared.Slot.TheVariants.{Held}
use Rattle.slots.specs.Packed.{slot_at}
use Rattle.valuation.specs.Gives.{Gives}
use Rattle.valuation.specs.Run.{Settled}
use Rattle.valuation.proofs.Laws.Order.{Ordered, onil, ordered_take, ordered_drop, entered_ordered}
use Rattle.valuation.proofs.Laws.Runs.{run_settled, steps_right}
use Rattle.evaluation.specs.Evaluation.{rule_at, seen, needed, entries, RunTo}
use Rattle.matching.proofs.Laws.Concluding.{flags_same}
use Rattle.matching.specs.Running.{RunOf}

-- ---- the marks are the needs, the entries the list

less_one : (l : List ℕ) → map (λ (e : ℕ). e - 1) (map suc l) ≡ l
less_one [] = refl
less_one (x ∷ l) = ap (λ (u : List ℕ). (suc x - 1) ∷ u) (less_one l) ∙ ap (λ (y : ℕ). y ∷ l) (let q : suc x - 1 ≡ x = omega arith in q)

module _ {G : Graph} {count len : ℕ} {ta fl ls : List ℕ} (t : Traversed G count len ta fl ls) where
  needed_are : Sound G → needed G ta fl ≡ needs G (raised fl)
  unfolding needed
  needed_are s = fun_ext (λ x. sym (needs_led s t x))

  entries_are : entries len ls ≡ t.order
  unfolding entries
  entries_are =
      ap (λ (l : List ℕ). map (λ (e : ℕ). e - 1) l)
      (ap (λ (l : List ℕ). take len l) t.written
      ∙ ap (λ (n : ℕ). take n (map suc t.order ++ replicate (length ls - length t.order) 0)) (t.length_is ∙ sym (length-map t.order suc))
      ∙ take-append_seam (map suc t.order) (replicate (length ls - length t.order) 0))
      ∙ less_one t.order

module _ (v b w c : List ℕ) (f : Formed v) (g : Formed w) (circular : ℕ → Bool) (flagged : Flags (pair_graph v b w c) circular) (order : List ℕ)
    (entered : Entered (needs (pair_graph v b w c) circular) [] (pair_graph v b w c).roots order) (k budget : ℕ) where
  abbrev need : ℕ → List ℕ
  need = needs (pair_graph v b w c) circular

  sound : Sound (pair_graph v b w c)
  sound = pair_sound v b w c f g

  acyclic : (x : ℕ) → ¬ (Path⁺ need x x)
  acyclic = needs_acyclic (pair_graph v b w c) sound circular flagged

  part : Ordered need (take k order) (take budget (drop k order))
  part = ordered_take budget (ordered_drop k (entered_ordered need acyclic entered onil))

  -- a run by the needs and the list
  run_of : {before after : List ℕ} {steps : ℕ} → RunTo need (rule_at v b w c) order k budget before after steps → RunOf v b w c circular order k budget before after steps
  run_of {before} {after} r = record {
    run = r;
    settled = subst (λ (s : ℕ → Slot). Settled Held seen need (rule_at v b w c) order k budget (slot_at before) s) (sym r.slots) (run_settled Held seen need (rule_at v b w c) acyclic entered k budget (slot_at before));
    right = λ h. subst (λ (s : ℕ → Slot). (x : ℕ) → x ∈ take budget (drop k order) → (u : Value) × Gives need (rule_at v b w c) x u × (s x ≡ Held u)) (sym r.slots)
        (λ x m. steps_right Held seen need (rule_at v b w c) (λ u. refl) part (slot_at before) h x (mem_right (take k order) m));
  }

-- THE RUN: after a traversal, the run by its marks and its list is the run by document 01's needs and list, from any entry k, over any
-- table and with any budget
pub run_from : {v b w c : List ℕ} {count len : ℕ} {ta fl ls : List ℕ} {circular : ℕ → Bool} {order : List ℕ} {k budget steps : ℕ} {before after : List ℕ} → Formed v → Formed w →
    Traversed (pair_graph v b w c) count len ta fl ls → Flags (pair_graph v b w c) circular → Entered (needs (pair_graph v b w c) circular) [] (pair_graph v b w c).roots order →
    RunTo (needed (pair_graph v b w c) ta fl) (rule_at v b w c) (entries len ls) k budget before after steps → RunOf v b w c circular order k budget before after steps
run_from {v} {b} {w} {c} {len = len} {ta = ta} {fl = fl} {ls = ls} {circular = circular} {order} {k} {budget} {steps} {before} {after} f g t flagged entered r =
    let G : Graph = pair_graph v b w c in
    let n : needed G ta fl ≡ needs G circular = needed_are t (pair_sound v b w c f g) ∙ ap (needs G) (flags_same G t.circular flagged) in
    let l : entries len ls ≡ order = entries_are t ∙ list_unique G t.order order t.is_list (circular, flagged, entered) in
    run_of v b w c f g circular flagged order entered k budget
    (subst (λ (x : List ℕ). RunTo (needs G circular) (rule_at v b w c) x k budget before after steps) l
    (subst (λ (m : ℕ → List ℕ). RunTo m (rule_at v b w c) (entries len ls) k budget before after steps) n r))
