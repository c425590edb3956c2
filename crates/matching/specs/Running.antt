-- What a run from any entry comes to. Assumes nothing.
use Prim.Native.Nat.{ℕ}
use Rattle.std.specs.Prelude.{◌≡◌, Bool, drop}
use mathlib.Core.List.{List}
use Rattle.std.proofs.Math.ListN.{take}
use Rattle.graph.specs.Members.{◌∈◌}
use Rattle.graph.specs.Graph.{needs}
use Rattle.links.specs.Pair.{pair_graph}
use Rattle.values.specs.declared.Value.{Value}
use Rattle.slots.specs.declared.Slot.TheVariants.{Held}
use Rattle.slots.specs.Packed.{slot_at}
use Rattle.valuation.specs.Gives.{Gives}
use Rattle.valuation.specs.Run.{Settled}
use Rattle.evaluation.specs.Evaluation.{rule_at, seen, RunTo}

-- the slot of the node x holds its value: 'A node's value is what the rules make of the values of its needs'
abbrev pub HoldsValue : (need : ℕ → List ℕ) → (rule : ℕ → List Value → Value) → List ℕ → ℕ → Type 0
HoldsValue need rule table x = (u : Value) × Gives need rule x u × (slot_at table x ≡ Held u)

-- what a run over the list comes to from entry k on, `before` being any table: 'The run starts at any entry'
pub record RunOf (v b w c : List ℕ) (circular : ℕ → Bool) (order : List ℕ) (k budget : ℕ) (before after : List ℕ) (steps : ℕ) : Type 0 where
  -- 'it makes one step for each further entry in the list's order, over the table as the step before left it, until the budget or the
  -- list ends, and counts each'
  pub run : RunTo (needs (pair_graph v b w c) circular) (rule_at v b w c) order k budget before after steps
  -- 'whatever values, right or wrong, the slots of the first k entries hold, and whatever the others hold'; 'This is one claim about the
  -- whole run, and not one for each step.'
  pub settled : Settled Held seen (needs (pair_graph v b w c) circular) (rule_at v b w c) order k budget (slot_at before) (slot_at after)
  -- where the slots of the first k entries hold the right values, so do those of the further entries worked out
  pub right : ((x : ℕ) → x ∈ take k order → HoldsValue (needs (pair_graph v b w c) circular) (rule_at v b w c) before x) →
      (x : ℕ) → x ∈ take budget (drop k order) → HoldsValue (needs (pair_graph v b w c) circular) (rule_at v b w c) after x
