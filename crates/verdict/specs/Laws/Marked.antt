-- The value of a definition by its root. Assumes nothing.
use Rattle.std.specs.Prelude.{ℕ, suc, ◌≡◌, refl, Option, Some, None, List, [], ◌∷◌, map}
use Rattle.std.proofs.Common.{arith, ap}
use Rattle.graph.specs.Transition.{marked}
use Rattle.values.specs.declared.Value.{Value}
use Rattle.values.specs.declared.Value.TheVariants.{Undefined}
use Rattle.slots.specs.Packed.{slot_at}
use Rattle.nodes.specs.Nodes.{value_in}
use Rattle.evaluation.specs.Evaluation.{seen}
use Rattle.verdict.specs.Inner.Worth.{worth_at}

-- a root's value
pub worth_none : (table : List ℕ) {o : Option ℕ} → o ≡ None → Undefined ≡ worth_at table o
worth_none table e = rw e refl

pub worth_some : (table : List ℕ) {o : Option ℕ} {y : ℕ} {u : Value} → o ≡ Some y → u ≡ seen (slot_at table y) → u ≡ worth_at table o
worth_some table e h = rw e h

-- a root's value, the root being the first of a list, if it has one
pub worth_marked : (table l : List ℕ) (o : Option ℕ) → (o ≡ None → 0 ≡ marked l) → ((y : ℕ) → o ≡ Some y → suc y ≡ marked l) →
    worth_at table o ≡ value_in (map (λ y. seen (slot_at table y)) l) 0
unfolding value_in
worth_marked table [] None h k = refl
worth_marked table [] (Some y) h k = absurd (let e = k y refl in let q : ⊥ = omega arith in q)
worth_marked table (x ∷ xs) None h k = absurd (let e = h refl in let q : ⊥ = omega arith in q)
worth_marked table (x ∷ xs) (Some y) h k = ap (λ (u : ℕ). seen (slot_at table u)) (let e = k y refl in let q : y ≡ x = omega arith in q)
