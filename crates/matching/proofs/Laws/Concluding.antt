-- The value of a definition that the table holds. Assumes nothing.
use Rattle.std.specs.Prelude.{ℕ, ◌≡◌, refl, ◌⊎◌, Bool, List, [], ◌∷◌, ◌++◌, map}
use Rattle.std.proofs.Common.{sym, ap, ◌∙◌, subst, inl, inr}
use Rattle.std.proofs.Math.Path.{fun_ext}
use Rattle.std.proofs.Math.Bool.{false, true}
use Rattle.graph.specs.Members.{◌∈◌, here, Each}
use Rattle.graph.proofs.Laws.Members.{mem_left, mem_right, mem_append}
use Rattle.links.specs.Pair.{roots_of, requirements, rank, pair_graph}
use Rattle.values.specs.declared.Value.{Value}
use Rattle.slots.specs.declared.Slot.{Slot}
use Rattle.slots.specs.declared.Slot.TheVariants.{Held}
use Rattle.nodes.specs.Nodes.{value_in}
use Rattle.graph.specs.Graph.{Graph, Flags}
use Rattle.valuation.specs.Gives.{Gives}
use Rattle.valuation.proofs.Laws.Values.{gives_unique}
use Rattle.evaluation.specs.Evaluation.{seen}
use Rattle.matching.specs.Matching.{Worth, absent, present}

-- what the table holds for a root that was worked out is the value of its definition
pub worth_of : {need : ℕ → List ℕ} {rule : ℕ → List Value → Value} (t : ℕ → Slot) (l : List ℕ) → Each (λ x. (v : Value) × Gives need rule x v × (t x ≡ Held v)) l →
    Worth need rule l (value_in (map (λ y. seen (t y)) l) 0)
unfolding value_in
worth_of t [] h = absent
worth_of {need} {rule} t (x ∷ xs) h = go (h x (here refl))
  where
    go : (v : Value) × Gives need rule x v × (t x ≡ Held v) → Worth need rule (x ∷ xs) (seen (t x))
    go (v, g, e) = present (subst (λ (u : Value). Gives need rule x u) (sym (ap seen e)) g)

-- ---- one of each

-- the circular references are the same
pub flags_same : (G : Graph) {c d : ℕ → Bool} → Flags G c → Flags G d → c ≡ d
flags_same G {c} {d} p q = fun_ext (λ x. go x (c x) (d x) refl refl)
  where
    go : (x : ℕ) (a b : Bool) → c x ≡ a → d x ≡ b → a ≡ b
    go x true true e f = refl
    go x false false e f = refl
    go x true false e f = sym ((q x).1 ((p x).0 e)) ∙ f
    go x false true e f = sym e ∙ (p x).1 ((q x).0 f)

-- a definition has one value
pub worth_unique : {need : ℕ → List ℕ} {rule : ℕ → List Value → Value} {l : List ℕ} {u v : Value} → Worth need rule l u → Worth need rule l v → u ≡ v
worth_unique absent absent = refl
worth_unique {need} {rule} (present g) (present h) = gives_unique need rule g h

-- ---- the four roots are entered

module _ (v b w c : List ℕ) where
  pub roots_first : Each (λ y. y ∈ (pair_graph v b w c).roots) (roots_of false v b requirements)
  unfolding pair_graph
  roots_first y m = mem_left _ m

  pub roots_second : Each (λ y. y ∈ (pair_graph v b w c).roots) (roots_of true w c requirements)
  unfolding pair_graph
  roots_second y m = mem_right (roots_of false v b requirements) (mem_left _ m)

  pub ranks_first : Each (λ y. y ∈ (pair_graph v b w c).roots) (roots_of false v b rank)
  unfolding pair_graph
  ranks_first y m = mem_right (roots_of false v b requirements) (mem_right (roots_of true w c requirements) (mem_left _ m))

  pub ranks_second : Each (λ y. y ∈ (pair_graph v b w c).roots) (roots_of true w c rank)
  unfolding pair_graph
  ranks_second y m = mem_right (roots_of false v b requirements) (mem_right (roots_of true w c requirements) (mem_right (roots_of false v b rank) m))

  pub roots_from_lem : (P : ℕ → Type 0) → Each P (roots_of false v b requirements) → Each P (roots_of true w c requirements) → Each P (roots_of false v b rank) → Each P (roots_of true w c rank) →
      Each P (pair_graph v b w c).roots
  unfolding pair_graph
  roots_from_lem P h i j k y m = one (mem_append (roots_of false v b requirements) m)
    where
      three : (y ∈ roots_of false v b rank) ⊎ (y ∈ roots_of true w c rank) → P y
      three (inl n) = j y n
      three (inr n) = k y n

      two : (y ∈ roots_of true w c requirements) ⊎ (y ∈ (roots_of false v b rank ++ roots_of true w c rank)) → P y
      two (inl n) = i y n
      two (inr n) = three (mem_append (roots_of false v b rank) n)

      one : (y ∈ roots_of false v b requirements) ⊎ (y ∈ (roots_of true w c requirements ++ (roots_of false v b rank ++ roots_of true w c rank))) → P y
      one (inl n) = h y n
      one (inr n) = two (mem_append (roots_of true w c requirements) n)
