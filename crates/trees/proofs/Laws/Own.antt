-- The own node of an expression: what it leads to, whether it is a reference, and its rule. Assumes nothing.
use Rattle.std.specs.Prelude.{ℕ, ◌+◌, ◌-◌, ◌≤◌, ◌<◌, ◌≡◌, refl, Bool, not, length}
use Rattle.std.proofs.Common.{arith, ◌∙◌, subst, length-append}
use Rattle.std.proofs.Math.Path.{ap}
use Rattle.std.proofs.Math.Bool.{true, false, cond}
use mathlib.Core.List.{List, [], ◌∷◌, map}
use Rattle.std.proofs.lemmas.List.{length-replicate}
use Rattle.std.proofs.Math.Dec.{ltb}
use borrow.Author.Tests.{lt-ltb}
use Rattle.admission.specs.Laws.Wells.{stored_of}
use Rattle.links.specs.Laws.Numbering.{inside_numbers, across_numbers}
use Rattle.text.specs.Strings.{same_name}
use Rattle.syntax.specs.Bounds.{max_nodes}
use Rattle.syntax.specs.Tree as tree
use Rattle.syntax.specs.Tree.{undefined, Scope, other, Expr, reference, Ad, size, nodes}
use Rattle.syntax.specs.Grammar.{defined}
use Rattle.ad.specs.Layout.{ad_bytes, ad_bytes_room, stored_words, stored_bytes}
use Rattle.links.specs.Pair.{linked, numbered, both, definition_at}
use Rattle.links.specs.Laws.Soundness.{both_low, both_high}
use Rattle.well_formed.specs.WellFormed.{Holds}
use Rattle.well_formed.specs.Laws.Bounds.{bounded}
use Rattle.values.specs.declared.Value.{Value}
use Rattle.nodes.specs.declared.Node as kind
use Rattle.nodes.specs.Nodes.{rule_of}
use Rattle.evaluation.specs.Evaluation.{node_from, rule_at}
use Rattle.trees.specs.Nodes.{leaf, refers, last_of, nodes_in, Says}
use Rattle.trees.specs.Links.{leads, is_reference, leads_from, is_reference_at, tree_graph}
use Rattle.trees.specs.Values.{ad_of, side_of, Finds, found_first, found_later, Defines, defines_first, defines_later, Part}
use Rattle.trees.proofs.Laws.Stored.{length_in, stored_node}
use Rattle.trees.proofs.Laws.Graph.{map_at}
use Rattle.trees.proofs.Laws.Parts.{top_of, top}

-- ---- names

-- a name finds no definition, or one, whose own node it leads to
pub data Looked (name : List ℕ) (n : ℕ) (a : Ad) : Type 0 where
  nowhere : definition_at n name a ≡ [] → defined name a ≡ false → Looked name n a
  somewhere : (m : ℕ) (e : Expr) → definition_at n name a ≡ last_of m e ∷ [] → Finds name n a m e → Looked name n a

pub look : (name : List ℕ) (n : ℕ) (a : Ad) → Looked name n a
unfolding definition_at defined
look name n [] = nowhere refl refl
look name n (d ∷ ds) = go (same_name d.name name) refl (look name (n + size d.expression) ds)
  where
    further : same_name d.name name ≡ false → Looked name (n + size d.expression) ds → Looked name n (d ∷ ds)
    further e (nowhere p q) = nowhere (rw e p) (rw e q)
    further e (somewhere m x p f) = somewhere m x (rw e p) (found_later e f)

    go : (t : Bool) → same_name d.name name ≡ t → Looked name (n + size d.expression) ds → Looked name n (d ∷ ds)
    go true e l = somewhere n d.expression (rw e refl) (found_first e)
    go false e l = further e l

pub finds_defines : {name : List ℕ} {k n : ℕ} {a : Ad} {e : Expr} → Finds name k a n e → Defines k a n e
finds_defines (found_first h) = defines_first
finds_defines (found_later h f) = defines_later (finds_defines f)

-- ---- the two sides

pub own_leaf : (n : ℕ) (s : Scope) (name : List ℕ) → last_of n (reference s name) ≡ n
unfolding size
own_leaf n s name = let q : n + 1 - 1 ≡ n = omega arith in q

both_side : {A : Type 0} (p q : ℕ → A) (second : Bool) (i : ℕ) → i < max_nodes → both p q (numbered second i) ≡ cond second (q i) (p i)
both_side p q true i h = both_high p q (max_nodes + i) (omega arith) ∙ ap q (let e : (max_nodes + i) - max_nodes ≡ i = omega arith in e)
both_side p q false i h = both_low p q i h

pub stored_long : (a : Ad) → length (ad_bytes a) ≤ ad_bytes_room → length (stored_bytes a) ≡ ad_bytes_room
unfolding stored_bytes
stored_long a h = simp (length-append, length-replicate) (omega arith)

-- the rule of each node of two stored ads
abbrev pub rule_in : Ad → Ad → ℕ → List Value → Value
rule_in a a' = rule_at (stored_words a) (stored_bytes a) (stored_words a') (stored_bytes a')

module _ {a a' : Ad} (h : Holds (stored_words a) (stored_bytes a) a) (h' : Holds (stored_words a') (stored_bytes a') a') where
  pub holds : (second : Bool) → Holds (stored_words (ad_of a a' second)) (stored_bytes (ad_of a a' second)) (ad_of a a' second)
  holds true = h'
  holds false = h

  links_at : (second : Bool) (i : ℕ) → i < max_nodes → (tree_graph a a').links (numbered second i) ≡ map (linked second) (leads_from (ad_of a a' second) (ad_of a a' (not second)) i)
  unfolding tree_graph
  links_at true i k = both_side _ _ true i k
  links_at false i k = both_side _ _ false i k

  refs_at : (second : Bool) (i : ℕ) → i < max_nodes → (tree_graph a a').ref (numbered second i) ≡ is_reference_at (ad_of a a' second) i
  unfolding tree_graph
  refs_at true i k = both_side _ _ true i k
  refs_at false i k = both_side _ _ false i k

  rules_at : (second : Bool) (i : ℕ) (us : List Value) → i < max_nodes → rule_in a a' (numbered second i) us ≡ rule_of (stored_bytes a) (stored_bytes a') (node_from second (stored_words (ad_of a a' second)) i) us
  unfolding rule_at
  rules_at true i us k = ap (λ (n : kind.Node). rule_of (stored_bytes a) (stored_bytes a') n us) (both_side (node_from false (stored_words a)) (node_from true (stored_words a')) true i k)
  rules_at false i us k = ap (λ (n : kind.Node). rule_of (stored_bytes a) (stored_bytes a') n us) (both_side (node_from false (stored_words a)) (node_from true (stored_words a')) false i k)

  -- ---- of an expression's own node

  module _ (second : Bool) {n : ℕ} {e : Expr} (p : Part (ad_of a a' second) n e) where
    pub low : last_of n e < max_nodes
    low = let t = (top p).stands in let q = (bounded (holds second)).within.few_nodes in omega arith

    pub said : Says (stored_words (ad_of a a' second)) (stored_bytes (ad_of a a' second)) (last_of n e) (top_of n e)
    said = subst (Says (stored_words (ad_of a a' second)) (stored_bytes (ad_of a a' second)) (last_of n e)) (top p).is (stored_node (stored_of (holds second)) (last_of n e) (top p).stands)

    pub links_own : (tree_graph a a').links (numbered second (last_of n e)) ≡ map (linked second) (leads (ad_of a a' second) (ad_of a a' (not second)) (top_of n e))
    unfolding leads_from
    links_own =
        links_at second (last_of n e) low
        ∙ ap (map (linked second)) (map_at (leads (ad_of a a' second) (ad_of a a' (not second))) (nodes_in 0 (ad_of a a' second)) (last_of n e) (leaf undefined) [] (let q = length_in 0 (ad_of a a' second) in let t = (top p).stands in omega arith)
        ∙ ap (leads (ad_of a a' second) (ad_of a a' (not second))) (top p).is)

    pub ref_own : (tree_graph a a').ref (numbered second (last_of n e)) ≡ is_reference (top_of n e)
    unfolding is_reference_at
    ref_own =
        refs_at second (last_of n e) low
        ∙ map_at is_reference (nodes_in 0 (ad_of a a' second)) (last_of n e) (leaf undefined) false (let q = length_in 0 (ad_of a a' second) in let t = (top p).stands in omega arith)
        ∙ ap is_reference (top p).is

    -- it is a node of the pair
    pub node_own : (tree_graph a a').node (numbered second (last_of n e)) ≡ true
    unfolding tree_graph
    node_own = both_side (λ i. ltb i (nodes a)) (λ i. ltb i (nodes a')) second (last_of n e) low ∙ go second (top p).stands
      where
        go : (s : Bool) → last_of n e < nodes (ad_of a a' s) → cond s (ltb (last_of n e) (nodes a')) (ltb (last_of n e) (nodes a)) ≡ true
        go true k = lt-ltb _ _ k
        go false k = lt-ltb _ _ k

    pub rule_own : {k : kind.Node} (us : List Value) → node_from second (stored_words (ad_of a a' second)) (last_of n e) ≡ k → rule_in a a' (numbered second (last_of n e)) us ≡ rule_of (stored_bytes a) (stored_bytes a') k us
    rule_own us q = rules_at second (last_of n e) us low ∙ ap (λ (m : kind.Node). rule_of (stored_bytes a) (stored_bytes a') m us) q

  -- what a reference leads to: the definition that its name finds
  pub leads_name : (second : Bool) (s : Scope) (name : List ℕ) → map (linked second) (leads (ad_of a a' second) (ad_of a a' (not second)) (refers s name)) ≡
      map (numbered (side_of second s)) (definition_at 0 name (ad_of a a' (side_of second s)))
  unfolding leads
  leads_name second tree.own name = inside_numbers second (definition_at 0 name (ad_of a a' second))
  leads_name second other name = across_numbers second (definition_at 0 name (ad_of a a' (not second)))
