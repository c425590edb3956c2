-- The graph of two trees side by side, with no word of a stored ad in it: node x of the first ad has the number x, node x of the
-- second 1,024 + x. Assumes nothing.
use Rattle.std.specs.Prelude.{ℕ, ◌+◌, ◌-◌, Bool, true, false, cond, List, [], ◌∷◌, ◌++◌, map, get_or, ltb}
use Rattle.syntax.specs.Bounds.{max_nodes}
use Rattle.syntax.specs.Tree.{own, other, Ad, nodes}
use Rattle.graph.specs.Graph.{Graph}
use Rattle.links.specs.Pair.{inside, across, linked, numbered, both, requirements, rank, definition_at}
use Rattle.trees.specs.Nodes.{Node, leaf, refers, of_one, of_two, of_three, nodes_in}

-- what a node of the ad a leads to, a' being the other: 'An operator leads to all its operands, arms not taken included'; 'A
-- reference leads to its definition'; '`name` finds its definition in its own ad, `other.name` in the other'
unfoldable pub leads : Ad → Ad → Node → List (Bool × ℕ)
leads a a' (leaf l) = []
leads a a' (refers own w) = map inside (definition_at 0 w a)
leads a a' (refers other w) = map across (definition_at 0 w a')
leads a a' (of_one u i) = inside i ∷ []
leads a a' (of_two j i k) = inside i ∷ inside k ∷ []
leads a a' (of_three i j k) = inside i ∷ inside j ∷ inside k ∷ []

-- 'A node is a literal, a reference or an operator': whether it is a reference
unfoldable pub is_reference : Node → Bool
is_reference (leaf l) = false
is_reference (refers s w) = true
is_reference (of_one u i) = false
is_reference (of_two j i k) = false
is_reference (of_three i j k) = false

-- what node i of the ad a leads to; nothing where it has no such node: 'An operator leads to all its operands .. A reference leads to
-- its definition.'
unfoldable pub leads_from : Ad → Ad → ℕ → List (Bool × ℕ)
leads_from a a' i = get_or (map (leads a a') (nodes_in 0 a)) i []

-- whether node i of the ad a is a reference
unfoldable pub is_reference_at : Ad → ℕ → Bool
is_reference_at a i = get_or (map is_reference (nodes_in 0 a)) i false

-- the own node of a name's definition, numbered: one or none
abbrev pub root_of : Bool → List ℕ → Ad → List ℕ
root_of second name a = map (numbered second) (definition_at 0 name a)

-- THE GRAPH OF TWO TREES: 'The two sides are distinct even if the same ad is lent twice.' Its roots are 'the first ad's Requirements, the second's, the first's Rank, the second's, those that exist'
unfoldable pub tree_graph : Ad → Ad → Graph
tree_graph a a' = record {
  size = nodes a + nodes a';
  node = both (λ i. ltb i (nodes a)) (λ i. ltb i (nodes a'));
  slots = max_nodes + max_nodes;
  nth = λ i. cond (ltb i (nodes a)) i (max_nodes + (i - nodes a));
  links = both (λ i. map (linked false) (leads_from a a' i)) (λ i. map (linked true) (leads_from a' a i));
  ref = both (is_reference_at a) (is_reference_at a');
  roots = root_of false requirements a ++ (root_of true requirements a' ++ (root_of false rank a ++ root_of true rank a'));
}
