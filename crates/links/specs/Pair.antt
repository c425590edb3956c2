-- The graph of two ads lent side by side: v and b are the words and bytes of the first, w and c those of the second. Node x of
-- the first ad has the number x, node x of the second 1,024 + x: 'The two sides are distinct even if the same ad is lent twice.'
-- Assumes nothing.
use Rattle.std.specs.Prelude.{◌≡◌, Bool, true, false, cond, not, ◌&&◌, List, [], ◌∷◌, ◌++◌, map, ℕ, ◌+◌, ◌-◌, ◌≤◌, length, ltb}
use Rattle.text.specs.Bytes.{bytes}
use Rattle.syntax.specs.Bounds.{max_nodes, max_definitions}
use Rattle.text.specs.Strings.{same_name}
use Rattle.syntax.specs.Tree.{Ad, size, nodes}
use Rattle.ad.specs.Layout.{Named, stored_words, stored_bytes}
use Rattle.graph.specs.Graph.{Graph}
use Rattle.ad.specs.Stored.{kind_at, node_count, is_own, is_other, is_reference, operands, name_at, find}

-- the number of node y of the first side, or of the second: 'The two sides are distinct even if the same ad is lent twice.'
abbrev pub numbered : Bool → ℕ → ℕ
numbered second y = cond second (max_nodes + y) y

-- how many slots the nodes of two ads have, and so entries the list: 'Every node of each side has its own slot, 1,024 a side.'; '2,048
-- values and a list of 2,048 entries'
abbrev pub pair_slots : ℕ
pair_slots = max_nodes + max_nodes

-- the number of the node that a link goes to, from the second side or the first. A link is said from its own side: whether it goes to
-- the other ad, and to which node there
abbrev pub linked : Bool → (Bool × ℕ) → ℕ
linked second l = numbered (cond l.0 (not second) second) l.1

-- a link in its own ad, to node y
abbrev pub inside : ℕ → Bool × ℕ
inside y = (false, y)

-- a link to the other ad, to node y there
abbrev pub across : ℕ → Bool × ℕ
across y = (true, y)

-- what node i of an ad leads to, w' and b' being the other ad: '`name` finds its definition in its own ad, `other.name` in the
-- other'; 'An operator leads to all its operands .. A reference leads to its definition.'
unfoldable pub links_from : List ℕ → List ℕ → List ℕ → List ℕ → ℕ → List (Bool × ℕ)
links_from w b w' b' i =
    cond (ltb i (node_count w))
    (cond (is_own (kind_at w i))
    (map inside (find w b (name_at w b i)))
    (cond (is_other (kind_at w i)) (map across (find w' b' (name_at w b i))) (map inside (operands w i))))
    []

-- whether node i of an ad is a reference
unfoldable pub refers_at : List ℕ → ℕ → Bool
refers_at w i = ltb i (node_count w) && is_reference (kind_at w i)

-- of a pair: what the first ad says of its node, or the second of its
unfoldable pub both : {A : Type 0} → (ℕ → A) → (ℕ → A) → ℕ → A
both p q x = cond (ltb x max_nodes) (p x) (q (x - max_nodes))

-- the roots that a name has in an ad, numbered: one or none
abbrev pub roots_of : Bool → List ℕ → List ℕ → List ℕ → List ℕ
roots_of second w b name = map (numbered second) (find w b name)

-- 'the first ad's Requirements, the second's, ..'
abbrev pub requirements : List ℕ
requirements = bytes "Requirements"

-- '.. the first's Rank, the second's'
abbrev pub rank : List ℕ
rank = bytes "Rank"

-- THE GRAPH OF TWO ADS: 'An operator leads to all its operands .. A reference leads to its definition.' Its roots are 'the first
-- ad's Requirements, the second's, the first's Rank, the second's, those that exist'
unfoldable pub pair_graph : (v b w c : List ℕ) → Graph
pair_graph v b w c = record {
  size = node_count v + node_count w;
  node = both (λ i. ltb i (node_count v)) (λ i. ltb i (node_count w));
  slots = pair_slots;
  nth = λ i. cond (ltb i (node_count v)) i (max_nodes + (i - node_count v));
  links = both (λ i. map (linked false) (links_from v b w c i)) (λ i. map (linked true) (links_from w c v b i));
  ref = both (refers_at v) (refers_at w);
  roots = roots_of false v b requirements ++ (roots_of true w c requirements ++ (roots_of false v b rank ++ roots_of true w c rank));
}

-- '`name` finds its definition': in the tree a, whose first node has the number n, the last node of the first definition whose name
-- matches; none where 'none found'
unfoldable pub definition_at : ℕ → List ℕ → Ad → List ℕ
definition_at n name [] = []
definition_at n name (d ∷ ds) =
    cond (same_name d.name name) ((n + size d.expression - 1) ∷ []) (definition_at (n + size d.expression) name ds)

-- ---- what is found before the traversal

-- the memory w and b holds the ad a, which is within the bounds
pub record StoredAd (w b : List ℕ) (a : Ad) : Type 0 where
  pub words : w ≡ stored_words a
  pub bytes_are : b ≡ stored_bytes a
  pub few_nodes : nodes a ≤ max_nodes
  pub few_definitions : length a ≤ max_definitions
  pub named : Named a
