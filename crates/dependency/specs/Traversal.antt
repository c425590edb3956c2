-- What the traversal asks and comes to. Assumes nothing.
use Rattle.std.specs.Prelude.{◌≡◌, true, List, ◌++◌, map, ℕ, suc, ◌-◌, ◌*◌, ◌≤◌, ◌<◌, length, get_or, replicate}
use Rattle.graph.specs.Members.{raised}
use Rattle.graph.specs.Graph.{Graph, Flags, IsList}
use Rattle.graph.specs.Transition.{searches, marked, transitions, first, Ended}
use Rattle.graph.specs.declared.Place.TheVariants.{Between}
use Rattle.marks.specs.Inner.Memory.{view}

-- What the traversal of a graph comes to: 'its end is what these moves, exactly as many as it counts, make one after another of
-- its first place, clear marks and an empty list. From clear marks it ends with exactly the circular references and the list, its
-- result carrying a count of at most sixteen times the square of the nodes of both ads'
pub record Traversed (G : Graph) (count len : ℕ) (target flag list : List ℕ) : Type 0 where
  -- the marks that no caller sees
  pub marks : List ℕ
  pub ends : view (Between (searches G)) len target marks flag list ≡ transitions G count (first G)
  -- it was not over at any smaller count
  pub exact : (j : ℕ) → j < count → ¬ (Ended G (transitions G j (first G)))
  -- sixteen times the nodes are enough, loops included
  pub linear : count ≤ 16 * G.size
  pub small : count ≤ 16 * (G.size * G.size)
  -- each reference's target is recorded: one more than its definition's root, 0 where there is none
  pub resolved : (x : ℕ) → G.ref x ≡ true → get_or target x 0 ≡ marked (G.links x)
  pub circular : Flags G (raised flag)
  -- a flag is 1 or 0
  pub bits : (x : ℕ) → get_or flag x 0 ≤ 1
  pub order : List ℕ
  pub is_list : IsList G order
  pub length_is : len ≡ length order
  -- the whole list, each entry one more than its node, then zeros
  pub written : list ≡ map suc order ++ replicate (length list - length order) 0
