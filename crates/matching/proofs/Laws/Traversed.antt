-- What a traversal of two ads comes to, as a match has it. Assumes nothing.
use Rattle.std.specs.Prelude.{ℕ, Bool, List, []}
use Rattle.std.proofs.Math.Path.{sym}
use Rattle.std.proofs.Common.{ap, subst}
use Rattle.graph.specs.Members.{raised}
use Rattle.graph.specs.Graph.{Graph, Flags, needs, Entered}
use Rattle.graph.specs.Transition.{State}
use Rattle.marks.specs.Inner.Memory.{view}
use Rattle.dependency.specs.Traversal.{Traversed}
use Rattle.matching.specs.Matching.{Counted}
use Rattle.matching.proofs.Laws.Concluding.{flags_same}

module _ {G : Graph} {count len : ℕ} {ta fl ls : List ℕ} (t : Traversed G count len ta fl ls) where
  -- the list is that of the flags
  pub entered_of : Entered (needs G (raised fl)) [] G.roots t.order
  entered_of = go t.is_list
    where
      go : (d : ℕ → Bool) × Flags G d × Entered (needs G d) [] G.roots t.order → Entered (needs G (raised fl)) [] G.roots t.order
      go (d, k, e) = subst (λ (h : ℕ → Bool). Entered (needs G h) [] G.roots t.order) (flags_same G k t.circular) e

  -- what it counted
  pub counted_of : Counted G count
  unfolding view
  counted_of = record { ends = sym (ap (λ (s : State). s.place) t.ends); exact = t.exact; linear = t.linear; small = t.small }
