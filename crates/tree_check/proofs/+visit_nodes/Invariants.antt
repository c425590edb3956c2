use Prim.Native.Nat.{◌-◌}
use Rattle.tree_check.proofs.+visit_nodes.Given as goal

abbrev pub decreases-visit_nodes : goal.decreases-visit_nodes
decreases-visit_nodes l = l.i - l.s
