use Rattle.std.proofs.Common.{arith}
use Rattle.links.specs.Pair.{pair_graph}
use Rattle.links.specs.Laws.Numbering.{nodes_fit}
use Rattle.links.proofs.pair.AdPair.size.Goals as goal

pub overflow_add-result : goal.overflow_add-result
overflow_add-result c = omega (arith, nodes_fit c.args.self.first.measured, nodes_fit c.args.self.second.measured)

pub returns : goal.returns
unfolding pair_graph
returns c = omega (arith, c.args.self.first.measured.nodes_are, c.args.self.second.measured.nodes_are)
