use Rattle.std.proofs.Common.{◌-◌, ◌*◌}
use Rattle.links.specs.Graphs.{graph_of}
use Rattle.dependency.proofs.Turns.{Turn}
use Rattle.dependency.proofs.run.Given as goal

abbrev pub invariant-loop-pair : goal.invariant-loop-pair
invariant-loop-pair l = Turn l.pair.ads l.roots l.n l.count l.s.place l.s.len l.target l.marks l.flag l.list

abbrev pub decreases-loop-pair : goal.decreases-loop-pair
decreases-loop-pair l = 16 * (graph_of l.pair.ads).size - l.count
