use Rattle.running.proofs.Loop.{Turn}
use Rattle.running.proofs.run.Given as goal

abbrev pub invariant-loop-n : goal.invariant-loop-n
invariant-loop-n l = Turn l.marked l.list l.k l.initial.table l.n l.table
