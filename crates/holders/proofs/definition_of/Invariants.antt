use Rattle.holders.proofs.Holders.{Searched}
use Rattle.holders.proofs.definition_of.Given as goal

abbrev pub invariant-loop-j : goal.invariant-loop-j
invariant-loop-j l = Searched l.words l.node 256 l.j
