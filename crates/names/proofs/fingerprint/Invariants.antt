use Rattle.names.proofs.Folding.{Folding}
use Rattle.names.proofs.fingerprint.Given as goal

abbrev pub invariant-loop-b : goal.invariant-loop-b
invariant-loop-b l = Folding l.name l.h l.b-index
