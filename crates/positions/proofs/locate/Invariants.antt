use Rattle.positions.proofs.Lines.{Reaches}
use Rattle.positions.proofs.locate.Given as goal

abbrev pub invariant-loop-b : goal.invariant-loop-b
invariant-loop-b l = Reaches l.text l.end l.b-index l.p.line l.p.column
