use Rattle.links.specs.Inner.Filling.{Filled}
use Rattle.lookup.proofs.fill.Given as goal

abbrev pub invariant-loop-j : goal.invariant-loop-j
invariant-loop-j l = Filled l.second l.side.ad.words.now l.side.ad.bytes.now l.j l.initial.prints l.prints
