use Rattle.std.proofs.Common.{refl}
use Rattle.admission.specs.Laws.Wells.{well_measured, malformed}
use Rattle.admission.proofs.formed.Goals as goal

pub invariant_of-result : goal.invariant_of-result
invariant_of-result c = record { measured = (well_measured c.args.words.now c.args.bytes.now c.check.ensures c.in-Some.is).1 }

pub returns-in-None : goal.returns-in-None
returns-in-None c = (malformed c.args.words.now c.args.bytes.now c.check.ensures c.in-None.is, refl)
