use Rattle.std.proofs.Common.{arith}
use Rattle.links.specs.Laws.Numbering.{definitions_fit}
use Rattle.lookup.proofs.Reading.{prints_both}
use Rattle.lookup.proofs.fingerprints.Goals as goal

pub returns : goal.returns
returns c =
    prints_both c.args.ads.first.measured.definitions_are c.args.ads.second.measured.definitions_are
    (definitions_fit c.args.ads.first.measured) (omega arith) c.fill.ensures c.fill-2.ensures
