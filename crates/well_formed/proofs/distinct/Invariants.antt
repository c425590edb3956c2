use Rattle.std.proofs.Common.{◌≡◌, ◌-◌}
use Rattle.well_formed.specs.Inner.Decode.{new_from}
use Rattle.well_formed.proofs.distinct.Given as goal

abbrev pub invariant-loop-j : goal.invariant-loop-j
invariant-loop-j l = new_from l.ad.words.now l.ad.bytes.now l.j (l.d - l.j) ≡ new_from l.ad.words.now l.ad.bytes.now 0 l.d
