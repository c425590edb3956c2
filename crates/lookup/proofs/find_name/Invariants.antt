use Rattle.std.proofs.Common.{◌≡◌, ◌-◌}
use Rattle.ad.specs.Stored.{find, find_from}
use Rattle.lookup.proofs.find_name.Given as goal

abbrev pub invariant-loop-j : goal.invariant-loop-j
invariant-loop-j l =
    find l.side.ad.words.now l.side.ad.bytes.now l.name ≡ find_from l.side.ad.words.now l.side.ad.bytes.now l.name l.j (l.side.counts.definitions - l.j)
