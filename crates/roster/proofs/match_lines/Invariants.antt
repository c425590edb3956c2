use Prim.Native.Nat.{◌-◌}
use lib.ListN.{length}
use Rattle.roster.proofs.Turning.{Turning}
use Rattle.roster.proofs.match_lines.Given as goal

abbrev pub invariant-loop-at : goal.invariant-loop-at
invariant-loop-at l =
    Turning l.job.ad.words.now l.job.ad.bytes.now l.text l.words l.bytes l.table l.list l.outcomes l.report l.at

abbrev pub decreases-loop-at : goal.decreases-loop-at
decreases-loop-at l =
    length l.text - l.at
