use Prim.Native.Nat.{◌-◌, ◌≤◌}
use mathlib.Core.Path.{◌≡◌}
use lib.ListN.{length, take}
use Rattle.lines.specs.Inner.Feeds.{feeds_in}
use Rattle.lines.proofs.feeds.Given as goal

abbrev pub invariant-loop-j : goal.invariant-loop-j
invariant-loop-j l = (l.j ≤ length l.block) × (l.n ≤ l.j) × (l.n ≡ feeds_in (take l.j l.block))

abbrev pub decreases-loop-j : goal.decreases-loop-j
decreases-loop-j l = length l.block - l.j
