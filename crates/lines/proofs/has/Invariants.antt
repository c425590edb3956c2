use Prim.Native.Nat.{ℕ, ◌-◌, ◌≤◌, ◌<◌}
use mathlib.Core.Path.{◌≡◌}
use mathlib.Core.Bool.{false}
use lib.ListN.{length, get_or}
use Rattle.lines.proofs.has.Given as goal

abbrev pub invariant-loop-j : goal.invariant-loop-j
invariant-loop-j l =
    (l.j ≤ length l.block) × (l.found ≡ false → (k : ℕ) → k < l.j → get_or l.block k 0 ≡ l.byte → ⊥)

abbrev pub decreases-loop-j : goal.decreases-loop-j
decreases-loop-j l = length l.block - l.j
