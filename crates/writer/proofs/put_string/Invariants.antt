use mathlib.Core.Path.{◌≡◌}
use Prim.Native.Nat.{◌+◌, ◌-◌, ◌≤◌}
use lib.ListN.{length, drop}
use lib.Seq.{sets}
use Rattle.syntax.specs.Print.{escaped_all}
use Rattle.writer.proofs.put_string.Given as goal

abbrev pub invariant-loop-i : goal.invariant-loop-i
invariant-loop-i l =
    (l.i ≤ length l.s) × (l.m + length (escaped_all (drop l.i l.s)) ≡ l.at + 1 + length (escaped_all l.s)) ×
    (length l.out ≡ length l.initial.out) × (sets l.out l.m (escaped_all (drop l.i l.s)) ≡ sets l.initial.out (l.at + 1)
    (escaped_all l.s))

abbrev pub decreases-loop-i : goal.decreases-loop-i
decreases-loop-i l = length l.s - l.i
