use Rattle.std.proofs.Common.{◌≡◌, ◌&&◌, length}
use Rattle.text.specs.Strings.{same_name}
use Rattle.text.proofs.Compare.{same_from}
use Rattle.text.proofs.same_letters.Given as goal

abbrev pub invariant-loop-x : goal.invariant-loop-x
invariant-loop-x l =
    (goal.iterator-loop-x).can_next l.x-iterator × (goal.iterator-loop-x).is_finite l.x-iterator
    × (same_name l.a l.b ≡ (l.same && same_from l.a l.b (length l.yielded)))
