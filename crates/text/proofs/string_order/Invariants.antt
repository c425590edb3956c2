use Rattle.std.proofs.Common.{◌≡◌, length, drop}
use Rattle.text.specs.Strings.{bytes_order, string_order}
use Rattle.text.proofs.Compare.{lowered}
use Rattle.text.proofs.string_order.Given as goal

abbrev pub invariant-loop-x : goal.invariant-loop-x
invariant-loop-x l =
    (goal.iterator-loop-x).can_next l.x-iterator × (goal.iterator-loop-x).is_finite l.x-iterator
    × (string_order l.a l.b ≡ bytes_order (drop (length l.yielded) (lowered l.a)) (drop (length l.yielded) (lowered l.b)))
