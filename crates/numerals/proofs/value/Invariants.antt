use Rattle.std.proofs.Common.{◌≡◌, ◌≤◌, drop}
use Rattle.numerals.specs.Inner.Meaning.{value_to, largest_read}
use Rattle.numerals.proofs.value.Given as goal

abbrev pub invariant-loop-b : goal.invariant-loop-b
invariant-loop-b l = (l.w ≤ largest_read) × (value_to l.w (drop l.b-index l.digits) ≡ value_to l.v l.digits)
