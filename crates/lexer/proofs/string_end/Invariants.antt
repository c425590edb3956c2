use Rattle.std.proofs.Common.{◌≤◌, ◌+◌, ◌-◌, length}
use Rattle.lexer.proofs.Laws.{Gone}
use Rattle.lexer.proofs.string_end.Given as goal

abbrev pub invariant-loop-next : goal.invariant-loop-next
invariant-loop-next l = (l.at + l.length ≤ l.i) × (l.i ≤ length l.text) × Gone l.text l.at l.i l.length

abbrev pub decreases-loop-next : goal.decreases-loop-next
decreases-loop-next l = length l.text - l.i
