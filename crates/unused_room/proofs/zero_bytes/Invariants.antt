use Rattle.unused_room.proofs.Zeros.{Looked}
use Rattle.unused_room.proofs.zero_bytes.Given as goal

abbrev pub invariant-loop-x : goal.invariant-loop-x
invariant-loop-x l = Looked l.bytes l.x-index l.clear
