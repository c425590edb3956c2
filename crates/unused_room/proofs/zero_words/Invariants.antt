use Rattle.unused_room.proofs.Zeros.{Looked}
use Rattle.unused_room.proofs.zero_words.Given as goal

abbrev pub invariant-loop-x : goal.invariant-loop-x
invariant-loop-x l = Looked l.words l.x-index l.clear
