use Rattle.std.proofs.Common.{◌≡◌, ◌++◌, drop}
use Rattle.std.proofs.Math.Seq.{slice}
use Rattle.syntax.specs.Token.{front_of}
use Rattle.tokens.specs.Inner.Meaning.{class_of}
use Rattle.tokens.proofs.run.Given as goal

abbrev pub invariant-loop-i : goal.invariant-loop-i
invariant-loop-i l = front_of (class_of l.class) (drop l.at l.text) ≡ slice l.at l.i l.text ++ front_of (class_of l.class) (drop l.i l.text)
