use Rattle.std.proofs.Common.{◌≡◌, ◌+◌, ◌-◌, length, drop}
use Rattle.std.proofs.lemmas.List.Edits.{sets}
use Rattle.syntax.specs.Token.{body_of}
use Rattle.tokens.specs.Inner.Meaning.{bytes_of}
use Rattle.leaves.specs.Inner.Marks.{StringFrom}
use Rattle.leaves.proofs.copy_string.Given as goal

abbrev pub invariant-loop-j : goal.invariant-loop-j
invariant-loop-j l =
    StringFrom l.text l.i (l.k + l.n - l.j) × (length l.bytes ≡ length l.initial.bytes) × (sets l.bytes l.j (bytes_of (body_of (drop l.i l.text))) ≡ sets l.initial.bytes l.k (bytes_of (body_of (drop l.at l.text))))
