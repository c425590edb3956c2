use Rattle.std.proofs.Common.{◌≡◌, ◌+◌, ◌*◌, ◌≤◌, length, drop}
use Rattle.syntax.specs.Print.{escaped_all}
use Rattle.lexemes.proofs.string_length.Given as goal

abbrev pub invariant-loop-b : goal.invariant-loop-b
invariant-loop-b l =
    (l.n ≤ 2 * l.b-index + 2) × (l.n + length (escaped_all (drop l.b-index l.s)) ≡ length (escaped_all l.s) + 2)
