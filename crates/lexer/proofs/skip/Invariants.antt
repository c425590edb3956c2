use Rattle.std.proofs.Common.{◌≡◌}
use Rattle.tokens.specs.Inner.Meaning.{tokens_at}
use Rattle.lexer.proofs.skip.Given as goal

abbrev pub invariant-loop-i : goal.invariant-loop-i
invariant-loop-i l = tokens_at l.text l.at ≡ tokens_at l.text l.i
