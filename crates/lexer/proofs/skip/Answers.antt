use Rattle.std.proofs.Common.{arith, ◌∙◌}
use Rattle.lexer.proofs.Laws.{skip_step}
use Rattle.lexer.proofs.skip.Goals as goal

pub loop-i-preserved : goal.loop-i-preserved
loop-i-preserved c = c.loop-i.invariant ∙ skip_step c.args.text.now c.loop-i.i (omega arith) cc
