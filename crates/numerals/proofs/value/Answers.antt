use Rattle.std.proofs.Common.{arith, ◌∙◌}
use Rattle.numerals.proofs.Laws.{value_step, value_end}
use Rattle.numerals.proofs.value.Goals as goal

pub loop-b-preserved : goal.loop-b-preserved
loop-b-preserved c = (
  omega (arith, c.push-w.ensures),
  rw c.push-w.ensures (value_step c.args.digits.now c.loop-b.b-index c.loop-b.w (omega arith) ∙ c.loop-b.invariant.1),
)

pub returns : goal.returns
returns c = value_end c.args.digits.now c.loop-b.b-index c.loop-b.w (omega arith) (omega arith) ∙ c.loop-b.invariant.1
