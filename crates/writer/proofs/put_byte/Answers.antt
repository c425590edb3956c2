use Rattle.writer.proofs.Laws.{outside}
use Rattle.writer.proofs.put_byte.Goals as goal

pub returns-else-at-out : goal.returns-else-at-out
returns-else-at-out c = outside c.args.out.now c.args.at c.args.b c.if-at-out.false
