use Rattle.text.specs.Bytes.{bytes}
use Rattle.writer.proofs.Operators.{operator_near, operator_puts}
use Rattle.writer.proofs.put_operator.Goals as goal

pub put_part-requires : goal.put_part-requires
unfolding bytes
put_part-requires c = operator_near c.args.j _ _ c.operator_start.ensures
    c.operator_end.ensures c.args.at c.requires

pub returns : goal.returns
unfolding bytes
returns c = operator_puts c.args.j _ _
    c.operator_start.ensures c.operator_end.ensures
    c.put_part.ensures
