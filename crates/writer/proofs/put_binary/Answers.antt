use Rattle.writer.proofs.Laws.{puts_join, puts_byte}
use native.Mathlib.Omega.{arith}
use Rattle.writer.proofs.put_binary.Goals as goal

pub put_operator-m-requires : goal.put_operator-m-requires
put_operator-m-requires c = omega (arith, c.requires)

pub overflow_add-result : goal.overflow_add-result
overflow_add-result c = omega (arith, c.requires, c.put_operator-m.ensures.behind)

pub returns : goal.returns
returns c = puts_join (puts_byte 32 c.args.out.now _
    c.args.at c.put_byte.ensures) (puts_join
    c.put_operator-m.ensures (puts_byte 32 _ _ _ c.put_byte-2.ensures))
