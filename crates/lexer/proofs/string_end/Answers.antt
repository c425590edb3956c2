use Rattle.std.proofs.Common.{arith}
use Rattle.lexer.proofs.Laws.{gone_byte, gone_close, string_inside}
use Rattle.lexer.proofs.string_end.Goals as goal

pub loop-next-preserved : goal.loop-next-preserved
loop-next-preserved c =
    let b = (rw c.in-Byte.is at c.in_ok-next.ensures) in (
      omega arith,
      b.1,
      gone_byte c.args.text.now c.args.at c.loop-next.i c.loop-next.length (omega arith) c.loop-next.invariant.2 _ _ b.0 b.2,
    )

pub returns : goal.returns
returns c =
    let b = (rw c.in_default.is at c.in_ok-next.ensures) in
    let h = string_inside c.args.text.now c.loop-next.i b in
    (omega arith, omega arith, gone_close c.args.text.now c.args.at c.loop-next.i c.loop-next.length (omega arith) c.loop-next.invariant.2 b)
