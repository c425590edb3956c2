use mathlib.Core.Path.{sym, ap}
use lib.ListN.{length}
use Rattle.writer.proofs.Laws.{puts_as, puts_byte, escaped_1, escaped_2, escaped_3, escaped_4, escaped_5}
use native.Mathlib.Omega.{arith}
use Rattle.writer.proofs.put_escaped.Goals as goal

pub put-requires : goal.put-requires
put-requires c = omega (arith, c.requires, ap length (escaped_1 c.args.b c.if-b-eq34.true))

pub returns-then-b-eq34 : goal.returns-then-b-eq34
returns-then-b-eq34 c = puts_as (sym (escaped_1 c.args.b c.if-b-eq34.true))
    c.put.ensures

pub put-requires-then-b-eq92 : goal.put-requires-then-b-eq92
put-requires-then-b-eq92 c = omega (
  arith,
  c.requires,
  ap length (escaped_2 c.args.b c.if-b-eq34.false c.if-b-eq92.true),
)

pub returns-then-b-eq92 : goal.returns-then-b-eq92
returns-then-b-eq92 c = puts_as (sym (escaped_2 c.args.b c.if-b-eq34.false
    c.if-b-eq92.true)) c.put-then-b-eq92.ensures

pub put-requires-then-b-eq10 : goal.put-requires-then-b-eq10
put-requires-then-b-eq10 c = omega (
  arith,
  c.requires,
  ap length (escaped_3 c.args.b c.if-b-eq34.false c.if-b-eq92.false
      c.if-b-eq10.true),
)

pub returns-then-b-eq10 : goal.returns-then-b-eq10
returns-then-b-eq10 c = puts_as (sym (escaped_3 c.args.b
    c.if-b-eq34.false c.if-b-eq92.false c.if-b-eq10.true))
    c.put-then-b-eq10.ensures

pub put-requires-then-b-eq9 : goal.put-requires-then-b-eq9
put-requires-then-b-eq9 c = omega (
  arith,
  c.requires,
  ap length (escaped_4 c.args.b c.if-b-eq34.false c.if-b-eq92.false
      c.if-b-eq10.false c.if-b-eq9.true),
)

pub returns-then-b-eq9 : goal.returns-then-b-eq9
returns-then-b-eq9 c = puts_as (sym (escaped_4 c.args.b c.if-b-eq34.false
    c.if-b-eq92.false c.if-b-eq10.false c.if-b-eq9.true)) c.put-then-b-eq9.ensures

pub overflow_add-result : goal.overflow_add-result
overflow_add-result c = let h = ap length (escaped_5 c.args.b c.if-b-eq34.false c.if-b-eq92.false
    c.if-b-eq10.false c.if-b-eq9.false) in
    omega (arith, c.requires)

pub returns : goal.returns
returns c = puts_as (sym (escaped_5 c.args.b c.if-b-eq34.false c.if-b-eq92.false
    c.if-b-eq10.false c.if-b-eq9.false))
    (puts_byte c.args.b _ _ c.args.at c.put_byte.ensures)
