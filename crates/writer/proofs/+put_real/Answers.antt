use Rattle.writer.proofs.Laws.{real_puts_none, real_puts_more, near_whole, near_real}
use native.Mathlib.Omega.{arith}
use Rattle.writer.proofs.+put_real.Goals as goal

pub put_decimal-m-requires : goal.put_decimal-m-requires
put_decimal-m-requires t c = (near_whole c.args.v c.args.places c.args.at 0 c.if-places-eq0.true
    c.requires).0

pub overflow_add-result : goal.overflow_add-result
overflow_add-result t c = let h = (near_whole c.args.v c.args.places c.args.at _ c.if-places-eq0.true c.requires).1
    c.put_decimal-m.ensures.behind in
    omega arith

pub returns-then-places-eq0 : goal.returns-then-places-eq0
returns-then-places-eq0 t c = real_puts_none c.args.v c.args.places c.if-places-eq0.true
    c.put_decimal-m.ensures c.put_byte.ensures

pub put_real-m-requires : goal.put_real-m-requires
put_real-m-requires t c = (
  omega arith,
  (near_real c.args.v c.args.places c.args.at 0 c.if-places-eq0.false
      c.requires).0,
)

pub overflow_add-result-2 : goal.overflow_add-result-2
overflow_add-result-2 t c = let h = (near_real c.args.v c.args.places c.args.at _ c.if-places-eq0.false c.requires).1
    c.put_real-m.ensures.behind in
    omega arith

pub returns : goal.returns
returns t c = real_puts_more c.args.v _ c.args.places
    c.if-places-eq0.false c.digit.ensures c.put_real-m.ensures c.put_byte-2.ensures
