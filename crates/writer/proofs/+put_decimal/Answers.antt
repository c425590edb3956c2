use Rattle.writer.proofs.Laws.{decimal_puts_one, decimal_puts_more, near_decimal, near_decimal_last, near_one}
use native.Mathlib.Omega.{arith}
use Rattle.writer.proofs.+put_decimal.Goals as goal

pub overflow_add-result : goal.overflow_add-result
overflow_add-result t c = let h = near_one c.args.v c.args.at c.if-v-lt10.true c.requires in
    omega arith

pub returns-then-v-lt10 : goal.returns-then-v-lt10
returns-then-v-lt10 t c = decimal_puts_one _ _ c.args.at c.args.v _
    c.if-v-lt10.true c.digit.ensures c.put_byte.ensures

pub put_decimal-m-requires : goal.put_decimal-m-requires
put_decimal-m-requires t c = (
  omega arith,
  near_decimal c.args.v c.args.at c.if-v-lt10.false c.requires,
)

pub overflow_add-result-2 : goal.overflow_add-result-2
overflow_add-result-2 t c = let h = near_decimal_last c.args.v c.args.at _ c.if-v-lt10.false
    c.requires c.put_decimal-m.ensures.behind in
    omega arith

pub returns : goal.returns
returns t c = decimal_puts_more c.args.v _
    c.if-v-lt10.false c.digit-2.ensures c.put_decimal-m.ensures
    c.put_byte-2.ensures
