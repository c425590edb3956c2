-- Each operation on Reals is rounded once. Assumes nothing.
use Rattle.std.specs.Float.{binary64}
use Rattle.rounding.proofs.Laws.Operations.{add_nearest, sub_nearest, mul_nearest, div_nearest, rem_nearest}
use Rattle.arithmetic.specs.declared.Arithmetic.TheVariants.{Sum, Difference, Product, Quotient, Remainder}
use Rattle.arithmetic.specs.Exact.{RoundsOnce}

pub rounds_once : RoundsOnce
rounds_once Sum x y h = add_nearest binary64 x y h.0 h.1
rounds_once Difference x y h = sub_nearest binary64 x y h.0 h.1
rounds_once Product x y h = mul_nearest binary64 x y h.0 h.1
rounds_once Quotient x y h = div_nearest binary64 x y h.0 h.1 h.2
rounds_once Remainder x y h = rem_nearest binary64 x y h.0 h.1 h.2
