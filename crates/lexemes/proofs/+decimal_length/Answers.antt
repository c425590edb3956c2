use mathlib.Core.Path.{refl}
use Prim.Native.Nat.{◌+◌}
use Prim.Native.Nat.{◌/◌, ◌%◌}
use Prim.Native.Char.{code}
use mathlib.Core.List.{[], ◌∷◌}
use lib.ListN.{length-append}
use Rattle.syntax.specs.Print.{decimal}
use Rattle.lexemes.specs.Laws.Digits.{decimal_one, decimal_more}
use native.Mathlib.Omega.{arith}
use Rattle.lexemes.proofs.+decimal_length.Goals as goal

pub returns-then-v-lt10 : goal.returns-then-v-lt10
returns-then-v-lt10 t c = (rw (decimal_one _ c.if-v-lt10.true) refl, omega arith)

pub returns : goal.returns
returns t c = (
  rw (decimal_more c.args.v c.if-v-lt10.false) (omega (
    arith,
    c.decimal_length.ensures.0,
    length-append (decimal (c.args.v / 10)) ((code "0" + c.args.v % 10) ∷ []),
  )),
  omega arith,
)
