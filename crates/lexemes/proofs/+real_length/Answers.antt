use Prim.Native.Char.{code}
use mathlib.Core.List.{[], ◌∷◌}
use lib.ListN.{length-append}
use Rattle.syntax.specs.Print.{decimal}
use Rattle.lexemes.specs.Laws.Digits.{real_none}
use Rattle.lexemes.proofs.Laws.{real_step}
use native.Mathlib.Omega.{arith}
use Rattle.lexemes.proofs.+real_length.Goals as goal

pub returns-then-places-eq0 : goal.returns-then-places-eq0
returns-then-places-eq0 t c = (
  rw (c.if-places-eq0.true, real_none c.args.v)
      (omega (arith, c.decimal_length.ensures.0, length-append (decimal c.args.v) (code "." ∷ []))),
  omega arith,
)

pub returns : goal.returns
returns t c = (
  real_step c.args.v c.args.places _ c.if-places-eq0.false
      c.real_length.ensures.0,
  omega arith,
)
