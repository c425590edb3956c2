-- What the rules make of values whose numbers fit their types fits too. Assumes nothing.
use mathlib.Core.Path.{subst}
use mathlib.Core.Bool.{Bool, true, false, cond}
use mathlib.Core.List.{List}
use Prim.Native.Nat.{ℕ}
use lib.Dec.{T, eqb}
use lib.Ieee.{Float, binary64, fits}
use lib.Ieee.Fits.{add-fits, sub-fits, mul-fits, div-fits, rem-fits, neg-fits, of_int-fits}
use Rattle.integers.specs.Integers.{width, signed}
use Rattle.integers.proofs.Ring.{wrap_lt}
use Rattle.syntax.specs.declared.Binary.{Binary}
use Rattle.syntax.specs.declared.Binary.TheVariants.{Or, And, Equal, NotEqual, Is, Isnt, Less, LessOrEqual, Greater, GreaterOrEqual, Add, Subtract, Multiply, Divide, Remainder}
use Rattle.syntax.specs.declared.Unary.{Unary}
use Rattle.syntax.specs.declared.Unary.TheVariants.{Not, Plus, Minus}
use Rattle.values.specs.declared.Value.{Value}
use Rattle.values.specs.declared.Value.TheVariants.{Undefined, Error, Boolean, Integer, Real, String}
use Rattle.values.specs.Values.{Sized}
use Rattle.logic.specs.declared.Truth.{Truth}
use Rattle.logic.specs.declared.Truth.TheVariants as truth
use Rattle.logic.specs.Logic.{truth_of, row, and_table, or_table, conditional_value}
use Rattle.operands.specs.declared.Operands.{Operands}
use Rattle.operands.specs.declared.Operands.TheVariants.{Refused, Missing, Integers, Reals, Strings}
use Rattle.operands.specs.Inner.Operands.{with_undefined, with_integer, with_real, operands_of, number_only}
use Rattle.arithmetic.specs.declared.Arithmetic.{Arithmetic}
use Rattle.arithmetic.specs.Arithmetic.{integers_result, reals_result, arithmetic_value, minus_value, plus_value}
use Rattle.arithmetic.specs.Inner.Operands.{arithmetic_result}
use Rattle.arithmetic.specs.Laws.Strict.{arithmetic_by_pair}
use Rattle.comparison.specs.declared.Comparison.{Comparison}
use Rattle.comparison.specs.declared.Comparison.TheVariants as comparison
use Rattle.comparison.specs.Comparison.{comparison_value}
use Rattle.comparison.specs.Inner.Operands.{comparison_result}
use Rattle.comparison.specs.Laws.Strict.{comparison_by_pair}
use Rattle.operators.specs.Operators.{binary_value, unary_value}

row_sized : (f u t o : Value) (q : Truth) → Sized f → Sized u → Sized t → Sized o → Sized (row f u t o q)
row_sized f u t o truth.F hf hu ht ho = hf
row_sized f u t o truth.U hf hu ht ho = hu
row_sized f u t o truth.T hf hu ht ho = ht
row_sized f u t o truth.O hf hu ht ho = ho

and_sized : (p q : Truth) → Sized (and_table p q)
and_sized truth.F q = row_sized (Boolean false) (Boolean false) (Boolean false) (Boolean false) q tt tt tt tt
and_sized truth.U q = row_sized (Boolean false) Undefined Undefined Error q tt tt tt tt
and_sized truth.T q = row_sized (Boolean false) Undefined (Boolean true) Error q tt tt tt tt
and_sized truth.O q = row_sized Error Error Error Error q tt tt tt tt

or_sized : (p q : Truth) → Sized (or_table p q)
or_sized truth.F q = row_sized (Boolean false) Undefined (Boolean true) Error q tt tt tt tt
or_sized truth.U q = row_sized Undefined Undefined (Boolean true) Error q tt tt tt tt
or_sized truth.T q = row_sized (Boolean true) (Boolean true) (Boolean true) (Boolean true) q tt tt tt tt
or_sized truth.O q = row_sized Error Error Error Error q tt tt tt tt

compared : (first second : List ℕ) (op : Comparison) (p : Operands) → Sized (comparison_result first second op p)
compared first second op Refused = tt
compared first second op Missing = tt
compared first second op (Integers x y) = tt
compared first second op (Reals x y) = tt
compared first second op (Strings s o n t p m) = tt

-- ---- arithmetic: a remainder is a Real of the format where its dividend is
abbrev Dividend : Operands → Type 0
Dividend Refused = Unit {0}
Dividend Missing = Unit {0}
Dividend (Integers x y) = Unit {0}
Dividend (Reals x y) = T (fits binary64 x)
Dividend (Strings s o n t p m) = Unit {0}

undefined_dividend : (b : Value) → Dividend (with_undefined b)
undefined_dividend Undefined = tt
undefined_dividend Error = tt
undefined_dividend (Boolean b) = tt
undefined_dividend (Integer y) = tt
undefined_dividend (Real y) = tt
undefined_dividend (String s o n) = tt

integer_dividend : (x : ℕ) (b : Value) → Dividend (with_integer x b)
integer_dividend x Undefined = tt
integer_dividend x Error = tt
integer_dividend x (Boolean b) = tt
integer_dividend x (Integer y) = tt
integer_dividend x (Real y) = of_int-fits binary64 (signed width x)
integer_dividend x (String s o n) = tt

real_dividend : (x : Float) (b : Value) → T (fits binary64 x) → Dividend (with_real x b)
real_dividend x Undefined h = tt
real_dividend x Error h = tt
real_dividend x (Boolean b) h = tt
real_dividend x (Integer y) h = h
real_dividend x (Real y) h = h
real_dividend x (String s o n) h = tt

dividend : (a b : Value) → Sized a → Dividend (operands_of (number_only a) b)
dividend Undefined b h = undefined_dividend b
dividend Error b h = tt
dividend (Boolean x) b h = tt
dividend (Integer x) b h = integer_dividend x b
dividend (Real x) b h = real_dividend x b h
dividend (String s o n) b h = tt

pub choose : (b : Bool) (u v : Value) → Sized u → Sized v → Sized (cond b u v)
choose true u v p q = p
choose false u v p q = q

integers_sized : (op : Arithmetic) (x y : ℕ) → Sized (integers_result op x y)
integers_sized Arithmetic.Sum x y = wrap_lt width _
integers_sized Arithmetic.Difference x y = wrap_lt width _
integers_sized Arithmetic.Product x y = wrap_lt width _
integers_sized Arithmetic.Quotient x y = choose (eqb y 0) Error _ tt (wrap_lt width _)
integers_sized Arithmetic.Remainder x y = choose (eqb y 0) Error _ tt (wrap_lt width _)

reals_fit : (op : Arithmetic) (x y : Float) → T (fits binary64 x) → T (fits binary64 (reals_result op x y))
reals_fit Arithmetic.Sum x y h = add-fits binary64 x y
reals_fit Arithmetic.Difference x y h = sub-fits binary64 x y
reals_fit Arithmetic.Product x y h = mul-fits binary64 x y
reals_fit Arithmetic.Quotient x y h = div-fits binary64 x y
reals_fit Arithmetic.Remainder x y h = rem-fits binary64 x y h

computed : (op : Arithmetic) (p : Operands) → Dividend p → Sized (arithmetic_result op p)
computed op Refused h = tt
computed op Missing h = tt
computed op (Integers x y) h = integers_sized op x y
computed op (Reals x y) h = reals_fit op x y h
computed op (Strings s o n t p m) h = tt

arithmetic_sized : (op : Arithmetic) (a b : Value) → Sized a → Sized (arithmetic_value op a b)
arithmetic_sized op a b h =
    subst Sized (arithmetic_by_pair op a b)
    (computed op (operands_of (number_only a) (number_only b)) (dividend a (number_only b) h))

comparison_sized : (first second : List ℕ) (op : Comparison) (a b : Value) → Sized (comparison_value first second op a b)
comparison_sized first second op a b =
    subst Sized (comparison_by_pair first second op a b) (compared first second op (operands_of a b))

-- ---- every operator
pub binary_sized : (first second : List ℕ) (op : Binary) (a b : Value) → Sized a → Sized (binary_value first second op a b)
binary_sized first second Or a b h = or_sized (truth_of a) (truth_of b)
binary_sized first second And a b h = and_sized (truth_of a) (truth_of b)
binary_sized first second Equal a b h = comparison_sized first second comparison.Equal a b
binary_sized first second NotEqual a b h = comparison_sized first second comparison.NotEqual a b
binary_sized first second Is a b h = tt
binary_sized first second Isnt a b h = tt
binary_sized first second Less a b h = comparison_sized first second comparison.Below a b
binary_sized first second LessOrEqual a b h = comparison_sized first second comparison.AtMost a b
binary_sized first second Greater a b h = comparison_sized first second comparison.Above a b
binary_sized first second GreaterOrEqual a b h = comparison_sized first second comparison.AtLeast a b
binary_sized first second Add a b h = arithmetic_sized Arithmetic.Sum a b h
binary_sized first second Subtract a b h = arithmetic_sized Arithmetic.Difference a b h
binary_sized first second Multiply a b h = arithmetic_sized Arithmetic.Product a b h
binary_sized first second Divide a b h = arithmetic_sized Arithmetic.Quotient a b h
binary_sized first second Remainder a b h = arithmetic_sized Arithmetic.Remainder a b h

minus_sized : (a : Value) → Sized a → Sized (minus_value a)
minus_sized Undefined h = tt
minus_sized Error h = tt
minus_sized (Boolean b) h = tt
minus_sized (Integer x) h = wrap_lt width _
minus_sized (Real x) h = neg-fits binary64 x h
minus_sized (String s o n) h = tt

plus_sized : (a : Value) → Sized a → Sized (plus_value a)
plus_sized Undefined h = tt
plus_sized Error h = tt
plus_sized (Boolean b) h = tt
plus_sized (Integer x) h = h
plus_sized (Real x) h = h
plus_sized (String s o n) h = tt

pub unary_sized : (op : Unary) (a : Value) → Sized a → Sized (unary_value op a)
unary_sized Not a h = row_sized (Boolean true) Undefined (Boolean false) Error (truth_of a) tt tt tt tt
unary_sized Plus a h = plus_sized a h
unary_sized Minus a h = minus_sized a h

pub conditional_sized : (p a b : Value) → Sized a → Sized b → Sized (conditional_value p a b)
conditional_sized p a b h k = row_sized b Undefined a Error (truth_of p) k tt h tt
