-- A String value is a string literal of one of the two ads. Assumes nothing.
use Rattle.std.specs.Prelude.{ℕ, Bool, true, false, cond, List, eqb, Float}
use Rattle.std.proofs.Common.{sym}
use Rattle.std.proofs.Math.Path.{subst}
use Rattle.syntax.specs.Tree as tree
use Rattle.syntax.specs.Tree.{Literal, Expr, literal, Ad}
use Rattle.syntax.specs.declared.Binary.{Binary}
use Rattle.syntax.specs.declared.Binary.TheVariants.{Or, And, Equal, NotEqual, Is, Isnt, Less, LessOrEqual, Greater, GreaterOrEqual, Add, Subtract, Multiply, Divide, Remainder}
use Rattle.syntax.specs.declared.Unary.{Unary}
use Rattle.syntax.specs.declared.Unary.TheVariants.{Not, Plus, Minus}
use Rattle.ad.specs.Layout.{stored_bytes}
use Rattle.values.specs.declared.Value.{Value}
use Rattle.values.specs.declared.Value.TheVariants.{Undefined, Error, Boolean, Integer, Real, String}
use Rattle.logic.specs.declared.Truth.{Truth}
use Rattle.logic.specs.declared.Truth.TheVariants as truth
use Rattle.logic.specs.Logic.{truth_of, row, and_table, or_table}
use Rattle.operands.specs.declared.Operands.{Operands}
use Rattle.operands.specs.declared.Operands.TheVariants.{Refused, Missing, Integers, Reals, Strings}
use Rattle.operands.specs.Inner.Operands.{operands_of, number_only}
use Rattle.arithmetic.specs.declared.Arithmetic.{Arithmetic}
use Rattle.arithmetic.specs.declared.Arithmetic.TheVariants as arithmetic
use Rattle.arithmetic.specs.Arithmetic.{arithmetic_value, integers_result}
use Rattle.arithmetic.specs.Inner.Operands.{arithmetic_result}
use Rattle.arithmetic.specs.Laws.Strict.{arithmetic_by_pair}
use Rattle.comparison.specs.declared.Comparison.{Comparison}
use Rattle.comparison.specs.declared.Comparison.TheVariants as comparison
use Rattle.comparison.specs.Comparison.{comparison_value}
use Rattle.comparison.specs.Inner.Operands.{comparison_result}
use Rattle.comparison.specs.Laws.Strict.{comparison_by_pair}
use Rattle.operators.specs.Operators.{binary_value, unary_value}
use Rattle.trees.specs.Values.{Denotes, ad_of, Means, is_literal_lem, is_circular, is_absent, is_found, is_unary, is_binary, is_conditional, Part, whole, taken, otherwise, FromLiteral}
use Rattle.trees.proofs.Laws.Own.{finds_defines}

-- no String
data Plain : Value → Type 0 where
  plain_undefined : Plain Undefined
  plain_error : Plain Error
  plain_boolean : (t : Bool) → Plain (Boolean t)
  plain_integer : (n : ℕ) → Plain (Integer n)
  plain_real : (x : Float) → Plain (Real x)

plain_row : {f u t o : Value} → Plain f → Plain u → Plain t → Plain o → (q : Truth) → Plain (row f u t o q)
plain_row f u t o truth.F = f
plain_row f u t o truth.U = u
plain_row f u t o truth.T = t
plain_row f u t o truth.O = o

plain_and : (p q : Truth) → Plain (and_table p q)
plain_and truth.F q = plain_row (plain_boolean false) (plain_boolean false) (plain_boolean false) (plain_boolean false) q
plain_and truth.U q = plain_row (plain_boolean false) plain_undefined plain_undefined plain_error q
plain_and truth.T q = plain_row (plain_boolean false) plain_undefined (plain_boolean true) plain_error q
plain_and truth.O q = plain_row plain_error plain_error plain_error plain_error q

plain_or : (p q : Truth) → Plain (or_table p q)
plain_or truth.F q = plain_row (plain_boolean false) plain_undefined (plain_boolean true) plain_error q
plain_or truth.U q = plain_row plain_undefined plain_undefined (plain_boolean true) plain_error q
plain_or truth.T q = plain_row (plain_boolean true) (plain_boolean true) (plain_boolean true) (plain_boolean true) q
plain_or truth.O q = plain_row plain_error plain_error plain_error plain_error q

plain_compared : (first second : List ℕ) (c : Comparison) (o : Operands) → Plain (comparison_result first second c o)
plain_compared first second c Refused = plain_error
plain_compared first second c Missing = plain_undefined
plain_compared first second c (Integers x y) = plain_boolean _
plain_compared first second c (Reals x y) = plain_boolean _
plain_compared first second c (Strings s o n t p m) = plain_boolean _

plain_quotient : (t : Bool) (n : ℕ) → Plain (cond t Error (Integer n))
plain_quotient true n = plain_error
plain_quotient false n = plain_integer n

plain_integers : (c : Arithmetic) (x y : ℕ) → Plain (integers_result c x y)
plain_integers arithmetic.Sum x y = plain_integer _
plain_integers arithmetic.Difference x y = plain_integer _
plain_integers arithmetic.Product x y = plain_integer _
plain_integers arithmetic.Quotient x y = plain_quotient (eqb y 0) _
plain_integers arithmetic.Remainder x y = plain_quotient (eqb y 0) _

plain_computed : (c : Arithmetic) (o : Operands) → Plain (arithmetic_result c o)
plain_computed c Refused = plain_error
plain_computed c Missing = plain_undefined
plain_computed c (Integers x y) = plain_integers c x y
plain_computed c (Reals x y) = plain_real _
plain_computed c (Strings s o n t p m) = plain_error

plain_arithmetic : (c : Arithmetic) (x y : Value) → Plain (arithmetic_value c x y)
plain_arithmetic c x y = subst Plain (arithmetic_by_pair c x y) (plain_computed c (operands_of (number_only x) (number_only y)))

plain_comparison : (first second : List ℕ) (c : Comparison) (x y : Value) → Plain (comparison_value first second c x y)
plain_comparison first second c x y = subst Plain (comparison_by_pair first second c x y) (plain_compared first second c (operands_of x y))

plain_binary : (first second : List ℕ) (j : Binary) (x y : Value) → Plain (binary_value first second j x y)
plain_binary first second Or x y = plain_or (truth_of x) (truth_of y)
plain_binary first second And x y = plain_and (truth_of x) (truth_of y)
plain_binary first second Equal x y = plain_comparison first second comparison.Equal x y
plain_binary first second NotEqual x y = plain_comparison first second comparison.NotEqual x y
plain_binary first second Is x y = plain_boolean _
plain_binary first second Isnt x y = plain_boolean _
plain_binary first second Less x y = plain_comparison first second comparison.Below x y
plain_binary first second LessOrEqual x y = plain_comparison first second comparison.AtMost x y
plain_binary first second Greater x y = plain_comparison first second comparison.Above x y
plain_binary first second GreaterOrEqual x y = plain_comparison first second comparison.AtLeast x y
plain_binary first second Add x y = plain_arithmetic arithmetic.Sum x y
plain_binary first second Subtract x y = plain_arithmetic arithmetic.Difference x y
plain_binary first second Multiply x y = plain_arithmetic arithmetic.Product x y
plain_binary first second Divide x y = plain_arithmetic arithmetic.Quotient x y
plain_binary first second Remainder x y = plain_arithmetic arithmetic.Remainder x y

plain_plus : (x : Value) → Plain (unary_value Plus x)
plain_plus Undefined = plain_undefined
plain_plus Error = plain_error
plain_plus (Boolean t) = plain_error
plain_plus (Integer n) = plain_integer n
plain_plus (Real x) = plain_real x
plain_plus (String s o n) = plain_error

plain_minus : (x : Value) → Plain (unary_value Minus x)
plain_minus Undefined = plain_undefined
plain_minus Error = plain_error
plain_minus (Boolean t) = plain_error
plain_minus (Integer n) = plain_integer _
plain_minus (Real x) = plain_real _
plain_minus (String s o n) = plain_error

plain_unary : (u : Unary) (x : Value) → Plain (unary_value u x)
plain_unary Not x = plain_row (plain_boolean true) plain_undefined (plain_boolean false) plain_error (truth_of x)
plain_unary Plus x = plain_plus x
plain_unary Minus x = plain_minus x

module _ (a a' : Ad) where
  of_plain : {v : Value} → Plain v → FromLiteral a a' v
  unfolding FromLiteral
  of_plain plain_undefined = tt
  of_plain plain_error = tt
  of_plain (plain_boolean t) = tt
  of_plain (plain_integer n) = tt
  of_plain (plain_real x) = tt

  of_row : (t : Truth) (y z : Value) → FromLiteral a a' y → FromLiteral a a' z → FromLiteral a a' (row z Undefined y Error t)
  of_row truth.F y z p q = q
  of_row truth.U y z p q = of_plain plain_undefined
  of_row truth.T y z p q = p
  of_row truth.O y z p q = of_plain plain_error

  of_literal : (second : Bool) (n : ℕ) (l : Literal) (v : Value) → Part (ad_of a a' second) n (literal l) → Denotes second (stored_bytes (ad_of a a' second)) l v → FromLiteral a a' v
  unfolding Denotes FromLiteral
  of_literal second n tree.undefined v p d = subst (FromLiteral a a') (sym d) tt
  of_literal second n tree.error v p d = subst (FromLiteral a a') (sym d) tt
  of_literal second n (tree.boolean t) v p d = subst (FromLiteral a a') (sym d) tt
  of_literal second n (tree.integer m) v p d = subst (FromLiteral a a') (sym d.0) tt
  of_literal second n (tree.real m places) v p d = subst (FromLiteral a a') (sym d) tt
  of_literal second n (tree.string l) v p (o, e, h) = subst (FromLiteral a a') (sym e) (n, l, p, h)

  -- A STRING VALUE IS A STRING LITERAL OF EITHER AD, and the bytes shown of it are the literal's
  pub from_literal : {second : Bool} {n : ℕ} {e : Expr} {v : Value} → Part (ad_of a a' second) n e → Means a a' second n e v → FromLiteral a a' v
  from_literal p (is_literal_lem {second = second} {n = n} {l = l} {v = v} d) = of_literal second n l v p d
  from_literal p (is_circular r) = of_plain plain_undefined
  from_literal p (is_absent r) = of_plain plain_undefined
  from_literal p (is_found r f m) = from_literal (whole (finds_defines f)) m
  from_literal p (is_unary {u = u} {x = x} m) = of_plain (plain_unary u x)
  from_literal p (is_binary {j = j} {x = x} {y = y} m k) = of_plain (plain_binary (stored_bytes a) (stored_bytes a') j x y)
  from_literal p (is_conditional {e = e} {f = f} {g = g} {x = x} {y = y} {z = z} m k l) = of_row (truth_of x) y z (from_literal (taken e g p) k) (from_literal (otherwise e f p) l)
