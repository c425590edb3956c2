-- The two ads exchanged: a String's side is turned over, and every rule gives the same. Assumes nothing.
use Rattle.std.specs.Prelude.{◌≡◌, refl, Bool, true, false, not, cond, List, ℕ, eqb, Float}
use Rattle.std.proofs.Common.{sym, ap, ap₂, ◌∙◌, subst}
use Rattle.text.specs.Strings.{same_bytes, string_order}
use Rattle.syntax.specs.declared.Binary.{Binary}
use Rattle.syntax.specs.declared.Binary.TheVariants.{Or, And, Equal, NotEqual, Is, Isnt, Less, LessOrEqual, Greater, GreaterOrEqual, Add, Subtract, Multiply, Divide, Remainder}
use Rattle.syntax.specs.declared.Unary.{Unary}
use Rattle.syntax.specs.declared.Unary.TheVariants.{Not, Plus, Minus}
use Rattle.values.specs.declared.Value.{Value}
use Rattle.values.specs.declared.Value.TheVariants.{Undefined, Error, Boolean, Integer, Real, String}
use Rattle.values.specs.Values.{bytes_at, turned}
use Rattle.logic.specs.declared.Truth.{Truth}
use Rattle.logic.specs.declared.Truth.TheVariants as truth
use Rattle.logic.specs.Logic.{truth_of, row, and_table, or_table, conditional_value}
use Rattle.identity.specs.Identity.{same_undefined, same_error, same_boolean, same_integer, same_real, same_string, same_value}
use Rattle.operands.specs.declared.Operands.{Operands}
use Rattle.operands.specs.declared.Operands.TheVariants.{Refused, Missing, Integers, Reals, Strings}
use Rattle.operands.specs.Inner.Operands.{with_undefined, with_integer, with_real, with_string, operands_of, number_only}
use Rattle.arithmetic.specs.declared.Arithmetic.{Arithmetic}
use Rattle.arithmetic.specs.Arithmetic.{integers_result, arithmetic_value, minus_value, plus_value}
use Rattle.arithmetic.specs.Inner.Operands.{arithmetic_result}
use Rattle.arithmetic.specs.Laws.Strict.{arithmetic_by_pair}
use Rattle.comparison.specs.declared.Comparison.{Comparison}
use Rattle.comparison.specs.declared.Comparison.TheVariants as comparison
use Rattle.comparison.specs.Comparison.{order_holds, comparison_value}
use Rattle.comparison.specs.Inner.Operands.{comparison_result}
use Rattle.comparison.specs.Laws.Strict.{comparison_by_pair}
use Rattle.operators.specs.Operators.{binary_value, unary_value}

bytes_turned : (first second : List ℕ) (side : Bool) (o n : ℕ) → bytes_at second first (not side) o n ≡ bytes_at first second side o n
bytes_turned first second true o n = refl
bytes_turned first second false o n = refl

truth_turned : (v : Value) → truth_of (turned v) ≡ truth_of v
truth_turned Undefined = refl
truth_turned Error = refl
truth_turned (Boolean b) = refl
truth_turned (Integer x) = refl
truth_turned (Real x) = refl
truth_turned (String s o n) = refl

-- ---- `is`
string_turned : (first second s s' : List ℕ) (b : Value) → s' ≡ s → same_string second first s' (turned b) ≡ same_string first second s b
string_turned first second s s' Undefined e = refl
string_turned first second s s' Error e = refl
string_turned first second s s' (Boolean x) e = refl
string_turned first second s s' (Integer x) e = refl
string_turned first second s s' (Real x) e = refl
string_turned first second s s' (String t p m) e = ap₂ same_bytes e (bytes_turned first second t p m)

undefined_turned : (b : Value) → same_undefined (turned b) ≡ same_undefined b
undefined_turned Undefined = refl
undefined_turned Error = refl
undefined_turned (Boolean y) = refl
undefined_turned (Integer y) = refl
undefined_turned (Real y) = refl
undefined_turned (String t p m) = refl

error_turned : (b : Value) → same_error (turned b) ≡ same_error b
error_turned Undefined = refl
error_turned Error = refl
error_turned (Boolean y) = refl
error_turned (Integer y) = refl
error_turned (Real y) = refl
error_turned (String t p m) = refl

boolean_turned : (x : Bool) (b : Value) → same_boolean x (turned b) ≡ same_boolean x b
boolean_turned x Undefined = refl
boolean_turned x Error = refl
boolean_turned x (Boolean y) = refl
boolean_turned x (Integer y) = refl
boolean_turned x (Real y) = refl
boolean_turned x (String t p m) = refl

integer_turned : (x : ℕ) (b : Value) → same_integer x (turned b) ≡ same_integer x b
integer_turned x Undefined = refl
integer_turned x Error = refl
integer_turned x (Boolean y) = refl
integer_turned x (Integer y) = refl
integer_turned x (Real y) = refl
integer_turned x (String t p m) = refl

real_turned : (x : Float) (b : Value) → same_real x (turned b) ≡ same_real x b
real_turned x Undefined = refl
real_turned x Error = refl
real_turned x (Boolean y) = refl
real_turned x (Integer y) = refl
real_turned x (Real y) = refl
real_turned x (String t p m) = refl

same_turned : (first second : List ℕ) (a b : Value) → same_value second first (turned a) (turned b) ≡ same_value first second a b
same_turned first second Undefined b = undefined_turned b
same_turned first second Error b = error_turned b
same_turned first second (Boolean x) b = boolean_turned x b
same_turned first second (Integer x) b = integer_turned x b
same_turned first second (Real x) b = real_turned x b
same_turned first second (String s o n) b =
    string_turned first second (bytes_at first second s o n) (bytes_at second first (not s) o n) b (bytes_turned first second s o n)

-- ---- strict operators
abbrev pair_turned : Operands → Operands
pair_turned Refused = Refused
pair_turned Missing = Missing
pair_turned (Integers x y) = Integers x y
pair_turned (Reals x y) = Reals x y
pair_turned (Strings s o n t p m) = Strings (not s) o n (not t) p m

with_undefined_lem : (b : Value) → with_undefined (turned b) ≡ pair_turned (with_undefined b)
with_undefined_lem Undefined = refl
with_undefined_lem Error = refl
with_undefined_lem (Boolean y) = refl
with_undefined_lem (Integer y) = refl
with_undefined_lem (Real y) = refl
with_undefined_lem (String t p m) = refl

with_integer_lem : (x : ℕ) (b : Value) → with_integer x (turned b) ≡ pair_turned (with_integer x b)
with_integer_lem x Undefined = refl
with_integer_lem x Error = refl
with_integer_lem x (Boolean y) = refl
with_integer_lem x (Integer y) = refl
with_integer_lem x (Real y) = refl
with_integer_lem x (String t p m) = refl

with_real_lem : (x : Float) (b : Value) → with_real x (turned b) ≡ pair_turned (with_real x b)
with_real_lem x Undefined = refl
with_real_lem x Error = refl
with_real_lem x (Boolean y) = refl
with_real_lem x (Integer y) = refl
with_real_lem x (Real y) = refl
with_real_lem x (String t p m) = refl

with_string_lem : (s : Bool) (o n : ℕ) (b : Value) → with_string (not s) o n (turned b) ≡ pair_turned (with_string s o n b)
with_string_lem s o n Undefined = refl
with_string_lem s o n Error = refl
with_string_lem s o n (Boolean y) = refl
with_string_lem s o n (Integer y) = refl
with_string_lem s o n (Real y) = refl
with_string_lem s o n (String t p m) = refl

pair_turned_lem : (a b : Value) → operands_of (turned a) (turned b) ≡ pair_turned (operands_of a b)
pair_turned_lem Undefined b = with_undefined_lem b
pair_turned_lem Error b = refl
pair_turned_lem (Boolean x) b = refl
pair_turned_lem (Integer x) b = with_integer_lem x b
pair_turned_lem (Real x) b = with_real_lem x b
pair_turned_lem (String s o n) b = with_string_lem s o n b

result_turned : (first second : List ℕ) (op : Comparison) (q : Operands) → comparison_result second first op (pair_turned q) ≡ comparison_result first second op q
result_turned first second op Refused = refl
result_turned first second op Missing = refl
result_turned first second op (Integers x y) = refl
result_turned first second op (Reals x y) = refl
result_turned first second op (Strings s o n t p m) =
    ap₂ (λ (x y : List ℕ). Boolean (order_holds op (string_order x y))) (bytes_turned first second s o n) (bytes_turned first second t p m)

compare_turned : (first second : List ℕ) (op : Comparison) (a b : Value) → comparison_value second first op (turned a) (turned b) ≡ comparison_value first second op a b
compare_turned first second op a b =
    sym (comparison_by_pair second first op (turned a) (turned b)) ∙ ap (comparison_result second first op) (pair_turned_lem a b)
    ∙ result_turned first second op (operands_of a b) ∙ comparison_by_pair first second op a b

number_turned : (v : Value) → number_only (turned v) ≡ number_only v
number_turned Undefined = refl
number_turned Error = refl
number_turned (Boolean y) = refl
number_turned (Integer y) = refl
number_turned (Real y) = refl
number_turned (String t p m) = refl

compute_turned : (op : Arithmetic) (a b : Value) → arithmetic_value op (turned a) (turned b) ≡ arithmetic_value op a b
compute_turned op a b =
    sym (arithmetic_by_pair op (turned a) (turned b)) ∙ ap₂ (λ (x y : Value). arithmetic_result op (operands_of x y)) (number_turned a) (number_turned b)
    ∙ arithmetic_by_pair op a b

-- ---- every operator: its result is the same, and is no String
binary_turned : (first second : List ℕ) (op : Binary) (a b : Value) → binary_value second first op (turned a) (turned b) ≡ binary_value first second op a b
binary_turned first second Or a b = ap₂ or_table (truth_turned a) (truth_turned b)
binary_turned first second And a b = ap₂ and_table (truth_turned a) (truth_turned b)
binary_turned first second Equal a b = compare_turned first second comparison.Equal a b
binary_turned first second NotEqual a b = compare_turned first second comparison.NotEqual a b
binary_turned first second Is a b = ap Boolean (same_turned first second a b)
binary_turned first second Isnt a b = ap (λ (t : Bool). Boolean (not t)) (same_turned first second a b)
binary_turned first second Less a b = compare_turned first second comparison.Below a b
binary_turned first second LessOrEqual a b = compare_turned first second comparison.AtMost a b
binary_turned first second Greater a b = compare_turned first second comparison.Above a b
binary_turned first second GreaterOrEqual a b = compare_turned first second comparison.AtLeast a b
binary_turned first second Add a b = compute_turned Arithmetic.Sum a b
binary_turned first second Subtract a b = compute_turned Arithmetic.Difference a b
binary_turned first second Multiply a b = compute_turned Arithmetic.Product a b
binary_turned first second Divide a b = compute_turned Arithmetic.Quotient a b
binary_turned first second Remainder a b = compute_turned Arithmetic.Remainder a b

row_turned : (f u t o : Value) (q : Truth) → turned (row f u t o q) ≡ row (turned f) (turned u) (turned t) (turned o) q
row_turned f u t o truth.F = refl
row_turned f u t o truth.U = refl
row_turned f u t o truth.T = refl
row_turned f u t o truth.O = refl

pub conditional_exchange : (p a b : Value) → conditional_value (turned p) (turned a) (turned b) ≡ turned (conditional_value p a b)
conditional_exchange p a b = ap (row (turned b) Undefined (turned a) Error) (truth_turned p) ∙ sym (row_turned b Undefined a Error (truth_of p))

minus_turned : (v : Value) → minus_value (turned v) ≡ minus_value v
minus_turned Undefined = refl
minus_turned Error = refl
minus_turned (Boolean y) = refl
minus_turned (Integer y) = refl
minus_turned (Real y) = refl
minus_turned (String t p m) = refl

plus_turned : (v : Value) → plus_value (turned v) ≡ plus_value v
plus_turned Undefined = refl
plus_turned Error = refl
plus_turned (Boolean y) = refl
plus_turned (Integer y) = refl
plus_turned (Real y) = refl
plus_turned (String t p m) = refl

unary_turned : (op : Unary) (a : Value) → unary_value op (turned a) ≡ unary_value op a
unary_turned Not a = ap (row (Boolean true) Undefined (Boolean false) Error) (truth_turned a)
unary_turned Plus a = plus_turned a
unary_turned Minus a = minus_turned a

choice_turned : (t : Bool) (u v : Value) → turned (cond t u v) ≡ cond t (turned u) (turned v)
choice_turned true u v = refl
choice_turned false u v = refl

integers_plain : (op : Arithmetic) (x y : ℕ) → turned (integers_result op x y) ≡ integers_result op x y
integers_plain Arithmetic.Sum x y = refl
integers_plain Arithmetic.Difference x y = refl
integers_plain Arithmetic.Product x y = refl
integers_plain Arithmetic.Quotient x y = choice_turned (eqb y 0) Error _
integers_plain Arithmetic.Remainder x y = choice_turned (eqb y 0) Error _

computed_plain : (op : Arithmetic) (q : Operands) → turned (arithmetic_result op q) ≡ arithmetic_result op q
computed_plain op Refused = refl
computed_plain op Missing = refl
computed_plain op (Integers x y) = integers_plain op x y
computed_plain op (Reals x y) = refl
computed_plain op (Strings s o n t p m) = refl

compared_plain : (first second : List ℕ) (op : Comparison) (q : Operands) → turned (comparison_result first second op q) ≡ comparison_result first second op q
compared_plain first second op Refused = refl
compared_plain first second op Missing = refl
compared_plain first second op (Integers x y) = refl
compared_plain first second op (Reals x y) = refl
compared_plain first second op (Strings s o n t p m) = refl

arithmetic_plain : (op : Arithmetic) (a b : Value) → turned (arithmetic_value op a b) ≡ arithmetic_value op a b
arithmetic_plain op a b = subst (λ (v : Value). turned v ≡ v) (arithmetic_by_pair op a b) (computed_plain op (operands_of (number_only a) (number_only b)))

comparison_plain : (first second : List ℕ) (op : Comparison) (a b : Value) → turned (comparison_value first second op a b) ≡ comparison_value first second op a b
comparison_plain first second op a b =
    subst (λ (v : Value). turned v ≡ v) (comparison_by_pair first second op a b) (compared_plain first second op (operands_of a b))

and_plain : (p q : Truth) → turned (and_table p q) ≡ and_table p q
and_plain truth.F q = row_turned _ _ _ _ q
and_plain truth.U q = row_turned _ _ _ _ q
and_plain truth.T q = row_turned _ _ _ _ q
and_plain truth.O q = row_turned _ _ _ _ q

or_plain : (p q : Truth) → turned (or_table p q) ≡ or_table p q
or_plain truth.F q = row_turned _ _ _ _ q
or_plain truth.U q = row_turned _ _ _ _ q
or_plain truth.T q = row_turned _ _ _ _ q
or_plain truth.O q = row_turned _ _ _ _ q

binary_plain : (first second : List ℕ) (op : Binary) (a b : Value) → turned (binary_value first second op a b) ≡ binary_value first second op a b
binary_plain first second Or a b = or_plain (truth_of a) (truth_of b)
binary_plain first second And a b = and_plain (truth_of a) (truth_of b)
binary_plain first second Equal a b = comparison_plain first second comparison.Equal a b
binary_plain first second NotEqual a b = comparison_plain first second comparison.NotEqual a b
binary_plain first second Is a b = refl
binary_plain first second Isnt a b = refl
binary_plain first second Less a b = comparison_plain first second comparison.Below a b
binary_plain first second LessOrEqual a b = comparison_plain first second comparison.AtMost a b
binary_plain first second Greater a b = comparison_plain first second comparison.Above a b
binary_plain first second GreaterOrEqual a b = comparison_plain first second comparison.AtLeast a b
binary_plain first second Add a b = arithmetic_plain Arithmetic.Sum a b
binary_plain first second Subtract a b = arithmetic_plain Arithmetic.Difference a b
binary_plain first second Multiply a b = arithmetic_plain Arithmetic.Product a b
binary_plain first second Divide a b = arithmetic_plain Arithmetic.Quotient a b
binary_plain first second Remainder a b = arithmetic_plain Arithmetic.Remainder a b

minus_plain : (v : Value) → turned (minus_value v) ≡ minus_value v
minus_plain Undefined = refl
minus_plain Error = refl
minus_plain (Boolean y) = refl
minus_plain (Integer y) = refl
minus_plain (Real y) = refl
minus_plain (String t p m) = refl

plus_plain : (v : Value) → turned (plus_value v) ≡ plus_value v
plus_plain Undefined = refl
plus_plain Error = refl
plus_plain (Boolean y) = refl
plus_plain (Integer y) = refl
plus_plain (Real y) = refl
plus_plain (String t p m) = refl

unary_plain : (op : Unary) (a : Value) → turned (unary_value op a) ≡ unary_value op a
unary_plain Not a = row_turned (Boolean true) Undefined (Boolean false) Error (truth_of a)
unary_plain Plus a = plus_plain a
unary_plain Minus a = minus_plain a

pub binary_exchange : (first second : List ℕ) (op : Binary) (a b : Value) → binary_value second first op (turned a) (turned b) ≡ turned (binary_value first second op a b)
binary_exchange first second op a b = binary_turned first second op a b ∙ sym (binary_plain first second op a b)

pub unary_exchange : (op : Unary) (a : Value) → unary_value op (turned a) ≡ turned (unary_value op a)
unary_exchange op a = unary_turned op a ∙ sym (unary_plain op a)
