-- Comparison by the pair of operands, which the code goes by, is the strict operator. Assumes nothing.
use Rattle.std.specs.Prelude.{◌≡◌, refl, List, ℕ}
use Rattle.values.specs.declared.Value.{Value}
use Rattle.values.specs.declared.Value.TheVariants.{Undefined, Error, Boolean, Integer, Real, String}
use Rattle.operands.specs.Inner.Operands.{operands_of}
use Rattle.comparison.specs.declared.Comparison.{Comparison}
use Rattle.comparison.specs.Comparison.{comparison_value}
use Rattle.comparison.specs.Inner.Operands.{comparison_result}

pub comparison_by_pair : (first second : List ℕ) (op : Comparison) (a b : Value) → comparison_result first second op (operands_of a b) ≡ comparison_value first second op a b
comparison_by_pair first second op Undefined Undefined = refl
comparison_by_pair first second op Undefined Error = refl
comparison_by_pair first second op Undefined (Boolean y) = refl
comparison_by_pair first second op Undefined (Integer y) = refl
comparison_by_pair first second op Undefined (Real y) = refl
comparison_by_pair first second op Undefined (String t p m) = refl
comparison_by_pair first second op Error b = refl
comparison_by_pair first second op (Boolean x) b = refl
comparison_by_pair first second op (Integer x) Undefined = refl
comparison_by_pair first second op (Integer x) Error = refl
comparison_by_pair first second op (Integer x) (Boolean y) = refl
comparison_by_pair first second op (Integer x) (Integer y) = refl
comparison_by_pair first second op (Integer x) (Real y) = refl
comparison_by_pair first second op (Integer x) (String t p m) = refl
comparison_by_pair first second op (Real x) Undefined = refl
comparison_by_pair first second op (Real x) Error = refl
comparison_by_pair first second op (Real x) (Boolean y) = refl
comparison_by_pair first second op (Real x) (Integer y) = refl
comparison_by_pair first second op (Real x) (Real y) = refl
comparison_by_pair first second op (Real x) (String t p m) = refl
comparison_by_pair first second op (String s o n) Undefined = refl
comparison_by_pair first second op (String s o n) Error = refl
comparison_by_pair first second op (String s o n) (Boolean y) = refl
comparison_by_pair first second op (String s o n) (Integer y) = refl
comparison_by_pair first second op (String s o n) (Real y) = refl
comparison_by_pair first second op (String s o n) (String t p m) = refl
