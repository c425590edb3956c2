-- Arithmetic by the pair of operands, which the code goes by, is the strict operator. Assumes nothing.
use Rattle.std.specs.Prelude.{◌≡◌, refl}
use Rattle.values.specs.declared.Value.{Value}
use Rattle.values.specs.declared.Value.TheVariants.{Undefined, Error, Boolean, Integer, Real, String}
use Rattle.operands.specs.Inner.Operands.{operands_of, number_only}
use Rattle.arithmetic.specs.declared.Arithmetic.{Arithmetic}
use Rattle.arithmetic.specs.Arithmetic.{arithmetic_value}
use Rattle.arithmetic.specs.Inner.Operands.{arithmetic_result}

pub arithmetic_by_pair : (op : Arithmetic) (a b : Value) → arithmetic_result op (operands_of (number_only a) (number_only b)) ≡ arithmetic_value op a b
arithmetic_by_pair op Undefined Undefined = refl
arithmetic_by_pair op Undefined Error = refl
arithmetic_by_pair op Undefined (Boolean y) = refl
arithmetic_by_pair op Undefined (Integer y) = refl
arithmetic_by_pair op Undefined (Real y) = refl
arithmetic_by_pair op Undefined (String t p m) = refl
arithmetic_by_pair op Error b = refl
arithmetic_by_pair op (Boolean x) b = refl
arithmetic_by_pair op (Integer x) Undefined = refl
arithmetic_by_pair op (Integer x) Error = refl
arithmetic_by_pair op (Integer x) (Boolean y) = refl
arithmetic_by_pair op (Integer x) (Integer y) = refl
arithmetic_by_pair op (Integer x) (Real y) = refl
arithmetic_by_pair op (Integer x) (String t p m) = refl
arithmetic_by_pair op (Real x) Undefined = refl
arithmetic_by_pair op (Real x) Error = refl
arithmetic_by_pair op (Real x) (Boolean y) = refl
arithmetic_by_pair op (Real x) (Integer y) = refl
arithmetic_by_pair op (Real x) (Real y) = refl
arithmetic_by_pair op (Real x) (String t p m) = refl
arithmetic_by_pair op (String s o n) b = refl
