-- What inner functions are given and ensure. Assumes nothing.
use Rattle.values.specs.declared.Value.{Value}
use Rattle.values.specs.declared.Value.TheVariants.{Undefined, Error, Real}
use Rattle.operands.specs.declared.Operands.{Operands}
use Rattle.operands.specs.declared.Operands.TheVariants.{Refused, Missing, Integers, Reals, Strings}
use Rattle.arithmetic.specs.declared.Arithmetic.{Arithmetic}
use Rattle.arithmetic.specs.Arithmetic.{integers_result, reals_result}

-- what the code makes of the pair of operands
abbrev pub arithmetic_result : Arithmetic → Operands → Value
arithmetic_result op Refused = Error
arithmetic_result op Missing = Undefined
arithmetic_result op (Integers x y) = integers_result op x y
arithmetic_result op (Reals x y) = Real (reals_result op x y)
arithmetic_result op (Strings s o n t p m) = Error
