-- Where the texts of operators stand in one text that has all of them. Assumes nothing.
use Rattle.std.specs.Prelude.{ℕ}
use Rattle.syntax.specs.declared.Binary.{Binary}
use Rattle.syntax.specs.declared.Binary.TheVariants.{Or, And, Equal, NotEqual, Is, Isnt, Less, LessOrEqual, Greater, GreaterOrEqual, Add, Subtract, Multiply, Divide, Remainder}

-- where that of an operator begins in `||&&==!=isnt<=>=+-*/%`
abbrev pub operator_start : Binary → ℕ
operator_start Or = 0
operator_start And = 2
operator_start Equal = 4
operator_start NotEqual = 6
operator_start Is = 8
operator_start Isnt = 8
operator_start Less = 12
operator_start LessOrEqual = 12
operator_start Greater = 14
operator_start GreaterOrEqual = 14
operator_start Add = 16
operator_start Subtract = 17
operator_start Multiply = 18
operator_start Divide = 19
operator_start Remainder = 20

-- where it ends
abbrev pub operator_end : Binary → ℕ
operator_end Or = 2
operator_end And = 4
operator_end Equal = 6
operator_end NotEqual = 8
operator_end Is = 10
operator_end Isnt = 12
operator_end Less = 13
operator_end LessOrEqual = 14
operator_end Greater = 15
operator_end GreaterOrEqual = 16
operator_end Add = 17
operator_end Subtract = 18
operator_end Multiply = 19
operator_end Divide = 20
operator_end Remainder = 21
