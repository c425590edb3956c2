-- Every operator of two operands and of one, by its rule. Assumes nothing.
use Rattle.std.specs.Prelude.{ℕ, List}
use Rattle.syntax.specs.declared.Binary.{Binary}
use Rattle.syntax.specs.declared.Binary.TheVariants.{Or, And, Equal, NotEqual, Is, Isnt, Less, LessOrEqual, Greater, GreaterOrEqual, Add, Subtract, Multiply, Divide, Remainder}
use Rattle.syntax.specs.declared.Unary.{Unary}
use Rattle.syntax.specs.declared.Unary.TheVariants.{Not, Plus, Minus}
use Rattle.values.specs.declared.Value.{Value}
use Rattle.logic.specs.Logic.{and_value, or_value, not_value}
use Rattle.identity.specs.Identity.{is_value, isnt_value}
use Rattle.arithmetic.specs.declared.Arithmetic.TheVariants as Arithmetic
use Rattle.arithmetic.specs.Arithmetic.{arithmetic_value, plus_value, minus_value}
use Rattle.comparison.specs.declared.Comparison.TheVariants as Comparison
use Rattle.comparison.specs.Comparison.{comparison_value}

-- the rule of each operator of two operands; first and second are the two ads' bytes: 'String values are literals of either ad'
abbrev pub binary_value : List ℕ → List ℕ → Binary → Value → Value → Value
binary_value first second Or = or_value
binary_value first second And = and_value
binary_value first second Equal = comparison_value first second Comparison.Equal
binary_value first second NotEqual = comparison_value first second Comparison.NotEqual
binary_value first second Is = is_value first second
binary_value first second Isnt = isnt_value first second
binary_value first second Less = comparison_value first second Comparison.Below
binary_value first second LessOrEqual = comparison_value first second Comparison.AtMost
binary_value first second Greater = comparison_value first second Comparison.Above
binary_value first second GreaterOrEqual = comparison_value first second Comparison.AtLeast
binary_value first second Add = arithmetic_value Arithmetic.Sum
binary_value first second Subtract = arithmetic_value Arithmetic.Difference
binary_value first second Multiply = arithmetic_value Arithmetic.Product
binary_value first second Divide = arithmetic_value Arithmetic.Quotient
binary_value first second Remainder = arithmetic_value Arithmetic.Remainder

-- the rule of each operator of one operand: 'unary `! + -`'
abbrev pub unary_value : Unary → Value → Value
unary_value Not = not_value
unary_value Plus = plus_value
unary_value Minus = minus_value
