-- Expressions without references, and what the rules make of them. Assumes nothing.
use Rattle.std.specs.Prelude.{ℕ, List}
use Rattle.syntax.specs.declared.Binary.{Binary}
use Rattle.syntax.specs.declared.Unary.{Unary}
use Rattle.values.specs.declared.Value.{Value}
use Rattle.values.specs.declared.Value.TheVariants.{Real}
use Rattle.reals.specs.Reals.{literal_real}
use Rattle.logic.specs.Logic.{conditional_value}
use Rattle.operators.specs.Operators.{binary_value, unary_value}

-- expressions without references, for the examples: 'A node is a literal, .. or an operator.' A real literal is kept as its
-- digits and places: 'its digits read as one whole number and the count after the point'
pub data Expression : Type 0 where
  literal : Value → Expression
  real : ℕ → ℕ → Expression
  unary : Unary → Expression → Expression
  binary : Expression → Binary → Expression → Expression
  conditional : Expression → Expression → Expression → Expression

-- the value in the first ad, whose bytes are given: 'what the rules make of the values of its needs'
unfoldable pub value_of : List ℕ → Expression → Value
value_of bytes (literal v) = v
value_of bytes (real digits places) = Real (literal_real digits places)
value_of bytes (unary op a) = unary_value op (value_of bytes a)
value_of bytes (binary a op b) = binary_value bytes bytes op (value_of bytes a) (value_of bytes b)
value_of bytes (conditional p a b) = conditional_value (value_of bytes p) (value_of bytes a) (value_of bytes b)
