-- What inner functions are given and ensure. Assumes nothing.
use Rattle.std.specs.Prelude.{ℕ, List}
use Rattle.text.specs.Strings.{string_order}
use Rattle.values.specs.declared.Value.{Value}
use Rattle.values.specs.declared.Value.TheVariants.{Undefined, Error, Boolean}
use Rattle.values.specs.Values.{bytes_at}
use Rattle.operands.specs.declared.Operands.{Operands}
use Rattle.operands.specs.declared.Operands.TheVariants.{Refused, Missing, Integers, Reals, Strings}
use Rattle.comparison.specs.declared.Comparison.{Comparison}
use Rattle.comparison.specs.Comparison.{integers_compare, reals_compare, order_holds}

-- what the code makes of the pair of operands
abbrev pub comparison_result : List ℕ → List ℕ → Comparison → Operands → Value
comparison_result first second op Refused = Error
comparison_result first second op Missing = Undefined
comparison_result first second op (Integers x y) = Boolean (integers_compare op x y)
comparison_result first second op (Reals x y) = Boolean (reals_compare op x y)
comparison_result first second op (Strings s o n t p m) =
    Boolean (order_holds op (string_order (bytes_at first second s o n) (bytes_at first second t p m)))
