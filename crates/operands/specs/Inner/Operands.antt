-- What two operands are to a strict operator, as the code takes them apart. Strict.antt says what a strict operator gives; that both say
-- the same is `arithmetic_by_pair` and `comparison_by_pair`. Assumes nothing.
use Rattle.std.specs.Prelude.{ℕ, Bool, Float}
use Rattle.integers.specs.Integers.{width}
use Rattle.reals.specs.Reals.{integer_real}
use Rattle.values.specs.declared.Value.{Value}
use Rattle.values.specs.declared.Value.TheVariants.{Undefined, Error, Boolean, Integer, Real, String}
use Rattle.values.specs.Values.{kinds}
use Rattle.operands.specs.declared.Operands.{Operands}
use Rattle.operands.specs.declared.Operands.TheVariants.{Refused, Missing, Integers, Reals, Strings}

-- a kind that is refused
abbrev refused : {A : Type 0} → A → Operands
refused x = Refused

-- the same for the column of Strings
abbrev refused_string : Bool → ℕ → ℕ → Operands
refused_string side offset length = Refused

-- Undefined with a second operand: Refused where that is of no admitted type, else Missing. The columns are the second operand's
-- kinds: Undefined, Error, Boolean, Integer, Real, String
abbrev pub with_undefined : Value → Operands
with_undefined = kinds Missing Refused refused (λ y. Missing) (λ y. Missing) (λ side offset length. Missing)

-- an Integer with a second operand, as Reals where that is one
abbrev pub with_integer : ℕ → Value → Operands
with_integer x = kinds Missing Refused refused (λ y. Integers x y) (λ y. Reals (integer_real width x) y) refused_string

-- a Real with a second operand, as Reals where that is an Integer
abbrev pub with_real : Float → Value → Operands
with_real x = kinds Missing Refused refused (λ y. Reals x (integer_real width y)) (λ y. Reals x y) refused_string

-- a String with a second operand
abbrev pub with_string : Bool → ℕ → ℕ → Value → Operands
with_string side offset length = kinds Missing Refused refused refused refused (λ s o n. Strings side offset length s o n)

-- what two operands are: not admitted, one of them missing, or the two values
abbrev pub operands_of : Value → Value → Operands
operands_of Undefined b = with_undefined b
operands_of Error b = Refused
operands_of (Boolean x) b = Refused
operands_of (Integer x) b = with_integer x b
operands_of (Real x) b = with_real x b
operands_of (String side offset length) b = with_string side offset length b

-- for an operator that admits numbers alone, a String is as bad an operand as an Error
abbrev pub number_only : Value → Value
number_only = kinds Undefined Error (λ x. Boolean x) (λ x. Integer x) (λ x. Real x) (λ side offset length. Error)
