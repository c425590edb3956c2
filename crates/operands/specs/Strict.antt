-- Strict operators, of one operand or two, as document 01 says it; and what a number is as an Integer and as a Real. Assumes nothing.
use Rattle.std.specs.Prelude.{Bool, true, false, cond, ◌&&◌, ◌||◌, List, [], ◌∷◌, ℕ, Float}
use Rattle.std.specs.Float.{nan}
use Rattle.integers.specs.Integers.{width}
use Rattle.reals.specs.Reals.{integer_real}
use Rattle.values.specs.declared.Value.{Value}
use Rattle.values.specs.declared.Value.TheVariants.{Undefined, Error}
use Rattle.values.specs.Values.{kinds}

-- whether a value is Undefined
abbrev pub is_undefined : Value → Bool
is_undefined = kinds true false (λ x. false) (λ x. false) (λ x. false) (λ side offset length. false)

-- whether a value is an Integer
abbrev pub is_integer : Value → Bool
is_integer = kinds false false (λ x. false) (λ x. true) (λ x. false) (λ side offset length. false)

-- whether a value is a number, Integer or Real
abbrev pub is_number : Value → Bool
is_number = kinds false false (λ x. false) (λ x. true) (λ x. true) (λ side offset length. false)

-- whether a value is a String
abbrev pub is_string : Value → Bool
is_string = kinds false false (λ x. false) (λ x. false) (λ x. false) (λ side offset length. true)

-- the code of an Integer; of no other value is it asked
abbrev pub code_of : Value → ℕ
code_of = kinds 0 0 (λ x. 0) (λ x. x) (λ x. 0) (λ side offset length. 0)

-- 'Mixed: the Integer becomes Real first.' The Real of a number; of no other value is it asked
abbrev pub to_real : Value → Float
to_real = kinds nan nan (λ x. nan) (λ x. integer_real width x) (λ x. x) (λ side offset length. nan)

-- every operand passes the test
abbrev pub every : (Value → Bool) → List Value → Bool
every test [] = true
every test (v ∷ vs) = test v && every test vs

-- some operand passes the test
abbrev pub some : (Value → Bool) → List Value → Bool
some test [] = false
some test (v ∷ vs) = test v || some test vs

-- 'If an operand is neither Undefined nor of an admitted type, or the pair is not admitted: Error. Else if one is Undefined:
-- Undefined. Else the result.' Of the operands, one or two; the pair is one of defined operands, and a single operand makes none.
abbrev pub strict : (Value → Bool) → List Value → Bool → Value → Value
strict admitted operands pair result =
    cond (every (λ v. is_undefined v || admitted v) operands) (cond (some is_undefined operands) Undefined (cond pair result Error)) Error
