-- `is` and `isnt`. Assumes nothing.
use Rattle.std.specs.Prelude.{ℕ, Bool, true, false, not, List, eqb, Float}
use Rattle.std.specs.Bool.{beq}
use Rattle.std.specs.Float.Ieee as Ieee
use Rattle.text.specs.Strings.{same_bytes}
use Rattle.values.specs.declared.Value.{Value}
use Rattle.values.specs.declared.Value.TheVariants.{Boolean}
use Rattle.values.specs.Values.{kinds, bytes_at}

-- '`is`: same kind and same value': what is the same as Undefined
abbrev pub same_undefined : Value → Bool
same_undefined = kinds true false (λ x. false) (λ x. false) (λ x. false) (λ side offset length. false)

-- '`is`: same kind and same value': what is the same as Error
abbrev pub same_error : Value → Bool
same_error = kinds false true (λ x. false) (λ x. false) (λ x. false) (λ side offset length. false)

-- '`is`: same kind and same value': what is the same as a Boolean
abbrev pub same_boolean : Bool → Value → Bool
same_boolean x = kinds false false (beq x) (λ x. false) (λ x. false) (λ side offset length. false)

-- '`is`: same kind and same value': what is the same as an Integer
abbrev pub same_integer : ℕ → Value → Bool
same_integer x = kinds false false (λ x. false) (eqb x) (λ x. false) (λ side offset length. false)

-- 'Reals numerically, so not-a-number is never itself and 0.0 is -0.0'
abbrev pub same_real : Float → Value → Bool
same_real x = kinds false false (λ x. false) (λ x. false) (Ieee.eq x) (λ side offset length. false)

-- 'Strings byte for byte'
abbrev pub same_string : List ℕ → List ℕ → List ℕ → Value → Bool
same_string first second s = kinds false false (λ x. false) (λ x. false) (λ x. false) (λ side offset length. same_bytes s (bytes_at first second side offset length))

-- '`is`: same kind and same value; Strings byte for byte; Reals numerically ..'
abbrev pub same_value : List ℕ → List ℕ → Value → Value → Bool
same_value first second = kinds same_undefined same_error same_boolean same_integer same_real (λ side offset length. same_string first second (bytes_at first second side offset length))

-- 'Never Undefined or Error.'
abbrev pub is_value : List ℕ → List ℕ → Value → Value → Value
is_value first second a b = Boolean (same_value first second a b)

-- '`isnt` negates.'
abbrev pub isnt_value : List ℕ → List ℕ → Value → Value → Value
isnt_value first second a b = Boolean (not (same_value first second a b))
