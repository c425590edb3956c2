-- Document 01's worked examples W1 to W10 as one table, the edges of the rules as another, and what a table says. Assumes
-- nothing.
use Rattle.std.specs.Prelude.{◌≡◌, true, false, List, [], ◌∷◌, map, ℕ, ℤ, pos, negsuc}
use Rattle.std.specs.Float.{inf, nan, fin}
use Rattle.text.specs.Bytes.{bytes}
use Rattle.integers.specs.Integers.{width, wrap}
use Rattle.syntax.specs.declared.Binary.TheVariants.{Or, And, Equal, NotEqual, Is, Less, GreaterOrEqual, Add, Subtract, Multiply, Divide, Remainder}
use Rattle.syntax.specs.declared.Unary.TheVariants.{Not, Plus, Minus}
use Rattle.values.specs.declared.Value.{Value}
use Rattle.values.specs.declared.Value.TheVariants.{Undefined, Error, Boolean, Integer, Real, String}
use Rattle.operators.specs.Expressions.{Expression, literal, real, unary, binary, conditional, value_of}

-- an expression and its value: a line of 'Examples, those marked W to be proved'
pub record Example : Type 0 where
  pub text : Expression
  pub gives : Value

-- the strings of the examples
unfoldable pub memory : List ℕ
memory = bytes "xOneoneaB"

-- every example of a table gives its value
abbrev pub Holds : List Example → Type 0
Holds table = map (λ (e : Example). value_of memory e.text) table ≡ map (λ (e : Example). e.gives) table

-- an Integer by its whole number: negsuc n is -(n + 1)
abbrev pub integer : ℤ → Value
integer z = Integer (wrap width z)

-- an Integer's literal: 'Integer: digits'
abbrev whole : ℕ → Expression
whole n = literal (integer (pos n))

-- `undefined`, as in W5, '`undefined + 1`'
abbrev undefined : Expression
undefined = literal Undefined

-- `true`, as in W1 and W2: 'Examples, those marked W to be proved'
abbrev yes : Expression
yes = literal (Boolean true)

-- "x", as in W3, '`undefined && "x"`'
abbrev x : Expression
x = literal (String false 0 1)

-- "One", as in W10, '`"One" == "one"`'
abbrev One : Expression
One = literal (String false 1 3)

-- "one", as in W10, '`"One" == "one"`'
abbrev lower_one : Expression
lower_one = literal (String false 4 3)

-- 'Examples, those marked W to be proved': W1 to W10
unfoldable pub examples : List Example
examples =
    -- W1: undefined || true
    record { text = binary undefined Or yes; gives = Boolean true }
    -- W2: "x" || true
    ∷ record { text = binary x Or yes; gives = Error }
    -- W3: undefined && "x"
    ∷ record { text = binary undefined And x; gives = Error }
    -- W4: undefined + "x"
    ∷ record { text = binary undefined Add x; gives = Error }
    -- W5: undefined + 1
    ∷ record { text = binary undefined Add (whole 1); gives = Undefined }
    -- W6: 2147483647 + 1
    ∷ record { text = binary (whole 2147483647) Add (whole 1); gives = integer (negsuc 2147483647) }
    -- W7: -7 % 3
    ∷ record { text = binary (unary Minus (whole 7)) Remainder (whole 3); gives = integer (negsuc 0) }
    -- W8: 1 / 0
    ∷ record { text = binary (whole 1) Divide (whole 0); gives = Error }
    -- W9: 3 is 3.0
    ∷ record { text = binary (whole 3) Is (real 30 1); gives = Boolean false }
    -- W10: "One" == "one"
    ∷ record { text = binary One Equal lower_one; gives = Boolean true }
    ∷ []

-- 'unary `-`'
abbrev minus : Expression → Expression
minus a = unary Minus a

-- -2147483648
abbrev lowest : Expression
lowest = literal (integer (negsuc 2147483647))

-- 0.0 / 0.0: 'Division by 0.0 gives infinity or not-a-number, never Error.'
abbrev not_a_number : Expression
not_a_number = binary (real 0 1) Divide (real 0 1)

-- the edges of 'Values': each line says which
unfoldable pub edges : List Example
edges =
    -- -2147483648 / -1, and %
    record { text = binary lowest Divide (minus (whole 1)); gives = integer (negsuc 2147483647) }
    ∷ record { text = binary lowest Remainder (minus (whole 1)); gives = integer (pos 0) }
    -- -2147483648 - 1, -(-2147483648), 65537 * 65537
    ∷ record { text = binary lowest Subtract (whole 1); gives = integer (pos 2147483647) }
    ∷ record { text = minus lowest; gives = integer (negsuc 2147483647) }
    ∷ record { text = binary (whole 65537) Multiply (whole 65537); gives = integer (pos 131073) }
    -- -7 / 2, 7 % -3, 1 % 0
    ∷ record { text = binary (minus (whole 7)) Divide (whole 2); gives = integer (negsuc 2) }
    ∷ record { text = binary (whole 7) Remainder (minus (whole 3)); gives = integer (pos 1) }
    ∷ record { text = binary (whole 1) Remainder (whole 0); gives = Error }
    -- -1 < 1
    ∷ record { text = binary (minus (whole 1)) Less (whole 1); gives = Boolean true }
    -- 1.0 / 0.0, 0.0 / 0.0
    ∷ record { text = binary (real 10 1) Divide (real 0 1); gives = Real (inf false) }
    ∷ record { text = not_a_number; gives = Real nan }
    -- 1 / 0.0, 1.0 / 0, 1.0 / -0.0, 7.5 % 0
    ∷ record { text = binary (whole 1) Divide (real 0 1); gives = Real (inf false) }
    ∷ record { text = binary (real 10 1) Divide (whole 0); gives = Real (inf false) }
    ∷ record { text = binary (real 10 1) Divide (minus (real 0 1)); gives = Real (inf true) }
    ∷ record { text = binary (real 75 1) Remainder (whole 0); gives = Real nan }
    -- -4.0 % 2.0 is -0.0
    ∷ record { text = binary (minus (real 40 1)) Remainder (real 20 1); gives = Real (fin true 0 (pos 0)) }
    -- not-a-number < 1.0, 1.0 < not-a-number, not-a-number >= 1.0
    ∷ record { text = binary not_a_number Less (real 10 1); gives = Boolean false }
    ∷ record { text = binary (real 10 1) Less not_a_number; gives = Boolean false }
    ∷ record { text = binary not_a_number GreaterOrEqual (real 10 1); gives = Boolean false }
    -- not-a-number is never itself, and not equal to itself; 0.0 is -0.0
    ∷ record { text = binary not_a_number Is not_a_number; gives = Boolean false }
    ∷ record { text = binary not_a_number NotEqual not_a_number; gives = Boolean true }
    ∷ record { text = binary (real 0 1) Is (minus (real 0 1)); gives = Boolean true }
    -- 0.1 + 0.2 == 0.3, 1 == 1.0, -7.5 % 2 == -1.5
    ∷ record { text = binary (binary (real 1 1) Add (real 2 1)) Equal (real 3 1); gives = Boolean false }
    ∷ record { text = binary (whole 1) Equal (real 10 1); gives = Boolean true }
    ∷ record { text = binary (binary (minus (real 75 1)) Remainder (whole 2)) Equal (minus (real 15 1)); gives = Boolean true }
    -- "a" < "B", "On" < "one", "One" is "one"
    ∷ record { text = binary (literal (String false 7 1)) Less (literal (String false 8 1)); gives = Boolean true }
    ∷ record { text = binary (literal (String false 1 2)) Less lower_one; gives = Boolean true }
    ∷ record { text = binary One Is lower_one; gives = Boolean false }
    -- undefined == "x", undefined < 1, undefined == true, true == true, 1 < "x"
    ∷ record { text = binary undefined Equal x; gives = Undefined }
    ∷ record { text = binary undefined Less (whole 1); gives = Undefined }
    ∷ record { text = binary undefined Equal yes; gives = Error }
    ∷ record { text = binary yes Equal yes; gives = Error }
    ∷ record { text = binary (whole 1) Less x; gives = Error }
    -- "x" && false, false && "x", !undefined, +"x", undefined is undefined
    ∷ record { text = binary x And (literal (Boolean false)); gives = Error }
    ∷ record { text = binary (literal (Boolean false)) And x; gives = Boolean false }
    ∷ record { text = unary Not undefined; gives = Undefined }
    ∷ record { text = unary Plus x; gives = Error }
    ∷ record { text = binary undefined Is undefined; gives = Boolean true }
    -- undefined ? 1 : 2, 1 ? 1 : 2
    ∷ record { text = conditional undefined (whole 1) (whole 2); gives = Undefined }
    ∷ record { text = conditional (whole 1) (whole 1) (whole 2); gives = Error }
    ∷ []
