-- The six comparisons. Assumes nothing.
use Rattle.std.specs.Prelude.{ℕ, Bool, not, cond, ◌&&◌, ◌||◌, List, [], ◌∷◌, eqb, Float}
use Rattle.std.specs.Float.Ieee as Ieee
use Rattle.integers.specs.Integers.{width, less_than}
use Rattle.text.specs.Strings.{string_order}
use Rattle.std.specs.Ordering.{is_eq, is_ne, is_lt, is_le, is_gt, is_ge}
use Rattle.std.specs.declared.cmp.Ordering.{Ordering}
use Rattle.values.specs.declared.Value.{Value}
use Rattle.values.specs.declared.Value.TheVariants.{Boolean}
use Rattle.values.specs.Values.{kinds, bytes_at}
use Rattle.comparison.specs.declared.Comparison.{Comparison}
use Rattle.comparison.specs.declared.Comparison.TheVariants.{Equal, NotEqual, Below, AtMost, Above, AtLeast}
use Rattle.operands.specs.Strict.{is_integer, is_number, is_string, code_of, to_real, strict}

-- 'the six comparisons' of two Integers, by the order of the whole numbers
abbrev pub integers_compare : Comparison → ℕ → ℕ → Bool
integers_compare Equal x y = eqb x y
integers_compare NotEqual x y = not (eqb x y)
integers_compare Below x y = less_than width x y
integers_compare AtMost x y = not (less_than width y x)
integers_compare Above x y = less_than width y x
integers_compare AtLeast x y = not (less_than width x y)

-- 'Real comparison is Java's.'
abbrev pub reals_compare : Comparison → Float → Float → Bool
reals_compare Equal x y = Ieee.eq x y
reals_compare NotEqual x y = Ieee.ne x y
reals_compare Below x y = Ieee.lt x y
reals_compare AtMost x y = Ieee.le x y
reals_compare Above x y = Ieee.lt y x
reals_compare AtLeast x y = Ieee.le y x

-- 'Strings compare by bytes after ASCII lower case; a proper beginning is smaller.'
abbrev pub order_holds : Comparison → Ordering → Bool
order_holds Equal = is_eq
order_holds NotEqual = is_ne
order_holds Below = is_lt
order_holds AtMost = is_le
order_holds Above = is_gt
order_holds AtLeast = is_ge

-- the bytes of a String; of no other value are they asked
abbrev pub bytes_of : List ℕ → List ℕ → Value → List ℕ
bytes_of first second = kinds [] [] (λ x. []) (λ x. []) (λ x. []) (λ side offset length. bytes_at first second side offset length)

-- whether a comparison of two Strings or two numbers holds: of two Integers as such, else 'Mixed: the Integer becomes Real first.'
abbrev pub compares : List ℕ → List ℕ → Comparison → Value → Value → Bool
compares first second op a b =
    cond (is_string a) (order_holds op (string_order (bytes_of first second a) (bytes_of first second b)))
    (cond (is_integer a && is_integer b) (integers_compare op (code_of a) (code_of b)) (reals_compare op (to_real a) (to_real b)))

-- 'Strict operators are .. the six comparisons'; 'comparison two numbers or two Strings. Booleans are not compared.'
abbrev pub comparison_value : List ℕ → List ℕ → Comparison → Value → Value → Value
comparison_value first second op a b =
    strict (λ v. is_number v || is_string v) (a ∷ b ∷ []) (is_number a && is_number b || is_string a && is_string b)
    (Boolean (compares first second op a b))
