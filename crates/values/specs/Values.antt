-- Values: a table over their six kinds, and a String's bytes. Assumes nothing.
use Rattle.std.specs.Prelude.{ℕ, ◌^◌, ◌<◌, Bool, not, cond, List, take, drop, T, Float}
use Rattle.std.specs.Float.{binary64}
use Rattle.std.specs.Float.Ieee.{fits}
use Rattle.integers.specs.Integers.{width}
use Rattle.values.specs.declared.Value.{Value}
use Rattle.values.specs.declared.Value.TheVariants.{Undefined, Error, Boolean, Integer, Real, String}

-- one column for each kind: 'Undefined, Error, Boolean, Integer, Real, String'
abbrev pub kinds : {A : Type 0} → A → A → (Bool → A) → (ℕ → A) → (Float → A) → (Bool → ℕ → ℕ → A) → Value → A
kinds u e b i r s Undefined = u
kinds u e b i r s Error = e
kinds u e b i r s (Boolean x) = b x
kinds u e b i r s (Integer x) = i x
kinds u e b i r s (Real x) = r x
kinds u e b i r s (String side offset length) = s side offset length

-- 'String values are literals of either ad; their bytes are shown as a part of that ad's lent memory': of the second ad's where
-- side is true. A place beyond the memory is cut to it.
abbrev pub bytes_at : List ℕ → List ℕ → Bool → ℕ → ℕ → List ℕ
bytes_at first second side offset length = take length (drop offset (cond side second first))

-- the numbers of a value are those of its types, as those of a value in a program are
abbrev pub Sized : Value → Type 0
Sized Undefined = Unit {0}
Sized Error = Unit {0}
Sized (Boolean b) = Unit {0}
Sized (Integer x) = x < 2 ^ width
Sized (Real x) = T (fits binary64 x)
Sized (String side offset length) = (offset < 2 ^ 16) × (length < 2 ^ 16)

-- the same value where the two ads are exchanged
abbrev pub turned : Value → Value
turned = kinds Undefined Error (λ b. Boolean b) (λ x. Integer x) (λ x. Real x) (λ side offset length. String (not side) offset length)
