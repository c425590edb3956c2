-- The text of each operator among those of all. Assumes nothing.
use Prim.Native.Nat.{ℕ, ◌-◌, ◌≤◌}
use native.Mathlib.Omega.{arith}
use mathlib.Core.Path.{◌≡◌, refl, sym, ◌∙◌, subst}
use mathlib.Core.List.{List}
use lib.ListN.{take, drop}
use Rattle.text.specs.Bytes.{bytes}
use Rattle.syntax.specs.Print.{binary_text}
use Rattle.syntax.specs.declared.Binary.{Binary}
use Rattle.syntax.specs.declared.Binary.TheVariants.{Or, And, Equal, NotEqual, Is, Isnt, Less, LessOrEqual, Greater, GreaterOrEqual, Add, Subtract, Multiply, Divide, Remainder}
use Rattle.writer.specs.Inner.Put.{Puts, Near}
use Rattle.writer.proofs.Laws.{puts_as}
use Rattle.writer.specs.Inner.Operators.{operator_start, operator_end}

operator_inside : (j : Binary) → (operator_start j ≤ operator_end j) × (operator_end j ≤ 21)
operator_inside Or = omega arith
operator_inside And = omega arith
operator_inside Equal = omega arith
operator_inside NotEqual = omega arith
operator_inside Is = omega arith
operator_inside Isnt = omega arith
operator_inside Less = omega arith
operator_inside LessOrEqual = omega arith
operator_inside Greater = omega arith
operator_inside GreaterOrEqual = omega arith
operator_inside Add = omega arith
operator_inside Subtract = omega arith
operator_inside Multiply = omega arith
operator_inside Divide = omega arith
operator_inside Remainder = omega arith

operator_part : (j : Binary) → take (operator_end j - operator_start j) (drop (operator_start j) (bytes "||&&==!=isnt<=>=+-*/%")) ≡ binary_text j
unfolding binary_text bytes
operator_part Or = refl
operator_part And = refl
operator_part Equal = refl
operator_part NotEqual = refl
operator_part Is = refl
operator_part Isnt = refl
operator_part Less = refl
operator_part LessOrEqual = refl
operator_part Greater = refl
operator_part GreaterOrEqual = refl
operator_part Add = refl
operator_part Subtract = refl
operator_part Multiply = refl
operator_part Divide = refl
operator_part Remainder = refl

module _ (j : Binary) (a e : ℕ) (ea : a ≡ operator_start j) (ee : e ≡ operator_end j) where
  part : take (e - a) (drop a (bytes "||&&==!=isnt<=>=+-*/%")) ≡ binary_text j
  part = (λ i. take (ee i - ea i) (drop (ea i) (bytes "||&&==!=isnt<=>=+-*/%"))) ∙ operator_part j

  pub operator_near : (at : ℕ) → Near at (binary_text j) → (a ≤ e) × (e ≤ 21) × Near at (take (e - a) (drop a (bytes "||&&==!=isnt<=>=+-*/%")))
  operator_near at h = let x = operator_inside j in (omega arith, omega arith, subst (Near at) (sym part) h)

  pub operator_puts : {o o₁ : List ℕ} {at r : ℕ} → Puts (take (e - a) (drop a (bytes "||&&==!=isnt<=>=+-*/%"))) o at o₁ r → Puts (binary_text j) o at o₁ r
  operator_puts x = puts_as part x
