-- What the C functions of the operators give: the operators' rules over packed slots. Assumes nothing.
use Rattle.std.specs.Prelude.{ℕ, cond, Option, Some, None, List, eqb}
use Rattle.syntax.specs.declared.Binary.{Binary}
use Rattle.syntax.specs.declared.Unary.{Unary}
use Rattle.ad.specs.Stored.{arity, unary_of, binary_of}
use Rattle.operators.specs.Operators.{binary_value, unary_value}
use Rattle.slots.specs.declared.Slot.{Slot}
use Rattle.slots.specs.declared.Slot.TheVariants.{Blank, Held}
use Rattle.c_conditional.specs.Conditional.{with_held}

-- the operator of two operands that a number names, by the kind of its node
abbrev pub binary_named : ℕ → Option Binary
binary_named k = cond (eqb (arity k) 2) (Some (binary_of k)) None

-- the operator of one operand that a number names
abbrev pub unary_named : ℕ → Option Unary
unary_named k = cond (eqb (arity k) 1) (Some (unary_of k)) None

-- blank where the number is no operator's or an operand is blank, else 'what the rules make of the values'
abbrev pub binary_slot : List ℕ → List ℕ → Option Binary → Slot → Slot → Slot
binary_slot first second None a b = Blank
binary_slot first second (Some op) a b = with_held a (λ x. with_held b (λ y. Held (binary_value first second op x y)))

-- the same for an operator of one operand: 'what the rules make of the values'
abbrev pub unary_slot : Option Unary → Slot → Slot
unary_slot None a = Blank
unary_slot (Some op) a = with_held a (λ x. Held (unary_value op x))
