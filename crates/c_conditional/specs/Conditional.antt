-- What the C function of `? :` gives: its rule over packed slots. Assumes nothing.
use Rattle.values.specs.declared.Value.{Value}
use Rattle.logic.specs.Logic.{conditional_value}
use Rattle.slots.specs.declared.Slot.{Slot}
use Rattle.slots.specs.declared.Slot.TheVariants.{Blank, Held}

-- blank where the operand is blank
abbrev pub with_held : Slot → (Value → Slot) → Slot
with_held Blank f = Blank
with_held (Held v) f = f v

-- the same for `? :`, whose rule is '`?:`: F third operand, U Undefined, T second, O Error.'
abbrev pub conditional_slot : Slot → Slot → Slot → Slot
conditional_slot p a b = with_held p (λ x. with_held a (λ y. with_held b (λ z. Held (conditional_value x y z))))
