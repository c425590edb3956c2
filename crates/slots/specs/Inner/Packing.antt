-- What inner functions are given and ensure. Assumes nothing.
use Rattle.std.specs.Prelude.{ℕ, ◌≡◌}
use Rattle.values.specs.declared.Value.{Value}
use Rattle.values.specs.Values.{Sized}
use Rattle.slots.specs.declared.Slot.{Slot}
use Rattle.slots.specs.declared.Slot.TheVariants.{Blank, Held}
use Rattle.slots.specs.Packed.{kind_of, load_of, slot_of}

-- a slot whose value fits its word
abbrev pub SizedSlot : Slot → Type 0
SizedSlot Blank = Unit {0}
SizedSlot (Held v) = Sized v

-- r is the word that carries v, and gives v back
pub record Packs (v : Value) (r : ℕ) : Type 0 where
  pub word : r ≡ load_of v
  pub back : slot_of (kind_of v) r ≡ Held v
