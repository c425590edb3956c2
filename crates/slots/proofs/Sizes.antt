-- Whatever the words are, the slot that they stand for is sized. Assumes nothing.
use mathlib.Core.Bool.{Bool, true, false, cond}
use mathlib.Core.List.{List}
use Prim.Native.Nat.{ℕ, ◌+◌, ◌*◌, ◌/◌, ◌%◌, ◌^◌}
use native.Mathlib.Nat.{mod-lt}
use lib.Pow.{pow_pos}
use lib.Dec.{eqb}
use lib.ListN.{get_or}
use lib.Ieee.{binary64}
use lib.Ieee.Bits.{of_bits-fits}
use Rattle.integers.specs.Integers.{width}
use Rattle.values.specs.declared.Value.TheVariants.{Undefined, Error, Boolean, Integer, Real, String}
use Rattle.slots.specs.declared.Slot.{Slot}
use Rattle.slots.specs.declared.Slot.TheVariants.{Blank, Held}
use Rattle.slots.specs.Packed.{slot_of, slot_at}
use Rattle.slots.specs.Inner.Packing.{SizedSlot}

pick : (b : Bool) (s t : Slot) → SizedSlot s → SizedSlot t → SizedSlot (cond b s t)
pick true s t p q = p
pick false s t p q = q

pub sized_slot : (k p : ℕ) → SizedSlot (slot_of k p)
sized_slot k p =
    pick (eqb k 1) (Held Undefined) _ tt (pick (eqb k 2) (Held Error) _ tt (pick (eqb k 3)
    (Held (Boolean _)) _ tt (pick (eqb k 4) (Held (Integer (p % 2 ^ width))) _
    (mod-lt p (pow_pos width)) (pick (eqb k 5) (Held (Real _)) _ (of_bits-fits binary64 p) (pick
    (eqb k 6) (Held (String _ (p / 2 ^ 16 % 2 ^ 16) (p % 2 ^ 16))) Blank
    (mod-lt (p / 2 ^ 16) (pow_pos 16), mod-lt p (pow_pos 16)) tt)))))

pub sized_at : (t : List ℕ) (i : ℕ) → SizedSlot (slot_at t i)
sized_at t i = sized_slot (get_or t (i * 2) 0) (get_or t (i * 2 + 1) 0)
