-- What is shown of a match's table. Assumes nothing.
use Rattle.std.specs.Prelude.{ℕ, Bool, cond, List, ltb}
use Rattle.slots.specs.declared.Slot.{Slot}
use Rattle.slots.specs.declared.Slot.TheVariants.{Blank}
use Rattle.slots.specs.Packed.{slot_at}
use Rattle.links.specs.Pair.{numbered}

-- what the slot of a node of an ad, the second or the first, holds: 'Every node of each side has its own slot, 1,024 a side.'
abbrev pub shown_at : List ℕ → Bool → ℕ → Slot
shown_at table second node = cond (ltb node 1024) (slot_at table (numbered second node)) Blank
