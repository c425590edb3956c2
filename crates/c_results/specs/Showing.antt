-- What `classad_value` and `classad_string` give, as numbers (docs/LAYOUT.md). Assumes nothing.
use Rattle.std.specs.Prelude.{ℕ, ◌+◌, ◌≤◌, min, ◌≡◌, Bool, cond, List, [], ◌∷◌, length, take, drop}
use Rattle.std.specs.Float.{binary64}
use Rattle.std.specs.Float.Ieee.{to_bits}
use Rattle.values.specs.declared.Value.{Value}
use Rattle.values.specs.Values.{kinds, bytes_at}
use Rattle.slots.specs.declared.Slot.{Slot}
use Rattle.slots.specs.declared.Slot.TheVariants.{Blank, Held}

-- 'A value is one of six kinds, and a Real carries a 64-bit float': its kind, and what it carries
abbrev pub held_numbers : Value → List ℕ
held_numbers =
    kinds (1 ∷ 0 ∷ 0 ∷ 0 ∷ []) (2 ∷ 0 ∷ 0 ∷ 0 ∷ []) (λ b. 3 ∷ cond b 1 0 ∷ 0 ∷ 0 ∷ []) (λ x. 4 ∷ x ∷ 0 ∷ 0 ∷ []) (λ x. 5 ∷ to_bits binary64 x ∷ 0 ∷ 0 ∷ [])
    (λ side offset length. 6 ∷ cond side 1 0 ∷ offset ∷ length ∷ [])

-- 'Each slot of the table is blank or holds a value.' The four numbers of `classad_value`
abbrev pub slot_numbers : Slot → List ℕ
slot_numbers Blank = 0 ∷ 0 ∷ 0 ∷ 0 ∷ []
slot_numbers (Held v) = held_numbers v

-- THE CONTRACT OF `classad_string`: n are the two numbers after it, where a String's bytes begin in its ad's and how many there are.
-- 'their bytes are shown as a part of that ad's lent memory'
pub record StringPlaced (first second : List ℕ) (side : Bool) (offset size : ℕ) (n : List ℕ) : Type 0 where
  pub start : ℕ
  pub count : ℕ
  pub tells : n ≡ start ∷ count ∷ []
  pub starts : start ≡ min offset (length (cond side second first))
  pub inside : start + count ≤ length (cond side second first)
  pub shows : take count (drop start (cond side second first)) ≡ bytes_at first second side offset size
