-- A slot of the table, packed to two words: its kind, and what it carries. Assumes nothing.
use Rattle.std.specs.Prelude.{ℕ, ◌+◌, ◌*◌, ◌/◌, ◌%◌, ◌^◌, ◌<◌, ◌≡◌, Bool, not, cond, List, eqb, length, get_or, set}
use Rattle.std.specs.Float.{binary64}
use Rattle.std.specs.Float.Ieee.{to_bits, of_bits}
use Rattle.integers.specs.Integers.{width}
use Rattle.values.specs.declared.Value.{Value}
use Rattle.values.specs.declared.Value.TheVariants.{Undefined, Error, Boolean, Integer, Real, String}
use Rattle.values.specs.Values.{kinds}
use Rattle.slots.specs.declared.Slot.{Slot}
use Rattle.slots.specs.declared.Slot.TheVariants.{Blank, Held}

-- 'A value is one of six kinds': each has its number, and none is 0, which is blank
abbrev pub kind_of : Value → ℕ
kind_of = kinds 1 2 (λ b. 3) (λ x. 4) (λ x. 5) (λ side offset length. 6)

-- a String's place in one word (docs/LAYOUT.md)
abbrev pub place_word : Bool → ℕ → ℕ → ℕ
place_word side offset length = cond side 1 0 * 2 ^ 32 + offset * 2 ^ 16 + length

-- 'Not-a-number is always kept as the bits 0x7FF8000000000000', which is `to_bits` of it
abbrev pub load_of : Value → ℕ
load_of = kinds 0 0 (λ b. cond b 1 0) (λ x. x) (λ x. to_bits binary64 x) place_word

-- 'Each slot of the table is blank or holds a value': its first word
abbrev pub kind_word : Slot → ℕ
kind_word Blank = 0
kind_word (Held v) = kind_of v

-- its second word (docs/LAYOUT.md): 'Each slot .. is blank or holds a value'
abbrev pub load_word : Slot → ℕ
load_word Blank = 0
load_word (Held v) = load_of v

-- what two words stand for, whatever they are (docs/LAYOUT.md): 'Each slot of the table is blank or holds a value.'
abbrev pub slot_of : ℕ → ℕ → Slot
slot_of k p =
    cond (eqb k 1) (Held Undefined)
    (cond (eqb k 2) (Held Error)
    (cond (eqb k 3) (Held (Boolean (not (eqb p 0))))
    (cond (eqb k 4) (Held (Integer (p % 2 ^ width)))
    (cond (eqb k 5) (Held (Real (of_bits binary64 p)))
    (cond (eqb k 6) (Held (String (not (eqb (p / 2 ^ 32) 0)) (p / 2 ^ 16 % 2 ^ 16) (p % 2 ^ 16)))
    Blank)))))

-- slot i of a table; words beyond its end count as 0, so that a slot there is blank: 'Each slot .. is blank or holds a value'
abbrev pub slot_at : List ℕ → ℕ → Slot
slot_at table i = slot_of (get_or table (i * 2) 0) (get_or table (i * 2 + 1) 0)

-- the table with a slot in its place
abbrev pub put_at : List ℕ → ℕ → Slot → List ℕ
put_at table i s = set (set table (i * 2) (kind_word s)) (i * 2 + 1) (load_word s)

-- the table after a store: what it holds, that slot i holds s where the table has room for it, and that every other slot is kept
pub record Stored (before after : List ℕ) (i : ℕ) (s : Slot) : Type 0 where
  pub whole : after ≡ put_at before i s
  pub holds : i * 2 + 1 < length before → slot_at after i ≡ s
  pub keeps : (j : ℕ) → (j ≡ i → ⊥) → slot_at after j ≡ slot_at before j
