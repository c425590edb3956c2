-- A slot that was stored is read back, and no other slot is changed. Assumes nothing.
use mathlib.Core.Path.{◌≡◌, refl, sym, ap, ap₂, ◌∙◌}
use mathlib.Core.Bool.{Bool, true, false, not}
use mathlib.Core.List.{List}
use Prim.Native.Nat.{ℕ, ◌+◌, ◌*◌, ◌/◌, ◌%◌, ◌^◌, ◌<◌}
use native.Mathlib.Nat.{mod-eq_of_lt}
use native.Mathlib.Omega.{arith}
use lib.Dec.{eqb}
use lib.ListN.{length, set, length-set}
use lib.Seq.{get_or-set_same, get_or-set_other}
use lib.Ieee.{Float, binary64}
use lib.Ieee.Bits.{of_bits-to_bits}
use borrow.Author.Tests.{eq-eqb, ne_eqb}
use Rattle.values.specs.declared.Value.{Value}
use Rattle.values.specs.declared.Value.TheVariants.{Undefined, Error, Boolean, Integer, Real, String}
use Rattle.values.specs.Values.{Sized}
use Rattle.slots.specs.declared.Slot.{Slot}
use Rattle.slots.specs.declared.Slot.TheVariants.{Blank, Held}
use Rattle.slots.specs.Packed.{kind_of, place_word, load_of, kind_word, load_word, slot_of, slot_at, put_at}
use Rattle.slots.specs.Inner.Packing.{SizedSlot, Packs}

-- ---- a value's two words
side_back : (side : Bool) (o n : ℕ) → o < 2 ^ 16 → n < 2 ^ 16 → not (eqb (place_word side o n / 2 ^ 32) 0) ≡ side
side_back true o n h k = ap not (ne_eqb (place_word true o n / 2 ^ 32) 0 (λ e. omega arith))
side_back false o n h k =
    ap not (eq-eqb (place_word false o n / 2 ^ 32) 0
    (let z : place_word false o n / 2 ^ 32 ≡ 0 = omega arith in z))

offset_back : (side : Bool) (o n : ℕ) → o < 2 ^ 16 → n < 2 ^ 16 → place_word side o n / 2 ^ 16 % 2 ^ 16 ≡ o
offset_back true o n h k = omega arith
offset_back false o n h k = omega arith

length_back : (side : Bool) (o n : ℕ) → n < 2 ^ 16 → place_word side o n % 2 ^ 16 ≡ n
length_back true o n k = omega arith
length_back false o n k = omega arith

pub back : (v : Value) → Sized v → slot_of (kind_of v) (load_of v) ≡ Held v
back Undefined h = refl
back Error h = refl
back (Boolean true) h = refl
back (Boolean false) h = refl
back (Integer x) h = ap (λ (n : ℕ). Held (Integer n)) (mod-eq_of_lt h)
back (Real x) h = ap (λ (y : Float). Held (Real y)) (of_bits-to_bits binary64 x h)
back (String side o n) h =
    ap (λ (t : Bool). Held (String t (place_word side o n / 2 ^ 16 % 2 ^ 16) (place_word side o n % 2 ^ 16))) (side_back side o n h.0 h.1)
    ∙ ap₂ (λ (p m : ℕ). Held (String side p m)) (offset_back side o n h.0 h.1) (length_back side o n h.1)

pub unpack_pack : (s : Slot) → SizedSlot s → slot_of (kind_word s) (load_word s) ≡ s
unpack_pack Blank h = refl
unpack_pack (Held v) h = back v h

-- a value that is known to be w, by the word of w
pub packs_as : {v w : Value} (r : ℕ) → v ≡ w → Sized w → r ≡ load_of w → Packs v r
packs_as {v} {w} r e h p =
    record { word = p ∙ sym (ap load_of e); back = ap₂ (λ (u : Value) (n : ℕ). slot_of (kind_of u) n) e p ∙ back w h ∙ sym (ap Held e) }

-- ---- the table
module _ (t : List ℕ) (i : ℕ) (s : Slot) where
  pub same_slot : i * 2 + 1 < length t → slot_of (kind_word s) (load_word s) ≡ s → slot_at (put_at t i s) i ≡ s
  same_slot h z =
      ap₂ slot_of
      (get_or-set_other (set t (i * 2) (kind_word s)) (i * 2 + 1) (i * 2) (load_word s) 0 (λ e. omega arith)
      ∙ get_or-set_same t (i * 2) (kind_word s) 0 (let l : i * 2 < length t = omega arith in l))
      (get_or-set_same (set t (i * 2) (kind_word s)) (i * 2 + 1) (load_word s) 0 (rw length-set h))
      ∙ z

  pub other_slot : (j : ℕ) → (j ≡ i → ⊥) → slot_at (put_at t i s) j ≡ slot_at t j
  other_slot j n =
      ap₂ slot_of
      (get_or-set_other (set t (i * 2) (kind_word s)) (i * 2 + 1) (j * 2) (load_word s) 0 (λ e. omega arith)
      ∙ get_or-set_other t (i * 2) (j * 2) (kind_word s) 0 (λ e. n (let q : j ≡ i = omega arith in q)))
      (get_or-set_other (set t (i * 2) (kind_word s)) (i * 2 + 1) (j * 2 + 1) (load_word s) 0 (λ e. n (let q : j ≡ i = omega arith in q))
      ∙ get_or-set_other t (i * 2) (j * 2 + 1) (kind_word s) 0 (λ e. omega arith))
