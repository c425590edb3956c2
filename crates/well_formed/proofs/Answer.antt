-- What each way through the check gives. Assumes nothing.
use Rattle.std.proofs.Common.{Some, None}
use Prim.Native.Nat.{ℕ, zero, suc, ◌+◌, ◌-◌, ◌≤◌, ◌<◌}
use native.Mathlib.Omega.{arith}
use mathlib.Core.Path.{◌≡◌, refl, sym, ◌∙◌, subst}
use mathlib.Core.Bool.{Bool, true, false, cond, ◌&&◌}
use mathlib.Core.Logic.{◌⊎◌, inl, inr}
use mathlib.Core.List.{List, [], ◌∷◌}
use lib.ListN.{length, length-take}
use lib.Dec.{eqb}
use borrow.Author.Tests.{ne_eqb}
use Rattle.syntax.specs.Tree.{Ad, nodes}
use Rattle.syntax.specs.Print.{definitions_text, printed_ad}
use Rattle.ad.specs.Layout.{ad_bytes}
use Rattle.ad.specs.Stored.{offset_at, length_at, bytes_at}
use Rattle.ad.specs.Inner.Names.{defined_in}
use Rattle.well_formed.specs.Inner.Decode.{rows, rows_length, RowsOk, new_from}
use Rattle.unused_room.specs.Inner.Zeros.{zero_behind}
use Rattle.well_formed.specs.WellFormed.{AnswersRoom, Answers}
use Rattle.well_formed.specs.Laws.Prints.{length_ad_print}
use Rattle.well_formed.specs.Laws.Definitions.{Table, AllAd, ad_sound, ad_few}
use Rattle.well_formed.specs.Laws.Whole.{holds_found, found_holds, holds_long}
use Rattle.tree_check.proofs.Ways.{inside}

-- ---- distinct names

module _ (w b : List ℕ) (j d : ℕ) where
  pub new_more : j < d → defined_in w b (bytes_at b (offset_at w j) (length_at w j)) 0 j ≡ false → new_from w b j (d - j) ≡ new_from w b (j + 1) (d - (j + 1))
  unfolding new_from
  new_more h e = let i : d - j ≡ suc (d - (j + 1)) = omega arith in rw (i, e) refl

  pub new_stop : j < d → defined_in w b (bytes_at b (offset_at w j) (length_at w j)) 0 j ≡ true → false ≡ new_from w b j (d - j)
  unfolding new_from
  new_stop h e = let i : d - j ≡ suc (d - (j + 1)) = omega arith in rw (i, e) refl

  pub new_end : d ≤ j → true ≡ new_from w b j (d - j)
  unfolding new_from
  new_end h = let i : d - j ≡ zero = omega arith in rw i refl

-- ---- the check

pub not_left : (a b : Bool) → a ≡ false → (a && b) ≡ false
not_left a b e = rw e refl

pub not_right : (a b : Bool) → b ≡ false → (a && b) ≡ false
not_right a b e = rw e (go a)
  where
    go : (a : Bool) → (a && false) ≡ false
    go true = refl
    go false = refl

module _ (w b : List ℕ) (hw : length w ≡ 4864) (hb : length b ≡ 16384) where
  pub room_bad : RowsOk w b 0 0 0 None → AnswersRoom w b None
  room_bad h a x = let z : ◌≡◌ {A = ℕ} 0 1 = cc ((holds_found w b hw hb a x).0, h) in omega arith

  module _ (d n k t : ℕ) (h : RowsOk w b 0 0 0 (rows d n k t)) where
    pub rows_inside : (d ≤ 256) × (n ≤ 1024) × (k ≤ 16384)
    rows_inside =
        let y : Table w b 0 0 0 h.0 = subst (AllAd (Table w b 0 0 0)) h.1 (ad_sound 256 w b 0 0 0 (omega arith) (omega arith) (omega arith)) in
        let f : length h.0 ≤ 256 = subst (AllAd (λ c. length c ≤ 256)) h.1 (ad_few 256 w b 0 0 0) in
        let z = inside b (ad_bytes h.0) 0 y.bytes hb (omega arith) in
        omega (arith, h.2, h.3, h.4, y.few)

    counts : (new_from w b 0 d && zero_behind w b d n k) ≡ (new_from w b 0 (length h.0) && zero_behind w b (length h.0) (nodes h.0) (length (ad_bytes h.0)))
    counts =
        let p : d ≡ length h.0 = omega (arith, h.2) in
        let q : n ≡ nodes h.0 = omega (arith, h.3) in
        let r : k ≡ length (ad_bytes h.0) = omega (arith, h.4) in
        λ i. new_from w b 0 (p i) && zero_behind w b (p i) (q i) (r i)

    pub room_not : (new_from w b 0 d && zero_behind w b d n k) ≡ false → AnswersRoom w b None
    room_not e c x =
        let f = holds_found w b hw hb c x in
        let s : c ≡ h.0 = cc (f.0, h.1) in
        let g = subst (λ (m : Ad). (new_from w b 0 (length m) && zero_behind w b (length m) (nodes m) (length (ad_bytes m))) ≡ true) s f.1 in
        let z : ◌≡◌ {A = ℕ} 0 1 = cc (sym e ∙ (counts ∙ g)) in
        omega arith

    pub room_good : (new_from w b 0 d && zero_behind w b d n k) ≡ true → (p : ℕ) → p ≡ cond (eqb d 0) 2 t → AnswersRoom w b (Some (record { counts = record { definitions = d; nodes = n }; print_length = p }))
    unfolding printed_ad definitions_text
    room_good e p q = (h.0, found_holds w b hw hb h.0 h.1 (sym counts ∙ e), omega (arith, h.2), omega (arith, h.3), q ∙ long h.0 (omega (arith, h.2)) h.5)
      where
        long : (c : Ad) → d ≡ length c → t ≡ rows_length c → cond (eqb d 0) 2 t ≡ length (printed_ad c)
        long [] e f = rw e refl
        long (x ∷ c) e f = rw (ne_eqb d 0 (λ z. omega arith)) (f ∙ sym (length_ad_print x c))

-- ---- memory that is too small holds no ad

pub small : (w b : List ℕ) → (length w < 4864) ⊎ (4864 ≤ length w × length b < 16384) → Answers w b None
small w b (inl h) a x = omega (arith, (holds_long a x).0, length-take 4864 w)
small w b (inr h) a x = omega (arith, (holds_long a x).1, length-take 16384 b)
