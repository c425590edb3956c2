-- What each way through the printer gives. Assumes nothing.
use Prim.Native.Nat.{ℕ, ◌+◌, ◌≤◌, ◌<◌}
use native.Mathlib.Nat.{zero-add}
use native.Mathlib.Omega.{arith}
use mathlib.Core.Path.{◌≡◌, refl, sym, ◌∙◌, ap, subst}
use mathlib.Core.Logic.{inl, inr}
use mathlib.Core.List.{List, [], ◌∷◌, ◌++◌}
use lib.ListN.{length, take, drop, length-append}
use lib.Seq.{sets, sets-eq, take_all, take_at, length-take-le}
use Rattle.syntax.specs.Tree.{Ad}
use Rattle.syntax.specs.Print.{definitions_text, printed_ad}
use Rattle.well_formed.specs.WellFormed.{Holds, Answers}
use Rattle.well_formed.specs.Laws.Bounds.{bounded}
use Rattle.well_formed.specs.Laws.Definitions.{Table}
use Rattle.well_formed.specs.Laws.Whole.{holds_table}
use Rattle.std.proofs.Common.{Some, None, Result, Ok, Err}
use Rattle.std.specs.Result.{IsErrAnd}
use Rattle.syntax.specs.declared.Reason.{Reason}
use Rattle.syntax.specs.Refusals.{number_of}
use Rattle.syntax.specs.declared.Reason.TheVariants.{MemoryTooSmall, NotWellFormed, PrintTooLong}
use Rattle.syntax.specs.declared.Refusal.{Refusal}
use Rattle.well_formed.specs.declared.Checked.{Checked}
use Rattle.ad_printer.specs.Inner.Post.{TableFits, AdWritten}
use Rattle.printer.specs.Prints.{Roomy, Stored, Refuses, small, malformed, long, PrintsText, Prints, HandsBack}

length_ad : (a : Ad) → length (printed_ad a) ≡ length (definitions_text a) + 2
unfolding printed_ad
length_ad a = omega (arith, length-append (definitions_text a) (93 ∷ []))

module _ (w b o : List ℕ) (hw : length w ≡ 4864) (hb : length b ≡ 16384) where
  room : Roomy w b
  room = record { words = omega arith; bytes = omega arith }

  module _ (t : Ad → List ℕ) where
    pub print_malformed : Answers w b None → PrintsText t w b o o (Err (record { reason = NotWellFormed; place = 0 }))
    print_malformed h = (malformed room h, refl, refl)

    module _ (m : ℕ) (c : Checked) (h : Answers w b (Some c)) (e : m ≡ length (t h.0)) where
      pub print_long : length o < m → PrintsText t w b o o (Err (record { reason = PrintTooLong; place = 0 }))
      print_long g = (long room h.1 (λ f. omega (arith, e, f.lent)), refl, refl)

      pub print_longer : 16384 < m → PrintsText t w b o o (Err (record { reason = PrintTooLong; place = 0 }))
      print_longer g = (long room h.1 (λ f. omega (arith, e, f.bounded)), refl, refl)

      -- the text put at the front is the answer
      pub print_put : (o₁ : List ℕ) → m ≤ length o → m ≤ 16384 → o₁ ≡ sets o 0 (t h.0) → PrintsText t w b o o₁ (Ok m)
      print_put o₁ g f x =
          let a = h.0 in
          let z : 0 + length (t a) ≡ m = omega (arith, e) in
          (a, h.1, record { lent = omega (arith, e); bounded = omega (arith, e) }, e, x ∙ (sets-eq (t a) o 0 (omega (arith, e)) ∙ ap (λ (j : ℕ). t a ++ drop j o) z))

  module _ (c : Checked) (h : Answers w b (Some c)) where
    same_words : take 4864 w ≡ w
    same_words = take_all 4864 w (omega arith)

    same_bytes_lem : take 16384 b ≡ b
    same_bytes_lem = take_all 16384 b (omega arith)

    pub table : Table w b 0 0 0 h.0
    table = (holds_table w b hw hb h.0 (subst (λ (x : List ℕ). Holds x b h.0) same_words (subst (λ (x : List ℕ). Holds (take 4864 w) x h.0) same_bytes_lem h.1))).0

    pub print_fits : c.print_length ≤ 16384 → TableFits w b 0 c.counts.definitions 2
    print_fits g = record {
      words = omega arith;
      few = let z : length h.0 ≤ 256 = (bounded h.1).within.few_definitions in omega (arith, h.2);
      ad = h.0;
      node = 0;
      byte = 0;
      table = table;
      count = h.2 ∙ sym (zero-add (length h.0));
      near = omega (arith, h.4, length_ad h.0);
    }

    pub print_text : (o₁ : List ℕ) → c.print_length ≤ length o → c.print_length ≤ 16384 → AdWritten w b c.counts.definitions o o₁ → Prints w b o o₁ (Ok c.print_length)
    print_text o₁ g f x = print_put printed_ad c.print_length c h h.4 o₁ g f (x h.0 table h.2)

pub small_words : (t : Ad → List ℕ) (w b o : List ℕ) → length w < 4864 → PrintsText t w b o o (Err (record { reason = MemoryTooSmall; place = 0 }))
small_words t w b o h = (small (λ r. omega (arith, r.words)), refl, refl)

pub small_bytes : (t : Ad → List ℕ) (w b o : List ℕ) → length b < 16384 → PrintsText t w b o o (Err (record { reason = MemoryTooSmall; place = 0 }))
small_bytes t w b o h = (small (λ r. omega (arith, r.bytes)), refl, refl)

module _ (t : Ad → List ℕ) (w b o o₁ : List ℕ) (hw : 4864 ≤ length w) (hb : 16384 ≤ length b) where
  whole : Roomy w b
  whole = record { words = hw; bytes = hb }

  front_stored : (a : Ad) → Stored (take 4864 w) (take 16384 b) a → Stored w b a
  front_stored a s = subst (λ (x : List ℕ). Holds x (take 16384 b) a) (take_all 4864 (take 4864 w) (omega (arith, length-take-le 4864 w hw))) (subst (λ (x : List ℕ). Holds (take 4864 (take 4864 w)) x a) (take_all 16384 (take 16384 b) (omega (arith, length-take-le 16384 b hb))) s)

  stored_front : (a : Ad) → Stored w b a → Stored (take 4864 w) (take 16384 b) a
  stored_front a s = subst (λ (x : List ℕ). Holds x (take 16384 (take 16384 b)) a) (sym (take_all 4864 (take 4864 w) (omega (arith, length-take-le 4864 w hw)))) (subst (λ (x : List ℕ). Holds (take 4864 w) x a) (sym (take_all 16384 (take 16384 b) (omega (arith, length-take-le 16384 b hb)))) s)

  front_room : Roomy (take 4864 w) (take 16384 b)
  front_room = record { words = omega (arith, length-take-le 4864 w hw); bytes = omega (arith, length-take-le 16384 b hb) }

  refused_front : {k : ℕ} → Refuses t (take 4864 w) (take 16384 b) o k → Refuses t w b o k
  refused_front (small n) = absurd (n front_room)
  refused_front (malformed r n) = malformed whole (λ a s. n a (stored_front a s))
  refused_front (long r {a} s n) = long whole (front_stored a s) n

  pub prints_front : (r : Result ℕ Refusal) → PrintsText t (take 4864 w) (take 16384 b) o o₁ r → PrintsText t w b o o₁ r
  prints_front (Ok n) h = (h.0, front_stored h.0 h.1, h.2, h.3, h.4)
  prints_front (Err r) h = (refused_front h.0, h.1, h.2)

-- ---- an ad that is not well formed

-- what the check's answer becomes on its way out
pub malformed_is : (r : Result ℕ Refusal) (x : Reason) → x ≡ NotWellFormed → IsErrAnd r (λ y. y ≡ record { reason = x; place = 0 }) → r ≡ Err (record { reason = NotWellFormed; place = 0 })
malformed_is (Ok n) x e h = absurd h
malformed_is (Err y) x e h = ap Err (h ∙ ap (λ (k : Reason). record { reason = k; place = 0 }) e)

-- ---- the text handed back

module _ (w b o o₁ : List ℕ) where
  pub text_back : (n : ℕ) → Prints w b o o₁ (Ok n) → (n ≤ length o₁) × HandsBack w b o (take n o₁)
  text_back n h = (omega (arith, ap length h.4, length-append (printed_ad h.0) (drop n o), h.3), inl (h.0, h.1, h.2, ap (take n) h.4 ∙ take_at (printed_ad h.0) (drop n o) n (sym h.3)))

  pub none_back : (r : Refusal) → Prints w b o o₁ (Err r) → HandsBack w b o []
  none_back r h = inr (number_of r.reason, h.0, refl)
