-- What is written one part after another. Assumes nothing.
use Prim.Native.Nat.{ℕ, zero, suc, ◌+◌, ◌-◌, ◌/◌, ◌%◌, ◌≤◌, ◌<◌}
use Prim.Native.Char.{code}
use native.Mathlib.Numerals.{add-one}
use native.Mathlib.Nat.{add-zero}
use native.Mathlib.Omega.{arith}
use mathlib.Core.Path.{◌≡◌, refl, sym, ◌∙◌, ap, subst}
use mathlib.Core.List.{List, [], ◌∷◌, ◌++◌}
use lib.ListN.{length, get_or, set, drop, length-append, drop_of_length-le}
use lib.Seq.{sets, set_out}
use borrow.Author.Tests.{eq-eqb, ne_eqb}
use Rattle.text.specs.Bytes.{bytes}
use Rattle.text.specs.Parts.{drop_one, sets_append}
use Rattle.syntax.specs.Tree.{real, string}
use Rattle.syntax.specs.Print.{decimal, escaped, escaped_all, literal_text}
use Rattle.lexemes.specs.Laws.Digits.{decimal_one, decimal_more, real_none, real_more}
use Rattle.writer.specs.Inner.Put.{Puts, Near}

pub puts_byte : (b : ℕ) (o o' : List ℕ) (at : ℕ) → o' ≡ set o at b → Puts (b ∷ []) o at o' (at + 1)
puts_byte b o o' at e = record { behind = refl; written = e }

pub puts_join : {t u o o₁ o₂ : List ℕ} {at m r : ℕ} → Puts t o at o₁ m → Puts u o₁ m o₂ r → Puts (t ++ u) o at o₂ r
puts_join {t} {u} {o} {at = at} x y = record {
  behind = omega (arith, length-append t u, x.behind, y.behind);
  written = y.written ∙ (rw (x.behind, x.written) refl ∙ sym (sets_append t u o at));
}

pub puts_as : {t u o o₁ : List ℕ} {at r : ℕ} → t ≡ u → Puts t o at o₁ r → Puts u o at o₁ r
puts_as {o = o} {o₁} {at} {r} e x = subst (λ (l : List ℕ). Puts l o at o₁ r) e x

pub outside : (o : List ℕ) (at b : ℕ) → length o ≤ at → o ≡ set o at b
outside o at b h = sym (set_out o at b h)

-- ---- some bytes, one after another

pub put_more : (s o o₁ : List ℕ) (i m : ℕ) → i < length s → o₁ ≡ set o m (get_or s i 0) → sets o₁ (m + 1) (drop (i + 1) s) ≡ sets o m (drop i s)
put_more s o o₁ i m h e = rw (drop_one s i h, add-one m, e) refl

pub put_end : (s o : List ℕ) (i m : ℕ) → length s ≤ i → sets o m (drop i s) ≡ o
put_end s o i m h = rw (drop_of_length-le s h) refl

-- ---- numbers

pub decimal_puts_one : (o o₁ : List ℕ) (at v b : ℕ) → v < 10 → b ≡ 48 + v → o₁ ≡ set o at b → Puts (decimal v) o at o₁ (at + 1)
decimal_puts_one o o₁ at v b h e g = puts_as (sym (decimal_one v h)) (puts_byte (48 + v) o o₁ at (g ∙ ap (set o at) e))

module _ {o o₁ o₂ : List ℕ} {at m : ℕ} (v : ℕ) where
  pub decimal_puts_more : (b : ℕ) → 10 ≤ v → b ≡ 48 + v % 10 → Puts (decimal (v / 10)) o at o₁ m → o₂ ≡ set o₁ m b → Puts (decimal v) o at o₂ (m + 1)
  decimal_puts_more b h e x g = puts_as (sym (decimal_more v h)) (puts_join x (puts_byte (48 + v % 10) o₁ o₂ m (g ∙ ap (set o₁ m) e)))

  pub real_puts_none : (p : ℕ) → p ≡ 0 → Puts (decimal v) o at o₁ m → o₂ ≡ set o₁ m 46 → Puts (literal_text (real v p)) o at o₂ (m + 1)
  real_puts_none p e x g = puts_as (sym (ap (λ (k : ℕ). literal_text (real v k)) e ∙ real_none v)) (puts_join x (puts_byte 46 o₁ o₂ m g))

  pub real_puts_more : (b p : ℕ) → (p ≡ 0 → ⊥) → b ≡ 48 + v % 10 → Puts (literal_text (real (v / 10) (p - 1))) o at o₁ m → o₂ ≡ set o₁ m b → Puts (literal_text (real v p)) o at o₂ (m + 1)
  real_puts_more b zero n e x g = absurd (n refl)
  real_puts_more b (suc p) n e x g =
      let i : suc p - 1 ≡ p = omega arith in
      puts_as (sym (real_more v p)) (puts_join (puts_as (ap (λ (k : ℕ). literal_text (real (v / 10) k)) i) x) (puts_byte (48 + v % 10) o₁ o₂ m (g ∙ ap (set o₁ m) e)))

-- the shorter number before the last digit is near too
pub near_decimal : (v at : ℕ) → 10 ≤ v → Near at (decimal v) → Near at (decimal (v / 10))
near_decimal v at h n =
    omega (
      arith,
      ap length (decimal_more v h),
      length-append (decimal (v / 10)) ((code "0" + v % 10) ∷ []),
    )

pub near_decimal_last : (v at m : ℕ) → 10 ≤ v → Near at (decimal v) → m ≡ at + length (decimal (v / 10)) → m < 1000000
near_decimal_last v at m h n e =
    omega (
      arith,
      ap length (decimal_more v h),
      length-append (decimal (v / 10)) ((code "0" + v % 10) ∷ []),
    )

pub near_one : (v at : ℕ) → v < 10 → Near at (decimal v) → at < 1000000
near_one v at h n = omega (arith, ap length (decimal_one v h))

pub near_whole : (v p at m : ℕ) → p ≡ 0 → Near at (literal_text (real v p)) → Near at (decimal v) × (m ≡ at + length (decimal v) → m < 1000000)
near_whole v p at m e n =
    let l = ap length (ap (λ (k : ℕ). literal_text (real v k)) e ∙ real_none v)
    ∙ length-append (decimal v) (code "." ∷ []) in
    (omega arith, λ g. omega arith)

pub near_real : (v p at m : ℕ) → (p ≡ 0 → ⊥) → Near at (literal_text (real v p)) → Near at (literal_text (real (v / 10) (p - 1))) × (m ≡ at + length (literal_text (real (v / 10) (p - 1))) → m < 1000000)
near_real v zero at m e n = absurd (e refl)
near_real v (suc p) at m e n =
    let i : suc p - 1 ≡ p = omega arith in
    let l = ap length (real_more v p) ∙ length-append (literal_text (real (v / 10) p)) ((code "0" + v % 10) ∷ []) in
    let j : length (literal_text (real (v / 10) (suc p - 1))) ≡ length (literal_text (real (v / 10) p)) = ap (λ (k : ℕ). length (literal_text (real (v / 10) k))) i in
    (omega arith, λ g. omega arith)

-- ---- strings

pub escaped_step : (s o o₁ : List ℕ) (i m r : ℕ) → i < length s → Puts (escaped (get_or s i 0)) o m o₁ r → sets o₁ r (escaped_all (drop (i + 1) s)) ≡ sets o m (escaped_all (drop i s))
unfolding escaped_all
escaped_step s o o₁ i m r h x =
    rw (drop_one s i h, x.behind, x.written)
    (sym (sets_append (escaped (get_or s i 0)) (escaped_all (drop (i + 1) s)) o m))

pub string_puts : (s o o₁ o₂ o₃ : List ℕ) (at i m : ℕ) → o₁ ≡ set o at 34 → length s ≤ i → sets o₂ m (escaped_all (drop i s)) ≡ sets o₁ (at + 1) (escaped_all s) → m + length (escaped_all (drop i s)) ≡ at + 1 + length (escaped_all s) → o₃ ≡ set o₂ m 34 → Puts (literal_text (string s)) o at o₃ (m + 1)
unfolding literal_text escaped_all
string_puts s o o₁ o₂ o₃ at i m e h g k f =
    let n : drop i s ≡ [] = drop_of_length-le s h in
    let x : Puts (escaped_all s) o₁ (at + 1) o₂ m = record {
      behind = (let q : m ≡ m + length (escaped_all (drop i s)) = rw n (sym (add-zero m)) in q) ∙ k;
      written = (let q : o₂ ≡ sets o₂ m (escaped_all (drop i s)) = rw n refl in q) ∙ g;
    } in
    puts_join (puts_byte 34 o o₁ at e) (puts_join x (puts_byte 34 o₂ o₃ m f))

pub length_string : (s : List ℕ) → length (literal_text (string s)) ≡ length (escaped_all s) + 2
unfolding literal_text
length_string s = simp length-append (omega arith)

-- ---- escapes

module _ (b : ℕ) where
  pub escaped_1 : b ≡ 34 → escaped b ≡ 92 ∷ 34 ∷ []
  unfolding escaped bytes
  escaped_1 e = rw (eq-eqb b 34 e) refl

  pub escaped_2 : (b ≡ 34 → ⊥) → b ≡ 92 → escaped b ≡ 92 ∷ 92 ∷ []
  unfolding escaped bytes
  escaped_2 n e = rw (ne_eqb b 34 n, eq-eqb b 92 e) refl

  pub escaped_3 : (b ≡ 34 → ⊥) → (b ≡ 92 → ⊥) → b ≡ 10 → escaped b ≡ 92 ∷ 110 ∷ []
  unfolding escaped bytes
  escaped_3 n m e = rw (ne_eqb b 34 n, ne_eqb b 92 m, eq-eqb b 10 e) refl

  pub escaped_4 : (b ≡ 34 → ⊥) → (b ≡ 92 → ⊥) → (b ≡ 10 → ⊥) → b ≡ 9 → escaped b ≡ 92 ∷ 116 ∷ []
  unfolding escaped bytes
  escaped_4 n m l e = rw (ne_eqb b 34 n, ne_eqb b 92 m, ne_eqb b 10 l, eq-eqb b 9 e) refl

  pub escaped_5 : (b ≡ 34 → ⊥) → (b ≡ 92 → ⊥) → (b ≡ 10 → ⊥) → (b ≡ 9 → ⊥) → escaped b ≡ b ∷ []
  unfolding escaped bytes
  escaped_5 n m l k = rw (ne_eqb b 34 n, ne_eqb b 92 m, ne_eqb b 10 l, ne_eqb b 9 k) refl
