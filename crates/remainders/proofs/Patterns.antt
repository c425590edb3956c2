-- What a bit pattern of a binary64 is in units, and the patterns of the powers of two. Assumes nothing.
use mathlib.Core.Path.{◌≡◌, refl, sym, ap, ◌∙◌, subst}
use mathlib.Core.Bool.{Bool, true, false, not, cond}
use Prim.Native.Nat.{ℕ, suc, ◌+◌, ◌-◌, ◌*◌, ◌/◌, ◌%◌, ◌^◌, ◌≤◌, ◌<◌}
use native.Mathlib.Nat.{mul-one}
use native.Mathlib.Omega.{arith}
use lib.Arith.{lt→nleb}
use lib.Dec.{T, T_not, leb, eqb}
use lib.Pow.{pow-add, pow-lt}
use borrow.Author.Tests.{ne_eqb}
use lib.Ieee.{Float, nan, inf, fin, binary64, is_nan, nan_bits, odd, of_fields, of_bits, to_bits, fits}
use lib.Ieee.Bits.{cond_no, of_bits-to_bits, nan_bits_is, is_false}
use lib.Ieee.Fits.{eq→eqb}
use lib.Ieee.Exact.{HasValue, odd_sign}
use Rattle.std.specs.Float.{float_is_finite, is_sign_negative}
use Rattle.remainders.specs.Units.{IsUnits, Measures}

-- ---- fields
field_zero : (s : Bool) (t : ℕ) → IsUnits (of_fields binary64 s 0 t) s (t * 2 ^ 0)
unfolding of_fields IsUnits
field_zero s t = odd_sign 53 s t 0 1074

field_above : (s : Bool) (k t : ℕ) → T (not (eqb (suc k) 2047)) → IsUnits (of_fields binary64 s (suc k) t) s ((2 ^ 52 + t) * 2 ^ k)
unfolding of_fields IsUnits
field_above s k t h =
    subst (λ (v : Float). HasValue v s ((2 ^ 52 + t) * 2 ^ k) (2 ^ 1074)) (sym (cond_no (eqb (suc k) 2047) (cond (eqb t 0) (inf s) nan) (odd 53 s (2 ^ 52 + t) k 1074) h))
    (odd_sign 53 s (2 ^ 52 + t) k 1074)

no_finite : (s b : Bool) → T (float_is_finite (cond b (inf s) nan)) → ⊥
unfolding float_is_finite
no_finite s true h = h
no_finite s false h = h

finite_field : (s : Bool) (k t : ℕ) → T (float_is_finite (of_fields binary64 s (suc k) t)) → T (not (eqb (suc k) 2047))
unfolding of_fields
finite_field s k t = go (eqb (suc k) 2047)
  where
    go : (b : Bool) → T (float_is_finite (cond b (cond (eqb t 0) (inf s) nan) (odd 53 s (2 ^ 52 + t) k 1074))) → T (not b)
    go true h = absurd (no_finite s (eqb t 0) h)
    go false h = tt

pattern_fields : (b : ℕ) → of_bits binary64 b ≡ of_fields binary64 (leb (2 ^ 63) b) (b % 2 ^ 63 / 2 ^ 52) (b % 2 ^ 52)
unfolding of_bits
pattern_fields b = refl

-- ---- the sign of what has a value, and that it is no NaN
sign_is : (x : Float) (s : Bool) (n : ℕ) → IsUnits x s n → IsUnits x (is_sign_negative x) n
unfolding IsUnits is_sign_negative
sign_is nan s n h = absurd h
sign_is (inf t) s n h = absurd h
sign_is (fin t m e) s n h = (refl, h.1)

pub is_number : (x : Float) (s : Bool) (n : ℕ) → IsUnits x s n → T (not (is_nan x))
unfolding IsUnits is_nan
is_number nan s n h = absurd h
is_number (inf t) s n h = absurd h
is_number (fin t m e) s n h = tt

pub number_pattern : (b : ℕ) (s : Bool) (n : ℕ) → IsUnits (of_bits binary64 b) s n → T (not (nan_bits binary64 b))
number_pattern b s n h = subst (λ (t : Bool). T (not t)) (sym (nan_bits_is binary64 b)) (is_number (of_bits binary64 b) s n h)

pub finite_number : (x : Float) → T (float_is_finite x) → T (not (is_nan x))
unfolding float_is_finite is_nan
finite_number nan h = absurd h
finite_number (inf t) h = absurd h
finite_number (fin t m e) h = tt

-- ---- a finite float by its pattern
pub measured_zero : (x : Float) → T (fits binary64 x) → to_bits binary64 x % 2 ^ 63 / 2 ^ 52 ≡ 0 → Measures x (to_bits binary64 x % 2 ^ 52) 0
measured_zero x F z =
    let b = to_bits binary64 x in
    let e : of_fields binary64 (leb (2 ^ 63) b) 0 (b % 2 ^ 52) ≡ x = ap (λ (k : ℕ). of_fields binary64 (leb (2 ^ 63) b) k (b % 2 ^ 52)) (sym z) ∙ sym (pattern_fields b) ∙ of_bits-to_bits binary64 x F in
    record {
      value = sign_is x (leb (2 ^ 63) b) (b % 2 ^ 52 * 2 ^ 0) (subst (λ (v : Float). IsUnits v (leb (2 ^ 63) b) (b % 2 ^ 52 * 2 ^ 0)) e (field_zero (leb (2 ^ 63) b) (b % 2 ^ 52)));
      digits_fit = omega arith;
      leading = λ h. absurd (omega arith);
      exponent_fits = omega arith;
    }

low_field : (b : ℕ) → b % 2 ^ 63 / 2 ^ 52 < 2048
low_field b = omega arith

pub measured_above : (x : Float) → T (fits binary64 x) → T (float_is_finite x) → (k : ℕ) → to_bits binary64 x % 2 ^ 63 / 2 ^ 52 ≡ suc k → Measures x (2 ^ 52 + to_bits binary64 x % 2 ^ 52) k
measured_above x F h k z =
    let b = to_bits binary64 x in
    let s = leb (2 ^ 63) b in
    let e : of_fields binary64 s (suc k) (b % 2 ^ 52) ≡ x = ap (λ (k : ℕ). of_fields binary64 s k (b % 2 ^ 52)) (sym z) ∙ sym (pattern_fields b) ∙ of_bits-to_bits binary64 x F in
    let n : T (not (eqb (suc k) 2047)) = finite_field s k (b % 2 ^ 52) (subst (λ (v : Float). T (float_is_finite v)) (sym e) h) in
    record {
      value = sign_is x s ((2 ^ 52 + b % 2 ^ 52) * 2 ^ k) (subst (λ (v : Float). IsUnits v s ((2 ^ 52 + b % 2 ^ 52) * 2 ^ k)) e (field_above s k (b % 2 ^ 52) n));
      digits_fit = omega arith;
      leading = λ h. omega arith;
      exponent_fits = below k (subst (λ (z : ℕ). z < 2048) z (low_field b)) n;
    }
  where
    below : (k : ℕ) → suc k < 2048 → T (not (eqb (suc k) 2047)) → k < 2046
    below k h n = let e : suc k ≡ 2047 → ⊥ = λ z. T_not (eqb (suc k) 2047) n (eq→eqb z) in omega arith

-- ---- powers of two
same_fields : (s s' : Bool) (x x' t t' : ℕ) → s ≡ s' → x ≡ x' → t ≡ t' → of_fields binary64 s x t ≡ of_fields binary64 s' x' t'
same_fields s s' x x' t t' p q r = cc

-- the fields of a pattern with no sign
plain_pattern : (b x t : ℕ) → b < 2 ^ 63 → b / 2 ^ 52 ≡ x → b % 2 ^ 52 ≡ t → of_bits binary64 b ≡ of_fields binary64 false x t
plain_pattern b x t h p q =
    pattern_fields b
    ∙ same_fields (leb (2 ^ 63) b) false (b % 2 ^ 63 / 2 ^ 52) x (b % 2 ^ 52) t (is_false (leb (2 ^ 63) b) (lt→nleb (2 ^ 63) b h)) (omega arith) q

pub small_power : (e : ℕ) → e < 52 → IsUnits (of_bits binary64 (1 * 2 ^ e % 2 ^ 64)) false (2 ^ e)
small_power e h =
    let p : 2 ^ e < 2 ^ 52 = pow-lt h in
    let q : 1 * 2 ^ e % 2 ^ 64 ≡ 2 ^ e = omega arith in
    subst (λ (b : ℕ). IsUnits (of_bits binary64 b) false (2 ^ e)) (sym q)
    (subst (λ (v : Float). IsUnits v false (2 ^ e)) (sym (plain_pattern (2 ^ e) 0 (2 ^ e) (omega arith) (omega arith) (omega arith)))
    (subst (λ (n : ℕ). IsUnits (of_fields binary64 false 0 (2 ^ e)) false n) (mul-one (2 ^ e)) (field_zero false (2 ^ e))))

no_top : (k : ℕ) → k < 2046 → T (not (eqb (suc k) 2047))
no_top k h = subst (λ (b : Bool). T (not b)) (sym (ne_eqb (suc k) 2047 (λ z. omega arith))) tt

pub large_power : (e : ℕ) → 52 ≤ e → e < 2046 → IsUnits (of_bits binary64 ((e - 51) * 2 ^ 52)) false (2 ^ e)
large_power e l h =
    let k = e - 52 in
    let q : 52 + k ≡ e = omega arith in
    subst (λ (v : Float). IsUnits v false (2 ^ e)) (sym (plain_pattern ((e - 51) * 2 ^ 52) (suc k) 0 (omega arith) (omega arith) (omega arith)))
    (subst (λ (n : ℕ). IsUnits (of_fields binary64 false (suc k) 0) false n) (sym (pow-add 2 52 k) ∙ ap (λ (i : ℕ). 2 ^ i) q) (field_above false k 0 (no_top k (omega arith))))
