-- A decimal fraction, a whole number as a Real, and each operation on finite values, once rounded, is the value nearest to the exact
-- result. Assumes nothing.
use Rattle.std.specs.Prelude.{◌≡◌, Bool, not, ◌&&◌, T, ltb, eqb, ℤ, pos, negsuc, neg_ℤ, nat_abs, ◌+ℤ◌, Float}
use Rattle.std.proofs.Math.Path.{refl, ap, ap₂}
use Rattle.std.proofs.Common.{sym, ◌∙◌, subst, mul-pos, zero-lt-suc, add-zero, zero-mul, lt_irrefl, arith, ltb→lt, nltb→le, lit<}
use Rattle.std.proofs.Math.Bool.{true, false, cond}
use Prim.Native.Nat.{ℕ, zero, suc, ◌+◌, ◌-◌, ◌*◌, ◌%◌, ◌^◌, ◌≤◌, ◌<◌}
use Rattle.std.proofs.Math.Nat.{one-le-pow, sub-zero}
use Rattle.std.proofs.Math.Dec.{eqb-suc-zero}
use Rattle.std.proofs.Math.IntN.{sub_ℕ, +ℤ_comm, neg_ℤ-+ℤ, neg_ℤ-neg_ℤ}
use Rattle.std.specs.Float.Ieee.{nan, up, down, unlike, round, sum, add, sub, neg, mul, div, rem, of_int}
use Rattle.std.specs.Float.{inf, fin, Format}
use Rattle.std.specs.Float.Ieee.Fits.{down_pos}
use Rattle.std.specs.Float.Ieee.Positive.{num, den}
use Rattle.std.specs.Float.Ieee.Scale.{finite}
use Rattle.rounding.specs.Nearest.{Nearest}
use Rattle.rounding.specs.Exact.{with_sign, negative, sign, exact_sum, exact_difference, sum_sign}
use Rattle.rounding.proofs.Laws.Round.{round_nearest}

-- ---- a decimal fraction and a whole number
pub decimal_nearest : (f : Format) (digits places : ℕ) → Nearest f false digits (10 ^ places) (round f false digits (10 ^ places))
decimal_nearest f digits places = round_nearest f false digits (10 ^ places) (one-le-pow places 10 (zero-lt-suc 9))

pub whole_nearest : (f : Format) (z : ℤ) → Nearest f (negative z) (nat_abs z) 1 (of_int f z)
unfolding of_int
whole_nearest f (pos n) = round_nearest f false n 1 (lit< tt)
whole_nearest f (negsuc n) = round_nearest f true (suc n) 1 (lit< tt)

-- ---- the product, the quotient and the remainder
pub mul_nearest : (f : Format) (x y : Float) → T (finite x) → T (finite y) → Nearest f (unlike (sign x) (sign y)) (num x * num y) (den x * den y) (mul f x y)
unfolding mul
mul_nearest f nan y p q = absurd p
mul_nearest f (inf s) y p q = absurd p
mul_nearest f (fin s m e) nan p q = absurd q
mul_nearest f (fin s m e) (inf t) p q = absurd q
mul_nearest f (fin s m e) (fin t n d) p q = round_nearest f (unlike s t) (m * up e * (n * up d)) (down e * down d) (mul-pos (down_pos e) (down_pos d))

module _ (f : Format) (s : Bool) (m : ℕ) (e : ℤ) (t : Bool) where
  div_is : (n : ℕ) (d : ℤ) → 0 < n * up d → div f (fin s m e) (fin t n d) ≡ round f (unlike s t) (m * up e * down d) (n * up d * down e)
  unfolding div
  div_is zero d h = absurd (lt_irrefl 0 (subst (λ (k : ℕ). 0 < k) (zero-mul (up d)) h))
  div_is (suc n) d h =
      ap (λ (b : Bool). cond b (cond (eqb m 0) nan (inf (unlike s t))) (round f (unlike s t) (m * up e * down d) (suc n * up d * down e))) (eqb-suc-zero n)

  rem_is : (n : ℕ) (d : ℤ) → 0 < n * up d → rem f (fin s m e) (fin t n d) ≡ round f s (m * up e * down d % (n * up d * down e)) (down e * down d)
  unfolding rem
  rem_is zero d h = absurd (lt_irrefl 0 (subst (λ (k : ℕ). 0 < k) (zero-mul (up d)) h))
  rem_is (suc n) d h = ap (λ (b : Bool). cond b nan (round f s (m * up e * down d % (suc n * up d * down e)) (down e * down d))) (eqb-suc-zero n)

pub div_nearest : (f : Format) (x y : Float) → T (finite x) → T (finite y) → 0 < num y → Nearest f (unlike (sign x) (sign y)) (num x * den y) (num y * den x) (div f x y)
div_nearest f nan y p q h = absurd p
div_nearest f (inf s) y p q h = absurd p
div_nearest f (fin s m e) nan p q h = absurd q
div_nearest f (fin s m e) (inf t) p q h = absurd q
div_nearest f (fin s m e) (fin t n d) p q h =
    subst (λ (x : Float). Nearest f (unlike s t) (m * up e * down d) (n * up d * down e) x) (sym (div_is f s m e t n d h))
    (round_nearest f (unlike s t) (m * up e * down d) (n * up d * down e) (mul-pos h (down_pos e)))

-- what x leaves of y, by the quotient cut to a whole number, with the sign of x
pub rem_nearest : (f : Format) (x y : Float) → T (finite x) → T (finite y) → 0 < num y → Nearest f (sign x) (num x * den y % (num y * den x)) (den x * den y) (rem f x y)
rem_nearest f nan y p q h = absurd p
rem_nearest f (inf s) y p q h = absurd p
rem_nearest f (fin s m e) nan p q h = absurd q
rem_nearest f (fin s m e) (inf t) p q h = absurd q
rem_nearest f (fin s m e) (fin t n d) p q h =
    subst (λ (x : Float). Nearest f s (m * up e * down d % (n * up d * down e)) (down e * down d) x) (sym (rem_is f s m e t n d h))
    (round_nearest f s (m * up e * down d % (n * up d * down e)) (down e * down d) (mul-pos (down_pos e) (down_pos d)))

-- ---- the sum and the difference
sign_plain : (s t : Bool) → (s && t) ≡ false → (n : ℕ) → sum_sign (pos n) s t ≡ false
sign_plain s t h zero = h
sign_plain s t h (suc n) = refl

sign_both : (n : ℕ) → sum_sign (neg_ℤ (pos n)) true true ≡ true
sign_both zero = refl
sign_both (suc n) = refl

abs_neg : (n : ℕ) → nat_abs (neg_ℤ (pos n)) ≡ n
abs_neg zero = refl
abs_neg (suc n) = refl

pos_neg : (a b : ℕ) → pos a +ℤ neg_ℤ (pos b) ≡ sub_ℕ a b
pos_neg a zero = go (ltb a 0) (ltb→lt a 0)
  where
    go : (x : Bool) → (T x → a < 0) → pos (a + 0) ≡ cond x (negsuc (0 - suc a)) (pos (a - 0))
    go true h = absurd (let z = h tt in omega arith)
    go false h = ap pos (add-zero a ∙ sym (sub-zero a))
pos_neg a (suc b) = refl

-- `sum` rounds the exact sum
module _ (f : Format) (c a b : ℕ) where
  abbrev exact : Bool → Bool → ℤ → Float
  exact s t z = round f (sum_sign z s t) (nat_abs z) c

  up_down : (x y : Bool) → (T x → a < b) → (T (not x) → b ≤ a)
      → cond x (round f true (b - a) c) (round f (false && y) (a - b) c) ≡ exact false true (cond x (negsuc (b - suc a)) (pos (a - b)))
  up_down true y h g = let l = h tt in ap (λ (n : ℕ). round f true n c) (let e : b - a ≡ suc (b - suc a) = omega arith in e)
  up_down false y h g = ap (λ (s : Bool). round f s (a - b) c) (sym (sign_plain false true refl (a - b)))

  down_up : (x y : Bool) → (T x → a < b) → (T (not x) → b ≤ a) → (T y → b < a) → (T (not y) → a ≤ b)
      → cond x (round f false (b - a) c) (round f (true && y) (a - b) c) ≡ exact true false (cond y (negsuc (a - suc b)) (pos (b - a)))
  down_up true true h g i j = absurd (let p = h tt in let q = i tt in omega arith)
  down_up true false h g i j = ap (λ (s : Bool). round f s (b - a) c) (sym (sign_plain true false refl (b - a)))
  down_up false true h g i j = let l = i tt in ap (λ (n : ℕ). round f true n c) (let e : a - b ≡ suc (a - suc b) = omega arith in e)
  down_up false false h g i j =
      let p = g tt in let q = j tt in
      let e : a - b ≡ b - a = omega arith in
      ap₂ (λ (s : Bool) (n : ℕ). round f s n c) (sym (sign_plain true false refl (b - a))) e

  pub sum_is : (s t : Bool) → sum f s a t b c ≡ exact s t (with_sign s a +ℤ with_sign t b)
  unfolding sum
  sum_is false false = ap (λ (s : Bool). round f s (a + b) c) (sym (sign_plain false false refl (a + b)))
  sum_is false true = up_down (ltb a b) (ltb b a) (ltb→lt a b) (nltb→le a b) ∙ ap (exact false true) (sym (pos_neg a b))
  sum_is true false =
      down_up (ltb a b) (ltb b a) (ltb→lt a b) (nltb→le a b) (ltb→lt b a) (nltb→le b a) ∙ ap (exact true false) (sym (pos_neg b a) ∙ +ℤ_comm (pos b) (neg_ℤ (pos a)))
  sum_is true true =
      ap₂ (λ (s : Bool) (n : ℕ). round f s n c) (sym (sign_both (a + b))) (sym (abs_neg (a + b))) ∙ ap (exact true true) (neg_ℤ-+ℤ (pos a) (pos b))

pub add_nearest : (f : Format) (x y : Float) → T (finite x) → T (finite y)
    → Nearest f (sum_sign (exact_sum x y) (sign x) (sign y)) (nat_abs (exact_sum x y)) (den x * den y) (add f x y)
unfolding add
add_nearest f nan y p q = absurd p
add_nearest f (inf s) y p q = absurd p
add_nearest f (fin s m e) nan p q = absurd q
add_nearest f (fin s m e) (inf t) p q = absurd q
add_nearest f (fin s m e) (fin t n d) p q =
    let c = down e * down d in
    let z = exact_sum (fin s m e) (fin t n d) in
    subst (λ (x : Float). Nearest f (sum_sign z s t) (nat_abs z) c x) (sym (sum_is f c (m * up e * down d) (n * up d * down e) s t))
    (round_nearest f (sum_sign z s t) (nat_abs z) c (mul-pos (down_pos e) (down_pos d)))

neg_sign : (t : Bool) (b : ℕ) → with_sign (not t) b ≡ neg_ℤ (with_sign t b)
neg_sign false b = refl
neg_sign true b = sym (neg_ℤ-neg_ℤ (pos b))

pub sub_nearest : (f : Format) (x y : Float) → T (finite x) → T (finite y)
    → Nearest f (sum_sign (exact_difference x y) (sign x) (not (sign y))) (nat_abs (exact_difference x y)) (den x * den y) (sub f x y)
unfolding sub neg
sub_nearest f nan y p q = absurd p
sub_nearest f (inf s) y p q = absurd p
sub_nearest f (fin s m e) nan p q = absurd q
sub_nearest f (fin s m e) (inf t) p q = absurd q
sub_nearest f (fin s m e) (fin t n d) p q =
    let a = m * up e * down d in
    let b = n * up d * down e in
    subst (λ (z : ℤ). Nearest f (sum_sign (with_sign s a +ℤ z) s (not t)) (nat_abs (with_sign s a +ℤ z)) (down e * down d) (add f (fin s m e) (fin (not t) n d))) (neg_sign t b)
    (add_nearest f (fin s m e) (fin (not t) n d) p q)
