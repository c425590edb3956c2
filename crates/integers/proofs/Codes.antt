-- Each operation of `specs/Integers.antt` on codes, over the width: what the machine's unsigned operations give is the code that the definition names.
-- Assumes nothing.
use Rattle.std.proofs.Common.{◌≡◌, ℕ, suc, ◌+◌, ◌-◌, ◌*◌, ◌/◌, ◌%◌, ◌^◌, ◌<◌, ◌≤◌, Bool, true, false, cond, ltb, ◌⊎◌, ℤ, pos, negsuc, ◌-ℤ◌, neg_ℤ, nat_abs, sym, refl, ap, ◌∙◌, inl, inr, ⊎_elim, lt_of_le_of_lt, le_of_lt, mod-eq_of_lt, mul-le-mul_left, mul-lt-mul_of_pos_right, arith, pow_pos, pow-add, ltb-false, ltb-true, le-ltb, lt-ltb}
use mathlib.Core.Path.{subst⁻¹}
use native.Mathlib.Nat.{div-zero, mod-zero, mod-eq-sub-mod}
use lib.IntN.{ -ℤ-+ℤ_cancel, +ℤ_idl, +ℤ_invl}
use lib.Signed.{quot_z, rem_z}
use Rattle.integers.specs.Integers.{wrap, signed, wrapped_sum, wrapped_difference, wrapped_product, wrapped_negation, truncated_quotient, signed_remainder}
use Rattle.integers.proofs.Ring.{wrap_lt, wrap_sum, wrap_product, wrap_signed}

lt_or_ge : (a b : ℕ) → (a < b) ⊎ (b ≤ a)
lt_or_ge a b = go (ltb a b) refl
  where
    go : (t : Bool) → ltb a b ≡ t → (a < b) ⊎ (b ≤ a)
    go true e = inl (ltb-true a b e)
    go false e = inr (ltb-false a b e)

-- a modulus that is added twice is cancelled
cancel : (M r s b : ℕ) → r < M → s < M → b < M → (r + b) % M ≡ (s + b) % M → r ≡ s
cancel M r s b hr hs hb e = ⊎_elim low high (lt_or_ge (r + b) M)
  where
    less : (x : ℕ) → x + b < M → (x + b) % M ≡ x + b
    less x l = mod-eq_of_lt l

    more : (x : ℕ) → x < M → M ≤ x + b → (x + b) % M ≡ x + b - M
    more x h l = mod-eq-sub-mod l ∙ mod-eq_of_lt (let z : x + b - M < M = omega arith in z)

    low : r + b < M → r ≡ s
    low l = ⊎_elim (λ m. let p = less r l in let q = less s m in omega arith) (λ m. let p = less r l in let q = more s hs m in omega arith) (lt_or_ge (s + b) M)

    high : M ≤ r + b → r ≡ s
    high l = ⊎_elim (λ m. let p = more r hr l in let q = less s m in omega arith) (λ m. let p = more r hr l in let q = more s hs m in omega arith) (lt_or_ge (s + b) M)

module _ (w : ℕ) where
  pub sum_law : (a b : ℕ) → a < 2 ^ w → b < 2 ^ w → (a + b) % 2 ^ w ≡ wrapped_sum w a b
  sum_law a b ha hb = sym (wrap_sum w (signed w a) (signed w b) ∙ rw (wrap_signed w a ha, wrap_signed w b hb))

  pub product_law : (a b : ℕ) → 0 < w → a < 2 ^ w → b < 2 ^ w → a * b % 2 ^ w ≡ wrapped_product w a b
  product_law a b h ha hb = sym (wrap_product w (signed w a) (signed w b) h ∙ rw (wrap_signed w a ha, wrap_signed w b hb))

  minus_law : (x y : ℤ) (r a b : ℕ) → r < 2 ^ w → wrap w x ≡ a → wrap w y ≡ b → (r + b) % 2 ^ w ≡ a → r ≡ wrap w (x -ℤ y)
  minus_law x y r a b hr ex ey e =
      cancel (2 ^ w) r (wrap w (x -ℤ y)) (wrap w y) hr (wrap_lt w (x -ℤ y)) (wrap_lt w y)
      (rw ey e ∙ sym ex ∙ ap (wrap w) (sym (-ℤ-+ℤ_cancel x y)) ∙ wrap_sum w (x -ℤ y) y)

  pub difference_law : (r a b : ℕ) → r < 2 ^ w → a < 2 ^ w → b < 2 ^ w → (r + b) % 2 ^ w ≡ a → r ≡ wrapped_difference w a b
  difference_law r a b hr ha hb e = minus_law (signed w a) (signed w b) r a b hr (wrap_signed w a ha) (wrap_signed w b hb) e

  wrap_zero : wrap w (pos 0) ≡ 0
  unfolding wrap
  wrap_zero = mod-eq_of_lt (pow_pos w)

  pub wrap_pos : (a : ℕ) → a < 2 ^ w → wrap w (pos a) ≡ a
  unfolding wrap
  wrap_pos a h = mod-eq_of_lt h

  pub neg_law : (r a : ℕ) → r < 2 ^ w → a < 2 ^ w → (r + a) % 2 ^ w ≡ 0 → r ≡ wrapped_negation w a
  neg_law r a hr ha e = minus_law (pos 0) (signed w a) r 0 a hr wrap_zero (wrap_signed w a ha) e ∙ ap (wrap w) (+ℤ_idl (neg_ℤ (signed w a)))

  pub opposite_law : (r a : ℕ) → r < 2 ^ w → a < 2 ^ w → (r + a) % 2 ^ w ≡ 0 → r ≡ wrap w (neg_ℤ (pos a))
  opposite_law r a hr ha e = minus_law (pos 0) (pos a) r 0 a hr wrap_zero (wrap_pos a ha) e ∙ ap (wrap w) (+ℤ_idl (neg_ℤ (pos a)))

  -- ---- a code by its sign
  pub low : (a : ℕ) → a < 2 ^ (w - 1) → signed w a ≡ pos a
  unfolding signed
  low a h = rw (lt-ltb a (2 ^ (w - 1)) h)

  pub high : (a : ℕ) → 2 ^ (w - 1) ≤ a → signed w a ≡ negsuc (2 ^ w - suc a)
  unfolding signed
  high a h = rw (le-ltb a (2 ^ (w - 1)) h)

  pub abs_low : (a : ℕ) → a < 2 ^ (w - 1) → nat_abs (signed w a) ≡ a
  abs_low a h = ap nat_abs (low a h)

  pub abs_high : (a : ℕ) → a < 2 ^ w → 2 ^ (w - 1) ≤ a → nat_abs (signed w a) ≡ 2 ^ w - a
  abs_high a l h = ap nat_abs (high a h) ∙ (let z : suc (2 ^ w - suc a) ≡ 2 ^ w - a = omega arith in z)

  -- the order of two negative codes is that of the codes
  pub less_high : (a b : ℕ) → a < 2 ^ w → b < 2 ^ w → ltb (2 ^ w - suc b) (2 ^ w - suc a) ≡ ltb a b
  less_high a b ha hb = go (ltb a b) refl
    where
      go : (t : Bool) → ltb a b ≡ t → ltb (2 ^ w - suc b) (2 ^ w - suc a) ≡ t
      go true e = lt-ltb (2 ^ w - suc b) (2 ^ w - suc a) (let l = ltb-true a b e in omega arith)
      go false e = le-ltb (2 ^ w - suc b) (2 ^ w - suc a) (let l = ltb-false a b e in omega arith)

  -- ---- division, by the signs: the magnitudes' quotient q, or the code of -q
  pub abs_pos : (b : ℕ) → 0 < b → b < 2 ^ w → 0 < nat_abs (signed w b)
  unfolding signed
  abs_pos b h l = go (ltb b (2 ^ (w - 1)))
    where
      go : (t : Bool) → 0 < nat_abs (cond t (pos b) (negsuc (2 ^ w - suc b)))
      go true = h
      go false = omega arith

  pub like_low : (a b : ℕ) → a < 2 ^ (w - 1) → b < 2 ^ (w - 1) → quot_z (signed w a) (signed w b) ≡ pos (nat_abs (signed w a) / nat_abs (signed w b))
  like_low a b h k = rw (low a h, low b k)

  pub like_high : (a b : ℕ) → 2 ^ (w - 1) ≤ a → 2 ^ (w - 1) ≤ b → quot_z (signed w a) (signed w b) ≡ pos (nat_abs (signed w a) / nat_abs (signed w b))
  like_high a b h k = rw (high a h, high b k)

  pub unlike_low : (a b : ℕ) → a < 2 ^ (w - 1) → 2 ^ (w - 1) ≤ b → quot_z (signed w a) (signed w b) ≡ neg_ℤ (pos (nat_abs (signed w a) / nat_abs (signed w b)))
  unlike_low a b h k = rw (low a h, high b k)

  pub unlike_high : (a b : ℕ) → 2 ^ (w - 1) ≤ a → b < 2 ^ (w - 1) → quot_z (signed w a) (signed w b) ≡ neg_ℤ (pos (nat_abs (signed w a) / nat_abs (signed w b)))
  unlike_high a b h k = rw (high a h, low b k)

  pub rem_low : (a b : ℕ) → a < 2 ^ (w - 1) → rem_z (signed w a) (signed w b) ≡ pos (nat_abs (signed w a) % nat_abs (signed w b))
  rem_low a b h = rw (low a h)

  pub rem_high : (a b : ℕ) → 2 ^ (w - 1) ≤ a → rem_z (signed w a) (signed w b) ≡ neg_ℤ (pos (nat_abs (signed w a) % nat_abs (signed w b)))
  rem_high a b h = rw (high a h)

  -- a whole number z that is n, or -n, where q is n and q is a code
  pub as_pos : (z : ℤ) (n q : ℕ) → q < 2 ^ w → q ≡ n → z ≡ pos n → q ≡ wrap w z
  as_pos z n q l e p = sym (wrap_pos q l) ∙ ap (λ (x : ℕ). wrap w (pos x)) e ∙ sym (ap (wrap w) p)

  pub as_neg : (z : ℤ) (n q r : ℕ) → r ≡ wrap w (neg_ℤ (pos q)) → q ≡ n → z ≡ neg_ℤ (pos n) → r ≡ wrap w z
  as_neg z n q r g e p = g ∙ ap (λ (x : ℕ). wrap w (neg_ℤ (pos x))) e ∙ sym (ap (wrap w) p)

  -- a zero divisor
  pub quotient_by_zero : (a b : ℕ) → b ≡ 0 → 0 ≡ truncated_quotient w a b
  quotient_by_zero a b e = sym (ap (λ (n : ℕ). truncated_quotient w a n) e ∙ ap (λ (z : ℤ). wrap w (quot_z (signed w a) z)) (low 0 (pow_pos (w - 1))) ∙ ap (wrap w) (none (signed w a)) ∙ wrap_zero)
    where
      none : (z : ℤ) → quot_z z (pos 0) ≡ pos 0
      none (pos n) = ap pos (div-zero n)
      none (negsuc n) = ap (λ (m : ℕ). neg_ℤ (pos m)) (div-zero (suc n))

  pub remainder_by_zero : (a b : ℕ) → a < 2 ^ w → b ≡ 0 → a ≡ signed_remainder w a b
  remainder_by_zero a b h e = sym (ap (λ (n : ℕ). signed_remainder w a n) e ∙ ap (λ (z : ℤ). wrap w (rem_z (signed w a) z)) (low 0 (pow_pos (w - 1))) ∙ ap (wrap w) (all (signed w a)) ∙ wrap_signed w a h)
    where
      all : (z : ℤ) → rem_z z (pos 0) ≡ z
      all (pos n) = ap pos (mod-zero n)
      all (negsuc n) = ap (λ (m : ℕ). neg_ℤ (pos m)) (mod-zero (suc n))

  -- the code of -a, said of the code
  pub negation_code : (r a : ℕ) → a < 2 ^ w → r ≡ wrapped_negation w a → r ≡ wrap w (neg_ℤ (pos a))
  negation_code r a ha e =
      opposite_law r a (rw e (wrap_lt w (neg_ℤ (signed w a)))) ha
      (rw e (ap (λ (n : ℕ). (wrapped_negation w a + n) % 2 ^ w) (sym (wrap_signed w a ha))
      ∙ sym (wrap_sum w (neg_ℤ (signed w a)) (signed w a)) ∙ ap (wrap w) (+ℤ_invl (signed w a)) ∙ wrap_zero))

  -- the whole product of two codes fits twice the width
  pub product_fits : {a b : ℕ} → a < 2 ^ w → b < 2 ^ w → a * b < 2 ^ (w + w)
  product_fits {a} {b} ha hb =
      subst⁻¹ (λ (n : ℕ). a * b < n) (pow-add 2 w w)
      (lt_of_le_of_lt (mul-le-mul_left a (le_of_lt hb)) (mul-lt-mul_of_pos_right ha (pow_pos w)))
