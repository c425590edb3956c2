-- `wrap w` takes sums to sums and products to products, modulo 2 ^ w, over the width. M is 2 ^ w and k is M - 1, which stands for -1.
-- Assumes nothing.
use Rattle.std.proofs.Common.{◌≡◌, ℕ, zero, suc, ◌+◌, ◌-◌, ◌*◌, ◌/◌, ◌%◌, ◌^◌, ◌<◌, ◌≤◌, Bool, true, false, cond, ltb, ℤ, pos, negsuc, ◌+ℤ◌, ◌*ℤ◌, neg_ℤ, sym, refl, ap, ◌∙◌, add_assoc, mod-lt, mod-eq_of_lt, mul_assoc, suc-mul, add-mul, add_comm, one-mul, mul-zero, mul-suc, mul-add, mul_left_comm, arith, pow_pos, pow_mono, ltb-false, ltb-true}
use native.Mathlib.Nat.{add-mod, mod-add-div, add-mul-mod_self_left, mul-mul-mul_comm}
use Rattle.integers.specs.Integers.{wrap, signed}

module _ (M k : ℕ) (e : M ≡ suc k) where
  -- a natural number that is z modulo M
  abbrev code : ℤ → ℕ
  code (pos n) = n
  code (negsuc n) = k * suc n

  M_pos : 0 < M
  M_pos = omega arith

  -- x and y are congruent, as y plus a multiple
  plus : (x t : ℕ) → (x + M * t) % M ≡ x % M
  plus x t = add-mul-mod_self_left x M t

  k_m : (t : ℕ) → k * t + t ≡ M * t
  k_m t = sym (suc-mul k t) ∙ ap (λ (m : ℕ). m * t) (sym e)

  code_neg : (n : ℕ) → code (neg_ℤ (pos n)) ≡ k * n
  code_neg zero = sym (mul-zero k)
  code_neg (suc n) = refl

  -- a - suc b, and a + k * suc b
  diff : (a b : ℕ) (t : Bool) → ltb a b ≡ t → code (cond t (negsuc (b - suc a)) (pos (a - b))) % M ≡ (a + k * b) % M
  diff a b true h =
      let l : a < b = ltb-true a b h in
      let s : suc (b - suc a) + a ≡ b = omega arith in
      sym (plus (k * suc (b - suc a)) a)
      ∙ ap (λ (x : ℕ). x % M)
      (let p : k * suc (b - suc a) + k * a ≡ k * b = sym (mul-add k (suc (b - suc a)) a) ∙ ap (λ (x : ℕ). k * x) s in
      let q : k * a + a ≡ M * a = k_m a in
      omega arith)
  diff a b false h =
      let l : b ≤ a = ltb-false a b h in
      sym (plus (a - b) b) ∙ ap (λ (x : ℕ). x % M) (let q : k * b + b ≡ M * b = k_m b in omega arith)

  code_sum : (x y : ℤ) → code (x +ℤ y) % M ≡ (code x + code y) % M
  code_sum (pos a) (pos b) = refl
  code_sum (pos a) (negsuc b) = diff a (suc b) (ltb a (suc b)) refl
  code_sum (negsuc a) (pos b) = diff b (suc a) (ltb b (suc a)) refl ∙ ap (λ (x : ℕ). x % M) (add_comm b (k * suc a))
  code_sum (negsuc a) (negsuc b) =
      ap (λ (x : ℕ). x % M)
      (ap (λ (x : ℕ). k * x) (let s : suc (suc (a + b)) ≡ suc a + suc b = omega arith in s) ∙ mul-add k (suc a) (suc b))

  -- k * k is 1 modulo M
  square : (t : ℕ) → 0 < k → k * k * t ≡ t + M * ((k - 1) * t)
  square t h =
      let a : k ≡ suc (k - 1) = omega arith in
      let b : k * k ≡ 1 + M * (k - 1) =
      (let p : k * k ≡ k * suc (k - 1) = ap (λ (x : ℕ). k * x) a in
      let q : k * suc (k - 1) ≡ k * (k - 1) + k = mul-suc k (k - 1) in
      let r : k * (k - 1) + (k - 1) ≡ M * (k - 1) = k_m (k - 1) in
      omega arith) in
      ap (λ (x : ℕ). x * t) b ∙ add-mul 1 (M * (k - 1)) t ∙ ap (λ (x : ℕ). x + M * (k - 1) * t) (one-mul t) ∙ ap (λ (x : ℕ). t + x) (mul_assoc M (k - 1) t)

  code_product : (x y : ℤ) → 0 < k → code (x *ℤ y) % M ≡ (code x * code y) % M
  code_product (pos a) (pos b) h = refl
  code_product (pos a) (negsuc b) h = ap (λ (x : ℕ). x % M) (code_neg (a * suc b) ∙ mul_left_comm k a (suc b))
  code_product (negsuc a) (pos b) h = ap (λ (x : ℕ). x % M) (code_neg (suc a * b) ∙ sym (mul_assoc k (suc a) b))
  code_product (negsuc a) (negsuc b) h =
      sym (plus (suc a * suc b) ((k - 1) * (suc a * suc b)))
      ∙ ap (λ (x : ℕ). x % M) (sym (square (suc a * suc b) h) ∙ mul-mul-mul_comm k k (suc a) (suc b))

  -- the closed form of wrap
  code_negsuc : (n : ℕ) → k * suc n % M ≡ M - suc (n % M)
  code_negsuc n =
      let r = n % M in
      let l : r < M = mod-lt n M_pos in
      let d : r + M * (n / M) ≡ n = mod-add-div n M in
      let p : k * suc n ≡ k * suc r + M * (k * (n / M)) =
      (ap (λ (x : ℕ). k * suc x) (sym d)
      ∙ ap (λ (x : ℕ). k * x) (let s : suc (r + M * (n / M)) ≡ suc r + M * (n / M) = omega arith in s)
      ∙ mul-add k (suc r) (M * (n / M)) ∙ ap (λ (x : ℕ). k * suc r + x) (mul_left_comm k M (n / M))) in
      let q : k * suc r ≡ M - suc r + M * r =
      (let u : k * suc r + suc r ≡ M * suc r = k_m (suc r) in
      let v : M * suc r ≡ M * r + M = mul-suc M r in
      omega arith) in
      ap (λ (x : ℕ). x % M) p ∙ plus (k * suc r) (k * (n / M)) ∙ ap (λ (x : ℕ). x % M) q ∙ plus (M - suc r) r
      ∙ mod-eq_of_lt (let z : M - suc r < M = omega arith in z)

  mul_mod : (a b : ℕ) → a * b % M ≡ a % M * (b % M) % M
  mul_mod a b =
      let r = a % M in let s = b % M in
      let p : a * b ≡ r * s + M * (r * (b / M) + a / M * b) =
      (ap (λ (x : ℕ). x * b) (sym (mod-add-div a M)) ∙ add-mul r (M * (a / M)) b
      ∙ ap (λ (x : ℕ). r * x + M * (a / M) * b) (sym (mod-add-div b M))
      ∙ ap (λ (x : ℕ). x + M * (a / M) * b) (mul-add r s (M * (b / M)) ∙ ap (λ (x : ℕ). r * s + x) (mul_left_comm r M (b / M)))
      ∙ ap (λ (x : ℕ). r * s + M * (r * (b / M)) + x) (mul_assoc M (a / M) b)
      ∙ add_assoc (r * s) (M * (r * (b / M))) (M * (a / M * b))
      ∙ ap (λ (x : ℕ). r * s + x) (sym (mul-add M (r * (b / M)) (a / M * b)))) in
      ap (λ (x : ℕ). x % M) p ∙ plus (r * s) (r * (b / M) + a / M * b)

module _ (w : ℕ) where
  e : 2 ^ w ≡ suc (2 ^ w - 1)
  e = let h : 0 < 2 ^ w = pow_pos w in omega arith

  is_code : (z : ℤ) → wrap w z ≡ code (2 ^ w) (2 ^ w - 1) e z % 2 ^ w
  unfolding wrap
  is_code (pos n) = refl
  is_code (negsuc n) = sym (code_negsuc (2 ^ w) (2 ^ w - 1) e n)

  pub wrap_lt : (z : ℤ) → wrap w z < 2 ^ w
  wrap_lt z = rw (is_code z) (mod-lt (code (2 ^ w) (2 ^ w - 1) e z) (pow_pos w))

  pub wrap_sum : (x y : ℤ) → wrap w (x +ℤ y) ≡ (wrap w x + wrap w y) % 2 ^ w
  wrap_sum x y =
      is_code (x +ℤ y) ∙ code_sum (2 ^ w) (2 ^ w - 1) e x y ∙ add-mod (code (2 ^ w) (2 ^ w - 1) e x) (code (2 ^ w) (2 ^ w - 1) e y) (2 ^ w)
      ∙ rw (← is_code x, ← is_code y)

  pub wrap_product : (x y : ℤ) → 0 < w → wrap w (x *ℤ y) ≡ wrap w x * wrap w y % 2 ^ w
  wrap_product x y h =
      is_code (x *ℤ y)
      ∙ code_product (2 ^ w) (2 ^ w - 1) e x y (let p : 2 ^ 1 ≤ 2 ^ w = pow_mono h in omega arith)
      ∙ mul_mod (2 ^ w) (2 ^ w - 1) e (code (2 ^ w) (2 ^ w - 1) e x) (code (2 ^ w) (2 ^ w - 1) e y)
      ∙ rw (← is_code x, ← is_code y)

  -- a code below 2 ^ w is the code of its whole number
  pub wrap_signed : (n : ℕ) → n < 2 ^ w → wrap w (signed w n) ≡ n
  unfolding wrap signed
  wrap_signed n h = go (ltb n (2 ^ (w - 1)))
    where
      go : (t : Bool) → wrap w (cond t (pos n) (negsuc (2 ^ w - suc n))) ≡ n
      go true = mod-eq_of_lt h
      go false = ap (λ (x : ℕ). 2 ^ w - suc x) (mod-eq_of_lt (let z : 2 ^ w - suc n < 2 ^ w = omega arith in z)) ∙ (let z : 2 ^ w - suc (2 ^ w - suc n) ≡ n = omega arith in z)
