-- Where the best number m * 2 ^ k of p digits reaches 2 ^ p * 2 ^ (t + 1): exactly for a fraction N / c from the middle between that and the
-- number before it on. Assumes nothing.
use Rattle.std.specs.Prelude.{◌≡◌, ◌≢◌, ℕ, suc, ◌+◌, ◌-◌, ◌*◌, ◌%◌, ◌^◌, ◌≤◌, ◌<◌}
use Rattle.std.proofs.Common.{sym, ap, ◌∙◌, subst, inl, inr, le_trans, lt_of_lt_of_le, lt_irrefl, mul_assoc, mul_comm, mul-pos, mul-le-mul_left, mul-le-mul_right, mul-lt-mul_of_pos_right, pow-suc, add-mul, suc-mul, arith, pow-add, pow_pos, pow_mono}
use Rattle.std.proofs.Math.Pow.{suc_ones}
use Rattle.rounding.specs.Nearest.{gap}
use Rattle.rounding.proofs.Laws.Closest.{side}
use Rattle.rounding.proofs.Laws.Grid.{Best}

-- N is below the middle of g and g + 2h, and x is above: g is nearer
nearer_below : (N x g h top : ℕ) → 0 < h → top ≡ g + h * 2 → N < g + h → top ≤ x → gap N x ≤ gap N g → ⊥
nearer_below N x g h top H e a b l = omega arith

-- N is the middle or above it, and x is below: no nearer than g + 2h, and as near only where x is g
tie_at : (N x g h top : ℕ) → 0 < h → top ≡ g + h * 2 → g + h ≤ N → x ≤ g → gap N x ≤ gap N top → x ≡ g
tie_at N x g h top H e a b l = omega arith

tie_gap : (N x g h top : ℕ) → 0 < h → top ≡ g + h * 2 → g + h ≤ N → x ≤ g → gap N x ≤ gap N top → gap N top ≡ gap N x
tie_gap N x g h top H e a b l = omega arith

module _ (p t : ℕ) (P : 2 ≤ p) where
  pub pow_twice : 2 ^ p ≡ 2 ^ (p - 1) * 2
  pow_twice =
      let e : p ≡ suc (p - 1) = omega arith in
      ap (λ (x : ℕ). 2 ^ x) e ∙ pow-suc 2 (p - 1)

  -- 2 ^ p * 2 ^ (t + 1) by the number before it, and the middle
  top_is : 2 ^ p * 2 ^ suc t ≡ (2 ^ p - 1) * 2 ^ suc t + 2 ^ t * 2
  top_is =
      let a : 2 ^ p ≡ suc (2 ^ p - 1) = sym (suc_ones p) in
      ap (λ (x : ℕ). x * 2 ^ suc t) a ∙ suc-mul (2 ^ p - 1) (2 ^ suc t) ∙ ap (λ (x : ℕ). (2 ^ p - 1) * 2 ^ suc t + x) (pow-suc 2 t)

  middle_is : (2 ^ suc p - 1) * 2 ^ t ≡ (2 ^ p - 1) * 2 ^ suc t + 2 ^ t
  middle_is =
      let x = 2 ^ p - 1 in
      let a : 2 ^ suc p - 1 ≡ x * 2 + 1 = (let d = pow-suc 2 p in let e = pow_pos p in omega arith) in
      let b : x * 2 * 2 ^ t ≡ x * 2 ^ suc t = mul_assoc x 2 (2 ^ t) ∙ ap (λ (y : ℕ). x * y) (mul_comm 2 (2 ^ t) ∙ sym (pow-suc 2 t)) in
      let d : (x * 2 + 1) * 2 ^ t ≡ x * 2 * 2 ^ t + 1 * 2 ^ t = add-mul (x * 2) 1 (2 ^ t) in
      ap (λ (y : ℕ). y * 2 ^ t) a ∙ (let g : (x * 2 + 1) * 2 ^ t ≡ x * 2 ^ suc t + 2 ^ t = omega arith in g)

  top_written : 2 ^ (p - 1) * 2 ^ suc (suc t) ≡ 2 ^ p * 2 ^ suc t
  top_written =
      let e : p - 1 + suc (suc t) ≡ p + suc t = omega arith in
      sym (pow-add 2 (p - 1) (suc (suc t))) ∙ ap (λ (x : ℕ). 2 ^ x) e ∙ pow-add 2 p (suc t)

  -- below the top the exponent is t + 1 at most
  pub exponent : (m k : ℕ) → (0 < k → 2 ^ (p - 1) ≤ m) → m * 2 ^ k < 2 ^ p * 2 ^ suc t → k ≤ suc t
  exponent m k F h =
      elim (side k (suc t)) [
        | inl l ↦ l
        | inr l ↦
            let K : 0 < k = omega arith in
            let a : 2 ^ (p - 1) * 2 ^ k ≤ m * 2 ^ k = mul-le-mul_right (2 ^ k) (F K) in
            let b : 2 ^ (p - 1) * 2 ^ suc (suc t) ≤ 2 ^ (p - 1) * 2 ^ k = mul-le-mul_left (2 ^ (p - 1)) (pow_mono l) in
            let e = top_written in absurd (omega arith)
      ]

  -- below the top, a number is the one before it at most, and with an even significand less
  last : (m k : ℕ) → m < 2 ^ p → (0 < k → 2 ^ (p - 1) ≤ m) → m * 2 ^ k < 2 ^ p * 2 ^ suc t → m * 2 ^ k ≤ (2 ^ p - 1) * 2 ^ suc t
  last m k d F h =
      let a : m ≤ 2 ^ p - 1 = omega arith in
      le_trans (mul-le-mul_right (2 ^ k) a) (mul-le-mul_left (2 ^ p - 1) (pow_mono (exponent m k F h)))

  last_even : (m k : ℕ) → m < 2 ^ p → (0 < k → 2 ^ (p - 1) ≤ m) → m * 2 ^ k < 2 ^ p * 2 ^ suc t → m % 2 ≡ 0 → m * 2 ^ k < (2 ^ p - 1) * 2 ^ suc t
  last_even m k d F h v =
      let e = pow_twice in
      let a : m < 2 ^ p - 1 = omega arith in
      lt_of_lt_of_le (mul-lt-mul_of_pos_right a (pow_pos k)) (mul-le-mul_left (2 ^ p - 1) (pow_mono (exponent m k F h)))

  module _ (N c m k : ℕ) (C : 0 < c) (B : Best p N c m k) where
    times : (x y : ℕ) → x ≤ y → x * c ≤ y * c
    times x y h = mul-le-mul_right c h

    top_c : 2 ^ p * 2 ^ suc t * c ≡ (2 ^ p - 1) * 2 ^ suc t * c + 2 ^ t * c * 2
    top_c =
        let a : 2 ^ t * 2 * c ≡ 2 ^ t * c * 2 = mul_assoc (2 ^ t) 2 c ∙ ap (λ (x : ℕ). 2 ^ t * x) (mul_comm 2 c) ∙ sym (mul_assoc (2 ^ t) c 2) in
        ap (λ (x : ℕ). x * c) top_is ∙ add-mul ((2 ^ p - 1) * 2 ^ suc t) (2 ^ t * 2) c ∙ ap (λ (x : ℕ). (2 ^ p - 1) * 2 ^ suc t * c + x) a

    middle_c : (2 ^ suc p - 1) * 2 ^ t * c ≡ (2 ^ p - 1) * 2 ^ suc t * c + 2 ^ t * c
    middle_c = ap (λ (x : ℕ). x * c) middle_is ∙ add-mul ((2 ^ p - 1) * 2 ^ suc t) (2 ^ t) c

    H : 0 < 2 ^ t * c
    H = mul-pos (pow_pos t) C

    pub small : N < (2 ^ suc p - 1) * 2 ^ t * c → m * 2 ^ k < 2 ^ p * 2 ^ suc t
    small h =
        let g = (2 ^ p - 1) * 2 ^ suc t in
        let G = 2 ^ p * 2 ^ suc t in
        elim (side G (m * 2 ^ k)) [
          | inl l ↦
              let o : 2 ^ p - 1 < 2 ^ p = (let z = pow_pos p in omega arith) in
              absurd
              (nearer_below N (m * 2 ^ k * c) (g * c) (2 ^ t * c) (G * c) H top_c (subst (λ (x : ℕ). N < x) middle_c h) (times G (m * 2 ^ k) l) (B.near (2 ^ p - 1) (suc t) o))
          | inr l ↦ l
        ]

    pub large : (2 ^ suc p - 1) * 2 ^ t * c ≤ N → 2 ^ p * 2 ^ suc t ≤ m * 2 ^ k
    large h =
        let g = (2 ^ p - 1) * 2 ^ suc t in
        let G = 2 ^ p * 2 ^ suc t in
        let x = m * 2 ^ k in
        elim (side G x) [
          | inl l ↦ l
          | inr l ↦
              let o : 2 ^ (p - 1) < 2 ^ p = (let z = pow_twice in let y = pow_pos (p - 1) in omega arith) in
              let a = times x g (last m k B.digits B.normalized l) in
              let n : gap N (x * c) ≤ gap N (G * c) = subst (λ (z : ℕ). gap N (x * c) ≤ gap N (z * c)) top_written (B.near (2 ^ (p - 1)) (suc (suc t)) o) in
              let d : g * c + 2 ^ t * c ≤ N = subst (λ (z : ℕ). z ≤ N) middle_c h in
              let other : 2 ^ (p - 1) * 2 ^ suc (suc t) ≢ x = λ z. (let u = sym top_written ∙ z in omega arith) in
              let v : m % 2 ≡ 0 =
              B.even (2 ^ (p - 1)) (suc (suc t)) o other (ap (λ (z : ℕ). gap N (z * c)) top_written ∙ tie_gap N (x * c) (g * c) (2 ^ t * c) (G * c) H top_c d a n) in
              let b = mul-lt-mul_of_pos_right (last_even m k B.digits B.normalized l v) C in
              let e = tie_at N (x * c) (g * c) (2 ^ t * c) (G * c) H top_c d a n in
              absurd (lt_irrefl (g * c) (subst (λ (z : ℕ). z < g * c) e b))
        ]
