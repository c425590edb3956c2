-- What `round` keeps of a fraction N / c, before it looks whether the result is too large: the nearest of all numbers m * 2 ^ k with
-- m < 2 ^ p, a tie to the even significand. p, N and c are any. Assumes nothing.
use Rattle.std.specs.Prelude.{◌≡◌, refl, ◌≢◌}
use Rattle.std.proofs.Common.{sym, ap, ◌∙◌, subst, inl, inr, le_trans, le_of_eq, lt_of_lt_of_le, eq-or-lt_of_le, mul_assoc, mul_right_comm, mul-pos, mul-lt-mul_of_pos_right, pow-suc, le-div_iff_mul-le, arith, pow-add, pow_pos, pow_mono}
use Prim.Native.Nat.{ℕ, suc, ◌+◌, ◌-◌, ◌*◌, ◌/◌, ◌%◌, ◌^◌, ◌≤◌, ◌<◌, compare}
use Rattle.std.proofs.Math.Nat.{mul-mod_left, div-div-eq-div-mul}
use Rattle.std.specs.Float.Ieee.{size}
use Rattle.std.specs.Float.Ieee.Digits.{size_reaches, back}
use Rattle.std.specs.Float.Ieee.Fits.{kept-lt, nearest-le}
use Rattle.std.specs.Float.Ieee.Nearest.{nearest-ge}
use Rattle.std.specs.Float.Ieee.Order.{drop, kept}
use Rattle.rounding.specs.Nearest.{gap}
use Rattle.rounding.proofs.Laws.Closest.{side, closest_is, Closest}

pub record Best (p N c m k : ℕ) : Type 0 where
  pub digits : m < 2 ^ p
  pub normalized : 0 < k → 2 ^ (p - 1) ≤ m
  pub near : (n j : ℕ) → n < 2 ^ p → gap N (m * 2 ^ k * c) ≤ gap N (n * 2 ^ j * c)
  pub even : (n j : ℕ) → n < 2 ^ p → n * 2 ^ j ≢ m * 2 ^ k → gap N (n * 2 ^ j * c) ≡ gap N (m * 2 ^ k * c) → m % 2 ≡ 0

-- ---- how many digits are kept
pub kept_le : (p n den : ℕ) → kept p n den ≤ 2 ^ p
kept_le p n den =
    let k = drop p n den in
    let u = den * 2 ^ k in
    le_trans (nearest-le (n / u) (compare (n % u * 2) u)) (subst (λ (x : ℕ). x < 2 ^ p) (div-div-eq-div-mul n den (2 ^ k)) (kept-lt p (n / den)))

all_in_use : (z p : ℕ) → 0 < p → 0 < z - p → p - 1 + (z - p) < z
all_in_use z p P h = omega arith

-- where digits are dropped, the fraction has p digits at least
pub reaches : (p n den : ℕ) → 0 < p → 0 < den → 0 < drop p n den → 2 ^ (p - 1) * (den * 2 ^ drop p n den) ≤ n
reaches p n den P D K =
    let k = drop p n den in
    let w = n / den in
    let a : 2 ^ (p - 1) * 2 ^ k ≤ w = le_trans (le_of_eq (sym (pow-add 2 (p - 1) k))) (size_reaches w (p - 1 + k) (all_in_use (size w) p P K)) in
    le_trans (le_of_eq (sym (mul_assoc (2 ^ (p - 1)) den (2 ^ k)) ∙ mul_right_comm (2 ^ (p - 1)) den (2 ^ k))) ((le-div_iff_mul-le D).0 a)

pub kept_ge : (p n den : ℕ) → 0 < p → 0 < den → 0 < drop p n den → 2 ^ (p - 1) ≤ kept p n den
kept_ge p n den P D K =
    let u = den * 2 ^ drop p n den in
    le_trans ((le-div_iff_mul-le (mul-pos D (pow_pos (drop p n den)))).1 (reaches p n den P D K)) (nearest-ge (n / u) (compare (n % u * 2) u))

room : (p j k : ℕ) → 0 < p → j < k → p + j ≤ p - 1 + k
room p j k P h = omega arith

-- a number of p digits at a lower exponent is below all of p digits at this one
pub lower : (p n j k : ℕ) → 0 < p → n < 2 ^ p → j < k → n * 2 ^ j < 2 ^ (p - 1) * 2 ^ k
lower p n j k P h l =
    lt_of_lt_of_le (mul-lt-mul_of_pos_right h (pow_pos j)) (le_trans (le_of_eq (sym (pow-add 2 p j))) (le_trans (pow_mono (room p j k P l)) (le_of_eq (pow-add 2 (p - 1) k))))

-- a number at a higher exponent, written at this one
pub at_exponent : (n j k : ℕ) → k ≤ j → n * 2 ^ (j - k) * 2 ^ k ≡ n * 2 ^ j
at_exponent n j k h = mul_assoc n (2 ^ (j - k)) (2 ^ k) ∙ ap (λ (x : ℕ). n * x) (sym (pow-add 2 (j - k) k) ∙ ap (λ (x : ℕ). 2 ^ x) (back j k h))

swap : (q k c : ℕ) → q * (c * 2 ^ k) ≡ q * 2 ^ k * c
swap q k c = sym (mul_assoc q c (2 ^ k)) ∙ mul_right_comm q c (2 ^ k)

farther : (N v g q : ℕ) → v < g → g ≤ N → gap N q ≤ gap N g → gap N q < gap N v
farther N v g q a b h = omega arith

module _ (p N c : ℕ) (P : 2 ≤ p) (C : 0 < c) where
  pos_p : 0 < p
  pos_p = omega arith

  -- the kept number, not yet cut to p digits where it is 2 ^ p
  module _ (k q : ℕ) (R : 0 < k → 2 ^ (p - 1) * (c * 2 ^ k) ≤ N) (h : Closest N (c * 2 ^ k) q) where
    near_low : (n j : ℕ) → n < 2 ^ p → j < k → gap N (q * 2 ^ k * c) < gap N (n * 2 ^ j * c)
    near_low n j d l =
        let g = 2 ^ (p - 1) in
        let K : 0 < k = omega arith in
        let e = swap g k c in
        let v : n * 2 ^ j * c < g * 2 ^ k * c = mul-lt-mul_of_pos_right (lower p n j k pos_p d l) C in
        farther N (n * 2 ^ j * c) (g * 2 ^ k * c) (q * 2 ^ k * c) v (subst (λ (x : ℕ). x ≤ N) e (R K))
        (subst (λ (x : ℕ). gap N x ≤ gap N (g * 2 ^ k * c)) (swap q k c) (subst (λ (x : ℕ). gap N (q * (c * 2 ^ k)) ≤ gap N x) e (h.near g)))

    written : (n j : ℕ) → k ≤ j → n * 2 ^ (j - k) * (c * 2 ^ k) ≡ n * 2 ^ j * c
    written n j l = swap (n * 2 ^ (j - k)) k c ∙ ap (λ (x : ℕ). x * c) (at_exponent n j k l)

    near_all : (n j : ℕ) → n < 2 ^ p → gap N (q * 2 ^ k * c) ≤ gap N (n * 2 ^ j * c)
    near_all n j d =
        elim (side k j) [
          | inl l ↦
              subst (λ (x : ℕ). gap N x ≤ gap N (n * 2 ^ j * c)) (swap q k c)
              (subst (λ (x : ℕ). gap N (q * (c * 2 ^ k)) ≤ gap N x) (written n j l) (h.near (n * 2 ^ (j - k))))
          | inr l ↦ (let z = near_low n j d l in omega arith)
        ]

    even_all : (n j : ℕ) → n < 2 ^ p → n * 2 ^ j ≢ q * 2 ^ k → gap N (n * 2 ^ j * c) ≡ gap N (q * 2 ^ k * c) → q % 2 ≡ 0
    even_all n j d ne g =
        elim (side k j) [
          | inl l ↦
              h.even (n * 2 ^ (j - k)) (λ (e : n * 2 ^ (j - k) ≡ q). ne (sym (at_exponent n j k l) ∙ ap (λ (x : ℕ). x * 2 ^ k) e))
              (ap (gap N) (written n j l) ∙ g ∙ sym (ap (gap N) (swap q k c)))
          | inr l ↦ (let z = near_low n j d l in absurd (omega arith))
        ]

  half_pow : (k : ℕ) → 2 ^ (p - 1) * 2 ^ suc k ≡ 2 ^ p * 2 ^ k
  half_pow k =
      let e : p - 1 + suc k ≡ p + k = omega arith in
      sym (pow-add 2 (p - 1) (suc k)) ∙ ap (λ (x : ℕ). 2 ^ x) e ∙ pow-add 2 p k

  half_even : 2 ^ (p - 1) % 2 ≡ 0
  half_even =
      let e : p - 1 ≡ suc (p - 2) = omega arith in
      ap (λ (x : ℕ). 2 ^ x % 2) e ∙ ap (λ (x : ℕ). x % 2) (pow-suc 2 (p - 2)) ∙ mul-mod_left (2 ^ (p - 2)) 2

  half_lt : 2 ^ (p - 1) < 2 ^ p
  half_lt =
      let e : p ≡ suc (p - 1) = omega arith in
      let f : 2 ^ p ≡ 2 ^ (p - 1) * 2 = ap (λ (x : ℕ). 2 ^ x) e ∙ pow-suc 2 (p - 1) in
      let z = pow_pos (p - 1) in omega arith

  -- the significand and the exponent of what `round` keeps, and that they are the best
  pub best : (m : ℕ) × (k : ℕ) × (m * 2 ^ k ≡ kept p N c * 2 ^ drop p N c) × Best p N c m k
  best =
      let k = drop p N c in
      let q = kept p N c in
      let R = reaches p N c pos_p C in
      let h = closest_is N (c * 2 ^ k) (mul-pos C (pow_pos k)) in
      elim (eq-or-lt_of_le (kept_le p N c)) [
        | inl e ↦ (
          2 ^ (p - 1),
          suc k,
          half_pow k ∙ ap (λ (x : ℕ). x * 2 ^ k) (sym e),
          (let t : q * 2 ^ k ≡ 2 ^ (p - 1) * 2 ^ suc k = ap (λ (x : ℕ). x * 2 ^ k) e ∙ sym (half_pow k) in
              record {
                digits = half_lt;
                normalized = λ _. le_of_eq refl;
                near = λ n j d. subst (λ (x : ℕ). gap N (x * c) ≤ gap N (n * 2 ^ j * c)) t (near_all k q R h n j d);
                even = λ n j d ne g. half_even;
              }),
        )
        | inr l ↦ (q, k, refl, record { digits = l; normalized = kept_ge p N c pos_p C; near = near_all k q R h; even = even_all k q R h })
      ]
