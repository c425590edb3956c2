-- A fraction has one nearest value, so that `Nearest` and `round` say the same. Assumes nothing.
use Rattle.std.specs.Prelude.{◌≡◌, refl, Bool, cond, ◌↔◌, ℕ, suc, ◌+◌, ◌-◌, ◌*◌, ◌/◌, ◌%◌, ◌^◌, ◌≤◌, ◌<◌, T, ℤ, Float}
use Rattle.std.proofs.Common.{sym, ap, ap₂, ◌∙◌, subst, inl, inr, le_antisymm, lt_trans, lt_of_mul-lt-mul_right, ne_of_gt, not-le_of_lt, mul_right_comm, mul-le-mul_right, mul-lt-mul_of_pos_right, pow-suc, lt-suc_self, arith, pow_pos}
use Rattle.std.proofs.Math.Nat.{mul-mod_left, eq_of_mul-eq-mul_right}
use Rattle.std.specs.Float.{nan, inf, fin, Format}
use Rattle.std.specs.Float.Ieee.{prec, low, hid, top, up, down, size, round, fits, to_bits, of_bits}
use Rattle.std.specs.Float.Ieee.Bits.{of_bits-to_bits}
use Rattle.std.specs.Float.Ieee.Fits.{two, down_pos, round-fits}
use Rattle.std.specs.Float.Ieee.Exact.{HasValue}
use Rattle.std.specs.Float.Ieee.Nearest.{div_same}
use Rattle.rounding.specs.Nearest.{gap, Representable, distance, NearestAt, Nearest}
use Rattle.rounding.proofs.Laws.Closest.{side}
use Rattle.rounding.proofs.Laws.Grid.{lower, at_exponent}
use Rattle.rounding.proofs.Laws.Round.{round_nearest}

-- what lies between two numbers that are as near as each other is nearer
between : (N x y z : ℕ) → x < y → y < z → gap N z ≡ gap N x → gap N x ≤ gap N y → ⊥
between N x y z a b e l = omega arith

even_times : (n x : ℕ) → n % 2 ≡ 0 → n * x % 2 ≡ 0
even_times n x h =
    let e : n ≡ n / 2 * 2 = omega arith in
    ap (λ (z : ℕ). z % 2) (ap (λ (z : ℕ). z * x) e ∙ mul_right_comm (n / 2) 2 x) ∙ mul-mod_left (n / 2 * x) 2

module _ (f : Format) (num den : ℕ) (D : 0 < den) where
  even_pow : (m : ℕ) → m % 2 ≡ 0 → m < 2 ^ prec f → suc m < 2 ^ prec f
  even_pow m e h =
      let t = two f in
      let q : prec f ≡ suc (prec f - 1) = omega arith in
      let r : 2 ^ prec f ≡ 2 ^ (prec f - 1) * 2 = ap (λ (x : ℕ). 2 ^ x) q ∙ pow-suc 2 (prec f - 1) in
      omega arith

  apart : (m k n j : ℕ) → NearestAt f num den m k → NearestAt f num den n j → m * 2 ^ k < n * 2 ^ j → ⊥
  apart m k n j A B h =
      let N = num * 2 ^ low f in
      let e : distance f num den n j ≡ distance f num den m k = le_antisymm (B.nearest m k A.representable) (A.nearest n j B.representable) in
      let em : m % 2 ≡ 0 = A.even n j B.representable (ne_of_gt h) e in
      let en : n % 2 ≡ 0 = B.even m k A.representable (λ z. ne_of_gt h (sym z)) (sym e) in
      elim (side k j) [
        | inl l ↦
            let z = n * 2 ^ (j - k) in
            let w : z * 2 ^ k ≡ n * 2 ^ j = at_exponent n j k l in
            let ez : z % 2 ≡ 0 = even_times n (2 ^ (j - k)) en in
            let mz : m < z = lt_of_mul-lt-mul_right (2 ^ k) (subst (λ (x : ℕ). m * 2 ^ k < x) (sym w) h) in
            let sz : suc m < z = omega arith in
            let a : m * 2 ^ k < suc m * 2 ^ k = mul-lt-mul_of_pos_right (lt-suc_self m) (pow_pos k) in
            let b : suc m * 2 ^ k < n * 2 ^ j = subst (λ (x : ℕ). suc m * 2 ^ k < x) w (mul-lt-mul_of_pos_right sz (pow_pos k)) in
            let u : Representable f (suc m) k = record { digits = even_pow m em A.representable.digits; finite = lt_trans b B.representable.finite } in
            between N (m * 2 ^ k * den) (suc m * 2 ^ k * den) (n * 2 ^ j * den) (mul-lt-mul_of_pos_right a D) (mul-lt-mul_of_pos_right b D) e (A.nearest (suc m) k u)
        | inr l ↦
            let K : 0 < k = omega arith in
            let P : 0 < prec f = (let t = two f in omega arith) in
            let a = lower (prec f) n j k P B.representable.digits l in
            let b = mul-le-mul_right (2 ^ k) (A.normalized K) in
            omega arith
      ]

  -- the same number
  pub one_number : (m k n j : ℕ) → NearestAt f num den m k → NearestAt f num den n j → m * 2 ^ k ≡ n * 2 ^ j
  one_number m k n j A B =
      elim (side (m * 2 ^ k) (n * 2 ^ j)) [
        | inl l ↦ (elim (side (n * 2 ^ j) (m * 2 ^ k)) [ inl g ↦ le_antisymm l g | inr g ↦ absurd (apart m k n j A B g) ])
        | inr l ↦ absurd (apart n j m k B A l)
      ]

-- ---- a format writes a number in one way
abbrev pub pattern : Format → Bool → ℕ → ℕ
pattern f s n = cond s (top f) 0 + (size n - prec f) * hid f + n / 2 ^ (size n - prec f)

pub to_bits_is : (f : Format) (s : Bool) (m : ℕ) (e : ℤ) → to_bits f (fin s m e) ≡ pattern f s (m * up e * 2 ^ low f / down e)
unfolding to_bits
to_bits_is f s m e = refl

cross : (x dx y dy a c l : ℕ) → 0 < c → x * c ≡ a * dx → y * c ≡ a * dy → x * l * dy ≡ y * l * dx
cross x dx y dy a c l C h k =
    mul_right_comm x l dy
    ∙ ap (λ (z : ℕ). z * l)
    (eq_of_mul-eq-mul_right c C (x * dy) (y * dx)
    (mul_right_comm x dy c ∙ ap (λ (z : ℕ). z * dy) h ∙ mul_right_comm a dx dy ∙ ap (λ (z : ℕ). z * dx) (sym k) ∙ mul_right_comm y c dx))
    ∙ mul_right_comm y dx l

pub value_one : (f : Format) (x y : Float) (s : Bool) (a c : ℕ) → 0 < c → T (fits f x) → T (fits f y) → HasValue x s a c → HasValue y s a c → x ≡ y
value_one f nan y s a c C p q h k = absurd h
value_one f (inf t) y s a c C p q h k = absurd h
value_one f (fin t m e) nan s a c C p q h k = absurd k
value_one f (fin t m e) (inf u) s a c C p q h k = absurd k
value_one f (fin t m e) (fin u n d) s a c C p q h k =
    let v : m * up e * 2 ^ low f / down e ≡ n * up d * 2 ^ low f / down d =
    div_same (m * up e * 2 ^ low f) (down e) (n * up d * 2 ^ low f) (down d) (down_pos e) (down_pos d) (cross (m * up e) (down e) (n * up d) (down d) a c (2 ^ low f) C h.1 k.1) in
    sym (of_bits-to_bits f (fin t m e) p) ∙ ap (of_bits f) (to_bits_is f t m e ∙ ap₂ (pattern f) (h.0 ∙ sym k.0) v ∙ sym (to_bits_is f u n d)) ∙ of_bits-to_bits f (fin u n d) q

pub nearest_one : (f : Format) (s : Bool) (num den : ℕ) (x y : Float) → 0 < den → T (fits f x) → T (fits f y) → Nearest f s num den x → Nearest f s num den y → x ≡ y
nearest_one f s num den nan y D p q h k = absurd h
nearest_one f s num den (inf t) nan D p q h k = absurd k
nearest_one f s num den (inf t) (inf u) D p q h k = ap inf (h.0 ∙ sym k.0)
nearest_one f s num den (inf t) (fin u n d) D p q h k = absurd (not-le_of_lt k.1 h.1)
nearest_one f s num den (fin t m e) nan D p q h k = absurd k
nearest_one f s num den (fin t m e) (inf u) D p q h k = absurd (not-le_of_lt h.1 k.1)
nearest_one f s num den (fin t m e) (fin u n d) D p q h k =
    let a = h.2 in let b = k.2 in
    let same : a.0 * 2 ^ a.1 ≡ b.0 * 2 ^ b.1 = one_number f num den D a.0 a.1 b.0 b.1 a.3 b.3 in
    value_one f (fin t m e) (fin u n d) s (a.0 * 2 ^ a.1) (2 ^ low f) (pow_pos (low f)) p q (h.0, a.2) (k.0, b.2 ∙ ap (λ (z : ℕ). z * down d) (sym same))

-- so `round` is the nearest value, and nothing else is
pub nearest_round : (f : Format) (s : Bool) (num den : ℕ) (x : Float) → 0 < den → T (fits f x) → Nearest f s num den x → x ≡ round f s num den
nearest_round f s num den x D p h = nearest_one f s num den x (round f s num den) D p (round-fits f s num den) h (round_nearest f s num den D)

-- TO ROUND ONCE IS `round`: a value of the format is the nearest to a fraction exactly if it is what `round` gives
pub nearest_is_round : (f : Format) (s : Bool) (num den : ℕ) (x : Float) → 0 < den → T (fits f x) → Nearest f s num den x ↔ (x ≡ round f s num den)
nearest_is_round f s num den x D p =
    (nearest_round f s num den x D p, λ e. subst (λ (y : Float). Nearest f s num den y) (sym e) (round_nearest f s num den D))
