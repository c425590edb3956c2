-- The remainder and a product with a power of two, in units. Assumes nothing.
use mathlib.Core.Path.{◌≡◌, refl, sym, ap, ap₂, ◌∙◌, subst}
use mathlib.Core.Bool.{Bool, true, false, not, cond}
use Prim.Native.Nat.{ℕ, zero, suc, ◌+◌, ◌-◌, ◌*◌, ◌/◌, ◌%◌, ◌^◌, ◌≤◌, ◌<◌}
use native.Mathlib.Nat.{mul-pos, mul_assoc, mul_right_comm, mul-mul-mul_comm, one-mul, zero-mul, lt_of_lt_of_le, le_trans, mul-le-mul_right, mod-eq_of_lt, pow-succ', add-mul, div-add-mod', mod-lt, mul-lt-mul_of_pos_right, lt_irrefl, zero-lt-suc}
use native.Mathlib.Omega.{arith}
use lib.Dec.{T, eqb-suc-zero, lit<}
use lib.Pow.{pow-add, pow_pos, pow_mono}
use lib.IntN.{ℤ, pos}
use lib.Ieee.{Float, nan, inf, fin, Format, binary64, low, up, down, unlike, mul, rem, round, neg, of_int}
use Rattle.std.proofs.lemmas.Nat.{mod-mul-add}
use lib.Ieee.Exact.{HasValue}
use lib.Ieee.Fits.{up_pos, down_pos}
use lib.Ieee.Back.{round_whole}
use lib.Ieee.Scale.{round_same}
use lib.Ieee.Positive.{first_pos}
use Rattle.std.specs.Float.{float_is_finite, is_sign_negative}
use Rattle.remainders.specs.Units.{IsUnits, of_units, Measures}

mod_scaled : (a b D : ℕ) → 0 < b → 0 < D → a * D % (b * D) ≡ a % b * D
mod_scaled a b D B P =
    ap (λ (z : ℕ). z % (b * D)) (ap (λ (z : ℕ). z * D) (sym (div-add-mod' a b)) ∙ add-mul (a / b * b) (a % b) D ∙ ap (λ (z : ℕ). z + a % b * D) (mul_assoc (a / b) b D))
    ∙ mod-mul-add (a / b) (b * D) (a % b * D) (mul-lt-mul_of_pos_right (mod-lt a B) P)

rem_is : (f : Format) (s : Bool) (m : ℕ) (e : ℤ) (t : Bool) (n : ℕ) (d : ℤ) → 0 < n → rem f (fin s m e) (fin t n d) ≡ round f s (m * up e * down d % (n * up d * down e)) (down e * down d)
unfolding rem
rem_is f s m e t zero d h = absurd (lt_irrefl 0 h)
rem_is f s m e t (suc n) d h = ap (λ (b : Bool). cond b nan (round f s (m * up e * down d % (suc n * up d * down e)) (down e * down d))) (eqb-suc-zero n)

-- the remainder of two values over one denominator
pub rem_at : (f : Format) (x y : Float) (s t : Bool) (a b c : ℕ) → 0 < c → 0 < b → HasValue x s a c → HasValue y t b c → rem f x y ≡ round f s (a % b) c
rem_at f nan y s t a b c C B h k = absurd h
rem_at f (inf u) y s t a b c C B h k = absurd h
rem_at f (fin u m e) nan s t a b c C B h k = absurd k
rem_at f (fin u m e) (inf v) s t a b c C B h k = absurd k
rem_at f (fin u m e) (fin v n d) s t a b c C B h k =
    let D = down e * down d in
    let P : 0 < D = mul-pos (down_pos e) (down_pos d) in
    let N : 0 < n * up d = first_pos (n * up d) c (subst (λ (z : ℕ). 0 < z) (sym k.1) (mul-pos B (down_pos d))) in
    let p : m * up e * down d * c ≡ a * D = mul_right_comm (m * up e) (down d) c ∙ ap (λ (z : ℕ). z * down d) h.1 ∙ mul_assoc a (down e) (down d) in
    let q : n * up d * down e * c ≡ b * D =
    mul_right_comm (n * up d) (down e) c ∙ ap (λ (z : ℕ). z * down e) k.1 ∙ mul_right_comm b (down d) (down e) ∙ mul_assoc b (down e) (down d) in
    rem_is f u m e v n d (first_pos n (up d) N)
    ∙ round_same f u (m * up e * down d % (n * up d * down e)) D (a % b) c P C
    (sym (mod_scaled (m * up e * down d) (n * up d * down e) c (mul-pos N (down_pos e)) C) ∙ ap₂ ◌%◌ p q ∙ mod_scaled a b D B P)
    ∙ ap (λ (z : Bool). round f z (a % b) c) h.0

pub rem_by_zero : (f : Format) (x y : Float) (t : Bool) (c : ℕ) → 0 < c → T (float_is_finite x) → HasValue y t 0 c → rem f x y ≡ nan
unfolding float_is_finite rem
rem_by_zero f nan y t c C F k = refl
rem_by_zero f (inf u) y t c C F k = refl
rem_by_zero f (fin u m e) nan t c C F k = refl
rem_by_zero f (fin u m e) (inf v) t c C F k = absurd k
rem_by_zero f (fin u m e) (fin v zero d) t c C F k = refl
rem_by_zero f (fin u m e) (fin v (suc n) d) t c C F k =
    absurd (lt_irrefl 0 (subst (λ (z : ℕ). 0 < z) (k.1 ∙ zero-mul (down d)) (mul-pos (mul-pos (zero-lt-suc n) (up_pos d)) C)))

-- ---- a product of a whole number and a power of two
mul_at : (f : Format) (x y : Float) (s t : Bool) (a b c d : ℕ) → 0 < c → 0 < d → HasValue x s a c → HasValue y t b d → mul f x y ≡ round f (unlike s t) (a * b) (c * d)
unfolding mul
mul_at f nan y s t a b c d C D h k = absurd h
mul_at f (inf u) y s t a b c d C D h k = absurd h
mul_at f (fin u m e) nan s t a b c d C D h k = absurd k
mul_at f (fin u m e) (inf v) s t a b c d C D h k = absurd k
mul_at f (fin u m e) (fin v n g) s t a b c d C D h k =
    round_same f (unlike u v) (m * up e * (n * up g)) (down e * down g) (a * b) (c * d) (mul-pos (down_pos e) (down_pos g)) (mul-pos C D)
    (mul-mul-mul_comm (m * up e) (n * up g) c d ∙ ap₂ ◌*◌ h.1 k.1 ∙ mul-mul-mul_comm a (down e) b (down g))
    ∙ ap₂ (λ (p q : Bool). round f (unlike p q) (a * b) (c * d)) h.0 k.0

plain : (t : Bool) → unlike false t ≡ t
plain true = refl
plain false = refl

whole_times : (x : Float) (t : Bool) (w n : ℕ) → w < 2 ^ 53 → IsUnits x t n → mul binary64 (of_int binary64 (pos w)) x ≡ of_units t (w * n)
unfolding IsUnits of_units of_int
whole_times x t w n h k =
    mul_at binary64 (round binary64 false w 1) x false t w n 1 (2 ^ low binary64) (lit< tt) (pow_pos (low binary64)) (round_whole binary64 false w (omega arith)) k
    ∙ ap₂ (λ (p : Bool) (c : ℕ). round binary64 p (w * n) c) (plain t) (one-mul (2 ^ low binary64))

negated : (x : Float) (n : ℕ) → IsUnits x false n → IsUnits (neg x) true n
unfolding IsUnits neg
negated nan n k = absurd k
negated (inf u) n k = absurd k
negated (fin u m e) n k = (ap not k.0, k.1)

pub scaled : (x : Float) (s : Bool) (w n : ℕ) → s ≡ false → w < 2 ^ 53 → IsUnits x false n → mul binary64 (of_int binary64 (pos w)) x ≡ of_units s (w * n)
scaled x s w n e h k = whole_times x false w n h k ∙ ap (λ (t : Bool). of_units t (w * n)) (sym e)

pub scaled_negated : (x : Float) (s : Bool) (w n : ℕ) → s ≡ true → w < 2 ^ 53 → IsUnits x false n → mul binary64 (of_int binary64 (pos w)) (neg x) ≡ of_units s (w * n)
scaled_negated x s w n e h k = whole_times (neg x) true w n h (negated x n k) ∙ ap (λ (t : Bool). of_units t (w * n)) (sym e)

-- ---- the remainder of finite floats that are measured
pub rem_smaller : (x y : Float) (a e b g : ℕ) → Measures x a e → Measures y b g → (b ≡ 0 → ⊥) → e < g → of_units (is_sign_negative x) (a * 2 ^ e) ≡ rem binary64 x y
unfolding IsUnits of_units
rem_smaller x y a e b g M N n h =
    let B : 0 < b * 2 ^ g = mul-pos (omega arith) (pow_pos g) in
    ap (λ (z : ℕ). round binary64 (is_sign_negative x) z (2 ^ low binary64)) (sym (mod-eq_of_lt (below a e b g M.digits_fit (N.leading (omega arith)) h)))
    ∙ sym (rem_at binary64 x y (is_sign_negative x) (is_sign_negative y) (a * 2 ^ e) (b * 2 ^ g) (2 ^ low binary64) (pow_pos (low binary64)) B M.value N.value)
  where
    below : (a e b g : ℕ) → a < 2 ^ 53 → 2 ^ 52 ≤ b → e < g → a * 2 ^ e < b * 2 ^ g
    below a e b g h l k =
        let p : 2 ^ suc e ≤ 2 ^ g = pow_mono k in
        let q : 2 ^ suc e ≡ 2 * 2 ^ e = pow-succ' 2 e in
        let P : 0 < 2 ^ e = pow_pos e in
        lt_of_lt_of_le (mul-lt-mul_of_pos_right h P) (le_trans (let r : 2 ^ 53 * 2 ^ e ≤ 2 ^ 52 * 2 ^ g = omega arith in r) (mul-le-mul_right (2 ^ g) l))

pub rem_larger : (x y : Float) (a e b g : ℕ) → Measures x a e → Measures y b g → (b ≡ 0 → ⊥) → g ≤ e → of_units (is_sign_negative x) (a * 2 ^ (e - g) % b * 2 ^ g) ≡ rem binary64 x y
unfolding IsUnits of_units
rem_larger x y a e b g M N n h =
    let B : 0 < b = omega arith in
    let P = pow_pos g in
    let q : e - g + g ≡ e = omega arith in
    ap (λ (z : ℕ). round binary64 (is_sign_negative x) z (2 ^ low binary64))
    (sym (mod_scaled (a * 2 ^ (e - g)) b (2 ^ g) B P)
    ∙ ap (λ (z : ℕ). z % (b * 2 ^ g)) (mul_assoc a (2 ^ (e - g)) (2 ^ g) ∙ ap (λ (z : ℕ). a * z) (sym (pow-add 2 (e - g) g) ∙ ap (λ (i : ℕ). 2 ^ i) q)))
    ∙ sym (rem_at binary64 x y (is_sign_negative x) (is_sign_negative y) (a * 2 ^ e) (b * 2 ^ g) (2 ^ low binary64) (pow_pos (low binary64)) (mul-pos B P) M.value N.value)

pub rem_none : (x y : Float) (b g : ℕ) → T (float_is_finite x) → Measures y b g → b ≡ 0 → nan ≡ rem binary64 x y
unfolding IsUnits
rem_none x y b g F N z =
    sym (rem_by_zero binary64 x y (is_sign_negative y) (2 ^ low binary64) (pow_pos (low binary64)) F
    (subst (λ (n : ℕ). HasValue y (is_sign_negative y) n (2 ^ low binary64)) (ap (λ (k : ℕ). k * 2 ^ g) z ∙ zero-mul (2 ^ g)) N.value))
