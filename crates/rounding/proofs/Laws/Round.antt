-- `round`, which contracts cite, gives the nearest value of its format. Assumes nothing.
use Rattle.std.specs.Prelude.{◌≡◌, refl, Bool, true, false, not, cond, ℕ, suc, ◌+◌, ◌-◌, ◌*◌, ◌^◌, ◌≤◌, ◌<◌, T, ltb, Float}
use Rattle.std.proofs.Common.{sym, ap, ◌∙◌, subst, inl, inr, not-le_of_lt, mul_assoc, mul_right_comm, mul-le-mul_right, mul-lt-mul_of_pos_right, arith, ltb→lt, nltb→le, lit≤, pow-add, pow_pos}
use Rattle.std.specs.Float.{nan, inf, fin, Format, binary32, binary64}
use Rattle.std.specs.Float.Ieee.{prec, emax, low, odd, units, round}
use Rattle.std.specs.Float.Ieee.Fits.{round_is, two}
use Rattle.std.specs.Float.Ieee.Exact.{HasValue, odd_sign}
use Rattle.std.specs.Float.Ieee.Order.{drop, kept}
use Rattle.rounding.specs.Nearest.{NearestAt, overflow, Nearest}
use Rattle.rounding.proofs.Laws.Closest.{side}
use Rattle.rounding.proofs.Laws.Grid.{Best, best}
use Rattle.rounding.proofs.Laws.Overflow.{small, large}

-- a format's exponents reach above its digits
pub wide : (f : Format) → prec f ≤ emax f
wide binary32 = lit≤ tt
wide binary64 = lit≤ tt

-- the lowest exponent at which a number is too large, less one, in units of 2 ^ -low
abbrev pub last : Format → ℕ
last f = emax f - prec f + low f

exponents : (f : Format) → prec f + suc (last f) ≡ low f + suc (emax f)
exponents f = let w = wide f in omega arith

pub bound_is : (f : Format) → 2 ^ prec f * 2 ^ suc (last f) ≡ 2 ^ (low f + suc (emax f))
bound_is f = sym (pow-add 2 (prec f) (suc (last f))) ∙ ap (λ (x : ℕ). 2 ^ x) (exponents f)

pub finite_is : (f : Format) → 2 ^ (low f + suc (emax f)) ≡ 2 ^ suc (emax f) * 2 ^ low f
finite_is f =
    let e : low f + suc (emax f) ≡ suc (emax f) + low f = omega arith in
    ap (λ (x : ℕ). 2 ^ x) e ∙ pow-add 2 (suc (emax f)) (low f)

-- `overflow` in units of 2 ^ -low
overflow_is : (f : Format) (den : ℕ) → (2 ^ suc (prec f) - 1) * 2 ^ last f * den ≡ overflow f * den * 2 ^ low f
overflow_is f den =
    let a = 2 ^ suc (prec f) - 1 in
    ap (λ (x : ℕ). a * x * den) (pow-add 2 (emax f - prec f) (low f))
    ∙ ap (λ (x : ℕ). x * den) (sym (mul_assoc a (2 ^ (emax f - prec f)) (2 ^ low f)))
    ∙ mul_right_comm (a * 2 ^ (emax f - prec f)) (2 ^ low f) den

module _ (f : Format) (num den m k : ℕ) (D : 0 < den) (B : Best (prec f) (num * 2 ^ low f) den m k) where
  pub at_finite : m * 2 ^ k < 2 ^ (low f + suc (emax f)) → (num < overflow f * den) × NearestAt f num den m k
  at_finite h = (
    (elim (side (overflow f * den) num) [
      | inl l ↦
          let a : (2 ^ suc (prec f) - 1) * 2 ^ last f * den ≤ num * 2 ^ low f = subst (λ (x : ℕ). x ≤ num * 2 ^ low f) (sym (overflow_is f den)) (mul-le-mul_right (2 ^ low f) l) in
          let b = large (prec f) (last f) (two f) (num * 2 ^ low f) den m k D B a in
          absurd (not-le_of_lt h (subst (λ (x : ℕ). x ≤ m * 2 ^ k) (bound_is f) b))
      | inr l ↦ l
    ]),
    record {
      representable = record { digits = B.digits; finite = subst (λ (x : ℕ). m * 2 ^ k < x) (finite_is f) h };
      normalized = B.normalized;
      nearest = λ n j g. B.near n j g.digits;
      even = λ n j g. B.even n j g.digits;
    },
  )

  pub at_overflow : 2 ^ (low f + suc (emax f)) ≤ m * 2 ^ k → overflow f * den ≤ num
  at_overflow h =
      elim (side (overflow f * den) num) [
        | inl l ↦ l
        | inr l ↦
            let a : num * 2 ^ low f < (2 ^ suc (prec f) - 1) * 2 ^ last f * den = subst (λ (x : ℕ). num * 2 ^ low f < x) (sym (overflow_is f den)) (mul-lt-mul_of_pos_right l (pow_pos (low f))) in
            let b = small (prec f) (last f) (two f) (num * 2 ^ low f) den m k D B a in
            absurd (not-le_of_lt (subst (λ (x : ℕ). m * 2 ^ k < x) (bound_is f) b) h)
      ]

pub of_value : (f : Format) (s : Bool) (num den m k : ℕ) (x : Float) → HasValue x s (m * 2 ^ k) (2 ^ low f) → (num < overflow f * den) × NearestAt f num den m k → Nearest f s num den x
of_value f s num den m k nan h n = h
of_value f s num den m k (inf t) h n = absurd h
of_value f s num den m k (fin t a e) h n = (h.0, n.0, (m, k, h.1, n.1))

units_nearest : (f : Format) (s : Bool) (num den q j m k : ℕ) → 0 < den → Best (prec f) (num * 2 ^ low f) den m k → m * 2 ^ k ≡ q * 2 ^ j → Nearest f s num den (units f s q j)
unfolding units
units_nearest f s num den q j m k D B e =
    let o = 2 ^ (low f + suc (emax f)) in
    go (ltb (q * 2 ^ j) o) (ltb→lt (q * 2 ^ j) o) (nltb→le (q * 2 ^ j) o)
  where
    go : (b : Bool) → (T b → q * 2 ^ j < 2 ^ (low f + suc (emax f))) → (T (not b) → 2 ^ (low f + suc (emax f)) ≤ q * 2 ^ j)
        → Nearest f s num den (cond b (odd (suc (prec f)) s q j (low f)) (inf s))
    go true h g =
        of_value f s num den m k (odd (suc (prec f)) s q j (low f))
        (subst (λ (x : ℕ). HasValue (odd (suc (prec f)) s q j (low f)) s x (2 ^ low f)) (sym e) (odd_sign (suc (prec f)) s q j (low f)))
        (at_finite f num den m k D B (subst (λ (x : ℕ). x < 2 ^ (low f + suc (emax f))) (sym e) (h tt)))
    go false h g = (refl, at_overflow f num den m k D B (subst (λ (x : ℕ). 2 ^ (low f + suc (emax f)) ≤ x) (sym e) (g tt)))

-- `round` gives the nearest value of the format, with the sign that it is handed
pub round_nearest : (f : Format) (s : Bool) (num den : ℕ) → 0 < den → Nearest f s num den (round f s num den)
round_nearest f s num den D =
    let N = num * 2 ^ low f in
    let b = best (prec f) N den (two f) D in
    subst (λ (x : Float). Nearest f s num den x) (sym (round_is f s num den))
    (units_nearest f s num den (kept (prec f) N den) (drop (prec f) N den) b.0 b.1 D b.3 b.2)
