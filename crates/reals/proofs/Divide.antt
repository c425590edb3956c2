-- A quotient of two whole numbers that the format holds exactly is their fraction, rounded once. A negation commutes with `round`.
-- Assumes nothing.
use mathlib.Core.Path.{◌≡◌, refl, sym, ap, ap₂, ◌∙◌, subst}
use mathlib.Core.Bool.{Bool, true, false, not, cond, true≢false}
use Prim.Native.Nat.{ℕ, zero, suc, ◌+◌, ◌*◌, ◌^◌, ◌≤◌, ◌<◌}
use native.Mathlib.Nat.{mul-pos, mul_comm, mul-one, mul-mul-mul_comm}
use native.Mathlib.Omega.{arith}
use lib.Dec.{eqb, lit<, ltb}
use borrow.Author.Tests.{ne_eqb}
use lib.IntN.{pos, negsuc}
use lib.Ieee.{Float, nan, inf, fin, Format, prec, low, emax, up, down, div, round, units, odd, neg, of_int}
use lib.Ieee.Exact.{HasValue}
use lib.Ieee.Fits.{up_pos, down_pos}
use lib.Ieee.Back.{round_whole}
use lib.Ieee.Scale.{round_same}
use lib.Ieee.Positive.{first_pos}

-- nx / c and ny / d are the fractions a / dx and b / dy, crosswise
cross : (nx dx ny dy a b c d : ℕ) → nx * c ≡ a * dx → ny * d ≡ b * dy → nx * dy * (b * c) ≡ a * d * (ny * dx)
cross nx dx ny dy a b c d h k =
    ap (λ (z : ℕ). nx * dy * z) (mul_comm b c)
    ∙ mul-mul-mul_comm nx dy c b
    ∙ ap₂ ◌*◌ h (mul_comm dy b ∙ sym k)
    ∙ ap (λ (z : ℕ). a * dx * z) (mul_comm ny d)
    ∙ mul-mul-mul_comm a dx d ny
    ∙ ap (λ (z : ℕ). a * d * z) (mul_comm dx ny)

pub div_at : (f : Format) (x y : Float) (a c b d : ℕ) → 0 < c → 0 < d → 0 < b → HasValue x false a c → HasValue y false b d → div f x y ≡ round f false (a * d) (b * c)
unfolding div
div_at f nan y a c b d C D B h k = absurd h
div_at f (inf s) y a c b d C D B h k = absurd h
div_at f (fin true m e) y a c b d C D B h k = absurd (true≢false h.0)
div_at f (fin false m e) nan a c b d C D B h k = absurd k
div_at f (fin false m e) (inf t) a c b d C D B h k = absurd k
div_at f (fin false m e) (fin true n g) a c b d C D B h k = absurd (true≢false k.0)
div_at f (fin false m e) (fin false n g) a c b d C D B h k =
    let N : 0 < n = first_pos n (up g) (first_pos (n * up g) d (subst (λ (z : ℕ). 0 < z) (sym k.1) (mul-pos B (down_pos g)))) in
    ap (λ (t : Bool). cond t (cond (eqb m 0) nan (inf false)) (round f false (m * up e * down g) (n * up g * down e))) (ne_eqb n 0 (λ z. omega arith))
    ∙ round_same f false (m * up e * down g) (n * up g * down e) (a * d) (b * c) (mul-pos (mul-pos N (up_pos g)) (down_pos e)) (mul-pos B C)
    (cross (m * up e) (down e) (n * up g) (down g) a b c d h.1 k.1)

-- two whole numbers up to 2 ^ prec: one rounding
pub whole_quotient : (f : Format) (a b : ℕ) → a ≤ 2 ^ prec f → b ≤ 2 ^ prec f → 0 < b → div f (of_int f (pos a)) (of_int f (pos b)) ≡ round f false a b
unfolding of_int
whole_quotient f a b ha hb B =
    div_at f (round f false a 1) (round f false b 1) a 1 b 1 (lit< tt) (lit< tt) B
    (round_whole f false a ha) (round_whole f false b hb)
    ∙ ap₂ (round f false) (mul-one a) (mul-one b)

neg_odd : (d : ℕ) (s : Bool) (q k l : ℕ) → neg (odd d s q k l) ≡ odd d (not s) q k l
unfolding neg odd
neg_odd d s zero k l = refl
neg_odd d s (suc q) k l = refl

neg_pick : (t s : Bool) (x y : Float) → neg x ≡ y → neg (cond t x (inf s)) ≡ cond t y (inf (not s))
unfolding neg
neg_pick true s x y e = e
neg_pick false s x y e = refl

neg_units : (f : Format) (s : Bool) (q k : ℕ) → neg (units f s q k) ≡ units f (not s) q k
unfolding units
neg_units f s q k =
    neg_pick (ltb (q * 2 ^ k) (2 ^ (low f + suc (emax f)))) s (odd (suc (prec f)) s q k (low f))
    (odd (suc (prec f)) (not s) q k (low f)) (neg_odd (suc (prec f)) s q k (low f))

pub neg_round : (f : Format) (s : Bool) (a b : ℕ) → neg (round f s a b) ≡ round f (not s) a b
unfolding round
neg_round f s a b = neg_units f s _ _

-- the Integer below zero, by its magnitude
pub neg_whole : (f : Format) (n : ℕ) → neg (of_int f (pos (suc n))) ≡ of_int f (negsuc n)
unfolding of_int
neg_whole f n = neg_round f false (suc n) 1
