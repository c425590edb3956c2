-- The remainder of a number times a power of two, some digits at a time. Assumes nothing.
use mathlib.Core.Path.{◌≡◌, sym, ap, ◌∙◌}
use Prim.Native.Nat.{ℕ, ◌+◌, ◌-◌, ◌*◌, ◌%◌, ◌^◌, ◌≤◌, ◌<◌}
use native.Mathlib.Nat.{mul_assoc, mul_comm, mod-eq_of_lt, mul-le-mul_left}
use native.Mathlib.Omega.{arith}
use lib.Pow.{pow-add, pow_mono}
use Rattle.std.proofs.lemmas.Nat.{mul-mod_second}

-- a remainder in place of the number
pub reduced : (a p d : ℕ) → a % d * p % d ≡ a * p % d
reduced a p d = ap (λ (z : ℕ). z % d) (mul_comm (a % d) p) ∙ mul-mod_second p a d ∙ ap (λ (z : ℕ). z % d) (mul_comm p a)

pub ten_more : (r l d : ℕ) → 10 ≤ l → r * 1024 % d * 2 ^ (l - 10) % d ≡ r * 2 ^ l % d
ten_more r l d h =
    let q : 10 + (l - 10) ≡ l = omega arith in
    reduced (r * 1024) (2 ^ (l - 10)) d
    ∙ ap (λ (z : ℕ). z % d) (mul_assoc r 1024 (2 ^ (l - 10)) ∙ ap (λ (z : ℕ). r * z) (sym (pow-add 2 10 (l - 10)) ∙ ap (λ (i : ℕ). 2 ^ i) q))

pub last_ones : (r l : ℕ) → r < 2 ^ 53 → l < 10 → r * 2 ^ l % 2 ^ 64 ≡ r * 2 ^ l
last_ones r l h k =
    let k' : l ≤ 10 = omega arith in
    let p : 2 ^ l ≤ 2 ^ 10 = pow_mono k' in
    let q : r * 2 ^ l ≤ r * 2 ^ 10 = mul-le-mul_left r p in
    let w : r * 2 ^ l < 2 ^ 64 = omega arith in
    mod-eq_of_lt w
