-- The digits of a number and of a real, one digit at a time. Assumes nothing.
use Rattle.std.specs.Prelude.{ℕ, zero, suc, ◌+◌, ◌/◌, ◌%◌, ◌^◌, ◌≤◌, ◌<◌, ◌≡◌, refl, Bool, true, false, List, [], ◌∷◌, ◌++◌, length, ltb}
use Prim.Native.Char.{code}
use Rattle.std.proofs.Common.{arith, div-le_self, div-one, pow-suc, sym, ◌∙◌, ap, append_assoc, length-append, lt-ltb, le-ltb, ltb-true, ltb-false}
use Rattle.std.proofs.Math.Nat.{div-div-eq-div-mul, pow-succ'}
use Rattle.syntax.specs.Tree.{real}
use Rattle.syntax.specs.Token.{pick}
use Rattle.syntax.specs.Print.{digits, decimal, last_digits, literal_text}

-- more room than there are digits shows nowhere
digits_enough : (f g n : ℕ) → n ≤ f → n ≤ g → digits f n ≡ digits g n
unfolding digits
digits_enough zero zero n h k = refl
digits_enough zero (suc g) n h k = rw (lt-ltb n 10 (omega arith)) refl
digits_enough (suc f) zero n h k = rw (lt-ltb n 10 (omega arith)) refl
digits_enough (suc f) (suc g) n h k = go (ltb n 10) refl (λ m. digits_enough f g (n / 10) (omega arith) (omega arith))
  where
    go : (t : Bool) → ltb n 10 ≡ t → (10 ≤ n → digits f (n / 10) ≡ digits g (n / 10)) →
        pick t (λ _. (code "0" + n) ∷ []) (λ _. digits f (n / 10) ++ (code "0" + n % 10) ∷ [])
        ≡ pick t (λ _. (code "0" + n) ∷ []) (λ _. digits g (n / 10) ++ (code "0" + n % 10) ∷ [])
    go true e r = refl
    go false e r = ap (λ (l : List ℕ). l ++ (code "0" + n % 10) ∷ []) (r (ltb-false n 10 e))

pub decimal_one : (n : ℕ) → n < 10 → decimal n ≡ (code "0" + n) ∷ []
unfolding digits
decimal_one zero h = refl
decimal_one (suc n) h = rw (lt-ltb (suc n) 10 h) refl

pub decimal_more : (n : ℕ) → 10 ≤ n → decimal n ≡ decimal (n / 10) ++ (code "0" + n % 10) ∷ []
unfolding digits
decimal_more zero h = absurd (omega arith)
decimal_more (suc n) h =
    rw (le-ltb (suc n) 10 h)
    (ap (λ (l : List ℕ). l ++ (code "0" + suc n % 10) ∷ []) (digits_enough n (suc n / 10) (suc n / 10) (omega arith) (omega arith)))

-- a real with no digit behind its point, and one with a digit more
pub real_none : (n : ℕ) → literal_text (real n 0) ≡ decimal n ++ code "." ∷ []
unfolding literal_text last_digits
real_none n = ap (λ (m : ℕ). decimal m ++ code "." ∷ []) (div-one n)

pub real_more : (n p : ℕ) → literal_text (real n (suc p)) ≡ literal_text (real (n / 10) p) ++ (code "0" + n % 10) ∷ []
unfolding literal_text last_digits
real_more n p =
    let e : n / 10 ^ suc p ≡ n / 10 / 10 ^ p = sym (div-div-eq-div-mul n 10 (10 ^ p) ∙ ap (λ (m : ℕ). n / m) (sym (pow-succ' 10 p))) in
    ap (λ (m : ℕ). decimal m ++ (code "." ∷ last_digits (suc p) n)) e
    ∙ sym (append_assoc (decimal (n / 10 / 10 ^ p)) (code "." ∷ last_digits p (n / 10)) ((code "0" + n % 10) ∷ []))

-- how many digits there are

pub length_last : (p n : ℕ) → length (last_digits p n) ≡ p
unfolding last_digits
length_last zero n = refl
length_last (suc p) n = simp length-append (omega (arith, length_last p (n / 10)))

pub decimal_short : (k n : ℕ) → n < 10 ^ suc k → length (decimal n) ≤ suc k
decimal_short zero n h = let e : n < 10 = h in rw (decimal_one n e) (omega arith)
decimal_short (suc k) n h = go (ltb n 10) refl (decimal_short k (n / 10) (omega (arith, rw (pow-suc 10 (suc k)) at h)))
  where
    go : (t : Bool) → ltb n 10 ≡ t → length (decimal (n / 10)) ≤ suc k → length (decimal n) ≤ suc (suc k)
    go true e r = rw (decimal_one n (ltb-true n 10 e)) (omega arith)
    go false e r = rw (decimal_more n (ltb-false n 10 e)) (simp length-append (omega arith))

pub real_short : (n p : ℕ) → n < 1000000000000000 → length (literal_text (real n p)) ≤ 16 + p
unfolding literal_text
real_short n p h =
    let s = decimal_short 14 (n / 10 ^ p) (omega (arith, div-le_self n (10 ^ p))) in
    simp length-append (omega (arith, length_last p n))
