-- What each way through a function of numbers gives, over plain variables. Assumes nothing.
use Prim.Native.Nat.{ℕ, ◌+◌, ◌-◌, ◌*◌, ◌≤◌, ◌<◌, min}
use native.Mathlib.Omega.{arith}
use mathlib.Core.Path.{◌≡◌, refl, sym, ◌∙◌, ap, subst}
use mathlib.Core.Bool.{Bool, true, false}
use mathlib.Core.List.{List, [], ◌∷◌, ◌++◌}
use lib.ListN.{length, get_or, drop, length-append, drop_of_length-le}
use lib.Seq.{slice, length-slice}
use lib.Dec.{leb, eqb}
use borrow.Author.Tests.{lt-ltb, le-ltb, ne_eqb, leb-true, leb-false}
use Rattle.syntax.proofs.Laws.FrontTokens.{value_append, every_append, front_every, fraction_every, real_small}
use Rattle.syntax.specs.Inner.Lexeme.{every}
use Rattle.text.specs.Bytes.{is_digit}
use Rattle.text.specs.Parts.{drop_one, slice_back, drop_behind}
use Rattle.syntax.specs.Tree.{integer, real}
use Rattle.syntax.specs.Token as T
use Rattle.syntax.specs.Token.{next, bad, pick, value_from, value_of, fraction_of, integer_front, real_front, number_front}
use Rattle.tokens.specs.Inner.Meaning.{tokens_at, placed, Run, AtByte}
use Rattle.tokens.proofs.Laws.{behind, run_some}
use Rattle.numerals.specs.Inner.Meaning.{Fraction, value_to, largest_read}

-- ---- numbers

pub value_grows : (v : ℕ) (ds : List ℕ) → v ≤ value_from v ds
unfolding value_from
value_grows v [] = omega arith
value_grows v (b ∷ ds) = let h = value_grows (v * 10 + (b - 48)) ds in omega arith

pub value_capped : (v : ℕ) (ds : List ℕ) → value_to (min v largest_read) ds ≡ value_to v ds
value_capped v ds = go (leb v largest_read) refl
  where
    go : (t : Bool) → leb v largest_read ≡ t → value_to (min v largest_read) ds ≡ value_to v ds
    go true t = let e : min v largest_read ≡ v = omega (arith, leb-true v largest_read t) in ap (λ (w : ℕ). value_to w ds) e
    go false t = let e : min v largest_read ≡ largest_read = omega (arith, leb-false v largest_read t) in ap (λ (w : ℕ). value_to w ds) e ∙ omega (arith, leb-false v largest_read t, value_grows v ds, value_grows largest_read ds)

pub value_step : (ds : List ℕ) (i w : ℕ) → i < length ds → value_to (min (w * 10 + (get_or ds i 0 - 48)) largest_read) (drop (i + 1) ds) ≡ value_to w (drop i ds)
unfolding value_from
value_step ds i w h = rw (drop_one ds i h) (value_capped (w * 10 + (get_or ds i 0 - 48)) (drop (i + 1) ds))

pub value_end : (ds : List ℕ) (i w : ℕ) → length ds ≤ i → w ≤ largest_read → w ≡ value_to w (drop i ds)
unfolding value_from
value_end ds i w h h' = rw (drop_of_length-le ds h) (omega arith)

-- up to 15 digits the largest number read does not show
pub value_exact : (ds fs : List ℕ) → every is_digit ds ≡ true → every is_digit fs ≡ true → length ds + length fs ≤ 15 → value_to (value_to 0 ds) fs ≡ value_of (ds ++ fs)
value_exact ds fs h h' n =
    let b = real_small (ds ++ fs) (every_append is_digit ds fs h h') (omega (arith, length-append ds fs)) in
    let e = value_append 0 ds fs in
    let g = value_grows (value_from 0 ds) fs in
    let small : value_from 0 (ds ++ fs) < largest_read = omega arith in
    let v : min (value_from 0 ds) largest_read ≡ value_from 0 ds = omega arith in
    rw (v, ← e) (omega arith)

-- ---- fractions

module _ (s : List ℕ) (at : ℕ) where
  pub fraction_end : length s ≤ at → at ≤ length s → Fraction s at at
  unfolding fraction_of
  fraction_end h h' = record { low = omega arith; high = h'; digits = rw (drop_of_length-le s h) (sym (slice_back s (at + 1) at (omega arith))); some = λ z. absurd (omega arith) }

  module _ (h : at < length s) where
    pub fraction_other : (get_or s at 0 ≡ 46 → ⊥) → Fraction s at at
    unfolding fraction_of
    fraction_other e = record { low = omega arith; high = omega arith; digits = rw (drop_one s at h, ne_eqb (get_or s at 0) 46 e) (sym (slice_back s (at + 1) at (omega arith))); some = λ z. absurd (omega arith) }

    module _ (e : get_or s at 0 ≡ 46) (r : ℕ) (k : Run is_digit s (at + 1) r) where
      pub fraction_some : at + 1 < r → Fraction s at r
      unfolding fraction_of
      fraction_some lt = record { low = omega arith; high = k.high; digits = rw (drop_one s at h, e) k.run; some = λ _. lt }

      pub fraction_none : r ≤ at + 1 → Fraction s at at
      unfolding fraction_of
      fraction_none le = record { low = omega arith; high = omega arith; digits = rw (drop_one s at h, e) (k.run ∙ slice_back s (at + 1) r le ∙ sym (slice_back s (at + 1) at (omega arith))); some = λ z. absurd (omega arith) }

-- ---- numbers in front

pub slice_digits : (s : List ℕ) (p q : ℕ) → Run is_digit s p q → every is_digit (slice p q s) ≡ true
slice_digits s p q k = subst (λ (l : List ℕ). every is_digit l ≡ true) k.run (front_every is_digit (drop p s))

module _ (s : List ℕ) (p q end' : ℕ) (a : AtByte is_digit s p) (k : Run is_digit s p q) (f : Fraction s q end') where
  number_front_lem : number_front (drop p s) ≡ pick (eqb (length (slice (q + 1) end' s)) 0) (λ _. integer_front (slice p q s)) (λ _. real_front (slice p q s) (slice (q + 1) end' s))
  unfolding number_front
  number_front_lem = rw (k.run, length-slice p q s k.high, drop_behind s p q k.low, f.digits) refl

  module _ (h : end' ≤ q) where
    integer_front_lem : number_front (drop p s) ≡ integer_front (slice p q s)
    integer_front_lem = number_front_lem ∙ rw (slice_back s (q + 1) end' (omega arith)) refl

    pub number_large : 2147483647 < value_to 0 (slice p q s) → placed s p (number_front (drop p s)) ≡ bad 5 p
    unfolding integer_front
    number_large l = rw (integer_front_lem, lt-ltb 2147483647 (value_of (slice p q s)) (omega arith)) refl

    pub number_integer : (v : ℕ) → v ≡ value_to 0 (slice p q s) → v ≤ 2147483647 → placed s p (number_front (drop p s)) ≡ next p (T.constant (integer v)) (tokens_at s q)
    unfolding integer_front
    number_integer v d l =
        let e : value_of (slice p q s) ≡ v = omega arith in
        rw (integer_front_lem, e, le-ltb 2147483647 v l, length-slice p q s k.high, behind s p q (q - p) (run_some is_digit s p q a k) k.high (omega (arith, k.low))) refl

  module _ (h : q + 1 < end') where
    real_front_lem : number_front (drop p s) ≡ real_front (slice p q s) (slice (q + 1) end' s)
    real_front_lem = number_front_lem ∙ rw (ne_eqb (length (slice (q + 1) end' s)) 0 (λ z. omega (arith, length-slice (q + 1) end' s f.high))) refl

    pub number_long : 15 < q - p + (end' - q - 1) → placed s p (number_front (drop p s)) ≡ bad 5 p
    unfolding real_front
    number_long l = rw (real_front_lem, length-slice p q s k.high, length-slice (q + 1) end' s f.high, lt-ltb 15 (q - p + (end' - (q + 1))) (omega arith)) refl

    pub number_real : (w v : ℕ) → q - p + (end' - q - 1) ≤ 15 → w ≡ value_to 0 (slice p q s) → v ≡ value_to w (slice (q + 1) end' s) → placed s p (number_front (drop p s)) ≡ next p (T.constant (real v (end' - q - 1))) (tokens_at s end')
    unfolding real_front
    number_real w v l e₀ e₁ =
        let fs : every is_digit (slice (q + 1) end' s) ≡ true = subst (λ (l : List ℕ). every is_digit l ≡ true) f.digits (fraction_every (drop q s)) in
        let few : length (slice p q s) + length (slice (q + 1) end' s) ≤ 15 = omega (arith, length-slice p q s k.high, length-slice (q + 1) end' s f.high) in
        let e : v ≡ value_of (slice p q s ++ slice (q + 1) end' s) = e₁ ∙ (ap (λ (x : ℕ). value_to x (slice (q + 1) end' s)) e₀ ∙ value_exact (slice p q s) (slice (q + 1) end' s) (slice_digits s p q k) fs few) in
        let n : end' - (q + 1) ≡ end' - q - 1 = omega arith in
        rw (real_front_lem, length-slice p q s k.high, length-slice (q + 1) end' s f.high, n, le-ltb 15 (q - p + (end' - q - 1)) l, ← e, behind s p end' (q - p + 1 + (end' - q - 1)) (omega (arith, run_some is_digit s p q a k)) f.high (omega (arith, k.low))) refl
