-- What each way through a function of names gives, over plain variables. Assumes nothing.
use Prim.Native.Nat.{ℕ, zero, suc, ◌+◌, ◌-◌, ◌≤◌, ◌<◌}
use native.Mathlib.Omega.{arith}
use mathlib.Core.Path.{◌≡◌, refl, sym, ◌∙◌, ap}
use mathlib.Core.Bool.{Bool, true, false}
use mathlib.Core.List.{List, [], ◌∷◌, ◌++◌, append_assoc, append-nil}
use lib.ListN.{length, get_or, drop, length-drop, drop_of_length-le}
use lib.Seq.{slice, length-slice}
use lib.Dec.{leb}
use borrow.Author.Tests.{lt-ltb, le-ltb, leb-true, leb-false}
use Rattle.text.specs.Bytes.{continues_name}
use Rattle.text.specs.Parts.{drop_one, slice_back, slice_snoc, drop_behind}
use Rattle.syntax.specs.Token.{next, bad, front_of, name_front, word_in, reserved, tokens_from}
use Rattle.tokens.specs.Inner.Meaning.{tokens_at, placed, Run, AtByte}

-- ---- runs of a class

module _ (class : ℕ → Bool) (s : List ℕ) where
  pub run_step : (at i : ℕ) → at ≤ i → i < length s → class (get_or s i 0) ≡ true → slice at i s ++ front_of class (drop i s) ≡ slice at (i + 1) s ++ front_of class (drop (i + 1) s)
  unfolding front_of
  run_step at i h h' b = rw (drop_one s i h', b, slice_snoc s at i h h') (sym (append_assoc (slice at i s) (get_or s i 0 ∷ []) (front_of class (drop (i + 1) s))))

  pub run_stop : (at i : ℕ) → i < length s → class (get_or s i 0) ≡ false → slice at i s ++ front_of class (drop i s) ≡ slice at i s
  unfolding front_of
  run_stop at i h b = rw (drop_one s i h, b) (append-nil (slice at i s))

  pub run_end : (at i : ℕ) → length s ≤ i → slice at i s ++ front_of class (drop i s) ≡ slice at i s
  unfolding front_of
  run_end at i h = rw (drop_of_length-le s h) (append-nil (slice at i s))

-- ---- the tokens behind one that ends at q

from_skip : (k p : ℕ) (l : List ℕ) → k ≤ length l → tokens_from k p l ≡ tokens_from 0 (p + k) (drop k l)
unfolding tokens_from
from_skip zero p l h = let e : p ≡ p + zero = omega arith in ap (λ (i : ℕ). tokens_from 0 i l) e
from_skip (suc k) p [] h = absurd (omega arith)
from_skip (suc k) p (b ∷ l) h = let e : p + 1 + k ≡ p + suc k = omega arith in from_skip k (p + 1) l (omega arith) ∙ ap (λ (i : ℕ). tokens_from 0 i (drop k l)) e

pub behind : (s : List ℕ) (p q n : ℕ) → p < q → q ≤ length s → p + n ≡ q → tokens_from (n - 1) (p + 1) (drop (p + 1) s) ≡ tokens_at s q
behind s p q n h h' e =
    let e₁ : p + 1 + (n - 1) ≡ q = omega arith in
    let e₂ : n - 1 ≡ q - (p + 1) = omega arith in
    from_skip (n - 1) (p + 1) (drop (p + 1) s) (omega (arith, length-drop (p + 1) s))
    ∙ rw (e₁, e₂) (ap (λ (l : List ℕ). tokens_from 0 q l) (drop_behind s (p + 1) q (omega arith)))

-- a run that starts is not empty
pub run_some : (class : ℕ → Bool) (s : List ℕ) (p q : ℕ) → AtByte class s p → Run class s p q → p < q
unfolding front_of
run_some class s p q a r = go (leb q p) refl
  where
    go : (t : Bool) → leb q p ≡ t → p < q
    go true t =
        let z : ◌≡◌ {A = ℕ} (length (front_of class (drop p s))) 0 = ap length (r.run ∙ slice_back s p q (leb-true q p t)) in
        let y : suc (length (front_of class (drop (p + 1) s))) ≡ 0 = (rw (drop_one s p a.inside, a.byte) at z) in
        absurd (omega arith)
    go false t = leb-false q p t

-- ---- names in front

module _ (s : List ℕ) (p q : ℕ) (k : Run continues_name s p q) where
  pub name_long : 64 < q - p → placed s p (name_front (drop p s)) ≡ bad 7 p
  unfolding name_front
  name_long l = rw (k.run, length-slice p q s k.high, lt-ltb 64 (q - p) l) refl

  pub name_token : p < q → q - p ≤ 64 → placed s p (name_front (drop p s)) ≡ next p (word_in reserved (slice p q s)) (tokens_at s q)
  unfolding name_front
  name_token h l = rw (k.run, length-slice p q s k.high, le-ltb 64 (q - p) l, behind s p q (q - p) h k.high (omega arith)) refl
