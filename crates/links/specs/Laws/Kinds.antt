-- The numbers of kinds and the kinds that they stand for. Assumes nothing.
use Rattle.std.specs.Prelude.{◌≡◌, refl, false, Option, Some, None, List, [], ◌∷◌, ℕ, zero, suc, ◌+◌, ◌≤◌, length, slice_get}
use Rattle.std.specs.Option.{option_map}
use Rattle.std.proofs.Common.{sym, ap, ◌∙◌, arith}
use Rattle.std.proofs.lemmas.Option.{none-some, same_Some, slice_get-map}
use borrow.Author.Tests.{le-ltb, ne_eqb}
use Rattle.ad.specs.declared.kind.Kind.{Kind}
use Rattle.ad.specs.Layout.{code_of}
use Rattle.ad.specs.Stored.{kinds, kind_of, arity, is_reference}

-- the numbers from n on, m of them
rising : ℕ → ℕ → List ℕ
rising n zero = []
rising n (suc m) = n ∷ rising (suc n) m

rising_at : (n m k : ℕ) {v : ℕ} → slice_get (rising n m) k ≡ Some v → v ≡ n + k
unfolding rising
rising_at n zero k {v} e = absurd (none-some v e)
rising_at n (suc m) zero {v} e = let a = same_Some n v e in omega arith
rising_at n (suc m) (suc k) e = let a = rising_at (suc n) m k e in omega arith

coded : (k : ℕ) (d : Kind) → kind_of k ≡ Some d → code_of d ≡ k
unfolding kind_of rising
coded zero d e = absurd (none-some d e)
coded (suc k) d e =
    let a = rising_at 1 27 k (slice_get-map code_of kinds k ∙ ap (λ (o : Option Kind). option_map code_of o) e) in
    omega arith

past : {A : Type 0} (l : List A) (k : ℕ) → slice_get l k ≡ None → length l ≤ k
past [] k e = omega arith
past (x ∷ l) zero e = absurd (none-some x (sym e))
past (x ∷ l) (suc k) e = let a = past l k e in omega arith

uncoded : (k : ℕ) → kind_of k ≡ None → (is_reference k ≡ false) × (arity k ≡ 0)
unfolding kind_of arity
uncoded zero e = (refl, refl)
uncoded (suc k) e =
    let a : 27 ≤ k = past kinds k e in
    (rw (ne_eqb (suc k) 7 (λ z. omega arith), ne_eqb (suc k) 8 (λ z. omega arith)) refl, rw (le-ltb (suc k) 9 (omega arith), le-ltb (suc k) 12 (omega arith), ne_eqb (suc k) 12 (λ z. omega arith), le-ltb (suc k) 28 (omega arith)) refl)

-- the number of a kind that is read is the one that was read
pub kind_coded : {k : ℕ} {o : Option Kind} {d : Kind} → o ≡ kind_of k → o ≡ Some d → code_of d ≡ k
kind_coded {k} {o} {d} e s = coded k d (sym e ∙ s)

-- what is no kind is no reference and has no operands
pub kind_none : (k : ℕ) {o : Option Kind} → o ≡ kind_of k → o ≡ None → (is_reference k ≡ false) × (arity k ≡ 0)
kind_none k e s = uncoded k (sym e ∙ s)
