-- The operators that numbers name. Assumes nothing.
use Rattle.std.proofs.Common.{◌≡◌, refl, Some, None, arith, ℕ, ◌<◌, ◌≤◌}
use native.Mathlib.Decide.{dec_lt}
use borrow.Author.Tests.{ne_eqb}
use Rattle.syntax.specs.declared.Binary.{Binary}
use Rattle.syntax.specs.declared.Unary.{Unary}
use Rattle.syntax.specs.declared.Unary.TheVariants.{Not, Plus, Minus}
use Rattle.ad.specs.declared.kind.Kind.TheVariants as K
use Rattle.ad.specs.Layout.{unary_kind, binary_kind}
use Rattle.ad.specs.Stored.{kind_of, arity, binary_of}
use Rattle.ad.specs.Laws.Coding.{coded, unary_range, binary_range, unary_coded, binary_coded, binary_told}
use Rattle.c_operators.specs.Operators.{binary_named, unary_named}

-- ---- how many operands a node has, by the ranges of the kinds

none : (k : ℕ) → 28 ≤ k → arity k ≡ 0
unfolding arity
none k h = grind arith

two : (k : ℕ) → 12 < k → k < 28 → arity k ≡ 2
unfolding arity
two k h g = grind arith

not_two : (k : ℕ) → k ≤ 12 → arity k ≡ 2 → ⊥
unfolding arity
not_two k h e = grind arith

one : (k : ℕ) → 8 < k → k < 12 → arity k ≡ 1
unfolding arity
one k h g = grind arith

not_one : (k : ℕ) → k ≤ 8 → arity k ≡ 1 → ⊥
unfolding arity
not_one k h e = grind arith

more : (k : ℕ) → 12 ≤ k → arity k ≡ 1 → ⊥
unfolding arity
more k h e = grind arith

-- ---- operators of two operands

pub two_named : (k : ℕ) (j : Binary) → kind_of k ≡ Some (K.Binary j) → Some j ≡ binary_named k
two_named k j e =
    let r = binary_range j in
    rw (coded k (K.Binary j) e, two (binary_kind j) (omega (arith, r.0)) r.1, binary_coded j) refl

pub no_two : (k : ℕ) → ((j : Binary) → kind_of k ≡ Some (K.Binary j) → ⊥) → None ≡ binary_named k
no_two k n = go (dec_lt 12 k) (dec_lt k 28)
  where
    go : Dec (12 < k) → Dec (k < 28) → None ≡ binary_named k
    go (yes h) (yes g) = absurd (n (binary_of k) (binary_told k h g))
    go (yes h) (no g) = rw (none k (omega arith)) refl
    go (no h) g = rw (ne_eqb (arity k) 2 (not_two k (omega arith))) refl

-- ---- operators of one operand

pub one_named : (k : ℕ) (u : Unary) → kind_of k ≡ Some (K.Unary u) → Some u ≡ unary_named k
one_named k u e =
    let r = unary_range u in
    rw (coded k (K.Unary u) e, one (unary_kind u) (omega (arith, r.0)) r.1, unary_coded u) refl

told : (k : ℕ) → 8 < k → k < 12 → (u : Unary) × (kind_of k ≡ Some (K.Unary u))
unfolding kind_of
told k h g = go (dec_lt k 10) (dec_lt k 11)
  where
    go : Dec (k < 10) → Dec (k < 11) → (u : Unary) × (kind_of k ≡ Some (K.Unary u))
    go (yes p) q = let e : k ≡ 9 = omega arith in (Not, rw e refl)
    go (no p) (yes q) = let e : k ≡ 10 = omega arith in (Plus, rw e refl)
    go (no p) (no q) = let e : k ≡ 11 = omega arith in (Minus, rw e refl)

pub no_one : (k : ℕ) → ((u : Unary) → kind_of k ≡ Some (K.Unary u) → ⊥) → None ≡ unary_named k
no_one k n = go (dec_lt 8 k) (dec_lt k 12)
  where
    go : Dec (8 < k) → Dec (k < 12) → None ≡ unary_named k
    go (yes h) (yes g) = let t = told k h g in absurd (n t.0 t.1)
    go (yes h) (no g) = rw (ne_eqb (arity k) 1 (more k (omega arith))) refl
    go (no h) g = rw (ne_eqb (arity k) 1 (not_one k (omega arith))) refl
