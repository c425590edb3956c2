-- What each way through the search for a node's definition gives. Assumes nothing.
use Prim.Native.Nat.{ℕ, zero, suc, ◌+◌, ◌-◌, ◌≤◌, ◌<◌}
use native.Mathlib.Omega.{arith}
use native.Mathlib.Numerals.{add-one}
use mathlib.Core.Path.{◌≡◌, refl, sym, ◌∙◌, ap}
use mathlib.Core.Bool.{Bool, true, false, cond}
use mathlib.Core.List.{List}
use lib.ListN.{length}
use lib.Dec.{eqb, ltb, leb}
use borrow.Author.Tests.{ltb-false, lt-ltb, le-ltb, le-leb, lt-leb, eq-eqb, ne_eqb}
use Rattle.ad.specs.Stored.{length_at, root_at}
use Rattle.std.proofs.Common.{Some, None}
use Rattle.holders.specs.Holders.{holder_from, holder}

pub too_short : (w : List ℕ) (i : ℕ) → length w < 4864 → None ≡ holder w i
too_short w i h = rw (lt-ltb (length w) 4864 h) refl

-- the first j of D definitions are passed over, and the search goes on as from the first
pub record Searched (w : List ℕ) (i D j : ℕ) : Type 0 where
  pub few : j ≤ D
  pub same : holder_from w i j (D - j) ≡ holder_from w i 0 D

pub start : (w : List ℕ) (i D : ℕ) → Searched w i D 0
start w i D = record { few = omega arith; same = ap (holder_from w i 0) (let e : D - 0 ≡ D = omega arith in e) }

module _ (w : List ℕ) (i D j : ℕ) (s : Searched w i D j) where
  one : j < D → cond (eqb (length_at w j) 0) None (cond (leb i (root_at w j)) (Some j) (holder_from w i (suc j) (D - suc j))) ≡ holder_from w i 0 D
  unfolding holder_from
  one h = sym (ap (holder_from w i j) (let e : D - j ≡ suc (D - suc j) = omega arith in e)) ∙ s.same

  pub no_name : j < D → length_at w j ≡ 0 → None ≡ holder_from w i 0 D
  no_name h z = rw (eq-eqb (length_at w j) 0 z) at (one h)

  pub found : j < D → (length_at w j ≡ 0 → ⊥) → i ≤ root_at w j → Some j ≡ holder_from w i 0 D
  found h n l = rw (ne_eqb (length_at w j) 0 n, le-leb i (root_at w j) l) at (one h)

  pub next : j < D → (length_at w j ≡ 0 → ⊥) → root_at w j < i → Searched w i D (j + 1)
  next h n l = record { few = omega arith; same = ap (λ (m : ℕ). holder_from w i m (D - m)) (add-one j) ∙ (rw (ne_eqb (length_at w j) 0 n, lt-leb i (root_at w j) l) at (one h)) }

  pub all_passed : D ≤ j → None ≡ holder_from w i 0 D
  unfolding holder_from
  all_passed h = sym (ap (holder_from w i j) (let e : D - j ≡ 0 = omega arith in e)) ∙ s.same

pub long_enough : (w : List ℕ) (i : ℕ) → 4864 ≤ length w → holder_from w i 0 256 ≡ holder w i
long_enough w i h = rw (le-ltb (length w) 4864 h) refl

-- ---- what is found is there

from_inside : (w : List ℕ) (i j k m : ℕ) → holder_from w i j k ≡ Some m → m < j + k
unfolding holder_from
from_inside w i j zero m e = let z : ◌≡◌ {A = ℕ} 0 1 = cc in absurd (omega arith)
from_inside w i j (suc k) m e = go (eqb (length_at w j) 0) (leb i (root_at w j)) e (λ h. from_inside w i (suc j) k m h)
  where
    go : (a b : Bool) → cond a None (cond b (Some j) (holder_from w i (suc j) k)) ≡ Some m → (holder_from w i (suc j) k ≡ Some m → m < suc j + k) → m < j + suc k
    go true b h f = let z : ◌≡◌ {A = ℕ} 0 1 = cc in absurd (omega arith)
    go false true h f = let z : j ≡ m = cc in omega arith
    go false false h f = omega (arith, f h)

pub holder_inside : (w : List ℕ) (i m : ℕ) → holder w i ≡ Some m → (m < 256) × (4864 ≤ length w)
holder_inside w i m e = go (ltb (length w) 4864) refl e
  where
    go : (t : Bool) → ltb (length w) 4864 ≡ t → cond t None (holder_from w i 0 256) ≡ Some m → (m < 256) × (4864 ≤ length w)
    go true g h = let z : ◌≡◌ {A = ℕ} 0 1 = cc in absurd (omega arith)
    go false g h = (omega (arith, from_inside w i 0 256 m h), omega (arith, ltb-false (length w) 4864 g))
