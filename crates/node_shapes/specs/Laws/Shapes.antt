-- What the shape of a node says of its words, and which words have it. Assumes nothing.
use Rattle.std.specs.Prelude.{ℕ, ◌+◌, ◌≤◌, ◌<◌, ◌≡◌, Bool, cond, ◌&&◌, leb, Option, Some, None}
use native.Mathlib.Omega.{arith}
use Rattle.std.proofs.Math.Path.{refl}
use Rattle.std.proofs.Math.Bool.{true, false}
use Rattle.std.proofs.Math.Dec.{ltb, eqb}
use borrow.Author.Tests.{ltb-true, ltb-false, leb-true, eqb-true, eqb-false, lt-ltb, le-ltb, le-leb, eq-eqb, ne_eqb}
use Rattle.text.specs.Laws.Booleans.{and_left, and_right}
use Rattle.node_shapes.specs.Inner.Shapes.{one_fits, two_fits, three_fits, shape_of}
use Rattle.node_shapes.specs.declared.Shape.{Shape}
use Rattle.node_shapes.specs.declared.Shape.TheVariants.{Leaf, One, Two, Three}

-- what the shape of a node of kind k with the words x, y and z says
abbrev pub Facts : ℕ → ℕ → ℕ → ℕ → ℕ → ℕ → Option Shape → Type 0
Facts s i k x y z (Some Leaf) = (k < 9) × (s ≡ i)
Facts s i k x y z (Some (One u)) = (u ≡ x) × (9 ≤ k) × (k < 12) × (s ≤ x) × (x + 1 ≡ i) × (y ≡ 0) × (z ≡ 0)
Facts s i k x y z (Some (Two u v)) = (u ≡ x) × (v ≡ y) × (12 < k) × (k < 28) × (s ≤ x) × (x < y) × (y + 1 ≡ i) × (z ≡ 0)
Facts s i k x y z (Some (Three u v t)) = (u ≡ x) × (v ≡ y) × (t ≡ z) × (k ≡ 12) × (s ≤ x) × (x < y) × (y < z) × (z + 1 ≡ i)
Facts s i k x y z None = Unit {0}

module _ (s i k x y z : ℕ) where
  four : (a b c d : Bool) → ((a && b) && (c && d)) ≡ true → (a ≡ true) × (b ≡ true) × (c ≡ true) × (d ≡ true)
  four a b c d e =
      let l = and_left (a && b) (c && d) e in
      let r = and_right (a && b) (c && d) e in
      (and_left a b l, and_right a b l, and_left c d r, and_right c d r)

  leaf_facts : (t : Bool) → k < 9 → eqb s i ≡ t → Facts s i k x y z (cond t (Some Leaf) None)
  leaf_facts true h e = (h, eqb-true s i e)
  leaf_facts false h e = tt

  one_facts : (t : Bool) → 9 ≤ k → k < 12 → one_fits s i x y z ≡ t → Facts s i k x y z (cond t (Some (One x)) None)
  one_facts true h h' e =
      let f = four (leb s x) (eqb (x + 1) i) (eqb y 0) (eqb z 0) e in
      (refl, h, h', leb-true s x f.0, eqb-true (x + 1) i f.1, eqb-true y 0 f.2, eqb-true z 0 f.3)
  one_facts false h h' e = tt

  two_facts : (t : Bool) → 12 < k → k < 28 → two_fits s i x y z ≡ t → Facts s i k x y z (cond t (Some (Two x y)) None)
  two_facts true h h' e =
      let f = four (leb s x) (ltb x y) (eqb (y + 1) i) (eqb z 0) e in
      (refl, refl, h, h', leb-true s x f.0, ltb-true x y f.1, eqb-true (y + 1) i f.2, eqb-true z 0 f.3)
  two_facts false h h' e = tt

  three_facts : (t : Bool) → k ≡ 12 → three_fits s i x y z ≡ t → Facts s i k x y z (cond t (Some (Three x y z)) None)
  three_facts true h e =
      let f = four (leb s x) (ltb x y) (ltb y z) (eqb (z + 1) i) e in
      (refl, refl, refl, h, leb-true s x f.0, ltb-true x y f.1, ltb-true y z f.2, eqb-true (z + 1) i f.3)
  three_facts false h e = tt

  pub shape_facts : Facts s i k x y z (shape_of s i k x y z)
  unfolding shape_of
  shape_facts = go (ltb k 9) refl (ltb k 12) refl (eqb k 12) refl (ltb k 28) refl
    where
      go : (p : Bool) → ltb k 9 ≡ p → (q : Bool) → ltb k 12 ≡ q → (r : Bool) → eqb k 12 ≡ r → (t : Bool) → ltb k 28 ≡ t →
          Facts s i k x y z (cond p (cond (eqb s i) (Some Leaf) None) (cond q (cond (one_fits s i x y z) (Some (One x)) None) (cond r (cond (three_fits s i x y z) (Some (Three x y z)) None) (cond t (cond (two_fits s i x y z) (Some (Two x y)) None) None))))
      go true e q f r g t h = leaf_facts (eqb s i) (ltb-true k 9 e) refl
      go false e true f r g t h = one_facts (one_fits s i x y z) (ltb-false k 9 e) (ltb-true k 12 f) refl
      go false e false f true g t h = three_facts (three_fits s i x y z) (eqb-true k 12 g) refl
      go false e false f false g true h = let n = eqb-false k 12 g in let l = ltb-false k 12 f in two_facts (two_fits s i x y z) (omega arith) (ltb-true k 28 h) refl
      go false e false f false g false h = tt

  pub leaf_shape : k < 9 → s ≡ i → shape_of s i k x y z ≡ Some Leaf
  unfolding shape_of
  leaf_shape h e = rw (lt-ltb k 9 h, eq-eqb s i e) refl

  pub one_shape : 9 ≤ k → k < 12 → s ≤ x → x + 1 ≡ i → y ≡ 0 → z ≡ 0 → shape_of s i k x y z ≡ Some (One x)
  unfolding shape_of
  one_shape h h' a b c d = rw (le-ltb k 9 h, lt-ltb k 12 h', le-leb s x a, eq-eqb (x + 1) i b, eq-eqb y 0 c, eq-eqb z 0 d) refl

  pub two_shape : 12 < k → k < 28 → s ≤ x → x < y → y + 1 ≡ i → z ≡ 0 → shape_of s i k x y z ≡ Some (Two x y)
  unfolding shape_of
  two_shape h h' a b c d =
      let h₉ : 9 ≤ k = omega arith in
      let h₁ : 12 ≤ k = omega arith in
      rw (le-ltb k 9 h₉, le-ltb k 12 h₁, ne_eqb k 12 (λ e. omega arith), lt-ltb k 28 h', le-leb s x a, lt-ltb x y b, eq-eqb (y + 1) i c, eq-eqb z 0 d) refl

  pub three_shape : k ≡ 12 → s ≤ x → x < y → y < z → z + 1 ≡ i → shape_of s i k x y z ≡ Some (Three x y z)
  unfolding shape_of
  three_shape h a b c d = rw (h, le-leb s x a, lt-ltb x y b, lt-ltb y z c, eq-eqb (z + 1) i d) refl
