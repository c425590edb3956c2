-- What each way through the walk gives. Assumes nothing.
use Rattle.std.proofs.Common.{Option, Some, None}
use Prim.Native.Nat.{ℕ, zero, suc, ◌+◌, ◌≤◌, ◌<◌}
use native.Mathlib.Omega.{arith}
use mathlib.Core.Path.{◌≡◌, refl, sym, subst}
use mathlib.Core.List.{List, [], ◌∷◌, ◌++◌}
use lib.ListN.{length, length-append}
use Rattle.syntax.specs.Tree.{Expr, unary, binary, conditional}
use Rattle.syntax.specs.Print.{binds, printed, level_of}
use Rattle.ad.specs.Layout.{expr_bytes}
use Rattle.ad.specs.Stored.{kind_at, operand_at, unary_of, binary_of}
use Rattle.tree_check.specs.Inner.Decode.{tree, got, bad, leaf_at, tree_at, Same, WalkOk, Room, unary_walk, binary_walk, conditional_walk}
use Rattle.node_shapes.specs.Inner.Shapes.{shape_at}
use Rattle.tree_check.specs.Laws.Runs.{Stands, stands_inside}
use Rattle.node_shapes.specs.Laws.Shapes.{Facts, shape_facts}
use Rattle.tree_check.specs.Laws.Leaves.{All, Run}
use Rattle.tree_check.specs.Laws.Trees.{tree_sound}
use Rattle.tree_check.specs.Laws.Prints.{length_unary, length_binary, length_conditional, print_short, level_short}
use Rattle.node_shapes.specs.declared.Shape.{Shape}
use Rattle.node_shapes.specs.declared.Shape.TheVariants.{Leaf, One, Two, Three}
use Rattle.tree_check.specs.declared.Tree.{Tree}

-- ---- what the walk answers is small

pub inside : (b l : List ℕ) (o : ℕ) → Stands b o l → length b ≡ 16384 → o ≤ 16384 → o + length l ≤ 16384
inside b [] o h e g = omega arith
inside b (x ∷ l) o h e g = omega (arith, stands_inside b (x ∷ l) o h (omega arith))

-- the expression that is found, and that it stands there
pub found_run : (w b : List ℕ) (s i o p c d n : ℕ) → Room w b s i o → WalkOk w b s i o (tree p c d n) →
    (e : Expr) × Run w b s i o e × (p ≡ o + length (expr_bytes e)) × (c ≡ binds e) × (d ≡ level_of e) × (n ≡ length (printed e)) × (tree_at (suc i) w b s i o ≡ got e)
found_run w b s i o p c d n r h =
    let x = h (suc i) (omega arith) in
    let y : All (Run w b s i o) (got x.0) = rw x.1 at
    (tree_sound (suc i) w b s i o (omega (arith, r.node, r.words))) in
    (x.0, y, x.2, x.3, x.4, x.5, x.1)

pub walk_small : (w b : List ℕ) (s i o p c d n : ℕ) → Room w b s i o → WalkOk w b s i o (tree p c d n) → (p ≤ 16384) × (d < 100000) × (n < 100000) × (o ≤ p)
walk_small w b s i o p c d n r h =
    let x = found_run w b s i o p c d n r h in
    let e = x.0 in
    let z = inside b (expr_bytes e) o x.1.bytes r.bytes r.byte in
    let l = level_short e in
    let m = print_short e x.1.writable in
    omega (arith, r.node, x.1.long)

-- ---- ways

module _ (w b : List ℕ) (s i o : ℕ) where
  facts : (r : Option Shape) → shape_at w s i ≡ r → Facts s i (kind_at w i) (operand_at w i 0) (operand_at w i 1) (operand_at w i 2) r
  facts r e = subst (Facts s i (kind_at w i) (operand_at w i 0) (operand_at w i 1) (operand_at w i 2)) e (shape_facts s i (kind_at w i) (operand_at w i 0) (operand_at w i 1) (operand_at w i 2))

  -- an operand inside
  pub part_room : (t x p : ℕ) → Room w b s i o → t ≤ x → x < i → p ≤ 16384 → Room w b t x p
  part_room t x p r h g k = record { order = h; node = omega (arith, r.node); words = r.words; byte = k; bytes = r.bytes }

  pub way_nothing : shape_at w s i ≡ None → WalkOk w b s i o None
  unfolding tree_at
  way_nothing e zero h = refl
  way_nothing e (suc f) h = rw e refl

  pub way_leaf : (r : Option Tree) → s ≤ i → shape_at w s i ≡ Some Leaf → Same o (leaf_at w b i o) r → WalkOk w b s i o r
  unfolding tree_at
  way_leaf r g e x zero h = absurd (omega arith)
  way_leaf r g e x (suc f) h = rw e x

  module _ (x : ℕ) (e : shape_at w s i ≡ Some (One x)) where
    pub one_order : (s ≤ x) × (x < i)
    one_order = let F = facts (Some (One x)) e in omega arith

    pub one_bad : WalkOk w b s x o None → WalkOk w b s i o None
    unfolding tree_at
    one_bad g zero h = refl
    one_bad g (suc f) h = let F = facts (Some (One x)) e in rw (e, g f (omega arith)) refl

    pub one_done : (p c d n : ℕ) → WalkOk w b s x o (tree p c d n) → WalkOk w b s i o (unary_walk p c d n)
    unfolding tree_at expr_bytes binds level_of
    one_done p c d n g zero h = let F = facts (Some (One x)) e in absurd (omega arith)
    one_done p c d n g (suc f) h =
        let F = facts (Some (One x)) e in
        let y = g f (omega arith) in
        let u = unary_of (kind_at w i) in
        (unary u y.0, rw (e, y.1) refl, y.2, refl, rw (y.3, y.4) refl, rw (y.3, y.5) (sym (length_unary u y.0)))

  module _ (x y : ℕ) (e : shape_at w s i ≡ Some (Two x y)) where
    pub two_order : (s ≤ x) × (x < y) × (y < i)
    two_order = let F = facts (Some (Two x y)) e in omega arith

    pub two_kind : (12 < kind_at w i) × (kind_at w i < 28)
    two_kind = let F = facts (Some (Two x y)) e in omega arith

    pub two_first : WalkOk w b s x o None → WalkOk w b s i o None
    unfolding tree_at
    two_first g zero h = refl
    two_first g (suc f) h = let F = facts (Some (Two x y)) e in rw (e, g f (omega arith)) refl

    module _ (p c d n : ℕ) (g : WalkOk w b s x o (tree p c d n)) where
      pub two_second : WalkOk w b (x + 1) y p None → WalkOk w b s i o None
      unfolding tree_at
      two_second k zero h = refl
      two_second k (suc f) h =
          let F = facts (Some (Two x y)) e in
          let z = g f (omega arith) in
          let t : tree_at f w b (x + 1) y (o + length (expr_bytes z.0)) ≡ bad = rw (← z.2) (k f (omega arith)) in
          rw (e, z.1, t) refl

      pub two_done : (q c₂ d₂ n₂ : ℕ) → WalkOk w b (x + 1) y p (tree q c₂ d₂ n₂) → WalkOk w b s i o (binary_walk (binary_of (kind_at w i)) c d n q c₂ d₂ n₂)
      unfolding tree_at expr_bytes binds level_of
      two_done q c₂ d₂ n₂ k zero h = let F = facts (Some (Two x y)) e in absurd (omega arith)
      two_done q c₂ d₂ n₂ k (suc f) h =
          let F = facts (Some (Two x y)) e in
          let z = g f (omega arith) in
          let v = k f (omega arith) in
          let j = binary_of (kind_at w i) in
          let t : tree_at f w b (x + 1) y (o + length (expr_bytes z.0)) ≡ got v.0 = rw (← z.2) v.1 in
          let m = z.2 in
          let l = v.2 in
          (binary j z.0 v.0, rw (e, z.1, t) refl, omega (arith, length-append (expr_bytes z.0) (expr_bytes v.0)), refl, rw (z.3, z.4, v.3, v.4) refl, rw (z.3, z.5, v.3, v.5) (sym (length_binary j z.0 v.0)))

  module _ (x y u : ℕ) (e : shape_at w s i ≡ Some (Three x y u)) where
    pub three_order : (s ≤ x) × (x < y) × (y < u) × (u < i)
    three_order = let F = facts (Some (Three x y u)) e in omega arith

    pub three_first : WalkOk w b s x o None → WalkOk w b s i o None
    unfolding tree_at
    three_first g zero h = refl
    three_first g (suc f) h = let F = facts (Some (Three x y u)) e in rw (e, g f (omega arith)) refl

    module _ (p c d n : ℕ) (g : WalkOk w b s x o (tree p c d n)) where
      pub three_second : WalkOk w b (x + 1) y p None → WalkOk w b s i o None
      unfolding tree_at
      three_second k zero h = refl
      three_second k (suc f) h =
          let F = facts (Some (Three x y u)) e in
          let z = g f (omega arith) in
          let t : tree_at f w b (x + 1) y (o + length (expr_bytes z.0)) ≡ bad = rw (← z.2) (k f (omega arith)) in
          rw (e, z.1, t) refl

      module _ (q c₂ d₂ n₂ : ℕ) (k : WalkOk w b (x + 1) y p (tree q c₂ d₂ n₂)) where
        pub three_third : WalkOk w b (y + 1) u q None → WalkOk w b s i o None
        unfolding tree_at
        three_third a zero h = refl
        three_third a (suc f) h =
            let F = facts (Some (Three x y u)) e in
            let z = g f (omega arith) in
            let v = k f (omega arith) in
            let t : tree_at f w b (x + 1) y (o + length (expr_bytes z.0)) ≡ got v.0 = rw (← z.2) v.1 in
            let t₂ : tree_at f w b (y + 1) u (o + length (expr_bytes z.0) + length (expr_bytes v.0)) ≡ bad = rw (← z.2, ← v.2) (a f (omega arith)) in
            rw (e, z.1, t, t₂) refl

        pub three_done : (r c₃ d₃ n₃ : ℕ) → WalkOk w b (y + 1) u q (tree r c₃ d₃ n₃) → WalkOk w b s i o (conditional_walk c d n d₂ n₂ r d₃ n₃)
        unfolding tree_at expr_bytes binds level_of
        three_done r c₃ d₃ n₃ a zero h = let F = facts (Some (Three x y u)) e in absurd (omega arith)
        three_done r c₃ d₃ n₃ a (suc f) h =
            let F = facts (Some (Three x y u)) e in
            let z = g f (omega arith) in
            let v = k f (omega arith) in
            let m = a f (omega arith) in
            let t : tree_at f w b (x + 1) y (o + length (expr_bytes z.0)) ≡ got v.0 = rw (← z.2) v.1 in
            let t₂ : tree_at f w b (y + 1) u (o + length (expr_bytes z.0) + length (expr_bytes v.0)) ≡ got m.0 = rw (← z.2, ← v.2) m.1 in
            let l₁ = z.2 in
            let l₂ = v.2 in
            let l₃ = m.2 in (
              conditional z.0 v.0 m.0,
              rw (e, z.1, t, t₂) refl,
              omega (arith, length-append (expr_bytes z.0) (expr_bytes v.0 ++ expr_bytes m.0), length-append (expr_bytes v.0) (expr_bytes m.0)),
              refl,
              rw (z.3, z.4, v.4, m.4) refl,
              rw (z.3, z.5, v.5, m.5) (sym (length_conditional z.0 v.0 m.0)),
            )
