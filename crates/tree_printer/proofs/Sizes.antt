-- The size that is read off the words is that of the tree that stands there, so that an operand's is below its node's. Assumes
-- nothing.
use Prim.Native.Nat.{ℕ, zero, suc, ◌+◌, ◌≤◌, ◌<◌}
use native.Mathlib.Omega.{arith}
use mathlib.Core.Path.{◌≡◌, refl, ap}
use mathlib.Core.List.{List}
use lib.ListN.{length}
use borrow.Author.Tests.{lt-ltb, le-ltb, ne_eqb}
use Rattle.syntax.specs.Tree.{Expr, literal, reference, unary, binary, conditional, size}
use Rattle.ad.specs.Layout.{expr_bytes}
use Rattle.ad.specs.Stored.{kind_at, operand_at}
use Rattle.ad.specs.Laws.Content.{unary_range, binary_high, size_some}
use Rattle.tree_check.specs.Laws.Leaves.{Run}
use Rattle.tree_check.specs.Laws.Trees.{unary_parts, binary_parts, conditional_parts, leaf_parts}
use Rattle.tree_check.specs.Laws.Operands.{run_one, run_two, run_three}
use Rattle.tree_printer.specs.Sizes.{size_at, tree_size}

module _ (w b : List ℕ) where
  -- under any bound that is enough: a tree is no deeper than it has nodes
  size_at_lem : (f s i o : ℕ) (e : Expr) → Run w b s i o e → size e ≤ f → size_at f w i ≡ size e
  unfolding size_at size
  size_at_lem zero s i o e r h = absurd (omega (arith, size_some e))
  size_at_lem (suc f) s i o (literal l) r h = rw (lt-ltb (kind_at w i) 9 (leaf_parts (literal l) r refl).1) refl
  size_at_lem (suc f) s i o (reference m l) r h = rw (lt-ltb (kind_at w i) 9 (leaf_parts (reference m l) r refl).1) refl
  size_at_lem (suc f) s i o (unary j p) r h =
      let k = (unary_parts j p r).0 in
      let g = unary_range j in
      let h₁ : 9 ≤ kind_at w i = omega arith in
      let h₂ : kind_at w i < 12 = omega arith in
      let z = run_one (unary j p) r h₁ h₂ in
      let n : size p + 1 ≡ size z.0 + 1 = ap size z.1 in
      let x = size_at_lem f s (operand_at w i 0) o z.0 z.3 (omega arith) in
      rw (le-ltb (kind_at w i) 9 h₁, lt-ltb (kind_at w i) 12 h₂) (omega arith)
  size_at_lem (suc f) s i o (binary j p q) r h =
      let k = (binary_parts j p q r).0 in
      let g = binary_high j in
      let h₁ : 12 < kind_at w i = omega arith in
      let z = run_two (binary j p q) r h₁ in
      let n : size p + size q + 1 ≡ size z.0 + size z.1 + 1 = ap size z.2 in
      let x = size_at_lem f s (operand_at w i 0) o z.0 z.5 (omega arith) in
      let y = size_at_lem f (operand_at w i 0 + 1) (operand_at w i 1) (o + length (expr_bytes z.0)) z.1 z.6 (omega arith) in
      rw (le-ltb (kind_at w i) 9 (omega arith), le-ltb (kind_at w i) 12 (omega arith), ne_eqb (kind_at w i) 12 (λ e. omega arith)) (omega arith)
  size_at_lem (suc f) s i o (conditional p q c) r h =
      let k = (conditional_parts p q c r).0 in
      let z = run_three (conditional p q c) r k in
      let n : size p + size q + size c + 1 ≡ size z.0 + size z.1 + size z.2 + 1 = ap size z.3 in
      let x = size_at_lem f s (operand_at w i 0) o z.0 z.7 (omega arith) in
      let y = size_at_lem f (operand_at w i 0 + 1) (operand_at w i 1) (o + length (expr_bytes z.0)) z.1 z.8 (omega arith) in
      let v = size_at_lem f (operand_at w i 1 + 1) (operand_at w i 2) (o + length (expr_bytes z.0) + length (expr_bytes z.1)) z.2 z.9 (omega arith) in
      rw k (omega arith)

  -- the size of a stored tree
  pub tree_size_lem : {s i o : ℕ} (e : Expr) → Run w b s i o e → tree_size w i ≡ size e
  tree_size_lem {s} {i} {o} e r = size_at_lem (i + 1) s i o e r (omega (arith, r.long))

-- ---- an operand's tree is smaller than its node's

module _ {w b : List ℕ} {s i o : ℕ} (e : Expr) (r : Run w b s i o e) where
  pub one_smaller : 9 ≤ kind_at w i → kind_at w i < 12 → tree_size w (operand_at w i 0) < tree_size w i
  unfolding size
  one_smaller h g =
      let z = run_one e r h g in
      let n = ap size z.1 in
      omega (arith, tree_size_lem w b e r, tree_size_lem w b z.0 z.3)

  pub two_smaller : 12 < kind_at w i → (tree_size w (operand_at w i 0) < tree_size w i) × (tree_size w (operand_at w i 1) < tree_size w i)
  unfolding size
  two_smaller h =
      let z = run_two e r h in
      let n = ap size z.2 in
      let x = tree_size_lem w b z.0 z.5 in
      let y = tree_size_lem w b z.1 z.6 in
      let t = tree_size_lem w b e r in
      (omega arith, omega arith)

  pub three_smaller : kind_at w i ≡ 12 →
      (tree_size w (operand_at w i 0) < tree_size w i) × (tree_size w (operand_at w i 1) < tree_size w i) × (tree_size w (operand_at w i 2) < tree_size w i)
  unfolding size
  three_smaller h =
      let z = run_three e r h in
      let n = ap size z.3 in
      let x = tree_size_lem w b z.0 z.7 in
      let y = tree_size_lem w b z.1 z.8 in
      let v = tree_size_lem w b z.2 z.9 in
      let t = tree_size_lem w b e r in
      (omega arith, omega arith, omega arith)
