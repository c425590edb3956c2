-- The expression whose last node is i, by the kind of that node. Assumes nothing.
use Rattle.std.specs.Prelude.{ℕ, ◌+◌, ◌≤◌, ◌<◌, ◌≡◌, List, length}
use native.Mathlib.Omega.{arith}
use Rattle.std.proofs.Math.Path.{refl, sym, ap}
use Rattle.std.proofs.Common.{◌∙◌, subst}
use Rattle.syntax.specs.Tree.{Expr, literal, reference, unary, binary, conditional, size}
use Rattle.syntax.specs.declared.Binary.{Binary}
use Rattle.syntax.specs.declared.Unary.{Unary}
use Rattle.ad.specs.Layout.{expr_bytes}
use Rattle.ad.specs.Stored.{kind_at, operand_at, unary_of, binary_of}
use Rattle.ad.specs.Laws.Content.{unary_found, unary_range, binary_found, binary_high, size_some}
use Rattle.tree_check.specs.Inner.Decode.{got, leaf_at}
use Rattle.tree_check.specs.Laws.Leaves.{Run}
use Rattle.tree_check.specs.Laws.Trees.{unary_parts, binary_parts, conditional_parts, leaf_parts}

-- an operand that ends at x
at_operand : {w b : List ℕ} {x y t n : ℕ} {p : Expr} → x ≡ y → Run w b t y n p → Run w b t x n p
at_operand {w} {b} {t = t} {n} {p} e r = subst (λ (m : ℕ). Run w b t m n p) (sym e) r

-- one that begins there
from_node : {w b : List ℕ} {x y t n : ℕ} {p : Expr} → x ≡ y → Run w b y t n p → Run w b x t n p
from_node {w} {b} {t = t} {n} {p} e r = subst (λ (m : ℕ). Run w b m t n p) (sym e) r

module _ {w b : List ℕ} {s i o : ℕ} where
  pub run_leaf : (e : Expr) → Run w b s i o e → kind_at w i < 9 → leaf_at w b i o ≡ got e
  unfolding size
  run_leaf (literal l) r h = (leaf_parts (literal l) r refl).0
  run_leaf (reference m l) r h = (leaf_parts (reference m l) r refl).0
  run_leaf (unary j p) r h = let y = (unary_parts j p r).0 in absurd (omega (arith, unary_range j))
  run_leaf (binary j p q) r h = let y = (binary_parts j p q r).0 in absurd (omega (arith, binary_high j))
  run_leaf (conditional p q c) r h = let y = (conditional_parts p q c r).0 in absurd (omega arith)

  -- what a unary operator is
  pub run_one : (e : Expr) → Run w b s i o e → 9 ≤ kind_at w i → kind_at w i < 12 →
      (p : Expr) × (e ≡ unary (unary_of (kind_at w i)) p) × (operand_at w i 0 < i) × Run w b s (operand_at w i 0) o p
  unfolding size
  run_one (literal l) r h g = let y = (leaf_parts (literal l) r refl).1 in absurd (omega arith)
  run_one (reference m l) r h g = let y = (leaf_parts (reference m l) r refl).1 in absurd (omega arith)
  run_one (unary j p) r h g =
      let y = unary_parts j p r in
      let z = y.1 in
      let u : j ≡ unary_of (kind_at w i) = sym (ap unary_of y.0 ∙ unary_found j) in
      (p, ap (λ (v : Unary). unary v p) u, omega (arith, r.long, size_some p), at_operand y.1 y.4)
  run_one (binary j p q) r h g = let y = (binary_parts j p q r).0 in absurd (omega (arith, binary_high j))
  run_one (conditional p q c) r h g = let y = (conditional_parts p q c r).0 in absurd (omega arith)

  pub run_two : (e : Expr) → Run w b s i o e → 12 < kind_at w i →
      (p q : Expr) × (e ≡ binary (binary_of (kind_at w i)) p q) × (operand_at w i 0 < i) × (operand_at w i 1 < i) × Run w b s (operand_at w i 0) o p
      × Run w b (operand_at w i 0 + 1) (operand_at w i 1) (o + length (expr_bytes p)) q
  unfolding size
  run_two (literal l) r h = let y = (leaf_parts (literal l) r refl).1 in absurd (omega arith)
  run_two (reference m l) r h = let y = (leaf_parts (reference m l) r refl).1 in absurd (omega arith)
  run_two (unary j p) r h = let y = (unary_parts j p r).0 in absurd (omega (arith, unary_range j))
  run_two (binary j p q) r h =
      let y = binary_parts j p q r in
      let z₁ = y.1 in
      let z₂ = y.2 in
      let u : j ≡ binary_of (kind_at w i) = sym (ap binary_of y.0 ∙ binary_found j) in
      let l = r.long in
      let a = size_some p in
      let c = size_some q in
      let x : operand_at w i 0 + 1 ≡ s + size p = omega arith in
      (p, q, ap (λ (v : Binary). binary v p q) u, omega arith, omega arith, at_operand y.1 y.4, from_node x (at_operand y.2 y.5))
  run_two (conditional p q c) r h = let y = (conditional_parts p q c r).0 in absurd (omega arith)

  pub run_three : (e : Expr) → Run w b s i o e → kind_at w i ≡ 12 →
      (p q c : Expr) × (e ≡ conditional p q c) × (operand_at w i 0 < i) × (operand_at w i 1 < i) × (operand_at w i 2 < i) × Run w b s (operand_at w i 0) o p
      × Run w b (operand_at w i 0 + 1) (operand_at w i 1) (o + length (expr_bytes p)) q
      × Run w b (operand_at w i 1 + 1) (operand_at w i 2) (o + length (expr_bytes p) + length (expr_bytes q)) c
  unfolding size
  run_three (literal l) r h = let y = (leaf_parts (literal l) r refl).1 in absurd (omega arith)
  run_three (reference m l) r h = let y = (leaf_parts (reference m l) r refl).1 in absurd (omega arith)
  run_three (unary j p) r h = let y = (unary_parts j p r).0 in absurd (omega (arith, unary_range j))
  run_three (binary j p q) r h = let y = (binary_parts j p q r).0 in absurd (omega (arith, binary_high j))
  run_three (conditional p q c) r h =
      let y = conditional_parts p q c r in
      let z₁ = y.1 in
      let z₂ = y.2 in
      let z₃ = y.3 in
      let l = r.long in
      let a = size_some p in
      let d = size_some q in
      let f = size_some c in
      let x : operand_at w i 0 + 1 ≡ s + size p = omega arith in
      let x' : operand_at w i 1 + 1 ≡ s + size p + size q = omega arith in
      (p, q, c, refl, omega arith, omega arith, omega arith, at_operand y.1 y.4, from_node x (at_operand y.2 y.5), from_node x' (at_operand y.3 y.6))
