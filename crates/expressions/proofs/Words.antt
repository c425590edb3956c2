-- The memory of an expression, stored one operand after the other. Assumes nothing.
use Prim.Native.Nat.{ℕ, ◌+◌, ◌-◌, ◌*◌}
use native.Mathlib.Omega.{arith}
use mathlib.Core.Path.{◌≡◌, refl, sym, ◌∙◌, ap}
use mathlib.Core.List.{List, ◌++◌}
use lib.ListN.{length, length-append}
use lib.Seq.{sets}
use Rattle.leaves.proofs.Laws.{stores, marks}
use Rattle.ad.specs.Laws.Content.{length_nodes}
use Rattle.text.specs.Parts.{sets_append}
use Rattle.syntax.specs.Tree.{Expr, unary, binary, conditional, size}
use Rattle.syntax.specs.declared.Binary.{Binary}
use Rattle.syntax.specs.declared.Unary.{Unary}
use Rattle.ad.specs.Layout.{unary_kind, binary_kind, node, expr_nodes, expr_bytes}
use Rattle.leaves.specs.Inner.Marks.{Mark, mark, past, Memory, memory, written}

sets_nodes :
    (w : List ℕ) (n o : ℕ) (e : Expr) (ys : List ℕ) → sets w (4 * n) (expr_nodes n o e ++ ys) ≡ sets
    (sets w (4 * n) (expr_nodes n o e)) (4 * (n + size e)) ys
sets_nodes w n o e ys =
    sets_append (expr_nodes n o e) ys w (4 * n)
    ∙ ap (λ (k : ℕ). sets (sets w (4 * n) (expr_nodes n o e)) k ys)
    (omega (arith, length_nodes n o e))

-- a node more
abbrev pub more : Mark → Mark
more m = mark (m.nodes + 1) m.bytes

abbrev pub restored : Memory → List ℕ → Memory
restored w u = memory u w.bytes

pub nodes_of_lem : {m : Mark} (n : Mark) (e : Expr) → m ≡ past n e → m.nodes ≡ n.nodes + size e
nodes_of_lem n e h = ap (λ (z : Mark). z.nodes) h

bytes_of : {m : Mark} (n : Mark) (e : Expr) → m ≡ past n e → m.bytes ≡ n.bytes + length (expr_bytes e)
bytes_of n e h = ap (λ (z : Mark). z.bytes) h

-- w is v with e from b on, w₁ is w with a from n on, ..: then the last is v with the whole from b on
module _ (v w w₁ : Memory) (b n m : Mark) (e a : Expr) (hn : n ≡ past b e) (hm : m ≡ past n a) (h : w ≡ written v b e) (h₁ : w₁ ≡ written w n a) where
  pub words_binary : (j : Binary) (u : List ℕ) → u ≡ sets w₁.words (4 * m.nodes) (node (binary_kind j) (n.nodes - 1) (m.nodes - 1) 0) → restored w₁ u ≡ written v b (binary j e a)
  unfolding expr_nodes expr_bytes
  words_binary j u h₂ =
      let x : List ℕ = node (binary_kind j) (b.nodes + size e - 1) (b.nodes + size e + size a - 1) 0 in
      rw (h₂, h₁, h, hm, hn)
      (stores (sym (sets_nodes v.words b.nodes b.bytes e (expr_nodes (b.nodes + size e) (b.bytes + length (expr_bytes e)) a ++ x) ∙ sets_nodes (sets v.words (4 * b.nodes) (expr_nodes b.nodes b.bytes e)) (b.nodes + size e) (b.bytes + length (expr_bytes e)) a x))
      (sym (sets_append (expr_bytes e) (expr_bytes a) v.bytes b.bytes)))

  pub past_binary : (j : Binary) → more m ≡ past b (binary j e a)
  unfolding size expr_bytes
  past_binary j = marks (omega (arith, nodes_of_lem b e hn, nodes_of_lem n a hm)) (simp length-append (omega (arith, bytes_of b e hn, bytes_of n a hm)))

  module _ (w₂ : Memory) (z : Mark) (c : Expr) (hz : z ≡ past m c) where
    pub words_conditional : (u : List ℕ) → w₂ ≡ written w₁ m c → u ≡ sets w₂.words (4 * z.nodes) (node 12 (n.nodes - 1) (m.nodes - 1) (z.nodes - 1)) → restored w₂ u ≡ written v b (conditional e a c)
    unfolding expr_nodes expr_bytes
    words_conditional u h₂ h₃ =
        let n₁ : ℕ = b.nodes + size e in
        let o₁ : ℕ = b.bytes + length (expr_bytes e) in
        let n₂ : ℕ = n₁ + size a in
        let o₂ : ℕ = o₁ + length (expr_bytes a) in
        let x : List ℕ = node 12 (n₁ - 1) (n₂ - 1) (n₂ + size c - 1) in
        let y : List ℕ = sets v.words (4 * b.nodes) (expr_nodes b.nodes b.bytes e) in
        rw (h₃, h₂, h₁, h, hz, hm, hn)
        (stores (sym (sets_nodes v.words b.nodes b.bytes e (expr_nodes n₁ o₁ a ++ (expr_nodes n₂ o₂ c ++ x)) ∙ sets_nodes y n₁ o₁ a (expr_nodes n₂ o₂ c ++ x) ∙ sets_nodes (sets y (4 * n₁) (expr_nodes n₁ o₁ a)) n₂ o₂ c x))
        (sym (sets_append (expr_bytes e) (expr_bytes a ++ expr_bytes c) v.bytes b.bytes ∙ sets_append (expr_bytes a) (expr_bytes c) (sets v.bytes b.bytes (expr_bytes e)) o₁)))

    pub past_conditional : more z ≡ past b (conditional e a c)
    unfolding size expr_bytes
    past_conditional = marks (omega (arith, nodes_of_lem b e hn, nodes_of_lem n a hm, nodes_of_lem m c hz)) (simp length-append (omega (arith, bytes_of b e hn, bytes_of n a hm, bytes_of m c hz)))

module _ (v w : Memory) (b n : Mark) (e : Expr) (hn : n ≡ past b e) (h : w ≡ written v b e) where
  pub words_unary : (o : Unary) (u : List ℕ) → u ≡ sets w.words (4 * n.nodes) (node (unary_kind o) (n.nodes - 1) 0 0) → restored w u ≡ written v b (unary o e)
  unfolding expr_nodes expr_bytes
  words_unary o u h₁ = rw (h₁, h, hn) (stores (sym (sets_nodes v.words b.nodes b.bytes e (node (unary_kind o) (b.nodes + size e - 1) 0 0))) refl)

  pub past_unary : (o : Unary) → more n ≡ past b (unary o e)
  unfolding size expr_bytes
  past_unary o = marks (omega (arith, nodes_of_lem b e hn)) (bytes_of b e hn)
