-- The size of a stored tree, read off the words of an ad. Assumes nothing.
use Rattle.std.specs.Prelude.{ℕ, zero, suc, ◌+◌, cond, List, ltb, eqb}
use Rattle.ad.specs.Stored.{kind_at, operand_at}

-- the operands of a node of kind k and the node itself; x, y and z are the sizes of the trees that its words name as operands, of
-- which a kind has none, one, two or three (docs/LAYOUT.md)
abbrev pub with_operands : ℕ → ℕ → ℕ → ℕ → ℕ
with_operands k x y z = cond (ltb k 9) 1 (cond (ltb k 12) (x + 1) (cond (eqb k 12) (x + y + z + 1) (x + y + 1)))

-- the size of the tree whose last node is i; f bounds its depth
unfoldable pub size_at : ℕ → List ℕ → ℕ → ℕ
size_at zero w i = 0
size_at (suc f) w i =
    with_operands (kind_at w i) (size_at f w (operand_at w i 0)) (size_at f w (operand_at w i 1)) (size_at f w (operand_at w i 2))

-- how many nodes the tree has whose last node is i: 'the printer recurses over child nodes, each an operand of its parent, with
-- the remaining tree size falling'. Operands stand before their node, so that i + 1 bounds the depth of every stored tree.
abbrev pub tree_size : List ℕ → ℕ → ℕ
tree_size w i = size_at (i + 1) w i
