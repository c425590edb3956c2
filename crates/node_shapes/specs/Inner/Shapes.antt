-- What a stored node is, by its kind and its words w. Assumes nothing.
use Rattle.std.specs.Prelude.{ℕ, ◌+◌, Option, Some, None, Bool, cond, ◌&&◌, List, ltb, leb, eqb}
use Rattle.ad.specs.Stored.{kind_at, operand_at}
use Rattle.node_shapes.specs.declared.Shape.{Shape}
use Rattle.node_shapes.specs.declared.Shape.TheVariants.{Leaf, One, Two, Three}

-- the nodes s to i are the run s to x of one operand and then the node i: docs/LAYOUT.md stores nodes operands first
abbrev pub one_fits : ℕ → ℕ → ℕ → ℕ → ℕ → Bool
one_fits s i x y z = (leb s x && eqb (x + 1) i) && (eqb y 0 && eqb z 0)

-- the runs s to x and x + 1 to y of two operands, and then the node i: docs/LAYOUT.md
abbrev pub two_fits : ℕ → ℕ → ℕ → ℕ → ℕ → Bool
two_fits s i x y z = (leb s x && ltb x y) && (eqb (y + 1) i && eqb z 0)

-- the runs s to x, x + 1 to y and y + 1 to z of three operands, and then the node i: docs/LAYOUT.md
abbrev pub three_fits : ℕ → ℕ → ℕ → ℕ → ℕ → Bool
three_fits s i x y z = (leb s x && ltb x y) && (ltb y z && eqb (z + 1) i)

-- the operands of the node i, of kind k with the words x, y and z, if the nodes s to i are their runs and then it: 'A node is a
-- literal, a reference or an operator.' The kinds are those of docs/LAYOUT.md
unfoldable pub shape_of : ℕ → ℕ → ℕ → ℕ → ℕ → ℕ → Option Shape
shape_of s i k x y z =
    cond (ltb k 9) (cond (eqb s i) (Some Leaf) None)
    (cond (ltb k 12) (cond (one_fits s i x y z) (Some (One x)) None)
    (cond (eqb k 12) (cond (three_fits s i x y z) (Some (Three x y z)) None)
    (cond (ltb k 28) (cond (two_fits s i x y z) (Some (Two x y)) None) None)))

-- those of the stored node i: 'A node is a literal, a reference or an operator.'
abbrev pub shape_at : List ℕ → ℕ → ℕ → Option Shape
shape_at w s i = shape_of s i (kind_at w i) (operand_at w i 0) (operand_at w i 1) (operand_at w i 2)
