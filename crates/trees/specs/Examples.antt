-- The nodes of a small ad, computed. Assumes nothing.
use Rattle.std.specs.Prelude.{ℕ, ◌≡◌, refl, List, [], ◌∷◌}
use Rattle.text.specs.Bytes.{bytes}
use Rattle.syntax.specs.Tree.{integer, own, other, Expr, literal, reference, binary, conditional, Definition, Ad, size}
use Rattle.syntax.specs.declared.Binary.TheVariants.{Add}
use Rattle.trees.specs.Nodes.{leaf, refers, of_two, of_three, nodes_of, nodes_in}

-- '`name = expression`'
abbrev define : List ℕ → Expr → Definition
define w e = record { name = w; expression = e }

-- `[a = x ? 1 : other.b; b = 1 + 2]`
unfoldable pub example : Ad
example =
    define (bytes "a") (conditional (reference own (bytes "x")) (literal (integer 1)) (reference other (bytes "b")))
    ∷ define (bytes "b") (binary Add (literal (integer 1)) (literal (integer 2)))
    ∷ []

-- ITS NODES, operands first; the conditional is node 3, and leads to both its arms
pub example_nodes : nodes_in 0 example ≡
    refers own (bytes "x") ∷ leaf (integer 1) ∷ refers other (bytes "b") ∷ of_three 0 1 2
    ∷ leaf (integer 1) ∷ leaf (integer 2) ∷ of_two Add 4 5 ∷ []
unfolding example nodes_in nodes_of size
example_nodes = refl
