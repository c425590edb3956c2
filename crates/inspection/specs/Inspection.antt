-- The nodes of an ad one by one: the text of each node's expression. Assumes nothing.
use Rattle.std.specs.Prelude.{ℕ, zero, suc, List, [], ◌∷◌, ◌++◌}
use Rattle.syntax.specs.Tree.{Expr, literal, reference, unary, binary, conditional, Ad}
use Rattle.syntax.specs.Print.{printed}

-- the expressions of an expression's nodes by their numbers, operands first and itself last (docs/LAYOUT.md): 'A node is a literal, a
-- reference or an operator.'
unfoldable pub subexpressions : Expr → List Expr
subexpressions (literal l) = literal l ∷ []
subexpressions (reference s w) = reference s w ∷ []
subexpressions (unary u a) = subexpressions a ++ (unary u a ∷ [])
subexpressions (binary j a b) = subexpressions a ++ (subexpressions b ++ (binary j a b ∷ []))
subexpressions (conditional a b c) = subexpressions a ++ (subexpressions b ++ (subexpressions c ++ (conditional a b c ∷ [])))

-- those of an ad's nodes, definition after definition (docs/LAYOUT.md): 'A node is a literal, a reference or an operator.'
unfoldable pub expressions : Ad → List Expr
expressions [] = []
expressions (d ∷ ds) = subexpressions d.expression ++ expressions ds

-- the text of one of some expressions, by its number; empty where there is none: 'Parentheses only where the tree would otherwise
-- read differently'
unfoldable pub text_at : List Expr → ℕ → List ℕ
text_at [] i = []
text_at (e ∷ es) zero = printed e
text_at (e ∷ es) (suc i) = text_at es i

-- the text of the expression of node i, as it would be printed by itself: 'Parentheses only where the tree would otherwise read
-- differently'
abbrev pub node_text : Ad → ℕ → List ℕ
node_text a i = text_at (expressions a) i
