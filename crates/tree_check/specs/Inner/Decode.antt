-- The tree that stands in some memory, or none: what the check goes by. w are the words and b the bytes of an ad. Assumes nothing.
use Rattle.std.specs.Prelude.{ℕ, zero, suc, Option, Some, None, ◌+◌, ◌≤◌, ◌<◌, max, ◌≡◌, Bool, cond, ◌&&◌, List, length, ltb, leb, eqb}
use Rattle.syntax.specs.Bounds.{max_integer}
use Rattle.syntax.specs.Tree.{undefined, error, boolean, integer, real, string, own, other, Expr, literal, reference, unary, binary, conditional}
use Rattle.syntax.specs.Token.{pick}
use Rattle.syntax.specs.Grammar.{binds_of}
use Rattle.syntax.specs.Print.{binary_text, binds, printed, wrap_level, level_of}
use Rattle.syntax.specs.declared.Binary.{Binary}
use Rattle.syntax.specs.Inner.Lexeme.{is_name, is_string, is_real}
use Rattle.ad.specs.Layout.{expr_bytes}
use Rattle.ad.specs.Stored.{kind_at, operand_at, bytes_at, unary_of, binary_of}
use Rattle.node_shapes.specs.declared.Shape.{Shape}
use Rattle.node_shapes.specs.declared.Shape.TheVariants.{Leaf, One, Two, Three}
use Rattle.tree_check.specs.declared.Tree.{Tree}
use Rattle.node_shapes.specs.Inner.Shapes.{shape_at}

-- what is found at some nodes: their tree, or none
pub data Found : Type 0 where
  got : Expr → Found
  bad : Found

-- goes on with the tree that is found, if there is one
abbrev pub chain : Found → (Expr → Found) → Found
chain (got e) go = go e
chain bad go = bad

-- goes on where t holds, else there is no tree
abbrev pub test : Bool → (Unit {0} → Found) → Found
test t go = pick t go (λ _. bad)

-- goes on by how many operands there are; where they do not fit there is no tree
abbrev pub on_shape : Option Shape → (Unit {0} → Found) → (ℕ → Found) → (ℕ → ℕ → Found) → (ℕ → ℕ → ℕ → Found) → Found
on_shape (Some Leaf) l f g h = l tt
on_shape (Some (One x)) l f g h = f x
on_shape (Some (Two x y)) l f g h = g x y
on_shape (Some (Three x y z)) l f g h = h x y z
on_shape None l f g h = bad

-- ---- literals and references, whose bytes, if they have some, begin at o

-- the words x and y of `undefined` and of `error` (docs/LAYOUT.md): 'exactly this content, zeros included'
abbrev pub keyword_fits : ℕ → ℕ → Bool
keyword_fits x y = eqb x 0 && eqb y 0

-- those of a Boolean, 1 for true and 0 for false, and 0: docs/LAYOUT.md
abbrev pub boolean_fits : ℕ → ℕ → Bool
boolean_fits x y = leb x 1 && eqb y 0

-- those of an Integer, its value and 0: 'Integer: digits, .. 0 to 2,147,483,647'
abbrev pub integer_fits : ℕ → ℕ → Bool
integer_fits x y = leb x max_integer && eqb y 0

-- y bytes stand from o = x on (docs/LAYOUT.md), all inside the '16,384 bytes of names and strings'
abbrev pub stands_at : List ℕ → ℕ → ℕ → ℕ → Bool
stands_at b o x y = eqb x o && eqb (length (bytes_at b o y)) y

-- the literal or reference of kind k with the words x, y and z, if it is one: 'A node is a literal, a reference or an operator.'
unfoldable pub leaf_of : List ℕ → ℕ → ℕ → ℕ → ℕ → ℕ → Found
leaf_of b o k x y z =
    test (eqb z 0) (λ _.
    pick (eqb k 1) (λ _. test (keyword_fits x y) (λ _. got (literal undefined))) (λ _.
    pick (eqb k 2) (λ _. test (keyword_fits x y) (λ _. got (literal error))) (λ _.
    pick (eqb k 3) (λ _. test (boolean_fits x y) (λ _. got (literal (boolean (eqb x 1))))) (λ _.
    pick (eqb k 4) (λ _. test (integer_fits x y) (λ _. got (literal (integer x)))) (λ _.
    pick (eqb k 5) (λ _. test (is_real x y) (λ _. got (literal (real x y)))) (λ _.
    pick (eqb k 6) (λ _. test (stands_at b o x y && is_string (bytes_at b o y)) (λ _. got (literal (string (bytes_at b o y))))) (λ _.
    pick (eqb k 7) (λ _. test (stands_at b o x y && is_name (bytes_at b o y)) (λ _. got (reference own (bytes_at b o y)))) (λ _.
    pick (eqb k 8) (λ _. test (stands_at b o x y && is_name (bytes_at b o y)) (λ _. got (reference other (bytes_at b o y)))) (λ _.
    bad)))))))))

-- that of the stored node i: 'A node is a literal, a reference or an operator.'
abbrev pub leaf_at : List ℕ → List ℕ → ℕ → ℕ → Found
leaf_at w b i o = leaf_of b o (kind_at w i) (operand_at w i 0) (operand_at w i 1) (operand_at w i 2)

-- ---- the tree of the nodes s to i, whose bytes begin at o; f bounds its depth

-- what is found at these nodes
unfoldable pub tree_at : ℕ → List ℕ → List ℕ → ℕ → ℕ → ℕ → Found
tree_at zero w b s i o = bad
tree_at (suc f) w b s i o =
    on_shape (shape_at w s i)
    (λ _. leaf_at w b i o)
    (λ x. chain (tree_at f w b s x o) (λ p. got (unary (unary_of (kind_at w i)) p)))
    (λ x y. chain (tree_at f w b s x o) (λ p.
    chain (tree_at f w b (x + 1) y (o + length (expr_bytes p))) (λ q.
    got (binary (binary_of (kind_at w i)) p q))))
    (λ x y z. chain (tree_at f w b s x o) (λ p.
    chain (tree_at f w b (x + 1) y (o + length (expr_bytes p))) (λ q.
    chain (tree_at f w b (y + 1) z (o + length (expr_bytes p) + length (expr_bytes q))) (λ r.
    got (conditional p q r)))))

-- ---- what the walk answers of it

-- a tree whose bytes end at the place p, which binds at b, whose highest level is d, and which prints n bytes
abbrev pub tree : ℕ → ℕ → ℕ → ℕ → Option Tree
tree p b d n = Some (record { end = p; binds = b; level = d; print = n })

-- r is what is found: where its bytes end, how it binds, the highest level and the length of its print
abbrev pub Same : ℕ → Found → Option Tree → Type 0
Same o x (Some t) =
    (e : Expr) × (x ≡ got e) × (t.end ≡ o + length (expr_bytes e)) × (t.binds ≡ binds e) × (t.level ≡ level_of e) × (t.print ≡ length (printed e))
Same o x None = x ≡ bad

-- the answer r is what is found at the nodes s to i, under any bound f of the depth that is enough
abbrev pub WalkOk : List ℕ → List ℕ → ℕ → ℕ → ℕ → Option Tree → Type 0
WalkOk w b s i o r = (f : ℕ) → i < f + s → Same o (tree_at f w b s i o) r

-- ---- the parts of the walk's answer

-- one answer or none
abbrev pub walk_if : Bool → Option Tree → Option Tree
walk_if t r = cond t r None

-- a literal that has no bytes of its own, n bytes long in print: it binds last, 'then literals, references and parentheses', and
-- has no level above 'level 0'
abbrev pub plain_walk : ℕ → ℕ → Option Tree
plain_walk o n = tree o 8 0 n

-- n, and two bytes more where parentheses are needed: 'Parentheses only where the tree would otherwise read differently'
abbrev pub wrap_length : ℕ → ℕ → ℕ → ℕ
wrap_length k b n = cond (ltb b k) (n + 2) n

-- an operator before one operand: 'the operand of a unary operator .. one level deeper'; 'none after a unary one'
abbrev pub unary_walk : ℕ → ℕ → ℕ → ℕ → Option Tree
unary_walk p b d n = tree p 7 (wrap_level 7 b d + 1) (wrap_length 7 b n + 1)

-- an operator between two: 'Binary operators group to the left.' 'One blank on each side of a binary operator'
abbrev pub binary_walk : Binary → ℕ → ℕ → ℕ → ℕ → ℕ → ℕ → ℕ → Option Tree
binary_walk j b d n q b₂ d₂ n₂ =
    tree q (binds_of j) (max (wrap_level (binds_of j) b d) (wrap_level (binds_of j + 1) b₂ d₂))
    (wrap_length (binds_of j) b n + (length (binary_text j) + wrap_length (binds_of j + 1) b₂ n₂ + 2))

-- a conditional: 'both arms of a conditional are one level deeper'; 'One blank on each side .. of `?` and `:`'
abbrev pub conditional_walk : ℕ → ℕ → ℕ → ℕ → ℕ → ℕ → ℕ → ℕ → Option Tree
conditional_walk b d n d₂ n₂ q d₃ n₃ = tree q 0 (max (wrap_level 1 b d) (max d₂ d₃ + 1)) (wrap_length 1 b n + (n₂ + n₃ + 6))

-- ---- what the walks are given

-- the nodes s to i and the byte o are inside an ad's memory: 'room for 1,024 nodes, .. and 16,384 bytes of names and strings'
pub record Room (w b : List ℕ) (s i o : ℕ) : Type 0 where
  pub order : s ≤ i
  pub node : i < 1024
  pub words : 4864 ≤ length w
  pub byte : o ≤ 16384
  pub bytes : length b ≡ 16384
