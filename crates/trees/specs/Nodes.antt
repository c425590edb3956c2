-- The nodes of a tree in the order in which they are stored, and what the numbers of a stored node say. Assumes nothing.
use Rattle.std.specs.Prelude.{ℕ, ◌+◌, ◌-◌, ◌≤◌, ◌≡◌, List, [], ◌∷◌, ◌++◌, length, get_or}
use Rattle.syntax.specs.Tree.{Literal, undefined, Scope, Expr, literal, reference, unary, binary, conditional, Ad, size}
use Rattle.syntax.specs.declared.Binary.{Binary}
use Rattle.syntax.specs.declared.Unary.{Unary}
use Rattle.ad.specs.Layout.{unary_kind, binary_kind, scope_kind, node, literal_node, literal_bytes}
use Rattle.ad.specs.Stored.{kind_at, operand_at, operands, bytes_at}

-- ---- on trees

-- 'A node is a literal, a reference or an operator', an operator with the numbers of its operands
pub data Node : Type 0 where
  leaf : Literal → Node
  refers : Scope → List ℕ → Node
  of_one : Unary → ℕ → Node
  of_two : Binary → ℕ → ℕ → Node
  of_three : ℕ → ℕ → ℕ → Node

-- the number of an expression's own node, where the first of its nodes has the number n: it is the last of them (docs/LAYOUT.md)
abbrev pub last_of : ℕ → Expr → ℕ
last_of n e = n + size e - 1

-- the nodes of an expression, the first of which has the number n: those of its operands, left to right, and then its own, which names
-- the operands' own by their numbers: 'An operator leads to all its operands, arms not taken included'
unfoldable pub nodes_of : ℕ → Expr → List Node
nodes_of n (literal l) = leaf l ∷ []
nodes_of n (reference s w) = refers s w ∷ []
nodes_of n (unary u a) = nodes_of n a ++ of_one u (last_of n a) ∷ []
nodes_of n (binary j a b) = nodes_of n a ++ (nodes_of (n + size a) b ++ of_two j (last_of n a) (last_of (n + size a) b) ∷ [])
nodes_of n (conditional a b c) =
    nodes_of n a ++ (nodes_of (n + size a) b ++ (nodes_of (n + size a + size b) c
    ++ of_three (last_of n a) (last_of (n + size a) b) (last_of (n + size a + size b) c) ∷ []))

-- the nodes of an ad, the first of which has the number n: definition after definition
unfoldable pub nodes_in : ℕ → Ad → List Node
nodes_in n [] = []
nodes_in n (d ∷ ds) = nodes_of n d.expression ++ nodes_in (n + size d.expression) ds

-- node i of an ad, for i below the count of its nodes
abbrev pub nth_node : Ad → ℕ → Node
nth_node a i = get_or (nodes_in 0 a) i (leaf undefined)

-- 'An operator leads to all its operands, arms not taken included'
unfoldable pub operands_of : Node → List ℕ
operands_of (leaf l) = []
operands_of (refers s w) = []
operands_of (of_one u i) = i ∷ []
operands_of (of_two j i k) = i ∷ k ∷ []
operands_of (of_three i j k) = i ∷ j ∷ k ∷ []

-- ---- as it is stored

-- the four words of a node whose bytes are stored from o on (docs/LAYOUT.md)
unfoldable pub words_of : ℕ → Node → List ℕ
words_of o (leaf l) = literal_node o l
words_of o (refers s w) = node (scope_kind s) o (length w) 0
words_of o (of_one u i) = node (unary_kind u) i 0 0
words_of o (of_two j i k) = node (binary_kind j) i k 0
words_of o (of_three i j k) = node 12 i j k

-- a node's bytes: 'names and strings'
unfoldable pub bytes_of : Node → List ℕ
bytes_of (leaf l) = literal_bytes l
bytes_of (refers s w) = w
bytes_of (of_one u i) = []
bytes_of (of_two j i k) = []
bytes_of (of_three i j k) = []

-- WHAT THE NUMBERS OF NODE i SAY, w and b being the words and bytes of an ad: that it is the node t
pub record Says (w b : List ℕ) (i : ℕ) (t : Node) : Type 0 where
  -- where its bytes stand
  pub place : ℕ
  -- its kind, and its literal or the numbers of its operands
  pub words : kind_at w i ∷ operand_at w i 0 ∷ operand_at w i 1 ∷ operand_at w i 2 ∷ [] ≡ words_of place t
  -- its name 'as written', or the bytes of its string
  pub bytes_are : bytes_at b place (length (bytes_of t)) ≡ bytes_of t
  pub in_bytes : place + length (bytes_of t) ≤ length b
  -- 'An operator leads to all its operands, arms not taken included'
  pub operands_are : operands w i ≡ operands_of t
