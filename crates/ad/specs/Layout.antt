-- The layout of a stored ad: what the words and bytes of its memory hold (docs/LAYOUT.md). 'Layouts are the team's, written in
-- docs/; equal trees have equal content.' Assumes nothing.
use Rattle.std.specs.Prelude.{ℕ, ◌+◌, ◌-◌, ◌<◌, Bool, cond, ◌||◌, List, [], ◌∷◌, ◌++◌, length, replicate, ltb}
use Rattle.syntax.specs.Tree.{Literal, undefined, error, boolean, integer, real, string, Scope, own, other, Expr, literal, reference, unary, binary, conditional, Ad, size}
use Rattle.syntax.specs.declared.Binary.{Binary}
use Rattle.syntax.specs.declared.Binary.TheVariants.{Or, And, Equal, NotEqual, Is, Isnt, Less, LessOrEqual, Greater, GreaterOrEqual, Add, Subtract, Multiply, Divide, Remainder}
use Rattle.syntax.specs.declared.Unary.{Unary}
use Rattle.syntax.specs.declared.Unary.TheVariants.{Not, Plus, Minus}
use Rattle.ad.specs.declared.kind.Kind.{Kind}
use Rattle.ad.specs.declared.kind.Kind.TheVariants as K

-- ---- the kinds of nodes: no kind is 0, so that unused room is no node

-- 'A node is .. an operator': the kinds of 'unary `! + -`'
abbrev pub unary_kind : Unary → ℕ
unary_kind Not = 9
unary_kind Plus = 10
unary_kind Minus = 11

-- 'A node is .. an operator': the kinds of the binary operators, from `||` to `* / %`, 'loosest first'; 12 is `? :`. The numbers
-- are those of docs/LAYOUT.md
abbrev pub binary_kind : Binary → ℕ
binary_kind Or = 13
binary_kind And = 14
binary_kind Equal = 15
binary_kind NotEqual = 16
binary_kind Is = 17
binary_kind Isnt = 18
binary_kind Less = 19
binary_kind LessOrEqual = 20
binary_kind Greater = 21
binary_kind GreaterOrEqual = 22
binary_kind Add = 23
binary_kind Subtract = 24
binary_kind Multiply = 25
binary_kind Divide = 26
binary_kind Remainder = 27

-- the numbers of all kinds, in the order of docs/LAYOUT.md
abbrev pub code_of : Kind → ℕ
code_of K.Undefined = 1
code_of K.Error = 2
code_of K.Boolean = 3
code_of K.Integer = 4
code_of K.Real = 5
code_of K.String = 6
code_of K.Own = 7
code_of K.Other = 8
code_of (K.Unary u) = unary_kind u
code_of K.Conditional = 12
code_of (K.Binary j) = binary_kind j

-- 'Reference: `name` or `other.name`'
unfoldable pub scope_kind : Scope → ℕ
scope_kind own = 7
scope_kind other = 8

-- a node as it is stored: its kind, and up to three operands or data (docs/LAYOUT.md)
abbrev pub node : ℕ → ℕ → ℕ → ℕ → List ℕ
node k a b c = k ∷ a ∷ b ∷ c ∷ []

-- 'A node is a literal ..'; a real literal's 'keeps its digits read as one whole number and the count after the point'. The string,
-- if it is one, is stored from byte o on (docs/LAYOUT.md)
unfoldable pub literal_node : ℕ → Literal → List ℕ
literal_node o undefined = node 1 0 0 0
literal_node o error = node 2 0 0 0
literal_node o (boolean b) = node 3 (cond b 1 0) 0 0
literal_node o (integer n) = node 4 n 0 0
literal_node o (real n places) = node 5 n places 0
literal_node o (string l) = node 6 o (length l) 0

-- ---- the bytes: names and strings one after the other in text order, unshared

-- the bytes of a literal: 'String', after its escapes; no other literal has any
unfoldable pub literal_bytes : Literal → List ℕ
literal_bytes undefined = []
literal_bytes error = []
literal_bytes (boolean b) = []
literal_bytes (integer n) = []
literal_bytes (real n places) = []
literal_bytes (string l) = l

-- the bytes of an expression: 'Names .. are kept as written'
unfoldable pub expr_bytes : Expr → List ℕ
expr_bytes (literal l) = literal_bytes l
expr_bytes (reference s w) = w
expr_bytes (unary u a) = expr_bytes a
expr_bytes (binary j a b) = expr_bytes a ++ expr_bytes b
expr_bytes (conditional a b c) = expr_bytes a ++ (expr_bytes b ++ expr_bytes c)

-- the bytes of an ad: each definition's name, then those of its expression (docs/LAYOUT.md)
unfoldable pub ad_bytes : Ad → List ℕ
ad_bytes [] = []
ad_bytes (d ∷ ds) = d.name ++ (expr_bytes d.expression ++ ad_bytes ds)

-- ---- the nodes: operands first, so that a subtree is one unbroken run of numbers and its last node is its own

-- 'A node is a literal, a reference or an operator.' The nodes of an expression, the first of which has the number n, and whose
-- bytes are stored from o on; operands first, as docs/LAYOUT.md says: 'Layouts are the team's, written in docs/'
unfoldable pub expr_nodes : ℕ → ℕ → Expr → List ℕ
expr_nodes n o (literal l) = literal_node o l
expr_nodes n o (reference s w) = node (scope_kind s) o (length w) 0
expr_nodes n o (unary u a) = expr_nodes n o a ++ node (unary_kind u) (n + size a - 1) 0 0
expr_nodes n o (binary j a b) =
    expr_nodes n o a ++ (expr_nodes (n + size a) (o + length (expr_bytes a)) b
    ++ node (binary_kind j) (n + size a - 1) (n + size a + size b - 1) 0)
expr_nodes n o (conditional a b c) =
    expr_nodes n o a ++ (expr_nodes (n + size a) (o + length (expr_bytes a)) b
    ++ (expr_nodes (n + size a + size b) (o + length (expr_bytes a) + length (expr_bytes b)) c
    ++ node 12 (n + size a - 1) (n + size a + size b - 1) (n + size a + size b + size c - 1)))

-- the nodes of the definitions, one after the other (docs/LAYOUT.md): 'Layouts are the team's, written in docs/; equal trees have
-- equal content.'
unfoldable pub ad_nodes : ℕ → ℕ → Ad → List ℕ
ad_nodes n o [] = []
ad_nodes n o (d ∷ ds) =
    expr_nodes n (o + length d.name) d.expression
    ++ ad_nodes (n + size d.expression) (o + length d.name + length (expr_bytes d.expression)) ds

-- ---- the definitions: a name's offset, its length, and the number of the expression's last node

-- the definitions of an ad, the first of whose nodes has the number n, and whose bytes are stored from o on: 'definitions, order,
-- names as written'
unfoldable pub ad_definitions : ℕ → ℕ → Ad → List ℕ
ad_definitions n o [] = []
ad_definitions n o (d ∷ ds) =
    o ∷ length d.name ∷ (n + size d.expression - 1)
    ∷ ad_definitions (n + size d.expression) (o + length d.name + length (expr_bytes d.expression)) ds

-- no name is empty: 'Name: a letter or `_`, then ..'; so a definition's length is never that of unused room
unfoldable pub Named : Ad → Type 0
Named [] = Unit {0}
Named (d ∷ ds) = (0 < length d.name) × Named ds

-- ---- the whole memory of an ad

-- 'room for 1,024 nodes, 256 definitions ..': the nodes' words, 4 · 1,024, then those of the definitions, 3 · 256
abbrev pub node_words : ℕ
node_words = 4096

-- the words in all, 4,096 + 768: 'room for 1,024 nodes, 256 definitions ..'
abbrev pub ad_words : ℕ
ad_words = 4864

-- '.. and 16,384 bytes of names and strings'
abbrev pub ad_bytes_room : ℕ
ad_bytes_room = 16384

-- xs, then zeros, n in all: 'Unused room is zero after acceptance'
abbrev pub padded : ℕ → List ℕ → List ℕ
padded n xs = xs ++ replicate (n - length xs) 0

-- what the words of a stored ad hold: 'exactly this content, zeros included'
unfoldable pub stored_words : Ad → List ℕ
stored_words a = padded node_words (ad_nodes 0 0 a) ++ padded (ad_words - node_words) (ad_definitions 0 0 a)

-- what its bytes hold: 'exactly this content, zeros included'
unfoldable pub stored_bytes : Ad → List ℕ
stored_bytes a = padded ad_bytes_room (ad_bytes a)

-- 'lent room smaller than above', of an ad
abbrev pub small_ad : List ℕ → List ℕ → Bool
small_ad w b = ltb (length w) ad_words || ltb (length b) ad_bytes_room
