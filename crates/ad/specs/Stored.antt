-- A stored ad as it is read, total over any memory: its nodes, operands, definitions and names (docs/LAYOUT.md). w are the words
-- and b the bytes of an ad. Assumes nothing.
use Rattle.std.specs.Prelude.{◌≡◌, Bool, cond, ◌||◌, Option, None, Result, List, [], ◌∷◌, map, ℕ, zero, suc, ◌+◌, ◌-◌, ◌*◌, get_or, slice_get, take, drop, eqb, ltb}
use Rattle.std.specs.Result.{result_ok}
use Rattle.text.specs.Strings.{same_name}
use Rattle.syntax.specs.Bounds.{max_nodes, max_definitions}
use Rattle.syntax.specs.Token.{pick}
use Rattle.syntax.specs.declared.Binary.{Binary}
use Rattle.syntax.specs.declared.Binary.TheVariants.{Or, And, Equal, NotEqual, Is, Isnt, Less, LessOrEqual, Greater, GreaterOrEqual, Add, Subtract, Multiply, Divide, Remainder}
use Rattle.syntax.specs.declared.Unary.{Unary}
use Rattle.syntax.specs.declared.Unary.TheVariants.{Not, Plus, Minus}
use Rattle.ad.specs.declared.kind.Kind.{Kind}
use Rattle.ad.specs.declared.kind.Kind.TheVariants as K
use Rattle.ad.specs.declared.kind.UnknownKind.{UnknownKind}
use Rattle.ad.specs.Layout.{node_words}

-- how many of the k numbers f i, f (i + 1), .. stand before the first that is 0: there 'Unused room is zero'
unfoldable pub leading : (ℕ → ℕ) → ℕ → ℕ → ℕ
leading f i zero = 0
leading f i (suc k) = cond (eqb (f i) 0) 0 (suc (leading f (suc i) k))

-- the kind of node i; no kind is 0 (docs/LAYOUT.md)
abbrev pub kind_at : List ℕ → ℕ → ℕ
kind_at w i = get_or w (4 * i) 0

-- node i's operand or datum j, from 0 to 2 (docs/LAYOUT.md)
abbrev pub operand_at : List ℕ → ℕ → ℕ → ℕ
operand_at w i j = get_or w (4 * i + 1 + j) 0

-- how many nodes are stored: the counts follow from the content (docs/LAYOUT.md), as 'Unused room is zero after acceptance'
unfoldable pub node_count : List ℕ → ℕ
node_count w = leading (kind_at w) 0 max_nodes

-- definition j: its name's offset (docs/LAYOUT.md)
abbrev pub offset_at : List ℕ → ℕ → ℕ
offset_at w j = get_or w (node_words + 3 * j) 0

-- definition j: its name's length (docs/LAYOUT.md)
abbrev pub length_at : List ℕ → ℕ → ℕ
length_at w j = get_or w (node_words + 3 * j + 1) 0

-- definition j: the node of its expression (docs/LAYOUT.md)
abbrev pub root_at : List ℕ → ℕ → ℕ
root_at w j = get_or w (node_words + 3 * j + 2) 0

-- how many definitions are stored: no name is empty ('Name: a letter or `_`, then ..'), and 'Unused room is zero'
unfoldable pub definition_count : List ℕ → ℕ
definition_count w = leading (length_at w) 0 max_definitions

-- the bytes from o on, n of them or as many as there are: a name or string among the '16,384 bytes of names and strings'
abbrev pub bytes_at : List ℕ → ℕ → ℕ → List ℕ
bytes_at b o n = take n (drop o b)

-- how many operands a node of kind k has: unary operators one, `? :` three, binary operators two, all else none
unfoldable pub arity : ℕ → ℕ
arity k = cond (ltb k 9) 0 (cond (ltb k 12) 1 (cond (eqb k 12) 3 (cond (ltb k 28) 2 0)))

-- the operator of one operand of a node of kind k: 'unary `! + -`' (docs/LAYOUT.md)
unfoldable pub unary_of : ℕ → Unary
unary_of k = pick (eqb k 9) (λ _. Not) (λ _. pick (eqb k 10) (λ _. Plus) (λ _. Minus))

-- the operators of two operands by the kinds of their nodes, from 13 on (docs/LAYOUT.md)
abbrev pub binaries : List Binary
binaries = Or ∷ And ∷ Equal ∷ NotEqual ∷ Is ∷ Isnt ∷ Less ∷ LessOrEqual ∷ Greater ∷ GreaterOrEqual ∷ Add ∷ Subtract ∷ Multiply ∷ Divide ∷ Remainder ∷ []

-- the operator of two operands of a node of kind k
unfoldable pub binary_of : ℕ → Binary
binary_of k = get_or binaries (k - 13) Or

-- the kinds by their numbers, from 1 on (docs/LAYOUT.md)
abbrev pub kinds : List Kind
kinds = K.Undefined ∷ K.Error ∷ K.Boolean ∷ K.Integer ∷ K.Real ∷ K.String ∷ K.Own ∷ K.Other ∷ K.Unary Not ∷ K.Unary Plus ∷ K.Unary Minus ∷ K.Conditional ∷ map K.Binary binaries

-- the kind that a number stands for; none where it is 0 or behind the last
unfoldable pub kind_of : ℕ → Option Kind
kind_of zero = None
kind_of (suc k) = slice_get kinds k

-- what a number is read as: the kind that it stands for, or the number itself where it stands for none
abbrev pub Decodes : ℕ → Result Kind UnknownKind → Type 0
Decodes k r = (result_ok r ≡ kind_of k)

-- whether a kind is that of a reference `name`: 'Reference: `name` or `other.name`'
abbrev pub is_own : ℕ → Bool
is_own k = eqb k 7

-- whether a kind is that of a reference `other.name`: 'Reference: `name` or `other.name`'
abbrev pub is_other : ℕ → Bool
is_other k = eqb k 8

-- 'Reference: `name` or `other.name`'
abbrev pub is_reference : ℕ → Bool
is_reference k = is_own k || is_other k

-- 'An operator leads to all its operands, arms not taken included'
unfoldable pub operands : List ℕ → ℕ → List ℕ
operands w i = take (arity (kind_at w i)) (operand_at w i 0 ∷ operand_at w i 1 ∷ operand_at w i 2 ∷ [])

-- the name of the reference i, as written: 'Names .. are kept as written'
abbrev pub name_at : List ℕ → List ℕ → ℕ → List ℕ
name_at w b i = bytes_at b (operand_at w i 0) (operand_at w i 1)

-- the root of the first of k definitions, from definition j on, whose name matches: 'Names match without regard to ASCII case'
unfoldable pub find_from : List ℕ → List ℕ → List ℕ → ℕ → ℕ → List ℕ
find_from w b name j zero = []
find_from w b name j (suc k) =
    cond (same_name (bytes_at b (offset_at w j) (length_at w j)) name) (root_at w j ∷ []) (find_from w b name (suc j) k)

-- the root of a name's definition; none where 'none found'
unfoldable pub find : List ℕ → List ℕ → List ℕ → List ℕ
find w b name = find_from w b name 0 (definition_count w)

-- the roots of k definitions, from definition j on: what 'A reference leads to its definition' can lead to
unfoldable pub roots_from : List ℕ → ℕ → ℕ → List ℕ
roots_from w j zero = []
roots_from w j (suc k) = root_at w j ∷ roots_from w (suc j) k
