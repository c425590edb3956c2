-- The nodes of a stored tree are evaluated as its literals, references and operators. Assumes nothing.
use Rattle.std.specs.Prelude.{◌&&◌, ℕ, ◌%◌, ◌^◌, ◌≤◌, ◌<◌, ◌≡◌, refl, Bool, true, false, cond, length, get_or}
use Rattle.std.proofs.Common.{arith, ap, ap₂, lt-ltb, le-leb}
use Rattle.syntax.specs.Bounds.{max_integer}
use Rattle.syntax.specs.Tree.{Literal, undefined, error, boolean, integer, real, string, Scope, own, other}
use Rattle.syntax.specs.declared.Binary.{Binary}
use Rattle.syntax.specs.declared.Binary.TheVariants.{Or, And, Equal, NotEqual, Is, Isnt, Less, LessOrEqual, Greater, GreaterOrEqual, Add, Subtract, Multiply, Divide, Remainder}
use Rattle.syntax.specs.declared.Unary.{Unary}
use Rattle.syntax.specs.declared.Unary.TheVariants.{Not, Plus, Minus}
use Rattle.ad.specs.Layout.{literal_node, unary_kind, binary_kind, scope_kind}
use Rattle.ad.specs.Stored.{arity, unary_of, binary_of}
use Rattle.reals.specs.Reals.{literal_real, stored_real}
use Rattle.values.specs.declared.Value.TheVariants.{Integer, Real, String}
use Rattle.nodes.specs.Nodes.{literal_value, node_of}
use Rattle.nodes.specs.declared.Node.TheVariants.{Constant, Reference, OfOne, OfTwo, Conditional}

-- the bounds of a literal, whose string is stored from byte o on
unfoldable pub LiteralFits : ℕ → Literal → Type 0
LiteralFits o undefined = Unit {0}
LiteralFits o error = Unit {0}
LiteralFits o (boolean b) = Unit {0}
LiteralFits o (integer n) = n ≤ max_integer
LiteralFits o (real n places) = (n < 10 ^ 15) × (1 ≤ places) × (places < 15)
LiteralFits o (string l) = (o < 65536) × (length l < 65536)

-- A STORED LITERAL HAS THE LITERAL'S VALUE
pub literal_value_lem : (second : Bool) (o : ℕ) (l : Literal) → LiteralFits o l →
    node_of second (get_or (literal_node o l) 0 0) (get_or (literal_node o l) 1 0) (get_or (literal_node o l) 2 0) ≡ Constant (literal_value second o l)
unfolding literal_node literal_value LiteralFits arity
literal_value_lem second o undefined h = refl
literal_value_lem second o error h = refl
literal_value_lem second o (boolean true) h = refl
literal_value_lem second o (boolean false) h = refl
literal_value_lem second o (integer n) h = ap (λ (x : ℕ). Constant (Integer x)) (let q : n % 4294967296 ≡ n = omega arith in q)
literal_value_lem second o (real n places) h =
    ap (λ (b : Bool). Constant (Real (cond b (literal_real n places) (stored_real 0 15))))
    (ap₂ ◌&&◌ (lt-ltb n (10 ^ 15) h.0) (ap₂ ◌&&◌ (le-leb 1 places h.1) (lt-ltb places 15 h.2)))
literal_value_lem second o (string l) h =
    ap₂ (λ (x y : ℕ). Constant (String second x y)) (let q : o % 65536 ≡ o = omega (arith, h.0) in q) (let q : length l % 65536 ≡ length l = omega (arith, h.1) in q)

-- so are references and operators
pub reference_node : (second : Bool) (s : Scope) (a b : ℕ) → node_of second (scope_kind s) a b ≡ Reference
unfolding scope_kind
reference_node second own a b = refl
reference_node second other a b = refl

pub unary_node : (second : Bool) (u : Unary) (a b : ℕ) → node_of second (unary_kind u) a b ≡ OfOne u
unfolding arity unary_of
unary_node second Not a b = refl
unary_node second Plus a b = refl
unary_node second Minus a b = refl

pub conditional_node : (second : Bool) (a b : ℕ) → node_of second 12 a b ≡ Conditional
unfolding arity
conditional_node second a b = refl

pub binary_node : (second : Bool) (j : Binary) (a b : ℕ) → node_of second (binary_kind j) a b ≡ OfTwo j
unfolding arity binary_of
binary_node second Or a b = refl
binary_node second And a b = refl
binary_node second Equal a b = refl
binary_node second NotEqual a b = refl
binary_node second Is a b = refl
binary_node second Isnt a b = refl
binary_node second Less a b = refl
binary_node second LessOrEqual a b = refl
binary_node second Greater a b = refl
binary_node second GreaterOrEqual a b = refl
binary_node second Add a b = refl
binary_node second Subtract a b = refl
binary_node second Multiply a b = refl
binary_node second Divide a b = refl
binary_node second Remainder a b = refl
