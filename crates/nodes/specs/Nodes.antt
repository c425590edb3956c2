-- What a node is, from its stored numbers, and its rule: what it makes of the values of its needs. Assumes nothing.
use Rattle.std.specs.Prelude.{ℕ, zero, suc, ◌%◌, ◌^◌, Bool, cond, not, List, [], ◌∷◌, length, eqb}
use Rattle.syntax.specs.Tree as tree
use Rattle.ad.specs.Stored.{arity, unary_of, binary_of, is_reference}
use Rattle.integers.specs.Integers.{width}
use Rattle.reals.specs.Reals.{literal_real, stored_real}
use Rattle.values.specs.declared.Value.{Value}
use Rattle.values.specs.declared.Value.TheVariants.{Undefined, Error, Boolean, Integer, Real, String}
use Rattle.logic.specs.Logic.{conditional_value}
use Rattle.operators.specs.Operators.{binary_value, unary_value}
use Rattle.nodes.specs.declared.Node.{Node}
use Rattle.nodes.specs.declared.Node.TheVariants.{Constant, Reference, OfOne, OfTwo, Conditional}

-- the value of a literal whose string, if it is one, is stored from byte o on in its ad, the second or the first: 'String values are
-- literals of either ad'; 'A real literal is the whole number of its digits divided by the power of ten of its places, one rounding.'
unfoldable pub literal_value : Bool → ℕ → tree.Literal → Value
literal_value second o tree.undefined = Undefined
literal_value second o tree.error = Error
literal_value second o (tree.boolean b) = Boolean b
literal_value second o (tree.integer n) = Integer n
literal_value second o (tree.real n places) = Real (literal_real n places)
literal_value second o (tree.string l) = String second o (length l)

-- the value of a literal by its node's numbers (docs/LAYOUT.md), whatever they are; that a stored literal has the literal's value
-- is Laws/Stored.antt, `literal_value_lem`
abbrev pub constant_of : Bool → ℕ → ℕ → ℕ → Value
constant_of second k a b =
    cond (eqb k 2) Error
    (cond (eqb k 3) (Boolean (not (eqb a 0)))
    (cond (eqb k 4) (Integer (a % 2 ^ width))
    (cond (eqb k 5) (Real (stored_real a b))
    (cond (eqb k 6) (String second (a % 2 ^ 16) (b % 2 ^ 16))
    Undefined))))

-- 'A node is a literal, a reference or an operator': by its numbers (docs/LAYOUT.md), whatever they are
abbrev pub node_of : Bool → ℕ → ℕ → ℕ → Node
node_of second k a b =
    cond (is_reference k) Reference
    (cond (eqb (arity k) 1) (OfOne (unary_of k))
    (cond (eqb (arity k) 2) (OfTwo (binary_of k))
    (cond (eqb (arity k) 3) Conditional
    (Constant (constant_of second k a b)))))

-- THE RULE OF A NODE, of the values a, b and c of its needs: 'what the rules make of the values of its needs'. A reference has the
-- value of its definition.
abbrev pub applied : List ℕ → List ℕ → Node → Value → Value → Value → Value
applied first second (Constant v) a b c = v
applied first second Reference a b c = a
applied first second (OfOne op) a b c = unary_value op a
applied first second (OfTwo op) a b c = binary_value first second op a b
applied first second Conditional a b c = conditional_value a b c

-- the value of need i; 'none found is Undefined', and a circular reference, which needs nothing, 'is Undefined'
unfoldable pub value_in : List Value → ℕ → Value
value_in [] i = Undefined
value_in (v ∷ vs) zero = v
value_in (v ∷ vs) (suc i) = value_in vs i

-- the rule of a node, of the values of all its needs: 'A node's value is what the rules make of the values of its needs, no table
-- read.'
abbrev pub rule_of : List ℕ → List ℕ → Node → List Value → Value
rule_of first second node vs = applied first second node (value_in vs 0) (value_in vs 1) (value_in vs 2)
