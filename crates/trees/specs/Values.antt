-- The value of an expression, on trees: the ads a and a' are the first and the second of a pair. Assumes nothing.
use Rattle.std.specs.Prelude.{ℕ, ◌+◌, ◌≡◌, Bool, true, false, cond, not, List, ◌∷◌, length, pos}
use Rattle.text.specs.Strings.{same_name}
use Rattle.syntax.specs.Tree as tree
use Rattle.syntax.specs.Tree.{Literal, Scope, own, other, Expr, literal, reference, unary, binary, conditional, Definition, Ad, size}
use Rattle.syntax.specs.Grammar.{defined}
use Rattle.syntax.specs.declared.Binary.{Binary}
use Rattle.syntax.specs.declared.Unary.{Unary}
use Rattle.ad.specs.Layout.{stored_bytes}
use Rattle.ad.specs.Stored.{bytes_at}
use Rattle.integers.specs.Integers.{width, signed}
use Rattle.reals.specs.Reals.{literal_real}
use Rattle.values.specs.Values.{bytes_at as shown_bytes}
use Rattle.values.specs.declared.Value.{Value}
use Rattle.values.specs.declared.Value.TheVariants.{Undefined, Error, Boolean, Integer, Real, String}
use Rattle.logic.specs.Logic.{conditional_value}
use Rattle.operators.specs.Operators.{binary_value, unary_value}

-- v is the value of a literal of an ad, the second or the first, whose bytes are b. An Integer's code is that of its number; 'A real
-- literal is the whole number of its digits divided by the power of ten of its places, one rounding.' 'String values are literals of
-- either ad; their bytes are shown as a part of that ad's lent memory': they are the literal's
unfoldable pub Denotes : Bool → List ℕ → Literal → Value → Type 0
Denotes second b tree.undefined v = v ≡ Undefined
Denotes second b tree.error v = v ≡ Error
Denotes second b (tree.boolean t) v = v ≡ Boolean t
Denotes second b (tree.integer n) v = (v ≡ Integer n) × (signed width n ≡ pos n)
Denotes second b (tree.real n places) v = v ≡ Real (literal_real n places)
Denotes second b (tree.string l) v = (o : ℕ) × (v ≡ String second o (length l)) × (bytes_at b o (length l) ≡ l)

-- the ad of a side, of the second where it is true
abbrev pub ad_of : Ad → Ad → Bool → Ad
ad_of a a' second = cond second a' a

-- the side on which a reference's name is looked up: '`name` finds its definition in its own ad, `other.name` in the other'; 'Inside a
-- definition, names belong to the ad that holds it.'
abbrev pub side_of : Bool → Scope → Bool
side_of second own = second
side_of second other = not second

-- Finds name n a m e: in the ad a, whose first node has the number n, a name finds its definition, whose expression is e and begins
-- with node m. 'Names match without regard to ASCII case'
pub data Finds (name : List ℕ) : ℕ → Ad → ℕ → Expr → Type 0 where
  found_first : {n : ℕ} {d : Definition} {ds : Ad} → same_name d.name name ≡ true → Finds name n (d ∷ ds) n d.expression
  found_later : {n m : ℕ} {d : Definition} {ds : Ad} {e : Expr} → same_name d.name name ≡ false → Finds name (n + size d.expression) ds m e → Finds name n (d ∷ ds) m e

-- Leads a a' s n e t m f: on side s the expression e, whose first node has the number n, leads to the expression f on side t, whose first
-- node has the number m. 'An operator leads to all its operands, arms not taken included .. A reference leads to its definition.'
pub data Leads (a a' : Ad) : Bool → ℕ → Expr → Bool → ℕ → Expr → Type 0 where
  to_operand : {s : Bool} {n : ℕ} {u : Unary} {e : Expr} → Leads a a' s n (unary u e) s n e
  to_left : {s : Bool} {n : ℕ} {j : Binary} {e f : Expr} → Leads a a' s n (binary j e f) s n e
  to_right : {s : Bool} {n : ℕ} {j : Binary} {e f : Expr} → Leads a a' s n (binary j e f) s (n + size e) f
  to_test : {s : Bool} {n : ℕ} {e f g : Expr} → Leads a a' s n (conditional e f g) s n e
  to_second : {s : Bool} {n : ℕ} {e f g : Expr} → Leads a a' s n (conditional e f g) s (n + size e) f
  to_third : {s : Bool} {n : ℕ} {e f g : Expr} → Leads a a' s n (conditional e f g) s (n + size e + size f) g
  to_definition : {s : Bool} {n m : ℕ} {c : Scope} {name : List ℕ} {e : Expr} → Finds name 0 (ad_of a a' (side_of s c)) m e → Leads a a' s n (reference c name) (side_of s c) m e

-- 'in one or more steps'
pub data LeadsOn (a a' : Ad) : Bool → ℕ → Expr → Bool → ℕ → Expr → Type 0 where
  at_once : {s t : Bool} {n m : ℕ} {e f : Expr} → Leads a a' s n e t m f → LeadsOn a a' s n e t m f
  and_on : {s t r : Bool} {n m k : ℕ} {e f g : Expr} → Leads a a' s n e t m f → LeadsOn a a' t m f r k g → LeadsOn a a' s n e r k g

-- 'A reference that leads, in one or more steps, back to itself is circular': its node has the number n
abbrev pub Returns : (a a' : Ad) → Bool → ℕ → Scope → List ℕ → Type 0
Returns a a' second n s name = LeadsOn a a' second n (reference s name) second n (reference s name)

-- THE VALUE OF AN EXPRESSION: Means a a' second n e v: v is what the rules make of the expression e of the second ad, or of the first,
-- where its first node has the number n. 'A reference that leads, in one or more steps, back to itself is circular and is Undefined,
-- whatever its definition gives'; 'none found is Undefined'
pub data Means (a a' : Ad) : Bool → ℕ → Expr → Value → Type 0 where
  is_literal_lem : {second : Bool} {n : ℕ} {l : Literal} {v : Value} → Denotes second (stored_bytes (ad_of a a' second)) l v → Means a a' second n (literal l) v
  is_circular : {second : Bool} {n : ℕ} {s : Scope} {name : List ℕ} → Returns a a' second n s name → Means a a' second n (reference s name) Undefined
  is_absent : {second : Bool} {n : ℕ} {s : Scope} {name : List ℕ} → defined name (ad_of a a' (side_of second s)) ≡ false → Means a a' second n (reference s name) Undefined
  is_found : {second : Bool} {n m : ℕ} {s : Scope} {name : List ℕ} {e : Expr} {v : Value} → ¬ (Returns a a' second n s name) →
      Finds name 0 (ad_of a a' (side_of second s)) m e →
      Means a a' (side_of second s) m e v →
      Means a a' second n (reference s name) v
  is_unary : {second : Bool} {n : ℕ} {u : Unary} {e : Expr} {x : Value} →
      Means a a' second n e x →
      Means a a' second n (unary u e) (unary_value u x)
  is_binary : {second : Bool} {n : ℕ} {j : Binary} {e f : Expr} {x y : Value} →
      Means a a' second n e x →
      Means a a' second (n + size e) f y →
      Means a a' second n (binary j e f) (binary_value (stored_bytes a) (stored_bytes a') j x y)
  is_conditional : {second : Bool} {n : ℕ} {e f g : Expr} {x y z : Value} →
      Means a a' second n e x →
      Means a a' second (n + size e) f y →
      Means a a' second (n + size e + size f) g z →
      Means a a' second n (conditional e f g) (conditional_value x y z)

-- Same u v: the same value, first and second being the two ads' bytes: one value, or two Strings 'byte for byte', wherever these stand
pub data Same (first second : List ℕ) : Value → Value → Type 0 where
  same_value_lem : {v : Value} → Same first second v v
  same_bytes_lem : {s t : Bool} {o p n m : ℕ} → shown_bytes first second s o n ≡ shown_bytes first second t p m → Same first second (String s o n) (String t p m)

-- the value of a name's definition in the second ad, or in the first; Undefined where there is none: 'those that exist'; 'or no Rank
-- at all'
pub data Worths (a a' : Ad) (second : Bool) (name : List ℕ) : Value → Type 0 where
  has_none : defined name (ad_of a a' second) ≡ false → Worths a a' second name Undefined
  has_one : {n : ℕ} {e : Expr} {v : Value} → Finds name 0 (ad_of a a' second) n e → Means a a' second n e v → Worths a a' second name v

-- Defines k a n e: in the ad a, whose first node has the number k, a definition's expression is e and begins with node n: 'definitions
-- `name = expression`'
pub data Defines : ℕ → Ad → ℕ → Expr → Type 0 where
  defines_first : {k : ℕ} {d : Definition} {ds : Ad} → Defines k (d ∷ ds) k d.expression
  defines_later : {k n : ℕ} {d : Definition} {ds : Ad} {e : Expr} → Defines (k + size d.expression) ds n e → Defines k (d ∷ ds) n e

-- Part a n e: the expression e stands in the ad a, as a definition's or as an operand, and begins with node n. 'A node is a literal, a
-- reference or an operator': each is the last node of one such expression
pub data Part (a : Ad) : ℕ → Expr → Type 0 where
  whole : {n : ℕ} {e : Expr} → Defines 0 a n e → Part a n e
  under : {n : ℕ} (u : Unary) {e : Expr} → Part a n (unary u e) → Part a n e
  left : {n : ℕ} (j : Binary) {e : Expr} (f : Expr) → Part a n (binary j e f) → Part a n e
  right : {n : ℕ} (j : Binary) (e : Expr) {f : Expr} → Part a n (binary j e f) → Part a (n + size e) f
  test : {n : ℕ} {e : Expr} (f g : Expr) → Part a n (conditional e f g) → Part a n e
  taken : {n : ℕ} (e : Expr) {f : Expr} (g : Expr) → Part a n (conditional e f g) → Part a (n + size e) f
  otherwise : {n : ℕ} (e f : Expr) {g : Expr} → Part a n (conditional e f g) → Part a (n + size e + size f) g

-- 'String values are literals of either ad; their bytes are shown as a part of that ad's lent memory': the bytes of a String are those of
-- a string literal of its ad; no other value has any
unfoldable pub FromLiteral : Ad → Ad → Value → Type 0
FromLiteral a a' Undefined = Unit {0}
FromLiteral a a' Error = Unit {0}
FromLiteral a a' (Boolean t) = Unit {0}
FromLiteral a a' (Integer n) = Unit {0}
FromLiteral a a' (Real x) = Unit {0}
FromLiteral a a' (String second o k) = (n : ℕ) × (l : List ℕ) × Part (ad_of a a' second) n (literal (tree.string l)) × (bytes_at (stored_bytes (ad_of a a' second)) o k ≡ l)
