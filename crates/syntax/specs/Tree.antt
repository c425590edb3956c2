-- Trees. Two trees are equal when the data are: 'Two trees are equal when definitions, order, names as written, kinds and
-- literals are equal.' Assumes nothing.
use Rattle.std.specs.Prelude.{ℕ, ◌+◌, Bool, List, [], ◌∷◌}
use Rattle.syntax.specs.declared.Binary.{Binary}
use Rattle.syntax.specs.declared.Unary.{Unary}

-- A literal. 'A real literal's node keeps its digits read as one whole number and the count after the point.' A string has
-- its bytes after escapes.
pub data Literal : Type 0 where
  undefined error : Literal
  boolean : Bool → Literal
  integer : ℕ → Literal
  real : ℕ → ℕ → Literal
  string : List ℕ → Literal

-- 'Reference: `name` or `other.name`': which ad the name is looked up in.
pub data Scope : Type 0 where
  own other : Scope

-- 'A node is a literal, a reference or an operator.' Names are kept as written.
pub data Expr : Type 0 where
  literal : Literal → Expr
  reference : Scope → List ℕ → Expr
  unary : Unary → Expr → Expr
  binary : Binary → Expr → Expr → Expr
  conditional : Expr → Expr → Expr → Expr

-- 'definitions `name = expression`'
pub record Definition : Type 0 where
  pub name : List ℕ
  pub expression : Expr

-- 'Ads are flat': an ad is its definitions, in order.
abbrev pub Ad : Type 0
Ad = List Definition

-- how many nodes an expression has: 'each literal, each reference .., each operator'
unfoldable pub size : Expr → ℕ
size (literal l) = 1
size (reference s w) = 1
size (unary u a) = size a + 1
size (binary j a b) = size a + size b + 1
size (conditional a b c) = size a + size b + size c + 1

-- how many nodes an ad has
unfoldable pub nodes : Ad → ℕ
nodes [] = 0
nodes (d ∷ ds) = size d.expression + nodes ds
