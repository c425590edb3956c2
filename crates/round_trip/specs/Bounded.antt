-- The trees that some text reads as (Laws/Readable.antt `readable`). Assumes nothing.
use Rattle.std.specs.Prelude.{◌≤◌, ◌≡◌, Bool, true, ◌&&◌, [], ◌∷◌}
use Rattle.syntax.specs.Bounds.{max_level}
use Rattle.syntax.specs.Tree.{Expr, literal, reference, unary, binary, conditional, Ad}
use Rattle.syntax.specs.Grammar.{Within}
use Rattle.syntax.specs.Print.{ad_level}
use Rattle.syntax.specs.Inner.Lexeme.{is_name, is_literal}

-- every name and literal of an expression is one that a text can write
unfoldable pub is_writable : Expr → Bool
is_writable (literal l) = is_literal l
is_writable (reference s w) = is_name w
is_writable (unary u a) = is_writable a
is_writable (binary j a b) = is_writable a && is_writable b
is_writable (conditional a b c) = is_writable a && (is_writable b && is_writable c)

-- and every one of an ad
unfoldable pub are_writable : Ad → Bool
are_writable [] = true
are_writable (d ∷ ds) = is_name d.name && (is_writable d.expression && are_writable ds)

-- the ad keeps 'the bounds above, levels of its printed text included, text length not'
pub record Bounded (a : Ad) : Type 0 where
  -- '256 definitions', '1,024 nodes', no 'name defined twice'
  pub within : Within a
  pub writable : are_writable a ≡ true
  -- 'level 64'
  pub shallow : ad_level a ≤ max_level
