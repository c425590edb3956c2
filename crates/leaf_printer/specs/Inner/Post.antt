-- What the writer of a leaf is given and ensures. w and b are the words and bytes of an ad. Assumes nothing.
use Rattle.std.specs.Prelude.{ℕ, ◌≤◌, ◌<◌, ◌≡◌, List, length}
use Rattle.syntax.specs.Tree.{Expr}
use Rattle.syntax.specs.Print.{printed}
use Rattle.writer.specs.Inner.Put.{Puts, Near}
use Rattle.tree_check.specs.Inner.Decode.{got, leaf_at}

-- what the writer of a literal or a reference is given
pub record LeafFits (w b : List ℕ) (i at : ℕ) : Type 0 where
  pub words : 4864 ≤ length w
  pub node : i < 1024
  pub tree : Expr
  pub byte : ℕ
  pub found : leaf_at w b i byte ≡ got tree
  pub near : Near at (printed tree)

-- what it ensures
abbrev pub LeafWritten : List ℕ → List ℕ → ℕ → ℕ → List ℕ → List ℕ → ℕ → Type 0
LeafWritten w b i at o o' r = (e : Expr) (k : ℕ) → leaf_at w b i k ≡ got e → Puts (printed e) o at o' r
