-- What the writers of trees are given and ensure. w and b are the words and bytes of an ad. Assumes nothing.
use Rattle.std.specs.Prelude.{ℕ, ◌≤◌, ◌<◌, cond, List, length, ltb, eqb}
use Rattle.syntax.specs.Tree.{Expr}
use Rattle.syntax.specs.Grammar.{binds_of}
use Rattle.syntax.specs.Print.{binds, wrap, printed}
use Rattle.ad.specs.Stored.{binary_of}
use Rattle.writer.specs.Inner.Put.{Puts, Near}
use Rattle.tree_check.specs.Laws.Leaves.{Run}

-- how a node of kind k binds: 'Binding, loosest first'; the kinds are those of docs/LAYOUT.md
unfoldable pub binds_kind : ℕ → ℕ
binds_kind k = cond (ltb k 9) 8 (cond (ltb k 12) 7 (cond (eqb k 12) 0 (binds_of (binary_of k))))

-- an expression's text where one that binds at k or tighter can stand: 'Parentheses only where the tree would otherwise read
-- differently'
abbrev pub wrapped : ℕ → Expr → List ℕ
wrapped k e = wrap k (binds e) (printed e)

-- what a writer of a tree is given: the tree has its last node at i, and its text t is near `at`
pub record Fits (t : Expr → List ℕ) (w b : List ℕ) (i at : ℕ) : Type 0 where
  pub words : 4864 ≤ length w
  pub node : i < 1024
  pub tree : Expr
  pub first : ℕ
  pub byte : ℕ
  pub stands : Run w b first i byte tree
  pub near : Near at (t tree)

-- what it ensures: the text t of the tree that has its last node at i is written
abbrev pub Written : (Expr → List ℕ) → List ℕ → List ℕ → ℕ → ℕ → List ℕ → List ℕ → ℕ → Type 0
Written t w b i at o o' r = (e : Expr) (s k : ℕ) → Run w b s i k e → Puts (t e) o at o' r
