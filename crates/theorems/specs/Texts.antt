-- WHAT READING LEAVES AND A MATCH FINDS, from two texts: the match is that of the trees read, and document 01's worked examples hold of
-- what `read` and `match_ads` leave. Assumes nothing.
use Rattle.std.specs.Prelude.{ℕ, ◌≡◌, Bool, List, ◌++◌, drop}
use Rattle.links.specs.Pair.{pair_slots}
use Rattle.syntax.specs.Tree.{Ad}
use Rattle.syntax.specs.Reader as R
use Rattle.ad.specs.Layout.{stored_words, stored_bytes}
use Rattle.matching.specs.Matching.{Match, table_words}
use Rattle.matching.specs.declared.Outcome.{Outcome}
use Rattle.theorems.specs.Existing.{answer_at}

-- a match of the trees a and e, in memory: table' and list' are what is left of table and list. 'Memory lent beyond these sizes is never
-- changed.'
pub record TreesMatch (a e : Ad) (budget : ℕ) (table list table' list' : List ℕ) (r : Outcome) : Type 0 where
  pub values : List ℕ
  pub entries : List ℕ
  pub is_match : Match (stored_words a) (stored_bytes a) (stored_words e) (stored_bytes e) budget values entries r
  pub table_is : table' ≡ values ++ drop table_words table
  pub list_is : list' ≡ entries ++ drop pair_slots list

-- a match of the trees that two texts read as
pub record TextsMatch (s t : List ℕ) (budget : ℕ) (table list table' list' : List ℕ) (r : Outcome) : Type 0 where
  pub first : Ad
  pub second : Ad
  pub first_read : R.read s ≡ R.accepted first
  pub second_read : R.read t ≡ R.accepted second
  pub trees : TreesMatch first second budget table list table' list' r

-- the answer of two texts: their verdict, ranks, steps and moves, neither memory nor budget being given
pub record TextsAnswer (s t : List ℕ) : Type 0 where
  pub verdict : Bool
  pub first_rank : ℕ
  pub second_rank : ℕ
  pub steps : ℕ
  pub count : ℕ
  pub has_match : (budget : ℕ) (table list : List ℕ) → (table' list' : List ℕ) × TextsMatch s t budget table list table' list' (answer_at verdict first_rank second_rank steps count budget)
  pub only : {budget : ℕ} {table list table' list' : List ℕ} {r : Outcome} → TextsMatch s t budget table list table' list' r → r ≡ answer_at verdict first_rank second_rank steps count budget
