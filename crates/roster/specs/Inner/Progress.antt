-- What inner functions are given and ensure. Assumes nothing.
use Rattle.std.specs.Prelude.{ℕ, Result, ◌≤◌, ◌≡◌, Bool, List, ◌++◌, length, drop, replicate}
use Rattle.lines.specs.Lines.{lines_of}
use Rattle.ad.specs.Layout.{ad_words, ad_bytes_room, padded}
use Rattle.links.specs.Pair.{pair_slots}
use Rattle.matching.specs.Matching.{table_words}
use Rattle.matching.specs.declared.Outcome.{Outcome}
use Rattle.syntax.specs.declared.Refusal.{Refusal}
use Rattle.line_match.specs.Inner.Asked.{LineRoom}
use Rattle.tally.specs.declared.Report.{Report}
use Rattle.tally.specs.Tally.{rows_of, report_of}
use Rattle.tally.specs.Inner.Counting.{Tallied}
use Rattle.roster.specs.Roster.{max_lines, rows_words, Give, small_roster}

-- whether some room is too small
pub record Tested (v b w c table list rows : List ℕ) (r : Bool) : Type 0 where
  pub told : r ≡ small_roster v b w c table list rows

-- few enough lines, and exactly the rooms
pub record Lent (s w c table list rows : List ℕ) : Type 0 where
  pub room : LineRoom w c table list
  pub few_lines : length (lines_of s) ≤ max_lines
  pub rows_room : length rows ≡ rows_words

-- the same, and no outcome written
pub record Asked (s w c table list rows : List ℕ) : Type 0 where
  pub room : LineRoom w c table list
  pub few_lines : length (lines_of s) ≤ max_lines
  pub rows_clear : rows ≡ replicate rows_words 0

-- the outcomes of all lines, and their report
pub record Listed (v b s rows : List ℕ) (r : Report) : Type 0 where
  pub outcomes : List (Result Outcome Refusal)
  pub gives : Give v b (lines_of s) outcomes
  pub rows_are : rows ≡ padded rows_words (rows_of outcomes)
  pub report_is : r ≡ report_of outcomes

-- the outcomes of the lines before `at`
pub record Reached (v b s : List ℕ) (at : ℕ) (rows : List ℕ) (r : Report) : Type 0 where
  pub passed : List (List ℕ)
  pub outcomes : List (Result Outcome Refusal)
  pub inside : at ≤ length s
  pub split : lines_of s ≡ passed ++ lines_of (drop at s)
  pub gives : Give v b passed outcomes
  pub rows_are : rows ≡ padded rows_words (rows_of outcomes)
  pub tallied : Tallied outcomes r

-- all working memory is zero
pub record Cleared (w c table list : List ℕ) : Type 0 where
  pub words : w ≡ replicate ad_words 0
  pub bytes : c ≡ replicate ad_bytes_room 0
  pub values : table ≡ replicate table_words 0
  pub entries : list ≡ replicate pair_slots 0
