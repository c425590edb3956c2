-- A job against a roster. v and b are the words and bytes of the job, s is the roster's text; w, c, table and list are the working
-- memory, and rows is the room for the outcomes. Assumes nothing.
use Rattle.std.specs.Prelude.{ℕ, Result, Ok, Err, ◌≤◌, ◌<◌, ◌≡◌, Bool, true, false, ◌||◌, List, [], ◌∷◌, ◌++◌, length, take, drop, replicate, ltb}
use Rattle.lines.specs.Lines.{lines_of}
use Rattle.ad.specs.Layout.{ad_words, ad_bytes_room, padded}
use Rattle.links.specs.Pair.{pair_slots}
use Rattle.admission.specs.Admission.{small_pair, Well}
use Rattle.matching.specs.Matching.{table_words}
use Rattle.matching.specs.declared.Outcome.{Outcome}
use Rattle.line_match.specs.LineMatch.{LineGives}
use Rattle.tally.specs.Tally.{rows_of, report_of}
use Rattle.syntax.specs.Refusals.{refusal}
use Rattle.syntax.specs.declared.Refusal.{Refusal}
use Rattle.tally.specs.declared.Report.{Report}

-- 'up to 256 benches'
abbrev pub max_lines : ℕ
max_lines = 256

-- the room of their outcomes: eight words each (docs/LAYOUT.md)
abbrev pub rows_words : ℕ
rows_words = 2048

-- what each line gives, in their order: 'for each line in order, what a single match .. gives, or the line's refusal'
pub data Give (v b : List ℕ) : List (List ℕ) → List (Result Outcome Refusal) → Type 0 where
  none : Give v b [] []
  next : {line : List ℕ} {lines : List (List ℕ)} {r : Result Outcome Refusal} {rs : List (Result Outcome Refusal)} → LineGives v b line r → Give v b lines rs → Give v b (line ∷ lines) (r ∷ rs)

-- 'lent room smaller than above': of the job, and of every lent memory
abbrev pub small_roster : (v b w c table list rows : List ℕ) → Bool
small_roster v b w c table list rows = small_pair v b w c (length table) table_words (length list) || ltb (length rows) rows_words

-- the number of a refusal of the whole call
pub data RosterRefuses (v b s w c table list rows : List ℕ) : ℕ → Type 0 where
  no_room : small_roster v b w c table list rows ≡ true → RosterRefuses v b s w c table list rows 1
  -- 'A bad job refuses the whole call with 10'
  bad_job : small_roster v b w c table list rows ≡ false → ¬ (Well v b) → RosterRefuses v b s w c table list rows 10
  -- 'else a 257th line with 16'
  long : small_roster v b w c table list rows ≡ false → Well v b → max_lines < length (lines_of s) → RosterRefuses v b s w c table list rows 16

-- the working memory after the call: w', c', table' and list'
pub record Zeroed (w c table list w' c' table' list' : List ℕ) : Type 0 where
  -- 'Working memory then ends zero'; 'Memory lent beyond these sizes is never changed'
  pub words : w' ≡ replicate ad_words 0 ++ drop ad_words w
  pub bytes : c' ≡ replicate ad_bytes_room 0 ++ drop ad_bytes_room c
  pub values : table' ≡ replicate table_words 0 ++ drop table_words table
  pub entries : list' ≡ replicate pair_slots 0 ++ drop pair_slots list

-- what a call that is not refused leaves and answers
pub record Matches (v b s w c table list rows w' c' table' list' rows' : List ℕ) (r : Result Report Refusal) : Type 0 where
  pub roomy : small_roster v b w c table list rows ≡ false
  pub job_well : Well v b
  pub few_lines : length (lines_of s) ≤ max_lines
  pub outcomes : List (Result Outcome Refusal)
  pub gives : Give (take ad_words v) (take ad_bytes_room b) (lines_of s) outcomes
  -- 'Add a report in exact numbers'
  pub answers : r ≡ Ok (report_of outcomes)
  -- outcomes in the lines' order, zeros behind them
  pub rows_are : rows' ≡ padded rows_words (rows_of outcomes) ++ drop rows_words rows
  pub zeroed : Zeroed w c table list w' c' table' list'

-- THE CONTRACT OF `match_roster`, over any memory: 'A bad job refuses the whole call with 10, else a 257th line with 16, place 0, nothing
-- written'
pub data Rostered (v b s w c table list rows w' c' table' list' rows' : List ℕ) (r : Result Report Refusal) : Type 0 where
  refused : {k : ℕ} → RosterRefuses v b s w c table list rows k → r ≡ Err (refusal k 0) → w' ≡ w → c' ≡ c → table' ≡ table → list' ≡ list → rows' ≡ rows →
      Rostered v b s w c table list rows w' c' table' list' rows' r
  matches : Matches v b s w c table list rows w' c' table' list' rows' r → Rostered v b s w c table list rows w' c' table' list' rows' r
