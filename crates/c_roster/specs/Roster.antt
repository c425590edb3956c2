-- What `classad_roster` gives: the contract of the roster, and its answer as numbers. Assumes nothing.
use Rattle.std.specs.Prelude.{ℕ, Result, Ok, Err, ◌≡◌, List, [], ◌∷◌}
use Rattle.roster.specs.Roster.{Rostered}
use Rattle.syntax.specs.Refusals.{number_of}
use Rattle.syntax.specs.declared.Refusal.{Refusal}
use Rattle.tally.specs.declared.Report.{Report}

-- the refusal's number or 0, then the report: 'lines, matched, unmatched, refused, sum of the job's ranks over matched lines'
abbrev pub roster_numbers : Result Report Refusal → List ℕ
roster_numbers (Err e) = number_of e.reason ∷ 0 ∷ 0 ∷ 0 ∷ 0 ∷ 0 ∷ []
roster_numbers (Ok r) = 0 ∷ r.lines ∷ r.matched ∷ r.unmatched ∷ r.refused ∷ r.rank_sum ∷ []

-- THE CONTRACT OF `classad_roster`: n are the six numbers after it. 'Every public function says what it returns and what each lent
-- slice then holds, whatever came in, refused calls too'
pub record RosterReported (v b s w c table list rows w' c' table' list' rows' n : List ℕ) : Type 0 where
  pub answer : Result Report Refusal
  pub rosters : Rostered v b s w c table list rows w' c' table' list' rows' answer
  pub tells : n ≡ roster_numbers answer
