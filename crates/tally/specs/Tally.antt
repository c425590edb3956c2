-- What the outcomes of a roster come to: the words of each, and the report. Assumes nothing.
use Rattle.std.specs.Prelude.{ℕ, Result, Ok, Err, ◌+◌, Bool, true, false, cond, not, List, [], ◌∷◌, ◌++◌, length}
use Rattle.c_outcomes.specs.Outcomes.{outcome_numbers}
use Rattle.matching.specs.declared.Outcome.{Outcome}
use Rattle.matching.specs.declared.Outcome.TheVariants.{Finished, Unfinished}
use Rattle.syntax.specs.declared.Refusal.{Refusal}
use Rattle.tally.specs.declared.Report.{Report}

-- where a refused line breaks a rule
abbrev pub place_of : Result Outcome Refusal → ℕ
place_of (Err r) = r.place
place_of (Ok o) = 0

-- the eight words of an outcome: the numbers of a match's answer, then the place of a refusal
abbrev pub row_of : Result Outcome Refusal → List ℕ
row_of o = outcome_numbers o ++ (place_of o ∷ [])

-- the words of all, in their order
unfoldable pub rows_of : List (Result Outcome Refusal) → List ℕ
rows_of [] = []
rows_of (o ∷ os) = row_of o ++ rows_of os

abbrev pub is_matched : Result Outcome Refusal → Bool
is_matched (Err r) = false
is_matched (Ok (Finished matched i j steps count)) = matched
is_matched (Ok (Unfinished steps count)) = false

abbrev pub is_unmatched : Result Outcome Refusal → Bool
is_unmatched (Err r) = false
is_unmatched (Ok (Finished matched i j steps count)) = not matched
is_unmatched (Ok (Unfinished steps count)) = false

abbrev pub is_refused : Result Outcome Refusal → Bool
is_refused (Err r) = true
is_refused (Ok (Finished matched i j steps count)) = false
is_refused (Ok (Unfinished steps count)) = false

-- what an outcome adds to the sum of ranks
abbrev pub job_rank : Result Outcome Refusal → ℕ
job_rank (Err r) = 0
job_rank (Ok (Finished matched i j steps count)) = cond matched i 0
job_rank (Ok (Unfinished steps count)) = 0

-- a number of each outcome, summed
unfoldable pub total : (Result Outcome Refusal → ℕ) → List (Result Outcome Refusal) → ℕ
total f [] = 0
total f (o ∷ os) = f o + total f os

-- of how many outcomes f is true
abbrev pub many : (Result Outcome Refusal → Bool) → List (Result Outcome Refusal) → ℕ
many f os = total (λ o. cond (f o) 1 0) os

-- THE REPORT: 'lines, matched, unmatched, refused, sum of the job's ranks over matched lines'; 'each is defined from the list of outcomes'
abbrev pub report_of : List (Result Outcome Refusal) → Report
report_of os = record {
  lines = length os;
  matched = many is_matched os;
  unmatched = many is_unmatched os;
  refused = many is_refused os;
  rank_sum = total job_rank os;
}
