-- What `classad_match` gives: the contract of the match, and its answer as numbers. Assumes nothing.
use Rattle.std.specs.Prelude.{ℕ, ◌≡◌, Result, List}
use Rattle.matching.specs.Matching.{Matched}
use Rattle.syntax.specs.declared.Refusal.{Refusal}
use Rattle.matching.specs.declared.Outcome.{Outcome}
use Rattle.c_outcomes.specs.Outcomes.{outcome_numbers}

-- THE CONTRACT OF `classad_match`: n are the seven numbers after it. 'Every public function says what it returns and what each lent
-- slice then holds, whatever came in, refused calls too'
pub record MatchReported (v b w c : List ℕ) (budget : ℕ) (table list table' list' n : List ℕ) : Type 0 where
  pub outcome : Result Outcome Refusal
  pub matches : Matched v b w c budget table list table' list' outcome
  pub tells : n ≡ outcome_numbers outcome
