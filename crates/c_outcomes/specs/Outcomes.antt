-- What a match answers, as numbers. Assumes nothing.
use Rattle.std.specs.Prelude.{ℕ, cond, Result, Ok, Err, List, [], ◌∷◌}
use Rattle.syntax.specs.Refusals.{number_of}
use Rattle.syntax.specs.declared.Refusal.{Refusal}
use Rattle.matching.specs.declared.Outcome.{Outcome}
use Rattle.matching.specs.declared.Outcome.TheVariants.{Finished, Unfinished}

-- the refusal's number or 0, then whether finished, whether matched, both ranks, the steps and the transitions: 'the match is then
-- finished and answers verdict, both ranks and steps, otherwise the steps done'
abbrev pub outcome_numbers : Result Outcome Refusal → List ℕ
outcome_numbers (Err r) = number_of r.reason ∷ 0 ∷ 0 ∷ 0 ∷ 0 ∷ 0 ∷ 0 ∷ []
outcome_numbers (Ok (Finished matched i j steps count)) = 0 ∷ 1 ∷ cond matched 1 0 ∷ i ∷ j ∷ steps ∷ count ∷ []
outcome_numbers (Ok (Unfinished steps count)) = 0 ∷ 0 ∷ 0 ∷ 0 ∷ 0 ∷ steps ∷ count ∷ []
