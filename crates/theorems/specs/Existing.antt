-- EVERY TWO WELL-FORMED ADS HAVE A MATCH, one only, with every budget: verdict, ranks, steps, table and list are functions of the two
-- ads. Assumes nothing.
use Rattle.std.specs.Prelude.{ℕ, ◌≡◌, Bool, cond, List, ltb}
use Rattle.matching.specs.Matching.{Match}
use Rattle.matching.proofs.Laws.OneAnswer.{Same}
use Rattle.matching.specs.declared.Outcome.{Outcome}
use Rattle.matching.specs.declared.Outcome.TheVariants.{Finished, Unfinished}

-- THE MATCH of two ads with a budget: there is one, and every other is the same
pub record TheMatch (v b w c : List ℕ) (budget : ℕ) : Type 0 where
  pub table : List ℕ
  pub list : List ℕ
  pub answer : Outcome
  pub is_match : Match v b w c budget table list answer
  pub only : {table' list' : List ℕ} {r : Outcome} → Match v b w c budget table' list' r → Same table list answer table' list' r

-- 'A budget not below the list's length covers it; the match is then finished and answers verdict, both ranks and steps, otherwise the
-- steps done.'
abbrev pub answer_at : Bool → ℕ → ℕ → ℕ → ℕ → ℕ → Outcome
answer_at verdict i j steps count budget = cond (ltb budget steps) (Unfinished budget count) (Finished verdict i j steps count)

-- THE ANSWER of two ads: their verdict, ranks, steps and moves, no budget being given, and what every match of them answers
pub record TheAnswer (v b w c : List ℕ) : Type 0 where
  -- 'Matched: both Requirements are true, nothing else.'
  pub verdict : Bool
  -- 'A rank is the Integer if it is 0 or more, otherwise 0'
  pub first_rank : ℕ
  pub second_rank : ℕ
  pub steps : ℕ
  pub count : ℕ
  pub has_match : (budget : ℕ) → (table list : List ℕ) × Match v b w c budget table list (answer_at verdict first_rank second_rank steps count budget)
  pub only : {budget : ℕ} {table list : List ℕ} {r : Outcome} → Match v b w c budget table list r → r ≡ answer_at verdict first_rank second_rank steps count budget
