-- THE LIST OF A MATCH: no entry stands twice, and there are no more entries than the two ads have nodes. So no match takes more steps
-- than that, and a budget of 2,048 is always enough. Assumes nothing.
use Rattle.std.specs.Prelude.{ℕ, ◌≤◌, min, ◌≡◌, Bool, Result, Ok, List, length}
use Rattle.graph.specs.Members.{Distinct}
use Rattle.matching.specs.declared.Outcome.{Outcome}
use Rattle.matching.specs.declared.Outcome.TheVariants.{Finished, Unfinished}
use Rattle.syntax.specs.declared.Refusal.{Refusal}

-- the steps of an answer: 'its count being the steps'
abbrev pub steps_of : Outcome → ℕ
steps_of (Finished matched i j steps count) = steps
steps_of (Unfinished steps count) = steps

-- the moves of an answer: 'its result carrying a count'
abbrev pub count_of : Outcome → ℕ
count_of (Finished matched i j steps count) = count
count_of (Unfinished steps count) = count

-- 'the match is then finished and answers verdict, both ranks and steps': an answer with so many steps, and so many
-- moves
pub record Done (steps count : ℕ) (r : Outcome) : Type 0 where
  pub verdict : Bool
  pub first_rank : ℕ
  pub second_rank : ℕ
  pub answers : r ≡ Finished verdict first_rank second_rank steps count

-- what holds of the list of a match of two ads that have n nodes together, and of its answer; count is that of its moves
pub record Listed (n budget : ℕ) (order : List ℕ) (count : ℕ) (r : Outcome) : Type 0 where
  -- 'a node already in the list is not entered again'
  pub once : Distinct order
  -- 'the nodes of both ads'
  pub short : length order ≤ n
  -- 'a list of 2,048 entries' has room for it
  pub room : length order ≤ 2048
  -- 'steps done are a number in the result, equal to the smaller of budget and the list's length'
  pub steps : steps_of r ≡ min budget (length order)
  pub few_steps : steps_of r ≤ n
  -- 'A budget not below the list's length covers it; the match is then finished'
  pub finishes : n ≤ budget → Done (length order) count r
  -- so a budget of 2,048 covers every list
  pub always : 2048 ≤ budget → Done (length order) count r

-- an answer that is no refusal, of two ads that have n nodes together
pub record Within (n budget : ℕ) (r : Result Outcome Refusal) : Type 0 where
  pub outcome : Outcome
  pub answers : r ≡ Ok outcome
  -- 'its count being the steps'
  pub few_steps : steps_of outcome ≤ n
  pub in_budget : steps_of outcome ≤ budget
  -- 'A budget not below the list's length covers it; the match is then finished'
  pub finishes : n ≤ budget → Done (steps_of outcome) (count_of outcome) outcome
  pub always : 2048 ≤ budget → Done (steps_of outcome) (count_of outcome) outcome
