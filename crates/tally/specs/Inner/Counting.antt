-- What inner functions are given and ensure. Assumes nothing.
use Rattle.std.specs.Prelude.{Result, ◌+◌, ◌*◌, ◌^◌, ◌≤◌, ◌≡◌, cond, List, length}
use Rattle.matching.specs.declared.Outcome.{Outcome}
use Rattle.syntax.specs.declared.Refusal.{Refusal}
use Rattle.tally.specs.declared.Report.{Report}
use Rattle.tally.specs.Tally.{is_matched, is_unmatched, is_refused, job_rank, many, total}

-- a report of so few lines that one more fits
pub record Few (r : Report) : Type 0 where
  pub few_lines : r.lines ≤ 255
  pub few_matched : r.matched ≤ r.lines
  pub few_unmatched : r.unmatched ≤ r.lines
  pub few_refused : r.refused ≤ r.lines
  pub small_sum : r.rank_sum ≤ r.lines * 2 ^ 32

-- the report q is r with one outcome more
pub record Plus (r : Report) (o : Result Outcome Refusal) (q : Report) : Type 0 where
  pub one_line : q.lines ≡ r.lines + 1
  pub one_matched : q.matched ≡ r.matched + cond (is_matched o) 1 0
  pub one_unmatched : q.unmatched ≡ r.unmatched + cond (is_unmatched o) 1 0
  pub one_refused : q.refused ≡ r.refused + cond (is_refused o) 1 0
  pub more_sum : q.rank_sum ≡ r.rank_sum + job_rank o
  pub sum_grows : q.rank_sum ≤ r.rank_sum + 2 ^ 32

-- the report r of some outcomes, within its bounds
pub record Tallied (os : List (Result Outcome Refusal)) (r : Report) : Type 0 where
  pub lines_are : r.lines ≡ length os
  pub matched_are : r.matched ≡ many is_matched os
  pub unmatched_are : r.unmatched ≡ many is_unmatched os
  pub refused_are : r.refused ≡ many is_refused os
  pub sum_is : r.rank_sum ≡ total job_rank os
  pub sum_small : r.rank_sum ≤ length os * 2 ^ 32
