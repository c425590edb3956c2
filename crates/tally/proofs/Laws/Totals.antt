-- One outcome more in a report. Assumes nothing.
use Rattle.std.specs.Prelude.{ℕ, Result, ◌+◌, ◌≤◌, ◌<◌, ◌≡◌, refl, Bool, true, false, cond, List, [], ◌∷◌, ◌++◌, length}
use Rattle.std.proofs.Common.{arith, sym, ap, ◌∙◌, length-append}
use Rattle.matching.specs.declared.Outcome.{Outcome}
use Rattle.syntax.specs.declared.Refusal.{Refusal}
use Rattle.tally.specs.declared.Report.{Report}
use Rattle.tally.specs.Tally.{is_matched, is_unmatched, is_refused, job_rank, total, many, report_of}
use Rattle.tally.specs.Inner.Counting.{Few, Plus, Tallied}

pub total_more : (f : Result Outcome Refusal → ℕ) (os : List (Result Outcome Refusal)) (o : Result Outcome Refusal) → total f (os ++ o ∷ []) ≡ total f os + f o
unfolding total
total_more f [] o = omega arith
total_more f (x ∷ os) o = let h = total_more f os o in omega arith

-- no more are so than there are
pub many_few : (f : Result Outcome Refusal → Bool) (os : List (Result Outcome Refusal)) → many f os ≤ length os
unfolding total
many_few f [] = omega arith
many_few f (o ∷ os) = go (f o) (many_few f os)
  where
    go : (t : Bool) → many f os ≤ length os → cond t 1 0 + many f os ≤ length (o ∷ os)
    go true h = omega arith
    go false h = omega arith

module _ {os : List (Result Outcome Refusal)} {r : Report} where
  pub tallied_few : Tallied os r → length os < 256 → Few r
  tallied_few t h = record {
    few_lines = let e = t.lines_are in omega arith;
    few_matched = let e = t.lines_are in let k = t.matched_are in omega (arith, many_few is_matched os);
    few_unmatched = let e = t.lines_are in let k = t.unmatched_are in omega (arith, many_few is_unmatched os);
    few_refused = let e = t.lines_are in let k = t.refused_are in omega (arith, many_few is_refused os);
    small_sum = rw t.lines_are t.sum_small;
  }

  pub tallied_more : {o : Result Outcome Refusal} {q : Report} → Tallied os r → Plus r o q → Tallied (os ++ o ∷ []) q
  tallied_more {o} {q} t p = record {
    lines_are = let e = t.lines_are in let k = p.one_line in omega (arith, length-append os (o ∷ []));
    matched_are = p.one_matched ∙ ap (λ (n : ℕ). n + cond (is_matched o) 1 0) t.matched_are ∙ sym (total_more (λ x. cond (is_matched x) 1 0) os o);
    unmatched_are = p.one_unmatched ∙ ap (λ (n : ℕ). n + cond (is_unmatched o) 1 0) t.unmatched_are ∙ sym (total_more (λ x. cond (is_unmatched x) 1 0) os o);
    refused_are = p.one_refused ∙ ap (λ (n : ℕ). n + cond (is_refused o) 1 0) t.refused_are ∙ sym (total_more (λ x. cond (is_refused x) 1 0) os o);
    sum_is = p.more_sum ∙ ap (λ (n : ℕ). n + job_rank o) t.sum_is ∙ sym (total_more job_rank os o);
    sum_small = let e = t.sum_small in let k = p.sum_grows in omega (arith, length-append os (o ∷ []));
  }

  -- a report is its numbers
  pub tallied_report : Tallied os r → r ≡ report_of os
  tallied_report t = λ i. record { lines = t.lines_are i; matched = t.matched_are i; unmatched = t.unmatched_are i; refused = t.refused_are i; rank_sum = t.sum_is i }

-- no outcome, nothing counted
pub tallied_none : Tallied [] (record { lines = 0; matched = 0; unmatched = 0; refused = 0; rank_sum = 0 })
unfolding total
tallied_none = record { lines_are = refl; matched_are = refl; unmatched_are = refl; refused_are = refl; sum_is = refl; sum_small = omega arith }
