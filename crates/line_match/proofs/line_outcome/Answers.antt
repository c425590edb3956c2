use native.Mathlib.Omega.{arith}
use Prim.Native.Nat.{◌+◌}
use Rattle.std.proofs.lemmas.Result.{err_from_is_err_and}
use Rattle.line_match.proofs.Reading.{was_refused, was_accepted}
use Rattle.line_match.proofs.Giving.{to_end, line_untabbed, line_refused, line_matched}
use Rattle.line_match.proofs.line_outcome.Goals as goal

pub returns-then-line-tab : goal.returns-then-line-tab
returns-then-line-tab c = line_untabbed c.find-tab.ensures c.if-line-tab.true

pub returns-in_err-counts : goal.returns-in_err-counts
returns-in_err-counts c =
    let r = err_from_is_err_and c.from_residual.result c.from_residual.ensures.1 in
    let x = was_refused (omega arith) (omega arith) c.read.ensures c.in_err-counts.was in
    rw (r.1, r.2) (line_refused c.find-tab.ensures c.if-line-tab.false
    (to_end (c.find-tab.result + 1) c.args.line.now) x.reads x.is)

pub invariant_of-bench : goal.invariant_of-bench
invariant_of-bench c = record {
  measured = (was_accepted c.requires.words c.requires.bytes c.read.ensures c.in_ok-counts.was).measured;
}

pub returns : goal.returns
returns c = line_matched c.find-tab.ensures c.if-line-tab.false
    (to_end (c.find-tab.result + 1) c.args.line.now)
    (was_accepted c.requires.words c.requires.bytes c.read.ensures c.in_ok-counts.was)
    c.match_bench.ensures
