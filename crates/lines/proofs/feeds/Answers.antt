use Rattle.std.proofs.Common.{rules, arith, sym}
use Rattle.lines.proofs.Counting.{no_feeds, fed, unfed}
use Rattle.lines.proofs.feeds.Goals as goal
use Rattle.lines.proofs.feeds.Goals.{then-block-j-eq10, else-block-j-eq10}

pub loop-j-init : goal.loop-j-init
loop-j-init c = (search rules, search rules, sym no_feeds)

pub loop-j-preserved : goal.loop-j-preserved
loop-j-preserved c =
    elim c.if-block-j-eq10.branch [
      | then-block-j-eq10 w ↦ let e = fed c.args.block.now c.loop-j.j c.loop-j-test.true w.if-block-j-eq10.true in (omega arith, omega arith, omega arith)
      | else-block-j-eq10 w ↦ let e = unfed c.args.block.now c.loop-j.j c.loop-j-test.true w.if-block-j-eq10.false in (omega arith, omega arith, omega arith)
    ]
