use Rattle.std.proofs.Common.{arith}
use Rattle.running.proofs.Loop.{turn_first, turn_step, turn_next, turn_end}
use Rattle.running.proofs.run.Goals as goal

pub loop-n-init : goal.loop-n-init
loop-n-init c = turn_first c.args.marked c.args.list.now c.args.k c.args.table.now

pub step-requires : goal.step-requires
step-requires c = turn_step c.args.marked c.args.list.now c.args.k c.args.table.now c.requires
    (omega (arith, c.loop-n-test.true, c.min-steps.ensures, c.saturating_sub.ensures))

pub loop-n-preserved : goal.loop-n-preserved
loop-n-preserved c = turn_next c.args.marked c.args.list.now c.args.k c.args.table.now c.requires
    (omega (arith, c.loop-n-test.true, c.min-steps.ensures, c.saturating_sub.ensures)) c.loop-n.invariant c.step.ensures

pub returns : goal.returns
returns c = turn_end c.args.marked c.args.list.now c.args.k c.args.table.now
    (omega (arith, c.from-most.ensures, c.min-steps.ensures, c.saturating_sub.ensures))
    (omega (arith, c.loop-n.auto.n-end, c.loop-n-test.false)) c.loop-n.invariant
