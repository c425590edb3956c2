use Rattle.std.proofs.Common.{refl, arith}
use Rattle.dependency.proofs.Turns.{turn_first, turn_end, turn_fits, turn_small, turn_count, turn_next}
use Rattle.dependency.proofs.run.Goals as goal

pub loop-pair-init : goal.loop-pair-init
loop-pair-init c = turn_first c.args.pair.ads c.requires.roots c.requires.ready.0 c.requires.ready.1 refl c.size.ensures c.first_place.ensures

pub transition-s-requires-clause-room : goal.transition-s-requires-clause-room
transition-s-requires-clause-room c =
    (c.loop-pair.invariant.going.roomy, turn_fits c.loop-pair.invariant c.ended.ensures c.loop-pair-test.true)

pub overflow_add-count : goal.overflow_add-count
overflow_add-count c = omega (arith, turn_count c.loop-pair.invariant c.ended.ensures c.loop-pair-test.true)

pub loop-pair-smaller : goal.loop-pair-smaller
loop-pair-smaller c = omega (arith, turn_small c.loop-pair.invariant c.ended.ensures c.loop-pair-test.true)

pub loop-pair-preserved : goal.loop-pair-preserved
loop-pair-preserved c =
    turn_next c.loop-pair.invariant c.ended.ensures c.loop-pair-test.true c.transition-s.ensures.list_after c.transition-s.ensures.room
    c.transition-s.ensures.flags c.transition-s.auto.target c.transition-s.auto.marks c.transition-s.auto.flag c.transition-s.auto.list

pub returns : goal.returns
returns c = turn_end c.loop-pair.invariant c.ended.ensures c.loop-pair-test.false
