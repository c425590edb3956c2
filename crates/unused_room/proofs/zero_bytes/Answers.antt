use mathlib.Core.Path.{refl}
use Rattle.unused_room.proofs.Zeros.{start, next, end}
use Rattle.unused_room.proofs.zero_bytes.Goals as goal

pub loop-x-init : goal.loop-x-init
loop-x-init c = start _

pub loop-x-preserved : goal.loop-x-preserved
loop-x-preserved c = next _ _ _ _ c.loop-x-test.true c.loop-x.invariant refl

pub returns : goal.returns
returns c = end _ _ _ c.loop-x-test.false c.loop-x.invariant
