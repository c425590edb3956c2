use Rattle.closing.proofs.Closing.{retreat_open, retreat_close}
use Rattle.closing.proofs.retreat.Goals as goal

pub returns-then-s-read : goal.returns-then-s-read
returns-then-s-read c = λ G len ta fl ls a. retreat_open a _ _ _ _ len fl ls c.read.ensures c.if-s-read.true
    (c.node-from.ensures G a.slots_are) c.read-then-s-read.ensures c.min-low.ensures (c.back_open.ensures G a.size_is)

pub returns : goal.returns
returns c = λ G len ta fl ls a. retreat_close a _ _ _ _ len fl ls c.read.ensures c.if-s-read.false
