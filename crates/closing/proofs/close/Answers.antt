use Rattle.closing.proofs.Closing.{close_last, close_newer}
use Rattle.closing.proofs.close.Goals as goal

pub returns-then-top-x : goal.returns-then-top-x
returns-then-top-x c = λ G len ta fl ls e. rw c.write.ensures (close_last G _ _ _ _ len ta _ fl ls c.requires.3 c.requires.1
    c.if-top-x.true c.saturating_sub-rest.ensures (c.node-below.ensures G e.slots_are)
    (c.node-from.ensures G e.slots_are) c.read-low.ensures (c.back_closed.ensures G e.size_is))

pub returns : goal.returns
returns c = λ G len ta fl ls e. rw c.write-2.ensures (close_newer G _ _ _ _ len ta _ fl ls c.requires.3 c.requires.2
    c.if-top-x.false c.saturating_sub-rest.ensures (c.node-below.ensures G e.slots_are) (c.next_open.ensures G e.size_is))
