use Rattle.names.proofs.Folding.{folding_first, folding_next, folding_end}
use borrow.Author.Rules.{rules}
use Rattle.names.proofs.fingerprint.Goals as goal

pub loop-b-init : goal.loop-b-init
loop-b-init c = folding_first _

pub loop-b-preserved : goal.loop-b-preserved
loop-b-preserved c = folding_next c.loop-b.invariant c.loop-b-test.true
    c.mix-h.ensures.value c.mix-h.ensures.small

pub returns : goal.returns
returns c = folding_end c.loop-b.invariant (search rules)
