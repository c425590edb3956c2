use Rattle.std.proofs.Common.{sym, ◌∙◌}
use Rattle.listing.proofs.Rule.{begin_omit, begin_enter}
use Rattle.listing.proofs.begin.Goals as goal

pub returns-then-read-eq2 : goal.returns-then-read-eq2
returns-then-read-eq2 c = λ G len ta fl ls a. begin_omit a len ta _ fl ls (sym c.read.ensures ∙ c.if-read-eq2.true)

pub returns : goal.returns
returns c = λ G len ta fl ls a. rw c.enter.ensures (begin_enter a len ta _ fl ls c.requires.1 c.requires.2
    (λ e. c.if-read-eq2.false (c.read.ensures ∙ e)))
