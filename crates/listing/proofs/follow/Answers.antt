use Rattle.std.proofs.Common.{sym, ◌∙◌}
use Rattle.listing.proofs.Rule.{follow_pass, follow_enter}
use Rattle.listing.proofs.follow.Goals as goal

pub returns-then-read-eq2 : goal.returns-then-read-eq2
returns-then-read-eq2 c = λ G len ta fl ls a. rw c.write.ensures
    (follow_pass a _ len ls c.requires.0 c.requires.3 (sym c.read.ensures ∙ c.if-read-eq2.true))

pub returns : goal.returns
returns c = λ G len ta fl ls a. rw c.enter.ensures
    (follow_enter a _ len ls c.requires.1 c.requires.3 (λ e. c.if-read-eq2.false (c.read.ensures ∙ e)))
