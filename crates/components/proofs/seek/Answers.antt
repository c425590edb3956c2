use Rattle.std.proofs.Common.{sym, ◌∙◌}
use Rattle.components.proofs.Loops.{seek_skip, seek_enter}
use Rattle.components.proofs.seek.Goals as goal

pub returns-then-read-eq1 : goal.returns-then-read-eq1
returns-then-read-eq1 c = λ G len ta fl ls a. seek_skip a len ta _ fl ls (c.searched_to.ensures G a.size_is)
    (sym c.read.ensures ∙ c.if-read-eq1.true)

pub returns : goal.returns
returns c = λ G len ta fl ls a. rw (c.put_on.ensures, c.enter.ensures) (seek_enter a len ta _ fl ls c.requires.1
    c.requires.2 (λ e. c.if-read-eq1.false (c.read.ensures ∙ e)))
