use Rattle.std.proofs.Common.{sym, ◌∙◌}
use Rattle.components.proofs.Loops.{explore_cross, explore_tie, explore_enter}
use Rattle.marks.proofs.Slices.{flagged_by}
use Rattle.components.proofs.explore.Goals as goal

pub returns-then-h-eq0-clause-ls_after : goal.returns-then-h-eq0-clause-ls_after
returns-then-h-eq0-clause-ls_after c = λ G len ta ls a. rw (c.at.ensures, c.write.ensures) (explore_cross a _ _ _ _ len _ ls c.args.s.at_slot
    c.requires.room.0 (sym c.read.ensures ∙ c.if-read-eq1.true) c.read-h.ensures c.if-h-eq0.true)

pub returns-then-read-eq1-clause-ls_after : goal.returns-then-read-eq1-clause-ls_after
returns-then-read-eq1-clause-ls_after c = λ G len ta ls a. rw (c.at-then-read-eq1.ensures, c.pass.ensures.0, c.pass.ensures.1) (explore_tie a _ _ _ _ len _ ls
    c.args.s.at_slot c.requires.room.0 c.requires.room.1 (sym c.read.ensures ∙ c.if-read-eq1.true)
    c.read-h.ensures c.if-h-eq0.false c.min.ensures)

pub returns-then-read-eq1-clause-flags : goal.returns-then-read-eq1-clause-flags
returns-then-read-eq1-clause-flags c = flagged_by _ _ _ c.pass.ensures.1

pub returns-clause-ls_after : goal.returns-clause-ls_after
returns-clause-ls_after c = λ G len ta ls a. rw (c.put_on.ensures, c.enter.ensures) (explore_enter a _ _ _ _ len _ ls
    c.requires.place.4 c.requires.room.0 (λ e. c.if-read-eq1.false (c.read.ensures ∙ e)))
