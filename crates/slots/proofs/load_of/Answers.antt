-- `slots::load_of` meets its contract. Assumes nothing.
use Rattle.slots.proofs.Round.{packs_as}
use borrow.Author.Rules.{rules}
use Rattle.slots.proofs.load_of.Goals as goal

pub returns-in-Real : goal.returns-in-Real
returns-in-Real c = packs_as _ c.in-Real.is (search rules) c.bits_of.ensures
