use Rattle.std.proofs.Common.{sym, ◌∙◌}
use Rattle.tree_check.proofs.Tests.{places_few}
use Rattle.tree_check.proofs.real_walk.Goals as goal

pub real_length-requires : goal.real_length-requires
real_length-requires c = places_few _ _ (sym c.is_real.ensures ∙ c.if-is_real.true)
