use Rattle.std.proofs.Common.{sym, ◌∙◌}
use Rattle.tree_check.proofs.Tests.{string_room}
use Rattle.tree_check.proofs.string_walk.Goals as goal

pub string_length-requires : goal.string_length-requires
string_length-requires c = string_room _ (sym c.is_string.ensures ∙ c.if-is_string.true)
