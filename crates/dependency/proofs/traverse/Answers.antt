use Rattle.std.proofs.Common.{◌∙◌}
use Rattle.links.specs.Laws.Roots.{roots_listed}
use Rattle.dependency.proofs.traverse.Goals as goal

pub run-t-requires-clause-roots : goal.run-t-requires-clause-roots
run-t-requires-clause-roots c = c.list_roots-n.ensures.roots_after ∙ roots_listed c.find_roots-r.ensures
