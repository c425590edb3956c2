use Rattle.std.proofs.Common.{arith}
use Rattle.links.specs.Laws.Numbering.{definitions_fit}
use Rattle.lookup.proofs.fill.Goals as goal

pub print_at-at-requires : goal.print_at-at-requires
print_at-at-requires c = omega (arith, definitions_fit c.args.side.measured)

pub name-requires : goal.name-requires
name-requires c = omega (arith, definitions_fit c.args.side.measured)
