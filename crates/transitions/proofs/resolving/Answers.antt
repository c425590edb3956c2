use Rattle.std.proofs.Common.{arith}
use Rattle.transitions.proofs.Steps.{size_few, nth_stands, nth_small, mark_nodes}
use Rattle.transitions.proofs.resolving.Goals as goal

pub node_at-x-requires : goal.node_at-x-requires
node_at-x-requires c = omega (arith, size_few c.args.pair.ads, c.requires.0)

pub found_at-requires : goal.found_at-requires
found_at-requires c = nth_stands c.args.pair.ads c.requires.0 c.node_at-x.ensures

pub resolve-requires : goal.resolve-requires
resolve-requires c = (
  omega (arith, c.size.ensures, c.requires.0),
  omega (arith, nth_small c.args.pair.ads c.requires.0 c.node_at-x.ensures, c.requires.1),
  omega (arith, c.found_at.ensures.small, mark_nodes c.found_at.result),
)
