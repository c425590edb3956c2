use Rattle.std.proofs.Common.{arith}
use Rattle.transitions.proofs.Steps.{size_few, nth_small}
use Rattle.transitions.proofs.starting.Goals as goal

pub node_at-requires : goal.node_at-requires
node_at-requires c = omega (arith, size_few c.args.ads, c.requires.0)

pub seek-requires : goal.seek-requires
seek-requires c = (omega (arith, size_few c.args.ads, c.requires.0), nth_small c.args.ads c.requires.0 c.node_at.ensures, c.requires.1)
