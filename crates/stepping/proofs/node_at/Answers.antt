use Rattle.evaluation.specs.Laws.Words.{node_first, node_second}
use Rattle.stepping.proofs.node_at.Goals as goal

pub returns-then-x-lt-NODES : goal.returns-then-x-lt-NODES
returns-then-x-lt-NODES c =
    node_first c.args.sides.first.words.now c.args.sides.second.words.now c.args.x c.if-x-lt-NODES.true c.node_from.ensures

pub returns-else-x-lt-NODES : goal.returns-else-x-lt-NODES
returns-else-x-lt-NODES c =
    node_second c.args.sides.first.words.now c.args.sides.second.words.now c.args.x c.if-x-lt-NODES.false c.node_from-else-x-lt-NODES.ensures
