use Rattle.links.specs.Laws.Numbering.{need_none, need_led}
use Rattle.links.specs.Pair.{pair_graph}
use Rattle.links.proofs.sides.Sides.need_count.Goals as goal

pub returns-then-flag-x-eq1-clause-by_index : goal.returns-then-flag-x-eq1-clause-by_index
returns-then-flag-x-eq1-clause-by_index c = λ b d.
    need_none (pair_graph c.args.self.first.words.now b c.args.self.second.words.now d) c.args.x c.args.target.now c.args.flag.now c.if-flag-x-eq1.true

pub returns-else-flag-x-eq1-clause-by_index : goal.returns-else-flag-x-eq1-clause-by_index
returns-else-flag-x-eq1-clause-by_index c = λ b d.
    need_led (pair_graph c.args.self.first.words.now b c.args.self.second.words.now d) c.args.x c.args.target.now c.args.flag.now c.if-flag-x-eq1.false (c.led_count.ensures.by_index b d)
