use Rattle.std.proofs.Common.{cond, ltb, ap, ◌∙◌, ◌+◌, ◌-◌, ℕ}
use Rattle.links.specs.Pair.{pair_graph}
use Rattle.links.specs.Laws.Numbering.{below_yes, below_no}
use Rattle.links.proofs.pair.AdPair.node_at.Goals as goal

pub returns-then-i-n : goal.returns-then-i-n
unfolding pair_graph
returns-then-i-n c =
    below_yes _ c.if-i-n.true
    ∙ ap (λ (u : ℕ). cond (ltb c.args.i u) c.args.i (1024 + (c.args.i - u))) c.args.self.first.measured.nodes_are

pub returns-else-i-n : goal.returns-else-i-n
unfolding pair_graph
returns-else-i-n c =
    below_no _ c.if-i-n.false
    ∙ ap (λ (u : ℕ). cond (ltb c.args.i u) c.args.i (1024 + (c.args.i - u))) c.args.self.first.measured.nodes_are
