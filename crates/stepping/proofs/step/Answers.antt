use mathlib.Core.List.{map}
use Rattle.links.specs.Laws.Numbering.{stands_small}
use Rattle.slots.specs.Packed.{slot_at}
use Rattle.evaluation.specs.Evaluation.{seen}
use Rattle.evaluation.specs.Marked.{needs_of, rule_of_node}
use Rattle.evaluation.specs.Laws.Words.{rule_of_lem, step_stored}
use Rattle.stepping.proofs.step.Goals as goal

pub node_at-requires : goal.node_at-requires
node_at-requires c = stands_small c.args.marked.sides.first.words.now c.args.marked.sides.second.words.now c.args.x c.requires.node

pub returns : goal.returns
returns c =
    let s = c.args.marked.sides in
    step_stored (needs_of c.args.marked) (rule_of_node c.args.marked)
    (rule_of_lem s.first.words.now s.first.bytes.now s.second.words.now s.second.bytes.now c.args.x
    (map (λ y. seen (slot_at c.args.table.now y)) (needs_of c.args.marked c.args.x)) c.apply-value.ensures
    c.node_at.ensures (c.need_value-p.ensures s.first.bytes.now s.second.bytes.now) (c.need_value-q.ensures s.first.bytes.now s.second.bytes.now)
    (c.need_value-r.ensures s.first.bytes.now s.second.bytes.now)) c.store.ensures
