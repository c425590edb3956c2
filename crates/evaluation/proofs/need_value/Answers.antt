use Rattle.std.proofs.Common.{ℕ, ◌<◌, ◌≤◌}
use Rattle.std.proofs.Math.Path.{subst}
use Rattle.links.specs.Pair.{pair_graph}
use Rattle.links.specs.Laws.Numbering.{stands_small}
use Rattle.slots.specs.Packed.{slot_at}
use Rattle.evaluation.specs.Evaluation.{seen}
use Rattle.evaluation.specs.Laws.Words.{need_circular, need_found, need_beyond}
use Rattle.evaluation.proofs.need_value.Goals.{else-marked-x-ne1-via-then-marked-x-ne1+else-i-led_count, else-marked-x-ne1-via-else-marked-x-ne1}
use Rattle.evaluation.proofs.need_value.Goals as goal

pub led_count-requires : goal.led_count-requires
led_count-requires c = (
  stands_small c.args.marked.sides.first.words.now c.args.marked.sides.second.words.now c.args.x c.requires.node,
  c.requires.target_room,
)

pub led_to-y-requires : goal.led_to-y-requires
led_to-y-requires c = (
  stands_small c.args.marked.sides.first.words.now c.args.marked.sides.second.words.now c.args.x c.requires.node,
  c.requires.target_room,
  subst (λ (n : ℕ). c.args.i < n) (c.led_count.ensures.by_index _ _) c.if-i-led_count.true,
)

pub returns-then-i-led_count : goal.returns-then-i-led_count
returns-then-i-led_count c = λ b d.
    need_found (pair_graph c.args.marked.sides.first.words.now b c.args.marked.sides.second.words.now d) c.args.marked.target.now c.args.marked.flag.now c.args.x c.args.i
    (λ y. seen (slot_at c.args.table.now y)) c.if-marked-x-ne1.true
    (subst (λ (n : ℕ). c.args.i < n) (c.led_count.ensures.by_index b d) c.if-i-led_count.true) (c.led_to-y.ensures.by_index b d) c.value_in.ensures

pub returns-else-marked-x-ne1 : goal.returns-else-marked-x-ne1
returns-else-marked-x-ne1 c = elim c.else-marked-x-ne1.branch [
  | else-marked-x-ne1-via-then-marked-x-ne1+else-i-led_count w ↦ λ b d.
      need_beyond (pair_graph c.args.marked.sides.first.words.now b c.args.marked.sides.second.words.now d) c.args.marked.target.now c.args.marked.flag.now c.args.x c.args.i
      (λ y. seen (slot_at c.args.table.now y)) w.if-marked-x-ne1.true
      (subst (λ (n : ℕ). n ≤ c.args.i) (w.led_count.ensures.by_index b d) w.if-i-led_count.false)
  | else-marked-x-ne1-via-else-marked-x-ne1 w ↦ λ b d.
      need_circular (pair_graph c.args.marked.sides.first.words.now b c.args.marked.sides.second.words.now d) c.args.marked.target.now c.args.marked.flag.now c.args.x c.args.i
      (λ y. seen (slot_at c.args.table.now y)) w.if-marked-x-ne1.false
]
