use Rattle.leaves.specs.Inner.Marks.{mark_at, memory}
use Rattle.leaves.proofs.Laws.{other_exact, other_within}
use Rattle.leaves.proofs.other_leaf.Goals as goal

pub returns-clause-within : goal.returns-clause-within
returns-clause-within c =
    other_within c.args.text.now c.args.start c.args.from.place (mark_at c.args.from) c.args.begun (memory c.args.words.now c.args.bytes.now) _ c.in_ok-room.ensures _ _ c.in_ok-point.ensures _ _ c.in_ok-name.ensures c.name_leaf.result c.requires.short c.name_leaf.ensures

pub returns-clause-exact : goal.returns-clause-exact
returns-clause-exact c =
    other_exact c.args.text.now c.args.start c.args.from.place (mark_at c.args.from) c.args.begun (memory c.args.words.now c.args.bytes.now) _ c.in_ok-room.ensures _ _ c.in_ok-point.ensures _ _ c.in_ok-name.ensures c.name_leaf.result c.name_leaf.ensures
