use Rattle.numerals.proofs.Laws.{fraction_end, fraction_other, fraction_some, fraction_none}
use Rattle.numerals.proofs.fraction.Goals as goal
use Rattle.numerals.proofs.fraction.Goals.{else-at-text-via-then-at-text+else-text-at-eq46, else-at-text-via-else-at-text}

pub returns-then-at-end : goal.returns-then-at-end
returns-then-at-end c = fraction_some c.args.text.now c.args.at c.if-at-text.true c.if-text-at-eq46.true c.run-end.result c.run-end.ensures c.if-at-end.true

pub returns-else-at-end : goal.returns-else-at-end
returns-else-at-end c = fraction_none c.args.text.now c.args.at c.if-at-text.true c.if-text-at-eq46.true c.run-end.result c.run-end.ensures c.if-at-end.false

pub returns-else-at-text : goal.returns-else-at-text
returns-else-at-text c = elim c.else-at-text.branch [
  | else-at-text-via-then-at-text+else-text-at-eq46 w ↦ fraction_other c.args.text.now c.args.at w.if-at-text.true w.if-text-at-eq46.false
  | else-at-text-via-else-at-text w ↦ fraction_end c.args.text.now c.args.at w.if-at-text.false c.requires
]
