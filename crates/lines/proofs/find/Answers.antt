use borrow.Author.Rules.{rules}
use mathlib.Core.Path.{sym, ◌∙◌}
use Rattle.lines.proofs.Finding.{passed, found, ended}
use Rattle.lines.proofs.find.Goals as goal

pub loop-i-init : goal.loop-i-init
loop-i-init c = c.skip-i.ensures

pub returns-then-text-i : goal.returns-then-text-i
returns-then-text-i c = sym (c.loop-i.invariant.1
    ∙ found c.args.byte c.args.text.now c.loop-i.i c.loop-i-test.true
    c.if-text-i.true)

pub loop-i-preserved : goal.loop-i-preserved
loop-i-preserved c = (
  search rules,
  c.loop-i.invariant.1
      ∙ passed c.args.byte c.args.text.now c.loop-i.i
      c.loop-i-test.true c.if-text-i.false,
)

pub returns : goal.returns
returns c = sym (c.loop-i.invariant.1
    ∙ ended c.args.byte c.args.text.now c.loop-i.i c.loop-i-test.false)
