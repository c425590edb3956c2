use borrow.Author.Rules.{rules}
use native.Mathlib.Omega.{arith}
use mathlib.Core.Path.{refl, ◌∙◌}
use Rattle.lines.proofs.Finding.{block_passed}
use Rattle.lines.proofs.skip.Goals as goal

pub loop-i-init : goal.loop-i-init
loop-i-init c = (search rules, refl)

pub returns-then-has : goal.returns-then-has
returns-then-has c = c.loop-i.invariant

pub loop-i-preserved : goal.loop-i-preserved
loop-i-preserved c = (
  search rules,
  c.loop-i.invariant.1
      ∙ block_passed c.args.byte c.args.text.now c.loop-i.i _ (omega arith) (omega arith)
      (c.has.ensures c.if-has.false),
)

pub returns : goal.returns
returns c = c.loop-i.invariant
