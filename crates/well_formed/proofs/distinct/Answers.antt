use Rattle.std.proofs.Common.{sym, ◌∙◌, arith}
use Rattle.well_formed.proofs.Answer.{new_more, new_stop, new_end}
use Rattle.well_formed.proofs.distinct.Goals as goal

pub returns-then-defined : goal.returns-then-defined
returns-then-defined c = new_stop c.args.ad.words.now c.args.ad.bytes.now c.loop-j.j c.args.d (omega arith)
    (sym (rw c.name.ensures at c.defined.ensures) ∙ c.if-defined.true)
    ∙ c.loop-j.invariant

pub loop-j-preserved : goal.loop-j-preserved
loop-j-preserved c = sym (new_more c.args.ad.words.now c.args.ad.bytes.now c.loop-j.j c.args.d (omega arith)
    (sym (rw c.name.ensures at c.defined.ensures) ∙ c.if-defined.false))
    ∙ c.loop-j.invariant

pub returns : goal.returns
returns c = new_end c.args.ad.words.now c.args.ad.bytes.now c.loop-j.j c.args.d (omega arith) ∙ c.loop-j.invariant
