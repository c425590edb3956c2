use Rattle.std.proofs.Common.{sym, ◌∙◌, arith}
use Rattle.ad.proofs.Laws.{look_more, look_found, look_end, look_all}
use Rattle.ad.proofs.stored.StoredAd.defined.Goals as goal

pub loop-j-init : goal.loop-j-init
loop-j-init c = sym (look_all _ _ _ _)

pub returns-then-has_name : goal.returns-then-has_name
returns-then-has_name c = look_found c.args.self.words.now c.args.self.bytes.now c.args.name.now c.loop-j.j c.args.d
    (omega arith) (sym c.has_name.ensures ∙ c.if-has_name.true)
    ∙ sym c.loop-j.invariant

pub loop-j-preserved : goal.loop-j-preserved
loop-j-preserved c = c.loop-j.invariant ∙ look_more c.args.self.words.now c.args.self.bytes.now c.args.name.now c.loop-j.j c.args.d
    (omega arith) (sym c.has_name.ensures ∙ c.if-has_name.false)

pub returns : goal.returns
returns c = look_end c.args.self.words.now c.args.self.bytes.now c.args.name.now c.loop-j.j c.args.d
    (omega arith)
    ∙ sym c.loop-j.invariant
