use Rattle.std.proofs.Common.{sym, ◌∙◌}
use Rattle.reader.proofs.Whole.{into_ad, into_none, cleared}
use Rattle.reader.proofs.read_into.Goals as goal

pub returns-then-is_err : goal.returns-then-is_err
returns-then-is_err c =
    into_none c.args.text.now _ _ c.read_ad-answer.new.words c.read_ad-answer.new.bytes _ _ c.read_ad-answer.result (sym c.is_err.ensures.value ∙ c.if-is_err.true) c.read_ad-answer.ensures c.clear-then-is_err.ensures (c.read_ad-answer.auto.words ∙ (c.clear.auto.words ∙ c.requires.words)) (c.read_ad-answer.auto.bytes ∙ (c.clear.auto.bytes ∙ c.requires.bytes))

pub returns-else-is_err : goal.returns-else-is_err
returns-else-is_err c =
    into_ad c.args.text.now _ _ _ _ (cleared c.args.words.now _ _ c.clear.ensures.words c.requires.words) (cleared c.args.bytes.now _ _ c.clear.ensures.bytes c.requires.bytes) c.read_ad-answer.result (sym c.is_err.ensures.value ∙ c.if-is_err.false) c.read_ad-answer.ensures
