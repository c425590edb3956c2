use Rattle.signs.proofs.Laws.{sign_long_short}
use Rattle.signs.proofs.sign_at.Goals as goal

pub returns : goal.returns
returns c = sign_long_short c.args.text.now c.args.p c.ahead.result c.ahead-2.result c.ahead.ensures c.ahead-2.ensures c.long_sign.result c.short_sign.result c.or.result c.requires c.long_sign.ensures c.short_sign.ensures c.or.ensures
