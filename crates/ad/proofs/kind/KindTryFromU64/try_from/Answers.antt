use Rattle.ad.proofs.Numbers.{no_kind}
use Rattle.ad.proofs.kind.KindTryFromU64.try_from.Goals as goal

pub returns-in_default : goal.returns-in_default
returns-in_default c = no_kind c.args.code c.in_default.in_default-own.rest
