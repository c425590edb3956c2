use Rattle.lexemes.proofs.Laws.{name_empty}
use Rattle.lexemes.proofs.is_name.Goals as goal

pub returns-in-None : goal.returns-in-None
returns-in-None c = name_empty c.args.name.now (rw c.in-None.is at c.first.ensures.value)
