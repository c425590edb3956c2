use Rattle.std.proofs.Common.{rules}
use Rattle.marks.proofs.Slices.{names_none, names_far, names_some}
use Rattle.marks.proofs.in_slots.Goals as goal

pub returns-in-1-to-2048 : goal.returns-in-1-to-2048
returns-in-1-to-2048 c = λ G s. names_some G c.args.mark s (search rules) (search rules)

pub returns-in_default : goal.returns-in_default
returns-in_default c = λ G s. names_none G c.args.mark s (search rules)

pub returns-in_default-2 : goal.returns-in_default-2
returns-in_default-2 c = λ G s. names_far G c.args.mark s (search rules)
