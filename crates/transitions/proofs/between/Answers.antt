use Rattle.transitions.proofs.Steps.{step_start}
use Rattle.transitions.proofs.between.Goals as goal

pub returns : goal.returns
returns c = λ G len ta fl ls e. c.begin.ensures G len ta fl ls (step_start G _ e c.requires.1)
