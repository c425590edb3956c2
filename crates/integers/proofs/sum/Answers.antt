-- `integers::sum` meets its contract. Assumes nothing.
use Rattle.std.proofs.Common.{◌∙◌, rules}
use Rattle.integers.specs.Integers.{width}
use Rattle.integers.proofs.Codes.{sum_law}
use Rattle.integers.proofs.sum.Goals as goal

pub returns : goal.returns
returns c = c.wrapping_add_u32.ensures.value
    ∙ sum_law width c.args.a c.args.b (search rules) (search rules)
