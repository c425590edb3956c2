-- `integers::negation` meets its contract. Assumes nothing.
use Rattle.integers.specs.Integers.{width}
use Rattle.integers.proofs.Codes.{neg_law}
use Rattle.std.proofs.Common.{rules}
use Rattle.integers.proofs.negation.Goals as goal

pub returns : goal.returns
returns c = neg_law width c.wrapping_sub_u32.result c.args.a (search rules) (search rules)
    c.wrapping_sub_u32.ensures.value
