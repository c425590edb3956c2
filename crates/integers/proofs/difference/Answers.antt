-- `integers::difference` meets its contract. Assumes nothing.
use Rattle.integers.specs.Integers.{width}
use Rattle.integers.proofs.Codes.{difference_law}
use Rattle.std.proofs.Common.{rules}
use Rattle.integers.proofs.difference.Goals as goal

pub returns : goal.returns
returns c = difference_law width c.wrapping_sub_u32.result c.args.a c.args.b
    (search rules) (search rules) (search rules) c.wrapping_sub_u32.ensures.value
