-- `integers::magnitude` meets its contract. Assumes nothing.
use Rattle.std.proofs.Common.{sym, arith, rules}
use Rattle.integers.specs.Integers.{width}
use Rattle.integers.proofs.Codes.{abs_low, abs_high}
use Rattle.integers.proofs.magnitude.Goals as goal

pub returns-then-a-lt-NEGATIVE : goal.returns-then-a-lt-NEGATIVE
returns-then-a-lt-NEGATIVE c = sym (abs_low width c.args.a c.if-a-lt-NEGATIVE.true)

pub returns : goal.returns
returns c = let h = abs_high width c.args.a (search rules) c.if-a-lt-NEGATIVE.false in omega arith
