-- `integers::less` meets its contract. Assumes nothing.
use Rattle.std.proofs.Common.{sym, ◌∙◌, ap₂, rules}
use lib.Signed.{lt_z}
use Rattle.integers.specs.Integers.{width}
use Rattle.integers.proofs.Codes.{low, high, less_high}
use Rattle.integers.proofs.less.Goals as goal

pub returns-then-b-lt-NEGATIVE : goal.returns-then-b-lt-NEGATIVE
returns-then-b-lt-NEGATIVE c = sym (ap₂ lt_z (low width c.args.a c.if-a-lt-NEGATIVE.true)
    (low width c.args.b c.if-b-lt-NEGATIVE.true))

pub returns-then-a-lt-NEGATIVE : goal.returns-then-a-lt-NEGATIVE
returns-then-a-lt-NEGATIVE c = sym (ap₂ lt_z (low width c.args.a c.if-a-lt-NEGATIVE.true)
    (high width c.args.b c.if-b-lt-NEGATIVE.false))

pub returns-then-b-lt-NEGATIVE-2 : goal.returns-then-b-lt-NEGATIVE-2
returns-then-b-lt-NEGATIVE-2 c = sym (ap₂ lt_z (high width c.args.a c.if-a-lt-NEGATIVE.false)
    (low width c.args.b c.if-b-lt-NEGATIVE-2.true))

pub returns : goal.returns
returns c = sym (ap₂ lt_z (high width c.args.a c.if-a-lt-NEGATIVE.false) (high width c.args.b c.if-b-lt-NEGATIVE-2.false)
    ∙ less_high width c.args.a c.args.b (search rules) (search rules))
