-- `remainders::of_size` meets its contract. Assumes nothing.
use Prim.Native.Nat.{◌^◌}
use Rattle.remainders.proofs.Units.{scaled, scaled_negated}
use Rattle.remainders.proofs.of_size.Goals as goal

pub returns-then-negative : goal.returns-then-negative
returns-then-negative c =
    scaled_negated c.power-unit.result c.args.negative c.args.digits (2 ^ c.args.exponent) c.if-negative.true c.requires.digits_fit c.power-unit.ensures

pub returns : goal.returns
returns c =
    scaled c.power-unit.result c.args.negative c.args.digits (2 ^ c.args.exponent) c.if-negative.false c.requires.digits_fit c.power-unit.ensures
