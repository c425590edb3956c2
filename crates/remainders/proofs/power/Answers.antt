-- `remainders::power` meets its contract. Assumes nothing.
use Prim.Native.Nat.{◌-◌, ◌*◌, ◌%◌, ◌^◌}
use mathlib.Core.Bool.{false}
use Rattle.remainders.proofs.Patterns.{number_pattern, small_power, large_power}
use Rattle.remainders.proofs.power.Goals as goal

pub float_from_bits-result : goal.float_from_bits-result
float_from_bits-result c =
    number_pattern (1 * 2 ^ c.args.exponent % 2 ^ 64) false (2 ^ c.args.exponent) (small_power c.args.exponent c.if-exponent-lt52.true)

pub returns-then-exponent-lt52 : goal.returns-then-exponent-lt52
returns-then-exponent-lt52 c = small_power c.args.exponent c.if-exponent-lt52.true

pub float_from_bits-result-2 : goal.float_from_bits-result-2
float_from_bits-result-2 c =
    number_pattern ((c.args.exponent - 51) * 2 ^ 52) false (2 ^ c.args.exponent) (large_power c.args.exponent c.if-exponent-lt52.false c.requires)

pub returns : goal.returns
returns c = large_power c.args.exponent c.if-exponent-lt52.false c.requires
