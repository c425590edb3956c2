-- `remainders::shifted_remainder`: what is left of the shift comes to the same remainder. Assumes nothing.
use Rattle.std.proofs.Common.{◌≡◌, ◌*◌, ◌%◌, ◌^◌, ◌<◌}
use Rattle.remainders.proofs.shifted_remainder.Given as goal

abbrev pub invariant-loop-left : goal.invariant-loop-left
invariant-loop-left l = record { below : l.rest < l.divisor; same : l.rest * 2 ^ l.left % l.divisor ≡ l.digits * 2 ^ l.shift % l.divisor }

abbrev pub decreases-loop-left : goal.decreases-loop-left
decreases-loop-left l = l.left
