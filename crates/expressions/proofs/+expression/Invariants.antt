use Prim.Native.Nat.{◌+◌, ◌-◌, ◌*◌}
use lib.ListN.{length}
use Rattle.expressions.proofs.+expression.Given as goal

abbrev pub decreases-read_arms : goal.decreases-read_arms
decreases-read_arms l = 16 * (length l.text.now - l.from.place) + 11

abbrev pub decreases-read_binary : goal.decreases-read_binary
decreases-read_binary l = 16 * (length l.text.now - l.from.place) + (10 - l.level)

abbrev pub decreases-read_conditional : goal.decreases-read_conditional
decreases-read_conditional l = 16 * (length l.text.now - l.from.place) + 10

abbrev pub decreases-read_primary : goal.decreases-read_primary
decreases-read_primary l = 16 * (length l.text.now - l.from.place) + 1

abbrev pub decreases-read_rest : goal.decreases-read_rest
decreases-read_rest l = 16 * (length l.text.now - l.from.place) + 11

abbrev pub decreases-read_unary : goal.decreases-read_unary
decreases-read_unary l = 16 * (length l.text.now - l.from.place) + 2
