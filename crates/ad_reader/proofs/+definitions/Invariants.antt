use Prim.Native.Nat.{◌-◌}
use lib.ListN.{length}
use Rattle.ad_reader.proofs.+definitions.Given as goal

abbrev pub decreases-read_behind : goal.decreases-read_behind
decreases-read_behind l = length l.text.now - l.from.place

abbrev pub decreases-read_definitions : goal.decreases-read_definitions
decreases-read_definitions l = length l.text.now - l.from.place
