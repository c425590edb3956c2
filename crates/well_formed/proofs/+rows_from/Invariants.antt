use Prim.Native.Nat.{◌-◌}
use Rattle.well_formed.proofs.+rows_from.Given as goal

abbrev pub decreases-rows_from : goal.decreases-rows_from
decreases-rows_from l = 256 - l.j
