use Prim.Native.Nat.{◌-◌}
use Rattle.ad_printer.proofs.+put_definitions.Given as goal

abbrev pub decreases-put_definitions : goal.decreases-put_definitions
decreases-put_definitions l = l.d - l.j
