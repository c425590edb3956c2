use mathlib.Core.Path.{ap}
use Prim.Native.Nat.{ℕ, ◌+◌, ◌*◌, ◌%◌}
use native.Mathlib.Omega.{arith}
use Rattle.names.specs.Inner.Fingerprint.{mixed}
use Rattle.names.proofs.mix.Goals as goal

pub returns : goal.returns
unfolding mixed
returns c = record {
  value = ap (λ (u : ℕ). (c.args.h * 31 + u) % 65536) c.lower.ensures;
  small = omega arith;
}
