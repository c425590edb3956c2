-- `remainders::size_of` meets its contract. Assumes nothing.
use mathlib.Core.Path.{sym, subst, ◌≡◌}
use Prim.Native.Nat.{ℕ, suc, ◌-◌, ◌/◌, ◌%◌, ◌^◌}
use native.Mathlib.Omega.{arith}
use lib.Dec.{T}
use lib.Ieee.{binary64, to_bits}
use Rattle.remainders.proofs.Patterns.{finite_number, measured_zero, measured_above}
use Rattle.remainders.proofs.size_of.Goals as goal

pub float_to_bits-bits : goal.float_to_bits-bits
float_to_bits-bits c = finite_number c.args.x c.requires

pub returns-then-field-eq0 : goal.returns-then-field-eq0
returns-then-field-eq0 c = measured_zero c.args.x (subst T (sym c.well_formed.0.1) tt) c.if-field-eq0.true

suc-before : (n : ℕ) → (n ≡ 0 → ⊥) → n ≡ suc (n - 1)
suc-before n h = omega arith

pub returns : goal.returns
returns c =
    let field = to_bits binary64 c.args.x % 2 ^ 63 / 2 ^ 52 in
    measured_above c.args.x (subst T (sym c.well_formed.0.1) tt) c.requires (field - 1) (suc-before field c.if-field-eq0.false)
