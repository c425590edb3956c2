-- `reals::literal` meets its contract. Assumes nothing.
use mathlib.Core.Path.{refl}
use borrow.Author.Tests.{lt-ltb, le-ltb, le-leb, lt-leb}
use Prim.Native.Nat.{◌^◌}
use lib.Ieee
use Rattle.reals.proofs.literal.Goals as goal

pub returns-then-digits-ge1000000000000000 : goal.returns-then-digits-ge1000000000000000
unfolding Ieee.of_int Ieee.of_bits
returns-then-digits-ge1000000000000000 c = rw (le-ltb _ (10 ^ 15) c.if-digits-ge1000000000000000.true) refl

pub returns-then-places-lt1 : goal.returns-then-places-lt1
unfolding Ieee.of_int Ieee.of_bits
returns-then-places-lt1 c = rw (lt-ltb _ (10 ^ 15) c.if-digits-ge1000000000000000.false, lt-leb 1 _ c.if-places-lt1.true) refl

pub returns-then-places-ge15 : goal.returns-then-places-ge15
unfolding Ieee.of_int Ieee.of_bits
returns-then-places-ge15 c = rw (
  lt-ltb _ (10 ^ 15) c.if-digits-ge1000000000000000.false,
  le-leb 1 _ c.if-places-lt1.false,
  le-ltb _ 15 c.if-places-ge15.true,
) refl

pub returns : goal.returns
returns c = rw (
  lt-ltb _ (10 ^ 15) c.if-digits-ge1000000000000000.false,
  le-leb 1 _ c.if-places-lt1.false,
  lt-ltb _ 15 c.if-places-ge15.false,
) c.quotient.ensures
