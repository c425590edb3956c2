-- A literal's own numbers are in range, so that the total definition is document 01's there; and every Real of it is of the format. Assumes nothing.
use mathlib.Core.Path.{◌≡◌}
use Prim.Native.Nat.{ℕ, ◌^◌, ◌<◌, ◌≤◌}
use mathlib.Core.Bool.{false}
use lib.Dec.{T}
use lib.IntN.{pos}
use lib.Ieee.{binary64, fits, of_int}
use lib.Ieee.Fits.{cond-fits, round-fits, of_int-fits}
use borrow.Author.Tests.{lt-ltb, le-leb}
use Rattle.reals.specs.Reals.{literal_real, in_range, stored_real}

pub stored_literal : (digits places : ℕ) → digits < 10 ^ 15 → 1 ≤ places → places < 15 → stored_real digits places ≡ literal_real digits places
stored_literal digits places h i k = rw (lt-ltb digits (10 ^ 15) h, le-leb 1 places i, lt-ltb places 15 k)

pub stored_fits : (digits places : ℕ) → T (fits binary64 (stored_real digits places))
stored_fits digits places =
    cond-fits binary64 (in_range digits places) (literal_real digits places) (of_int binary64 (pos 0))
    (round-fits binary64 false digits (10 ^ places)) (of_int-fits binary64 (pos 0))
