-- What the digits of a number stand for. s is the text; a place counts its bytes from 0. Assumes nothing.
use Rattle.std.specs.Prelude.{ℕ, ◌+◌, ◌≤◌, ◌<◌, min, ◌≡◌, List, length, drop}
use Rattle.std.proofs.Math.Seq.{slice}
use Rattle.syntax.specs.Token.{value_from, fraction_of}

-- the digits after a point at the place at end at r, which is at itself where there are none
pub record Fraction (s : List ℕ) (at r : ℕ) : Type 0 where
  pub low : at ≤ r
  pub high : r ≤ length s
  pub digits : fraction_of (drop at s) ≡ slice (at + 1) r s
  pub some : at < r → at + 1 < r

-- the largest number that is told apart: over 15 digits, and over the range of an Integer
abbrev pub largest_read : ℕ
largest_read = 1000000000000000

-- the digits ds read after v, but no more than the largest
abbrev pub value_to : ℕ → List ℕ → ℕ
value_to v ds = min (value_from v ds) largest_read
