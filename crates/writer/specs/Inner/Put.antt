-- What writing into lent output does. Assumes nothing.
use Rattle.std.specs.Prelude.{ℕ, ◌+◌, ◌≤◌, ◌≡◌, List, length}
use Rattle.std.proofs.lemmas.List.Edits.{sets}

-- t stands from `at` up to r, and all else of the output o is as it was; what does not fit in is left out
pub record Puts (t o : List ℕ) (at : ℕ) (o' : List ℕ) (r : ℕ) : Type 0 where
  pub behind : r ≡ at + length t
  pub written : o' ≡ sets o at t

-- a bound of all places, so that they are counted without overflow
abbrev pub Near : ℕ → List ℕ → Type 0
Near at t = at + length t ≤ 1000000
