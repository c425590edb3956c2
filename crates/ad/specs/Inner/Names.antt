-- What inner functions are given and ensure. Assumes nothing.
use Rattle.std.specs.Prelude.{Bool, false, ◌||◌, List, ℕ, zero, suc, ◌+◌}
use Rattle.text.specs.Strings.{same_name}
use Rattle.ad.specs.Stored.{offset_at, length_at, bytes_at}

-- whether one of k stored definitions, from definition j on, has a name
unfoldable pub defined_in : List ℕ → List ℕ → List ℕ → ℕ → ℕ → Bool
defined_in w b name j zero = false
defined_in w b name j (suc k) = same_name (bytes_at b (offset_at w j) (length_at w j)) name || defined_in w b name (j + 1) k
