-- What inner functions are given and ensure. Assumes nothing.
use Rattle.std.specs.Prelude.{ℕ, Option, Some, None, List, [], ◌∷◌}
use Rattle.well_formed.specs.declared.Checked.{Checked}

-- what the check answers as numbers, 10, or 0 and what it counted: 'a definition that gives this paper's number and values for
-- each case of the enum'
abbrev pub check_numbers : Option Checked → List ℕ
check_numbers (Some c) = 0 ∷ c.counts.definitions ∷ c.counts.nodes ∷ c.print_length ∷ []
check_numbers None = 10 ∷ 0 ∷ 0 ∷ 0 ∷ []
