-- What `classad_definition` and `classad_position` give, as numbers (docs/LAYOUT.md). Assumes nothing.
use Rattle.std.specs.Prelude.{ℕ, Option, Some, None, List, [], ◌∷◌}
use Rattle.ad.specs.Stored.{offset_at, length_at}
use Rattle.positions.specs.Positions.{line_of, column_of}

-- the definition that a node belongs to: 1, its number, and its name's offset and length; zeros where there is none: 'definitions `name =
-- expression`'
abbrev pub holder_numbers : List ℕ → Option ℕ → List ℕ
holder_numbers w (Some j) = 1 ∷ j ∷ offset_at w j ∷ length_at w j ∷ []
holder_numbers w None = 0 ∷ 0 ∷ 0 ∷ 0 ∷ []

-- the line and the column of a place
abbrev pub position_numbers : List ℕ → ℕ → List ℕ
position_numbers s place = line_of s place ∷ column_of s place ∷ []
