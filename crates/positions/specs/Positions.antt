-- The line and the column of a place in a text, both from 1: for a person, the place of 'A refusal carries its number and a place'.
-- Assumes nothing.
use Rattle.std.specs.Prelude.{ℕ, ◌+◌, ◌≡◌, cond, List, [], ◌∷◌, take, eqb}

-- how many lines have ended after the byte x, if n had before it; LF, byte 10, ends a line
abbrev pub line_after : ℕ → ℕ → ℕ
line_after n x = cond (eqb x 10) (n + 1) n

-- how many bytes of the last line stand before the one behind x, if n stood before x
abbrev pub column_after : ℕ → ℕ → ℕ
column_after n x = cond (eqb x 10) 0 (n + 1)

-- f after each byte in turn, from n on
unfoldable pub after : (ℕ → ℕ → ℕ) → ℕ → List ℕ → ℕ
after f n [] = n
after f n (x ∷ xs) = after f (f n x) xs

-- the line of a place, from 1: 'A refusal carries its number and a place'
abbrev pub line_of : List ℕ → ℕ → ℕ
line_of s place = after line_after 0 (take place s) + 1

-- its column, in bytes from 1: 'A refusal carries its number and a place'
abbrev pub column_of : List ℕ → ℕ → ℕ
column_of s place = after column_after 0 (take place s) + 1

-- THE CONTRACT OF `locate`
pub record Stands (s : List ℕ) (place line column : ℕ) : Type 0 where
  pub on_line : line ≡ line_of s place
  pub in_column : column ≡ column_of s place
