-- The lines of a text, and what a line of a roster holds. Assumes nothing.
use Rattle.std.specs.Prelude.{ℕ, cond, List, [], ◌∷◌, eqb}
use Prim.Native.Char.{code}

-- a byte in front of the first line
abbrev pub joined : ℕ → List (List ℕ) → List (List ℕ)
joined b [] = (b ∷ []) ∷ []
joined b (l ∷ ls) = (b ∷ l) ∷ ls

-- the lines of a text, each without its LF: 'LF ends a line; the last may lack it'
unfoldable pub lines_of : List ℕ → List (List ℕ)
lines_of [] = []
lines_of (b ∷ s) = cond (eqb b (code "\n")) ([] ∷ lines_of s) (joined b (lines_of s))

-- What a line of a roster holds: no tab, or the text behind its first tab
pub data Entry : Type 0 where
  untabbed : Entry
  ad : List ℕ → Entry

-- 'one a line: bench name, tab, printed ad': what stands behind the first tab, where there is one
unfoldable pub entry_of : List ℕ → Entry
entry_of [] = untabbed
entry_of (b ∷ l) = cond (eqb b (code "\t")) (ad l) (entry_of l)

-- the bytes in front of the first x, or all
unfoldable pub up_to : ℕ → List ℕ → List ℕ
up_to x [] = []
up_to x (b ∷ s) = cond (eqb b x) [] (b ∷ up_to x s)
