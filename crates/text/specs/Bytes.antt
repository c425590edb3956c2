-- Bytes, as numbers below 256, and the classes of bytes that document 01 names. Assumes nothing.
use Rattle.std.specs.Prelude.{ℕ, ◌+◌, Bool, cond, ◌&&◌, ◌||◌, List, [], ◌∷◌, leb, eqb}
use Prim.Native.String as S
use Prim.Native.String.{String}
use Prim.Native.Char.{code}

-- The bytes of a quoted ASCII text: it lets the definitions and examples of the other crates be read as text, as the words of
-- 'Reserved, in any case: true, false, ..' are.
unfoldable pub bytes : String → List ℕ
bytes S.[] = []
bytes (S.◌∷◌ c s) = code c ∷ bytes s

-- lo ≤ b ≤ hi
abbrev pub between : ℕ → ℕ → ℕ → Bool
between lo hi b = leb lo b && leb b hi

-- 'Blank: space, tab, CR, LF'
unfoldable pub is_blank : ℕ → Bool
is_blank b = eqb b (code " ") || eqb b (code "\t") || eqb b (code "\r") || eqb b (code "\n")

-- 'digits'
unfoldable pub is_digit : ℕ → Bool
is_digit b = between (code "0") (code "9") b

-- 'a letter'
unfoldable pub is_letter : ℕ → Bool
is_letter b = between (code "A") (code "Z") b || between (code "a") (code "z") b

-- 'Name: a letter or `_`, ..'
unfoldable pub starts_name : ℕ → Bool
starts_name b = is_letter b || eqb b (code "_")

-- '.. then letters, digits, `_`'
unfoldable pub continues_name : ℕ → Bool
continues_name b = starts_name b || is_digit b

-- ASCII lower case
unfoldable pub lower_case : ℕ → ℕ
lower_case b = cond (between (code "A") (code "Z") b) (b + 32) b
