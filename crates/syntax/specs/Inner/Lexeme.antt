-- Which names and literals a text can write. Assumes nothing.
use Rattle.std.specs.Prelude.{ℕ, ◌^◌, Bool, true, false, not, ◌&&◌, ◌||◌, List, [], ◌∷◌, length, get_or, ltb, leb, eqb}
use Prim.Native.Char.{code}
use Rattle.text.specs.Bytes.{between, starts_name, continues_name}
use Rattle.text.specs.Strings.{same_name}
use Rattle.syntax.specs.Bounds.{name_bytes, string_bytes, max_integer, real_digits}
use Rattle.syntax.specs.Tree.{Literal, undefined, error, boolean, integer, real, string}
use Rattle.syntax.specs.Token.{Spelling, reserved}

-- whether all of some bytes, or of some spellings, are of a class
unfoldable pub every : {A : Type 0} → (A → Bool) → List A → Bool
every class [] = true
every class (b ∷ l) = class b && every class l

-- whether some bytes are one of some words, 'in any case'
unfoldable pub is_one_of : List Spelling → List ℕ → Bool
is_one_of [] w = false
is_one_of (s ∷ ss) w = same_name s.text w || is_one_of ss w

-- 'Name: a letter or `_`, then letters, digits, `_`'; 'name 64 bytes'; 'Reserved, in any case: true, false, ..'
unfoldable pub is_name : List ℕ → Bool
is_name w = starts_name (get_or w 0 0) && (every continues_name w && (leb (length w) name_bytes && not (is_one_of reserved w)))

-- a byte that a string can hold after escapes: 'bytes 0x20 to 0x7E other than `"` and `\`, escapes `\"` `\\` `\n` `\t`'
unfoldable pub in_string : ℕ → Bool
in_string b = between 0x20 0x7E b || (eqb b (code "\n") || eqb b (code "\t"))

-- 'string 1,024 bytes after escapes'
unfoldable pub is_string : List ℕ → Bool
is_string l = every in_string l && leb (length l) string_bytes

-- 'Real: digits, a point, digits; at most 15 digits in all', so that at least one digit stands on each side of the point
unfoldable pub is_real : ℕ → ℕ → Bool
is_real n places = ltb n (10 ^ real_digits) && (leb 1 places && ltb places real_digits)

-- a literal that a text can write: 'Integer: .. 0 to 2,147,483,647'
unfoldable pub is_literal : Literal → Bool
is_literal undefined = true
is_literal error = true
is_literal (boolean b) = true
is_literal (integer n) = leb n max_integer
is_literal (real n places) = is_real n places
is_literal (string l) = is_string l
