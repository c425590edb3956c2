-- What a token stands for, and a run of bytes in it. s is the text; a place counts its bytes from 0. Assumes nothing.
use Rattle.std.specs.Prelude.{ℕ, ◌+◌, ◌-◌, ◌≤◌, ◌<◌, ◌≡◌, Bool, true, Result, Ok, Err, List, [], length, get_or, drop}
use Rattle.std.proofs.Math.Seq.{slice}
use Rattle.text.specs.Bytes.{is_digit, continues_name}
use Rattle.syntax.specs.Tree.{Literal, undefined, error, boolean, integer, real, string}
use Rattle.syntax.specs.Token as T
use Rattle.syntax.specs.Token.{Tokens, next, end, bad, Front, front_of, Body, closed, broken, body_of, on_front, tokens_from}
use Rattle.syntax.specs.Refusals.{number_of}
use Rattle.syntax.specs.declared.Refusal.{Refusal}
use Rattle.tokens.specs.declared.Class.{Class}
use Rattle.tokens.specs.declared.Class.TheVariants.{Digits, NameBytes}
use Rattle.tokens.specs.declared.Span.{Span}
use Rattle.tokens.specs.declared.Constant.{Constant}
use Rattle.tokens.specs.declared.Constant.TheVariants as C
use Rattle.tokens.specs.declared.Token.{Token}
use Rattle.tokens.specs.declared.Token.TheVariants as K

-- the tokens of s from the place at on
abbrev pub tokens_at : List ℕ → ℕ → Tokens
tokens_at s at = tokens_from 0 at (drop at s)

-- the literal of a constant: 'tokens likewise carry data'
abbrev pub literal_of : Constant → Literal
literal_of C.Undefined = undefined
literal_of C.Error = error
literal_of (C.Boolean b) = boolean b
literal_of (C.Integer n) = integer n
literal_of (C.Real n places) = real n places

-- the bytes of a string behind its opening quote
abbrev pub bytes_of : Body → List ℕ
bytes_of (closed xs n) = xs
bytes_of broken = []

-- the string whose opening quote is at p
abbrev pub string_at : List ℕ → ℕ → List ℕ
string_at s p = bytes_of (body_of (drop (p + 1) s))

-- the place of a token's first byte: 'its first byte is the place, for a 4 where text ends early the text's length'
abbrev pub place_of : Token → ℕ
place_of (K.End p) = p
place_of (K.Word at) = at.start
place_of (K.Constant c at) = at.start
place_of (K.String n at) = at.start
place_of (K.Operator j at) = at.start
place_of (K.Symbol x at) = at.start

-- the tokens of s from the token t on, which stands at its place in s
abbrev pub means : List ℕ → Token → Tokens
means s (K.End p) = end p
means s (K.Word at) = next at.start (T.word (slice at.start at.end s)) (tokens_at s at.end)
means s (K.Constant c at) = next at.start (T.constant (literal_of c)) (tokens_at s at.end)
means s (K.String n at) = next at.start (T.constant (string (string_at s at.start))) (tokens_at s at.end)
means s (K.Operator j at) = next at.start (T.operator j) (tokens_at s at.end)
means s (K.Symbol x at) = next at.start (T.symbol x) (tokens_at s at.end)

-- the same where the token may be refused: 'A refusal carries its number and a place'
abbrev pub told : List ℕ → Result Token Refusal → Tokens
told s (Ok t) = means s t
told s (Err r) = bad (number_of r.reason) r.place

-- the tokens of s from the place p on, where the front token is x
abbrev pub placed : List ℕ → ℕ → Front → Tokens
placed s p x = on_front x p (λ t n. next p t (tokens_from (n - 1) (p + 1) (drop (p + 1) s)))

-- a token from the place p on lies within the text, and a string has n bytes, fewer than its text
abbrev pub Lies : List ℕ → ℕ → Token → Type 0
Lies s p (K.End q) = Unit {0}
Lies s p (K.Word at) = (p ≤ at.start) × (at.start < at.end) × (at.end ≤ length s)
Lies s p (K.Constant c at) = (p ≤ at.start) × (at.start < at.end) × (at.end ≤ length s)
Lies s p (K.String n at) = (p ≤ at.start) × (at.start + n < at.end) × (at.end ≤ length s) × (n ≡ length (string_at s at.start)) × (body_of (drop (at.start + 1) s) ≡ closed (string_at s at.start) (at.end - (at.start + 1)))
Lies s p (K.Operator j at) = (p ≤ at.start) × (at.start < at.end) × (at.end ≤ length s)
Lies s p (K.Symbol x at) = (p ≤ at.start) × (at.start < at.end) × (at.end ≤ length s)

-- the same of a token that may be refused
abbrev pub LiesIfRead : List ℕ → ℕ → Result Token Refusal → Type 0
LiesIfRead s p (Ok t) = Lies s p t
LiesIfRead s p (Err r) = Unit {0}

-- the token at the place p, whose front token is x
pub record Placed (s : List ℕ) (p : ℕ) (x : Front) (r : Result Token Refusal) : Type 0 where
  pub means_it : placed s p x ≡ told s r
  pub lies : LiesIfRead s p r

-- the word at a place: a Name, or 'Reserved, in any case: ..'
pub record WordMeans (s : List ℕ) (at : Span) (t : Token) : Type 0 where
  pub means_it : next at.start (T.word_in T.reserved (slice at.start at.end s)) (tokens_at s at.end) ≡ means s t
  pub lies : Lies s at.start t

-- which bytes a run is of: 'digits', or those of a Name, 'letters, digits, `_`'
abbrev pub class_of : Class → ℕ → Bool
class_of Digits = is_digit
class_of NameBytes = continues_name

-- the bytes of a class from at on end at r
pub record Run (class : ℕ → Bool) (s : List ℕ) (at r : ℕ) : Type 0 where
  pub low : at ≤ r
  pub high : r ≤ length s
  pub run : front_of class (drop at s) ≡ slice at r s

-- a byte of a class is at the place p: a token begins there
pub record AtByte (class : ℕ → Bool) (s : List ℕ) (p : ℕ) : Type 0 where
  pub inside : p < length s
  pub byte : class (get_or s p 0) ≡ true
