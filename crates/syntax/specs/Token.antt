-- The tokens of a text, with their places, up to its end or to the first that is bad. Assumes nothing.
use Rattle.std.specs.Prelude.{ℕ, zero, suc, ◌+◌, ◌-◌, ◌*◌, Bool, true, false, cond, ◌&&◌, List, [], ◌∷◌, ◌++◌, ltb, eqb, length, drop}
use Prim.Native.Char.{code}
use Rattle.text.specs.Bytes.{bytes, between, is_blank, is_digit, starts_name, continues_name}
use Rattle.text.specs.Strings.{same_name}
use Rattle.syntax.specs.Bounds.{name_bytes, string_bytes, max_integer, real_digits}
use Rattle.syntax.specs.Tree.{Literal, undefined, error, boolean, integer, real, string}
use Rattle.syntax.specs.declared.Binary.{Binary}
use Rattle.syntax.specs.declared.Binary.TheVariants.{Or, And, Equal, NotEqual, Is, Isnt, Less, LessOrEqual, Greater, GreaterOrEqual, Add, Subtract, Multiply, Divide, Remainder}
use Rattle.syntax.specs.declared.Symbol.{Symbol}
use Rattle.syntax.specs.declared.Symbol.TheVariants.{Exclamation, Question, Colon, OpenParenthesis, CloseParenthesis, OpenBracket, CloseBracket, Semicolon, Assign, Point, Other, Parent}

-- A token: a Name, a literal, an operator of two operands (`+` and `-` also stand for those of one), or another symbol: 'tokens
-- likewise carry data'.
pub data Token : Type 0 where
  word : List ℕ → Token
  constant : Literal → Token
  operator : Binary → Token
  symbol : Symbol → Token

-- The tokens of a text, each behind the place of its first byte: 'the first token that breaks a rule decides, its first byte is
-- the place'.
pub data Tokens : Type 0 where
  next : ℕ → Token → Tokens → Tokens
  -- the text ends, at its length
  end : ℕ → Tokens
  -- a token that is refused by itself: refusal 3, 5 or 7, and its place
  bad : ℕ → ℕ → Tokens

-- The token in front of some bytes, and how many bytes it has; or the refusal that it carries
pub data Front : Type 0 where
  good : Token → ℕ → Front
  wrong : ℕ → Front

module _ {A : Type 0} where
  -- one of two, of which only the one picked is computed
  abbrev pub pick : Bool → (Unit {0} → A) → (Unit {0} → A) → A
  pick true a b = a tt
  pick false a b = b tt

-- the longest front part of some bytes that are all of a class, as 'letters, digits, `_`'
unfoldable pub front_of : (ℕ → Bool) → List ℕ → List ℕ
front_of class [] = []
front_of class (b ∷ l) = pick (class b) (λ _. b ∷ front_of class l) (λ _. [])

-- ---- names and reserved words

-- how a token is spelled
pub record Spelling : Type 0 where
  pub text : List ℕ
  pub token : Token

-- 'Reserved, in any case: true, false, undefined, error, is, isnt, parent, other.'
unfoldable pub reserved : List Spelling
reserved =
    record { text = bytes "true"; token = constant (boolean true) }
    ∷ record { text = bytes "false"; token = constant (boolean false) }
    ∷ record { text = bytes "undefined"; token = constant undefined }
    ∷ record { text = bytes "error"; token = constant error }
    ∷ record { text = bytes "is"; token = operator Is }
    ∷ record { text = bytes "isnt"; token = operator Isnt }
    ∷ record { text = bytes "parent"; token = symbol Parent }
    ∷ record { text = bytes "other"; token = symbol Other }
    ∷ []

-- a reserved word's token, or the Name as written: 'Reserved, in any case: ..'; 'Names .. are kept as written'
unfoldable pub word_in : List Spelling → List ℕ → Token
word_in [] w = word w
word_in (s ∷ ss) w = pick (same_name s.text w) (λ _. s.token) (λ _. word_in ss w)

-- 'Name: a letter or `_`, then letters, digits, `_`', within 64 bytes or refusal 7
unfoldable pub name_front : List ℕ → Front
name_front l =
    let w = front_of continues_name l in
    pick (ltb name_bytes (length w)) (λ _. wrong 7) (λ _. good (word_in reserved w) (length w))

-- ---- numbers

-- digits read in base ten, after the number v
unfoldable pub value_from : ℕ → List ℕ → ℕ
value_from v [] = v
value_from v (b ∷ l) = value_from (v * 10 + (b - code "0")) l

-- 'digits, read in base ten whatever the first digit'
abbrev pub value_of : List ℕ → ℕ
value_of ds = value_from 0 ds

-- the digits after a point in front, if there is one
unfoldable pub fraction_of : List ℕ → List ℕ
fraction_of [] = []
fraction_of (b ∷ l) = pick (eqb b (code ".")) (λ _. front_of is_digit l) (λ _. [])

-- 'Integer: digits, .. 0 to 2,147,483,647', else refusal 5
unfoldable pub integer_front : List ℕ → Front
integer_front ds = pick (ltb max_integer (value_of ds)) (λ _. wrong 5) (λ _. good (constant (integer (value_of ds))) (length ds))

-- 'Real: digits, a point, digits; at most 15 digits in all', else refusal 5
unfoldable pub real_front : List ℕ → List ℕ → Front
real_front ds fs =
    pick (ltb real_digits (length ds + length fs))
    (λ _. wrong 5)
    (λ _. good (constant (real (value_of (ds ++ fs)) (length fs))) (length ds + 1 + length fs))

-- '`1.` is Integer, then a point.'
unfoldable pub number_front : List ℕ → Front
number_front l =
    let ds = front_of is_digit l in
    let fs = fraction_of (drop (length ds) l) in
    pick (eqb (length fs) 0) (λ _. integer_front ds) (λ _. real_front ds fs)

-- ---- strings

-- a string behind its opening quote: its bytes after escapes, and how many bytes of text with the closing quote; or broken
pub data Body : Type 0 where
  closed : List ℕ → ℕ → Body
  broken : Body

-- one byte more in front, from n bytes of text
abbrev pub grown : ℕ → ℕ → Body → Body
grown b n (closed xs k) = closed (b ∷ xs) (n + k)
grown b n broken = broken

-- 'escapes `\"` `\\` `\n` `\t`': what the byte after a backslash stands for, 0 for nothing
unfoldable pub escape_of : ℕ → ℕ
escape_of b = cond (eqb b (code "\"")) (code "\"") (cond (eqb b (code "\\")) (code "\\") (cond (eqb b (code "n")) (code "\n") (cond (eqb b (code "t")) (code "\t") 0)))

-- 'String: `"`, bytes 0x20 to 0x7E other than `"` and `\`, escapes .., `"`.'
unfoldable mutual
  pub body_of : List ℕ → Body
  body_of [] = broken
  body_of (b ∷ l) =
      pick (eqb b (code "\"")) (λ _. closed [] 1)
      (λ _. pick (eqb b (code "\\")) (λ _. escaped_of l)
      (λ _. pick (between 0x20 0x7E b) (λ _. grown b 1 (body_of l)) (λ _. broken)))

  -- behind a backslash: 'escapes `\"` `\\` `\n` `\t`', all else a 'bad byte or escape in a string'
  pub escaped_of : List ℕ → Body
  escaped_of [] = broken
  escaped_of (b ∷ l) = pick (eqb (escape_of b) 0) (λ _. broken) (λ _. grown (escape_of b) 2 (body_of l))

-- 'bad byte or escape in a string, string not closed': refusal 3; over 1,024 bytes: refusal 7, in this order
abbrev pub string_of : Body → Front
string_of (closed xs n) = pick (ltb string_bytes (length xs)) (λ _. wrong 7) (λ _. good (constant (string xs)) (1 + n))
string_of broken = wrong 3

-- ---- symbols

-- Longest first. '`=?=` and `=!=` (document 004) are further spellings of `is` and `isnt`.'
unfoldable pub spellings : List Spelling
spellings =
    record { text = bytes "=?="; token = operator Is }
    ∷ record { text = bytes "=!="; token = operator Isnt }
    ∷ record { text = bytes "||"; token = operator Or }
    ∷ record { text = bytes "&&"; token = operator And }
    ∷ record { text = bytes "=="; token = operator Equal }
    ∷ record { text = bytes "!="; token = operator NotEqual }
    ∷ record { text = bytes "<="; token = operator LessOrEqual }
    ∷ record { text = bytes ">="; token = operator GreaterOrEqual }
    ∷ record { text = bytes "<"; token = operator Less }
    ∷ record { text = bytes ">"; token = operator Greater }
    ∷ record { text = bytes "+"; token = operator Add }
    ∷ record { text = bytes "-"; token = operator Subtract }
    ∷ record { text = bytes "*"; token = operator Multiply }
    ∷ record { text = bytes "/"; token = operator Divide }
    ∷ record { text = bytes "%"; token = operator Remainder }
    ∷ record { text = bytes "!"; token = symbol Exclamation }
    ∷ record { text = bytes "?"; token = symbol Question }
    ∷ record { text = bytes ":"; token = symbol Colon }
    ∷ record { text = bytes "("; token = symbol OpenParenthesis }
    ∷ record { text = bytes ")"; token = symbol CloseParenthesis }
    ∷ record { text = bytes "["; token = symbol OpenBracket }
    ∷ record { text = bytes "]"; token = symbol CloseBracket }
    ∷ record { text = bytes ";"; token = symbol Semicolon }
    ∷ record { text = bytes "="; token = symbol Assign }
    ∷ record { text = bytes "."; token = symbol Point }
    ∷ []

-- whether some bytes begin with others
unfoldable pub begins : List ℕ → List ℕ → Bool
begins [] l = true
begins (x ∷ xs) [] = false
begins (x ∷ xs) (b ∷ l) = eqb x b && begins xs l

-- 'Longest token wins'; 'no token starts here': refusal 3
unfoldable pub symbol_in : List Spelling → List ℕ → Front
symbol_in [] l = wrong 3
symbol_in (s ∷ ss) l = pick (begins s.text l) (λ _. good s.token (length s.text)) (λ _. symbol_in ss l)

-- ---- the tokens of a text

-- the token in front of the bytes b ∷ l, of which b is no blank, by how each begins: 'Name: a letter or `_`', 'Integer: digits',
-- 'String: `"`', else a symbol or 'no token starts here'
unfoldable pub front_token : ℕ → List ℕ → Front
front_token b l =
    pick (starts_name b) (λ _. name_front (b ∷ l))
    (λ _. pick (is_digit b) (λ _. number_front (b ∷ l))
    (λ _. pick (eqb b (code "\"")) (λ _. string_of (body_of l))
    (λ _. symbol_in spellings (b ∷ l))))

-- a good token goes on, and a bad one ends the tokens at its place p: 'the first token that breaks a rule decides, its first byte
-- is the place'
abbrev pub on_front : Front → ℕ → (Token → ℕ → Tokens) → Tokens
on_front (good t n) p go = go t n
on_front (wrong k) p go = bad k p

-- 'Blank: .., between tokens and at both ends.' The tokens of the bytes l, the first of which is at the place p, after k
-- bytes that belong to the token before.
unfoldable pub tokens_from : ℕ → ℕ → List ℕ → Tokens
tokens_from k p [] = end p
tokens_from (suc k) p (b ∷ l) = tokens_from k (p + 1) l
tokens_from zero p (b ∷ l) =
    pick (is_blank b)
    (λ _. tokens_from zero (p + 1) l)
    (λ _. on_front (front_token b l) p (λ t n. next p t (tokens_from (n - 1) (p + 1) l)))

-- the tokens of a text: 'tokens left to right'
abbrev pub tokens : List ℕ → Tokens
tokens s = tokens_from 0 0 s
