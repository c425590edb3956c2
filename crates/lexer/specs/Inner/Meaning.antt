-- What an answer of the lexer stands for. s is the text; a place counts its bytes from 0. Assumes nothing.
use Rattle.std.specs.Prelude.{ℕ, ◌+◌, ◌-◌, ◌≤◌, ◌<◌, ◌≡◌, false, Option, Some, None, Result, List, [], length, get_or, drop}
use Rattle.text.specs.Bytes.{is_blank}
use Rattle.syntax.specs.Token.{closed, broken, grown, body_of, escape_of}
use Rattle.syntax.specs.declared.Refusal.{Refusal}
use Rattle.tokens.specs.Inner.Meaning.{tokens_at, told, LiesIfRead}
use Rattle.tokens.specs.declared.Token.{Token}
use Rattle.lexer.specs.declared.StringStep.{StringStep}
use Rattle.lexer.specs.declared.StringStep.TheVariants.{Close, Byte}
use Rattle.lexer.specs.declared.StringEnd.{StringEnd}

-- the token from the place at on
pub record Scanned (s : List ℕ) (at : ℕ) (r : Result Token Refusal) : Type 0 where
  pub means_it : tokens_at s at ≡ told s r
  pub lies : LiesIfRead s at r

-- the blanks from at on end at r: 'Blank: space, tab, CR, LF, between tokens and at both ends.'
pub record Skipped (s : List ℕ) (at r : ℕ) : Type 0 where
  pub low : at ≤ r
  pub high : r ≤ length s
  pub same : tokens_at s at ≡ tokens_at s r
  pub stop : r < length s → is_blank (get_or s r 0) ≡ false

-- a backslash is at the place i
pub record AtBackslash (s : List ℕ) (i : ℕ) : Type 0 where
  pub inside : i < length s
  pub backslash : get_or s i 0 ≡ 92

-- what the byte b behind a backslash stands for: 'escapes `\"` `\\` `\n` `\t`'
abbrev pub Escapes : ℕ → Option ℕ → Type 0
Escapes b (Some e) = (escape_of b ≡ e) × (e ≡ 0 → ⊥)
Escapes b None = escape_of b ≡ 0

-- one step in a string, at the place i: 'bytes 0x20 to 0x7E other than `"` and `\`, escapes .., `"`', or a 'bad byte or escape in
-- a string, string not closed'
abbrev pub StepMeans : List ℕ → ℕ → Option StringStep → Type 0
StepMeans s i (Some Close) = body_of (drop i s) ≡ closed [] 1
StepMeans s i (Some (Byte b q)) = (i < q) × (q ≤ length s) × (body_of (drop i s) ≡ grown b (q - i) (body_of (drop q s)))
StepMeans s i None = body_of (drop i s) ≡ broken

-- the string behind the opening quote, from the place i on: its length, and the place behind its closing quote; or 'bad byte or
-- escape in a string, string not closed'
abbrev pub EndMeans : List ℕ → ℕ → Option StringEnd → Type 0
EndMeans s i (Some e) = (i + e.length < e.end) × (e.end ≤ length s) × ((xs : List ℕ) × (length xs ≡ e.length) × (body_of (drop i s) ≡ closed xs (e.end - i)))
EndMeans s i None = body_of (drop i s) ≡ broken

-- the text is at p behind its blanks: 'Blank: .., between tokens and at both ends.'
pub record AtToken (s : List ℕ) (p : ℕ) : Type 0 where
  pub high : p ≤ length s
  pub stop : p < length s → is_blank (get_or s p 0) ≡ false
