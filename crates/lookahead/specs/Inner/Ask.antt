-- What the answers on the token at a place stand for. s is the text. Assumes nothing.
use Rattle.std.specs.Prelude.{ℕ, ◌≤◌, ◌<◌, ◌≡◌, false, Option, Some, None, Result, Ok, Err, List, length}
use Rattle.std.proofs.Math.Seq.{slice}
use Rattle.syntax.specs.Token.{Token, word, constant, operator, symbol, Tokens, next, end, bad}
use Rattle.syntax.specs.Grammar.{binds_of, unary_token}
use Rattle.syntax.specs.Reader.{is_token}
use Rattle.syntax.specs.declared.Binary.{Binary}
use Rattle.syntax.specs.declared.Unary.{Unary}
use Rattle.syntax.specs.declared.Symbol.{Symbol}
use Rattle.syntax.specs.Refusals.{number_of}
use Rattle.syntax.specs.declared.Refusal.{Refusal}
use Rattle.tokens.specs.Inner.Meaning.{tokens_at}
use Rattle.tokens.specs.declared.Span.{Span}

-- the token in front is not the symbol or operator x
abbrev pub NotToken : Token → Tokens → Type 0
NotToken x (next p t u) = is_token x t ≡ false
NotToken x (end n) = Unit {0}
NotToken x (bad k p) = Unit {0}

-- the token in front is no Name
abbrev pub NotWord : Tokens → Type 0
NotWord (next p (word w) u) = ⊥
NotWord (next p (constant l) u) = Unit {0}
NotWord (next p (operator j) u) = Unit {0}
NotWord (next p (symbol x) u) = Unit {0}
NotWord (end n) = Unit {0}
NotWord (bad k p) = Unit {0}

-- the token in front is no operator that binds at b
abbrev pub NotBinary : ℕ → Tokens → Type 0
NotBinary b (next p (word w) u) = Unit {0}
NotBinary b (next p (constant l) u) = Unit {0}
NotBinary b (next p (operator j) u) = binds_of j ≡ b → ⊥
NotBinary b (next p (symbol x) u) = Unit {0}
NotBinary b (end n) = Unit {0}
NotBinary b (bad k p) = Unit {0}

-- where the token in front does not fit: its refusal k and place p: 'its first byte is the place, for a 4 where text ends early
-- the text's length'
abbrev pub Misfit : ℕ → ℕ → Tokens → Type 0
Misfit k p (next q t u) = (k ≡ 4) × (p ≡ q)
Misfit k p (end n) = (k ≡ 4) × (p ≡ n)
Misfit k p (bad j q) = (k ≡ j) × (p ≡ q)

-- the token at `at` is t, at p, and behind it is q
pub record Stands (s : List ℕ) (at p : ℕ) (t : Token) (q : ℕ) : Type 0 where
  pub low : at ≤ p
  pub wide : p < q
  pub high : q ≤ length s
  pub stands : tokens_at s at ≡ next p t (tokens_at s q)

-- the symbol x, or the refusal of what is there: 'token does not fit the grammar, or text ends early'
abbrev pub SymbolIs : List ℕ → ℕ → Symbol → Result Span Refusal → Type 0
SymbolIs s at x (Ok w) = Stands s at w.start (symbol x) w.end
SymbolIs s at x (Err r) = NotToken (symbol x) (tokens_at s at) × Misfit (number_of r.reason) r.place (tokens_at s at)

-- a Name, or the refusal of what is there: 'token does not fit the grammar, or text ends early'
abbrev pub WordIs : List ℕ → ℕ → Result Span Refusal → Type 0
WordIs s at (Ok w) = Stands s at w.start (word (slice w.start w.end s)) w.end
WordIs s at (Err r) = NotWord (tokens_at s at) × Misfit (number_of r.reason) r.place (tokens_at s at)

-- an operator of two operands that binds at b
abbrev pub BinaryIs : List ℕ → ℕ → ℕ → Option (Binary × Span) → Type 0
BinaryIs s at b (Some x) = (binds_of x.0 ≡ b) × Stands s at x.1.start (operator x.0) x.1.end
BinaryIs s at b None = NotBinary b (tokens_at s at)

-- an operator of one operand: 'unary `! + -`'
abbrev pub UnaryIs : List ℕ → ℕ → Option (Unary × Span) → Type 0
UnaryIs s at (Some x) = Stands s at x.1.start (unary_token x.0) x.1.end
UnaryIs s at None = (o : Unary) → NotToken (unary_token o) (tokens_at s at)
