-- What a test says, and that a symbol or operator is known by its number. Assumes nothing.
use Rattle.std.specs.Prelude.{ℕ, ◌≤◌, ◌≡◌, refl, Bool, true, false, cond, eqb}
use Rattle.std.proofs.Common.{arith, sym, ◌∙◌, ap, eqb-true}
use Rattle.syntax.specs.Token.{Token, word, constant, operator, symbol, pick}
use Rattle.syntax.specs.Grammar.{binds_of}
use Rattle.syntax.specs.Reader.{code_of, is_token}
use Rattle.syntax.specs.declared.Binary.{Binary}
use Rattle.syntax.specs.declared.Binary.TheVariants.{Or, And, Equal, NotEqual, Is, Isnt, Less, LessOrEqual, Greater, GreaterOrEqual, Add, Subtract, Multiply, Divide, Remainder}
use Rattle.syntax.specs.declared.Symbol.{Symbol}
use Rattle.syntax.specs.declared.Symbol.TheVariants.{Exclamation, Question, Colon, OpenParenthesis, CloseParenthesis, OpenBracket, CloseBracket, Semicolon, Assign, Point, Other, Parent}

module _ {A : Type 0} (P : A → Type 0) where
  pub on_cond : (b : Bool) (x y : A) → (b ≡ true → P x) → (b ≡ false → P y) → P (cond b x y)
  on_cond true x y f g = f refl
  on_cond false x y f g = g refl

  pub on_pick : (b : Bool) (x y : Unit {0} → A) → (b ≡ true → P (x tt)) → (b ≡ false → P (y tt)) → P (pick b x y)
  on_pick true x y f g = f refl
  on_pick false x y f g = g refl

-- the token of a number
token_of : ℕ → Token
token_of n =
    pick (eqb n 1) (λ _. operator Or) (λ _. pick (eqb n 2) (λ _. operator And) (λ _. pick (eqb n 3) (λ _. operator Equal) (λ _. pick (eqb n 4) (λ _. operator NotEqual)
    (λ _. pick (eqb n 5) (λ _. operator Is) (λ _. pick (eqb n 6) (λ _. operator Isnt) (λ _. pick (eqb n 7) (λ _. operator Less) (λ _. pick (eqb n 8) (λ _. operator LessOrEqual)
    (λ _. pick (eqb n 9) (λ _. operator Greater) (λ _. pick (eqb n 10) (λ _. operator GreaterOrEqual) (λ _. pick (eqb n 11) (λ _. operator Add) (λ _. pick (eqb n 12) (λ _. operator Subtract)
    (λ _. pick (eqb n 13) (λ _. operator Multiply) (λ _. pick (eqb n 14) (λ _. operator Divide) (λ _. pick (eqb n 15) (λ _. operator Remainder) (λ _. pick (eqb n 16) (λ _. symbol Exclamation)
    (λ _. pick (eqb n 17) (λ _. symbol Question) (λ _. pick (eqb n 18) (λ _. symbol Colon) (λ _. pick (eqb n 19) (λ _. symbol OpenParenthesis) (λ _. pick (eqb n 20) (λ _. symbol CloseParenthesis)
    (λ _. pick (eqb n 21) (λ _. symbol OpenBracket) (λ _. pick (eqb n 22) (λ _. symbol CloseBracket) (λ _. pick (eqb n 23) (λ _. symbol Semicolon) (λ _. pick (eqb n 24) (λ _. symbol Assign)
    (λ _. pick (eqb n 25) (λ _. symbol Point) (λ _. pick (eqb n 26) (λ _. symbol Other) (λ _. symbol Parent))))))))))))))))))))))))))

-- a token that has a number is found again by it
found : (t : Token) → 1 ≤ code_of t → token_of (code_of t) ≡ t
unfolding token_of
found (word w) h = absurd (omega arith)
found (constant l) h = absurd (omega arith)
found (operator Or) h = refl
found (operator And) h = refl
found (operator Equal) h = refl
found (operator NotEqual) h = refl
found (operator Is) h = refl
found (operator Isnt) h = refl
found (operator Less) h = refl
found (operator LessOrEqual) h = refl
found (operator Greater) h = refl
found (operator GreaterOrEqual) h = refl
found (operator Add) h = refl
found (operator Subtract) h = refl
found (operator Multiply) h = refl
found (operator Divide) h = refl
found (operator Remainder) h = refl
found (symbol Exclamation) h = refl
found (symbol Question) h = refl
found (symbol Colon) h = refl
found (symbol OpenParenthesis) h = refl
found (symbol CloseParenthesis) h = refl
found (symbol OpenBracket) h = refl
found (symbol CloseBracket) h = refl
found (symbol Semicolon) h = refl
found (symbol Assign) h = refl
found (symbol Point) h = refl
found (symbol Other) h = refl
found (symbol Parent) h = refl

-- every operator and every symbol has a number
pub operator_coded : (j : Binary) → 1 ≤ code_of (operator j)
operator_coded Or = omega arith
operator_coded And = omega arith
operator_coded Equal = omega arith
operator_coded NotEqual = omega arith
operator_coded Is = omega arith
operator_coded Isnt = omega arith
operator_coded Less = omega arith
operator_coded LessOrEqual = omega arith
operator_coded Greater = omega arith
operator_coded GreaterOrEqual = omega arith
operator_coded Add = omega arith
operator_coded Subtract = omega arith
operator_coded Multiply = omega arith
operator_coded Divide = omega arith
operator_coded Remainder = omega arith

pub symbol_coded : (s : Symbol) → 1 ≤ code_of (symbol s)
symbol_coded Exclamation = omega arith
symbol_coded Question = omega arith
symbol_coded Colon = omega arith
symbol_coded OpenParenthesis = omega arith
symbol_coded CloseParenthesis = omega arith
symbol_coded OpenBracket = omega arith
symbol_coded CloseBracket = omega arith
symbol_coded Semicolon = omega arith
symbol_coded Assign = omega arith
symbol_coded Point = omega arith
symbol_coded Other = omega arith
symbol_coded Parent = omega arith

pub code_same : (t x : Token) → 1 ≤ code_of x → code_of t ≡ code_of x → t ≡ x
code_same t x h e = sym (found t (rw e h)) ∙ ap token_of e ∙ found x h

pub is_token_lem : (x t : Token) → 1 ≤ code_of x → is_token x t ≡ true → t ≡ x
is_token_lem x t h e = code_same t x h (eqb-true _ _ e)

-- every operator binds somewhere from 1 to 6
pub binds_low : (j : Binary) → (1 ≤ binds_of j) × (binds_of j ≤ 6)
binds_low Or = omega arith
binds_low And = omega arith
binds_low Equal = omega arith
binds_low NotEqual = omega arith
binds_low Is = omega arith
binds_low Isnt = omega arith
binds_low Less = omega arith
binds_low LessOrEqual = omega arith
binds_low Greater = omega arith
binds_low GreaterOrEqual = omega arith
binds_low Add = omega arith
binds_low Subtract = omega arith
binds_low Multiply = omega arith
binds_low Divide = omega arith
binds_low Remainder = omega arith

-- operators have the low numbers, other symbols the high ones
pub operator_low : (j : Binary) → code_of (operator j) ≤ 15
operator_low Or = omega arith
operator_low And = omega arith
operator_low Equal = omega arith
operator_low NotEqual = omega arith
operator_low Is = omega arith
operator_low Isnt = omega arith
operator_low Less = omega arith
operator_low LessOrEqual = omega arith
operator_low Greater = omega arith
operator_low GreaterOrEqual = omega arith
operator_low Add = omega arith
operator_low Subtract = omega arith
operator_low Multiply = omega arith
operator_low Divide = omega arith
operator_low Remainder = omega arith

pub symbol_high : (x : Symbol) → 16 ≤ code_of (symbol x)
symbol_high Exclamation = omega arith
symbol_high Question = omega arith
symbol_high Colon = omega arith
symbol_high OpenParenthesis = omega arith
symbol_high CloseParenthesis = omega arith
symbol_high OpenBracket = omega arith
symbol_high CloseBracket = omega arith
symbol_high Semicolon = omega arith
symbol_high Assign = omega arith
symbol_high Point = omega arith
symbol_high Other = omega arith
symbol_high Parent = omega arith
