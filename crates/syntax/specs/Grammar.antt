-- The grammar: which tokens are an expression or an ad, and which tree it is. Assumes nothing.
use Rattle.std.specs.Prelude.{ℕ, ◌+◌, ◌≤◌, ◌<◌, ◌≡◌, Bool, false, ◌||◌, List, [], ◌∷◌, ◌++◌, length}
use Rattle.text.specs.Strings.{same_name}
use Rattle.syntax.specs.Bounds.{max_level, max_nodes, max_definitions}
use Rattle.syntax.specs.Tree.{Literal, own, other, Expr, literal, reference, unary, binary, conditional, Ad, nodes}
use Rattle.syntax.specs.Token.{Token, word, constant, operator, symbol, Tokens, next, end}
use Rattle.syntax.specs.declared.Binary.{Binary}
use Rattle.syntax.specs.declared.Binary.TheVariants.{Or, And, Equal, NotEqual, Is, Isnt, Less, LessOrEqual, Greater, GreaterOrEqual, Add, Subtract, Multiply, Divide, Remainder}
use Rattle.syntax.specs.declared.Unary.{Unary}
use Rattle.syntax.specs.declared.Unary.TheVariants.{Not, Plus, Minus}
use Rattle.syntax.specs.declared.Symbol.TheVariants.{Exclamation, Question, Colon, OpenParenthesis, CloseParenthesis, OpenBracket, CloseBracket, Semicolon, Assign, Point, Other}

-- 'Binding, loosest first: `?:`; `||`; `&&`; `== != is isnt`; `< <= > >=`; `+ -`; `* / %`; unary `! + -`; then literals,
-- references and parentheses.' `?:` is 0, unary operators are 7, and what binds tightest is 8.
abbrev pub binds_of : Binary → ℕ
binds_of Or = 1
binds_of And = 2
binds_of Equal = 3
binds_of NotEqual = 3
binds_of Is = 3
binds_of Isnt = 3
binds_of Less = 4
binds_of LessOrEqual = 4
binds_of Greater = 4
binds_of GreaterOrEqual = 4
binds_of Add = 5
binds_of Subtract = 5
binds_of Multiply = 6
binds_of Divide = 6
binds_of Remainder = 6

-- the tokens of 'unary `! + -`'
abbrev pub unary_token : Unary → Token
unary_token Not = symbol Exclamation
unary_token Plus = operator Add
unary_token Minus = operator Subtract

-- ReadsTo n b d ts e: at level d the tokens ts are the expression e, in which no operator outside parentheses binds looser than b.
-- 'The inside of parentheses, the operand of a unary operator and both arms of a conditional are one level deeper', and no
-- deeper than level n. 'An expression in parentheses is again a whole expression and leaves no node.' 'Binary operators group
-- to the left.' 'A conditional is an `||`-expression, `?`, an expression, `:`, an expression.'
pub data ReadsTo (n : ℕ) : ℕ → ℕ → List Token → Expr → Type 0 where
  reads_literal : {d : ℕ} {l : Literal} → ReadsTo n 8 d (constant l ∷ []) (literal l)
  reads_own : {d : ℕ} {w : List ℕ} → ReadsTo n 8 d (word w ∷ []) (reference own w)
  reads_other : {d : ℕ} {w : List ℕ} → ReadsTo n 8 d (symbol Other ∷ symbol Point ∷ word w ∷ []) (reference other w)
  reads_parentheses : {d : ℕ} {ts : List Token} {e : Expr} → d < n →
      ReadsTo n 0 (d + 1) ts e →
      ReadsTo n 8 d (symbol OpenParenthesis ∷ (ts ++ symbol CloseParenthesis ∷ [])) e
  reads_unary : {d : ℕ} {u : Unary} {ts : List Token} {e : Expr} → d < n →
      ReadsTo n 7 (d + 1) ts e →
      ReadsTo n 7 d (unary_token u ∷ ts) (unary u e)
  reads_binary : {d : ℕ} {j : Binary} {xs ys : List Token} {a b : Expr} →
      ReadsTo n (binds_of j) d xs a →
      ReadsTo n (binds_of j + 1) d ys b →
      ReadsTo n (binds_of j) d (xs ++ operator j ∷ ys) (binary j a b)
  reads_conditional : {d : ℕ} {xs ys zs : List Token} {a b c : Expr} → d < n →
      ReadsTo n 1 d xs a →
      ReadsTo n 0 (d + 1) ys b →
      ReadsTo n 0 (d + 1) zs c →
      ReadsTo n 0 d (xs ++ symbol Question ∷ (ys ++ symbol Colon ∷ zs)) (conditional a b c)
  -- what binds tighter may stand where b is asked
  reads_tighter : {b d : ℕ} {ts : List Token} {e : Expr} → b < 8 → ReadsTo n (b + 1) d ts e → ReadsTo n b d ts e

-- 'definitions `name = expression` parted by `;`'; 'A definition's expression starts at level 0.'
pub data DefinesTo (n : ℕ) : List Token → Ad → Type 0 where
  defines_one : {w : List ℕ} {ts : List Token} {e : Expr} →
      ReadsTo n 0 0 ts e →
      DefinesTo n (word w ∷ symbol Assign ∷ ts) (record { name = w; expression = e } ∷ [])
  defines_more : {w : List ℕ} {ts us : List Token} {e : Expr} {a : Ad} →
      ReadsTo n 0 0 ts e →
      DefinesTo n us a →
      DefinesTo n (word w ∷ symbol Assign ∷ (ts ++ symbol Semicolon ∷ us)) (record { name = w; expression = e } ∷ a)

-- '`[`, then definitions .., one further `;` allowed after the last, then `]`. `[]` is an ad; `[;]` is not.'
pub data AdTo (n : ℕ) : List Token → Ad → Type 0 where
  ad_empty : AdTo n (symbol OpenBracket ∷ symbol CloseBracket ∷ []) []
  ad_plain : {ts : List Token} {a : Ad} → DefinesTo n ts a → AdTo n (symbol OpenBracket ∷ (ts ++ symbol CloseBracket ∷ [])) a
  ad_trailing : {ts : List Token} {a : Ad} → DefinesTo n ts a → AdTo n (symbol OpenBracket ∷ (ts ++ symbol Semicolon ∷ symbol CloseBracket ∷ [])) a

-- an expression within 'level 64'
abbrev pub Reads : ℕ → ℕ → List Token → Expr → Type 0
Reads = ReadsTo max_level

-- definitions within 'level 64'
abbrev pub Defines : List Token → Ad → Type 0
Defines = DefinesTo max_level

-- an ad within 'level 64'
abbrev pub IsAd : List Token → Ad → Type 0
IsAd = AdTo max_level

-- whether a name is defined among some definitions: 'Names match without regard to ASCII case'
unfoldable pub defined : List ℕ → Ad → Bool
defined w [] = false
defined w (d ∷ ds) = same_name d.name w || defined w ds

-- each name of the definitions ds is new after those before it, which start with a
unfoldable pub NewAfter : (List ℕ → Ad → Bool) → Ad → Ad → Type 0
NewAfter taken a [] = Unit {0}
NewAfter taken a (d ∷ ds) = (taken d.name a ≡ false) × NewAfter taken (a ++ d ∷ []) ds

-- no 'name defined twice'
abbrev pub Distinct : Ad → Type 0
Distinct a = NewAfter defined [] a

-- the bounds that count over a whole ad, '256 definitions; 1,024 nodes', and refusal 8, 'name defined twice'
pub record Within (a : Ad) : Type 0 where
  pub few_definitions : length a ≤ max_definitions
  pub few_nodes : nodes a ≤ max_nodes
  pub distinct : Distinct a

-- Follows u ts v: the tokens u are ts, and then v: what fits, against 'token does not fit the grammar'
pub data Follows : Tokens → List Token → Tokens → Type 0 where
  none : {u : Tokens} → Follows u [] u
  some : {p : ℕ} {t : Token} {ts : List Token} {u v : Tokens} → Follows u ts v → Follows (next p t u) (t ∷ ts) v

-- the tokens u are ts, up to the end of the text: what fits whole, against 'token does not fit the grammar, or text ends early'
abbrev pub Whole : Tokens → List Token → Type 0
Whole u ts = (n : ℕ) × Follows u ts (end n)
