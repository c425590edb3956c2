-- The tokens of a printed ad (Laws/Lexing.antt `printed_tokens`), and pairs of parentheses among tokens. Assumes nothing.
use Rattle.std.specs.Prelude.{ℕ, ◌+◌, cond, List, [], ◌∷◌, ◌++◌, ltb}
use Rattle.syntax.specs.Tree.{Scope, own, other, Expr, literal, reference, unary, binary, conditional, Ad}
use Rattle.syntax.specs.Token.{Token, word, constant, operator, symbol, pick}
use Rattle.syntax.specs.Grammar.{binds_of, unary_token}
use Rattle.syntax.specs.Reader.{is_token}
use Rattle.syntax.specs.Print.{binds}
use Rattle.syntax.specs.declared.Symbol.TheVariants.{Question, Colon, OpenParenthesis, CloseParenthesis, OpenBracket, CloseBracket, Semicolon, Assign, Point, Other}

-- parentheses where `wrap` writes them: 'Parentheses only where the tree would otherwise read differently'
abbrev pub wrap_tokens : ℕ → ℕ → List Token → List Token
wrap_tokens k b ts = pick (ltb b k) (λ _. symbol OpenParenthesis ∷ (ts ++ symbol CloseParenthesis ∷ [])) (λ _. ts)

-- the tokens of a reference: 'Reference: `name` or `other.name`'
abbrev pub reference_tokens : Scope → List ℕ → List Token
reference_tokens own w = word w ∷ []
reference_tokens other w = symbol Other ∷ symbol Point ∷ word w ∷ []

-- the tokens of a printed expression: 'Parentheses only where the tree would otherwise read differently'
unfoldable pub expr_tokens : Expr → List Token
expr_tokens (literal l) = constant l ∷ []
expr_tokens (reference s w) = reference_tokens s w
expr_tokens (unary u a) = unary_token u ∷ wrap_tokens 7 (binds a) (expr_tokens a)
expr_tokens (binary j a b) =
    wrap_tokens (binds_of j) (binds a) (expr_tokens a) ++ operator j ∷ wrap_tokens (binds_of j + 1) (binds b) (expr_tokens b)
expr_tokens (conditional a b c) =
    wrap_tokens 1 (binds a) (expr_tokens a) ++ symbol Question ∷ (expr_tokens b ++ symbol Colon ∷ expr_tokens c)

-- those of printed definitions: 'definitions as `name = expression` joined by `; `'
unfoldable pub definition_tokens : Ad → List Token
definition_tokens [] = []
definition_tokens (d ∷ []) = word d.name ∷ symbol Assign ∷ expr_tokens d.expression
definition_tokens (d ∷ e ∷ ds) =
    word d.name ∷ symbol Assign ∷ (expr_tokens d.expression ++ symbol Semicolon ∷ definition_tokens (e ∷ ds))

-- those of a printed ad: '`[`, definitions as `name = expression` joined by `; `, `]`.'
unfoldable pub ad_tokens : Ad → List Token
ad_tokens a = symbol OpenBracket ∷ (definition_tokens a ++ symbol CloseBracket ∷ [])

-- how many pairs of parentheses there are
unfoldable pub parentheses : List Token → ℕ
parentheses [] = 0
parentheses (t ∷ ts) = cond (is_token (symbol OpenParenthesis) t) 1 0 + parentheses ts
