-- Reading: the tree of a text, or the number and place of its refusal. 'the first token that breaks a rule decides'; 'At one
-- token the order is 3, 7, 5, 4, 6, 8, 9': the first three are the token's own (`bad`), the others are tested here in that
-- order. Assumes nothing.
use Rattle.std.specs.Prelude.{ℕ, zero, suc, ◌+◌, ◌*◌, Bool, List, [], ◌∷◌, ◌++◌, length, ltb, leb, eqb}
use Rattle.syntax.specs.Bounds.{text_bytes, max_level, max_nodes, max_definitions}
use Rattle.syntax.specs.Tree.{Literal, own, other, Expr, literal, reference, unary, binary, conditional, Ad, size}
use Rattle.syntax.specs.Token.{Token, word, constant, operator, symbol, Tokens, next, end, bad, pick, tokens}
use Rattle.syntax.specs.Grammar.{binds_of, unary_token, defined}
use Rattle.syntax.specs.declared.Binary.{Binary}
use Rattle.syntax.specs.declared.Binary.TheVariants.{Or, And, Equal, NotEqual, Is, Isnt, Less, LessOrEqual, Greater, GreaterOrEqual, Add, Subtract, Multiply, Divide, Remainder}
use Rattle.syntax.specs.declared.Unary.{Unary}
use Rattle.syntax.specs.declared.Unary.TheVariants.{Not, Plus, Minus}
use Rattle.syntax.specs.declared.Symbol.TheVariants.{Exclamation, Question, Colon, OpenParenthesis, CloseParenthesis, OpenBracket, CloseBracket, Semicolon, Assign, Point, Other, Parent}

-- What reading an expression gives: the expression and the tokens behind it, or a refusal's number and place: 'A refusal carries
-- its number and a place'.
pub data Parsed : Type 0 where
  ok : Expr → Tokens → Parsed
  refused : ℕ → ℕ → Parsed

-- What reading an ad gives: the ad, or a refusal: 'A refusal carries its number and a place'.
pub data Answer : Type 0 where
  accepted : Ad → Answer
  denied : ℕ → ℕ → Answer

-- ---- the token in front

-- a number for each symbol and operator, so that two can be compared; 0 for a name or a literal
abbrev pub code_of : Token → ℕ
code_of (word w) = 0
code_of (constant l) = 0
code_of (operator Or) = 1
code_of (operator And) = 2
code_of (operator Equal) = 3
code_of (operator NotEqual) = 4
code_of (operator Is) = 5
code_of (operator Isnt) = 6
code_of (operator Less) = 7
code_of (operator LessOrEqual) = 8
code_of (operator Greater) = 9
code_of (operator GreaterOrEqual) = 10
code_of (operator Add) = 11
code_of (operator Subtract) = 12
code_of (operator Multiply) = 13
code_of (operator Divide) = 14
code_of (operator Remainder) = 15
code_of (symbol Exclamation) = 16
code_of (symbol Question) = 17
code_of (symbol Colon) = 18
code_of (symbol OpenParenthesis) = 19
code_of (symbol CloseParenthesis) = 20
code_of (symbol OpenBracket) = 21
code_of (symbol CloseBracket) = 22
code_of (symbol Semicolon) = 23
code_of (symbol Assign) = 24
code_of (symbol Point) = 25
code_of (symbol Other) = 26
code_of (symbol Parent) = 27

-- whether a token is the symbol or operator x
abbrev pub is_token : Token → Token → Bool
is_token x t = eqb (code_of t) (code_of x)

module _ {A : Type 0} (refuse : ℕ → ℕ → A) where
  -- 'token does not fit the grammar, or text ends early': 4, at the token or at the text's length; a bad token has its own number
  abbrev pub misfit : Tokens → A
  misfit (next p t u) = refuse 4 p
  misfit (end n) = refuse 4 n
  misfit (bad k p) = refuse k p

module _ {A : Type 0} where
  -- where the symbol or operator x is in front, go on behind it with its place; else otherwise
  abbrev pub on_token : Token → Tokens → (ℕ → Tokens → A) → (Unit {0} → A) → A
  on_token x (next p t u) then otherwise = pick (is_token x t) (λ _. then p u) otherwise
  on_token x (end n) then otherwise = otherwise tt
  on_token x (bad k p) then otherwise = otherwise tt

  -- where a Name is in front
  abbrev pub on_word : Tokens → (ℕ → List ℕ → Tokens → A) → (Unit {0} → A) → A
  on_word (next p (word w) u) then otherwise = then p w u
  on_word (next p (constant l) u) then otherwise = otherwise tt
  on_word (next p (operator j) u) then otherwise = otherwise tt
  on_word (next p (symbol s) u) then otherwise = otherwise tt
  on_word (end n) then otherwise = otherwise tt
  on_word (bad k p) then otherwise = otherwise tt

-- where a literal is in front
abbrev pub on_literal : Tokens → (ℕ → Literal → Tokens → Parsed) → (Unit {0} → Parsed) → Parsed
on_literal (next p (word w) u) then otherwise = otherwise tt
on_literal (next p (constant l) u) then otherwise = then p l u
on_literal (next p (operator j) u) then otherwise = otherwise tt
on_literal (next p (symbol s) u) then otherwise = otherwise tt
on_literal (end n) then otherwise = otherwise tt
on_literal (bad k p) then otherwise = otherwise tt

-- where an operator of two operands that binds at b is in front
abbrev pub on_binary : ℕ → Tokens → (Binary → ℕ → Tokens → Parsed) → (Unit {0} → Parsed) → Parsed
on_binary b (next p (word w) u) then otherwise = otherwise tt
on_binary b (next p (constant l) u) then otherwise = otherwise tt
on_binary b (next p (operator j) u) then otherwise = pick (eqb (binds_of j) b) (λ _. then j p u) otherwise
on_binary b (next p (symbol s) u) then otherwise = otherwise tt
on_binary b (end n) then otherwise = otherwise tt
on_binary b (bad k p) then otherwise = otherwise tt

-- where an operator of one operand is in front
abbrev pub on_unary : Tokens → (Unary → ℕ → Tokens → Parsed) → (Unit {0} → Parsed) → Parsed
on_unary u then otherwise =
    on_token (unary_token Not) u (then Not)
    (λ _. on_token (unary_token Plus) u (then Plus)
    (λ _. on_token (unary_token Minus) u (then Minus) otherwise))

-- ---- expressions

-- go on behind an expression; a refusal stays: 'the first token that breaks a rule decides'
abbrev pub after : Parsed → (Expr → Tokens → Parsed) → Parsed
after (ok e u) go = go e u
after (refused k p) go = refused k p

-- the symbol x must stand here; else 'token does not fit the grammar, or text ends early'
abbrev pub want : Token → Tokens → (Tokens → Parsed) → Parsed
want x u go = on_token x u (λ p v. go v) (λ _. misfit refused u)

-- Limits within which a text is read: the highest level, how many nodes and definitions an ad may have, and which names are taken
-- after some definitions.
pub record Limits : Type 0 where
  pub most_levels : ℕ
  pub most_nodes : ℕ
  pub most_definitions : ℕ
  pub taken : List ℕ → Ad → Bool

-- document 01's: '256 definitions; 1,024 nodes; .. level 64', and no 'name defined twice'
abbrev pub limits : Limits
limits = record { most_levels = max_level; most_nodes = max_nodes; most_definitions = max_definitions; taken = defined }

module _ (L : Limits) where
  -- 'Level 65 is refused at its `(`, unary operator or `?`': 6, where level d is left for a deeper one
  abbrev pub level : ℕ → ℕ → (Unit {0} → Parsed) → Parsed
  level d p go = pick (leb L.most_levels d) (λ _. refused 6 p) go

  -- '1,025th node': 9, after c nodes. 'Nodes are counted in text order'
  abbrev pub room : ℕ → ℕ → (Unit {0} → Parsed) → Parsed
  room c p go = pick (leb L.most_nodes c) (λ _. refused 9 p) go

  -- The readers: u are the tokens, d is the level, and c nodes were counted before. `f` bounds how deep the calls go: no answer
  -- comes from it (Laws/Accepts.antt, `refusals`: every number is 3 or more).
  unfoldable mutual
    -- 'A conditional is an `||`-expression, `?`, an expression, `:`, an expression.'
    pub conditional_at : ℕ → Tokens → ℕ → ℕ → Parsed
    conditional_at zero u d c = refused 0 0
    conditional_at (suc f) u d c = after (binary_at f u 1 d c) (λ e v. arms_at f v d (c + size e) e)

    -- behind the expression e, whose nodes are counted: `?` and its arms, or nothing: 'A conditional is an `||`-expression, `?`,
    -- an expression, `:`, an expression.'
    pub arms_at : ℕ → Tokens → ℕ → ℕ → Expr → Parsed
    arms_at zero u d c e = refused 0 0
    arms_at (suc f) u d c e =
        on_token (symbol Question) u
        (λ p v. level d p (λ _. room c p (λ _.
        after (conditional_at f v (d + 1) (c + 1)) (λ a w.
        want (symbol Colon) w (λ x.
        after (conditional_at f x (d + 1) (c + 1 + size a)) (λ b y.
        ok (conditional e a b) y))))))
        (λ _. ok e u)

    -- operands of operators that bind at b, which group to the left: 'Binary operators group to the left.'
    pub binary_at : ℕ → Tokens → ℕ → ℕ → ℕ → Parsed
    binary_at zero u b d c = refused 0 0
    binary_at (suc f) u b d c =
        pick (ltb b 7)
        (λ _. after (binary_at f u (b + 1) d c) (λ e v. rest_at f v b d (c + size e) e))
        (λ _. unary_at f u d c)

    -- behind the left operand e, whose nodes are counted: 'Binary operators group to the left.'
    pub rest_at : ℕ → Tokens → ℕ → ℕ → ℕ → Expr → Parsed
    rest_at zero u b d c e = refused 0 0
    rest_at (suc f) u b d c e =
        on_binary b u
        (λ j p v. room c p (λ _.
        after (binary_at f v (b + 1) d (c + 1)) (λ a w.
        rest_at f w b d (c + 1 + size a) (binary j e a))))
        (λ _. ok e u)

    -- 'unary `! + -`'
    pub unary_at : ℕ → Tokens → ℕ → ℕ → Parsed
    unary_at zero u d c = refused 0 0
    unary_at (suc f) u d c =
        on_unary u
        (λ o p v. level d p (λ _. room c p (λ _.
        after (unary_at f v (d + 1) (c + 1)) (λ a w.
        ok (unary o a) w))))
        (λ _. primary_at f u d c)

    -- 'literals, references and parentheses'; 'each reference (at `other` where it has one)'
    pub primary_at : ℕ → Tokens → ℕ → ℕ → Parsed
    primary_at zero u d c = refused 0 0
    primary_at (suc f) u d c =
        on_literal u (λ p l v. room c p (λ _. ok (literal l) v))
        (λ _. on_word u (λ p w v. room c p (λ _. ok (reference own w) v))
        (λ _. on_token (symbol Other) u (λ p v. room c p (λ _.
        want (symbol Point) v (λ x. on_word x (λ q w y. ok (reference other w) y) (λ _. misfit refused x))))
        (λ _. on_token (symbol OpenParenthesis) u (λ p v. level d p (λ _.
        after (conditional_at f v (d + 1) c) (λ e w.
        want (symbol CloseParenthesis) w (λ x. ok e x))))
        (λ _. misfit refused u))))

-- ---- ads

-- go on behind an expression of an ad; a refusal stays: 'the first token that breaks a rule decides'
abbrev pub after_a : Parsed → (Expr → Tokens → Answer) → Answer
after_a (ok e u) go = go e u
after_a (refused k p) go = denied k p

-- the symbol x must stand here; else 'token does not fit the grammar, or text ends early'
abbrev pub want_a : Token → Tokens → (Tokens → Answer) → Answer
want_a x u go = on_token x u (λ p v. go v) (λ _. misfit denied u)

-- behind `]` the text ends: '`[`, then definitions .., then `]`'; a further token 'does not fit the grammar'
abbrev pub end_a : Tokens → Ad → Answer
end_a (next p t u) a = denied 4 p
end_a (end n) a = accepted a
end_a (bad k p) a = denied k p

-- how many tokens there are: for `enough`, as the 'readers call each other in a cycle'
unfoldable pub count : Tokens → ℕ
count (next p t u) = count u + 1
count (end n) = 0
count (bad k p) = 0

-- a depth of calls that no reader reaches: it bounds how the 'readers call each other in a cycle'
abbrev pub enough : Tokens → ℕ
enough u = 16 * count u + 16

module _ (L : Limits) where
  -- 'name defined twice': 8; '257th definition': 9, both at the name
  abbrev pub admit : List ℕ → ℕ → Ad → (Unit {0} → Answer) → Answer
  admit w p a go = pick (L.taken w a) (λ _. denied 8 p) (λ _. pick (leb L.most_definitions (length a)) (λ _. denied 9 p) go)

  unfoldable mutual
    -- `]`, or a definition, after the definitions a with c nodes: 'definitions `name = expression` parted by `;`, one further `;`
    -- allowed after the last, then `]`'
    pub definitions_at : ℕ → Tokens → Ad → ℕ → Answer
    definitions_at zero u a c = denied 0 0
    definitions_at (suc f) u a c =
        on_token (symbol CloseBracket) u (λ p v. end_a v a)
        (λ _. on_word u (λ p w v. admit w p a (λ _.
        want_a (symbol Assign) v (λ x.
        after_a (conditional_at L (enough x) x 0 c) (λ e y.
        behind_at f y (a ++ record { name = w; expression = e } ∷ []) (c + size e)))))
        (λ _. misfit denied u))

    -- `;` or `]` behind a definition: 'parted by `;`, one further `;` allowed after the last, then `]`'
    pub behind_at : ℕ → Tokens → Ad → ℕ → Answer
    behind_at zero u a c = denied 0 0
    behind_at (suc f) u a c =
        on_token (symbol Semicolon) u (λ p v. definitions_at f v a c)
        (λ _. on_token (symbol CloseBracket) u (λ p v. end_a v a)
        (λ _. misfit denied u))

  -- an ad, up to the end of the text: '`[`, then definitions `name = expression` parted by `;`, .., then `]`'
  unfoldable pub ad_at : Tokens → Answer
  ad_at u = want_a (symbol OpenBracket) u (λ v. definitions_at (enough v) v [] 0)

-- Reading a text of any length: 'were its length not bounded'.
unfoldable pub parse : List ℕ → Answer
parse s = ad_at limits (tokens s)

-- Reading a text: 'text over 16,384 bytes' is 2, at 0, before its tokens.
unfoldable pub read : List ℕ → Answer
read s = pick (ltb text_bytes (length s)) (λ _. denied 2 0) (λ _. parse s)
