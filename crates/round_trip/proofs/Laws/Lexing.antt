-- The tokens of a printed ad, in the style 'the text from here is l': places show nowhere. Assumes nothing.
use Rattle.std.specs.Prelude.{ℕ, suc, ◌+◌, ◌-◌, ◌/◌, ◌^◌, ◌≤◌, ◌≡◌, Bool, true, ◌&&◌, ltb, leb, eqb}
use Prim.Native.Char.{code}
use Rattle.std.proofs.Common.{arith, sym, ◌∙◌, subst, true≢false, leb-true, ne_eqb, le-ltb}
use Rattle.std.proofs.Math.Path.{refl, ap}
use Rattle.std.proofs.Math.Bool.{false}
use mathlib.Core.List.{List, [], ◌∷◌, ◌++◌, append_assoc}
use Rattle.std.proofs.Math.ListN.{length, length-append}
use Rattle.text.specs.Laws.Booleans.{both}
use Rattle.text.specs.Bytes.{bytes, is_blank, is_digit, is_letter, starts_name, continues_name, lower_case}
use Rattle.text.specs.Strings.{same_name, same_bytes}
use Rattle.syntax.specs.Bounds.{name_bytes, max_integer}
use Rattle.syntax.specs.Tree.{Literal, undefined, error, boolean, integer, real, string, Scope, own, other, Expr, literal, reference, unary, binary, conditional, Ad}
use Rattle.syntax.specs.Token.{Token, word, constant, operator, symbol, Tokens, next, end, pick, good, front_of, reserved, word_in, name_front, number_front, symbol_in, begins, spellings, front_token, tokens_from, tokens}
use Rattle.syntax.specs.Grammar.{binds_of, unary_token, Follows, none, some, Whole}
use Rattle.syntax.specs.Print.{decimal, last_digits, escaped_all, literal_text, binary_text, unary_text, binds, wrap, reference_text, printed, definition_text, definitions_text, printed_ad}
use Rattle.syntax.proofs.Laws.Sound.{follows_append}
use Rattle.syntax.specs.declared.Binary.{Binary}
use Rattle.syntax.specs.declared.Binary.TheVariants.{Or, And, Equal, NotEqual, Is, Isnt, Less, LessOrEqual, Greater, GreaterOrEqual, Add, Subtract, Multiply, Divide, Remainder}
use Rattle.syntax.specs.declared.Unary.{Unary}
use Rattle.syntax.specs.declared.Unary.TheVariants.{Not, Plus, Minus}
use Rattle.syntax.specs.declared.Symbol.TheVariants.{Question, Colon, OpenParenthesis, CloseParenthesis, OpenBracket, CloseBracket, Semicolon, Assign, Point, Other}
use Rattle.syntax.specs.Inner.Lexeme.{every, is_name, is_real, is_string, is_literal}
use Rattle.round_trip.specs.Bounded.{is_writable, are_writable}
use Rattle.lexemes.specs.Laws.Digits.{length_last}
use Rattle.round_trip.specs.Printed.{wrap_tokens, reference_tokens, expr_tokens, definition_tokens, ad_tokens}
use Rattle.round_trip.proofs.Laws.Fronts.{Ends, Without, ends_name, front_all, IsName, name_parts, name_token, starts_solid, Number, decimal_number, integer_front_lem, real_front_lem, real_parts, digit_none, number_token, string_token}

-- the bytes l are the tokens ts and then the bytes m, wherever they stand
pub record Lexes (l : List ℕ) (ts : List Token) (m : List ℕ) : Type 0 where
  pub from : (p : ℕ) → (q : ℕ) × Follows (tokens_from 0 p l) ts (tokens_from 0 q m)

lexes_then : {l m n : List ℕ} {ts us : List Token} → Lexes l ts m → Lexes m us n → Lexes l (ts ++ us) n
lexes_then f g = record { from = λ p. let x = f.from p in let y = g.from x.0 in (y.0, follows_append x.1 y.1) }

lexes_at : {l l' m : List ℕ} {ts : List Token} → l ≡ l' → Lexes l' ts m → Lexes l ts m
lexes_at {m = m} {ts} e f = subst (λ (x : List ℕ). Lexes x ts m) (sym e) f

-- blanks before and after tokens
lexes_blank : (l : List ℕ) → Lexes (code " " ∷ l) [] l
unfolding tokens_from is_blank
lexes_blank l = record { from = λ p. (p + 1, none) }

before : {l m : List ℕ} {ts : List Token} → Lexes l ts m → Lexes (code " " ∷ l) ts m
before {l} f = lexes_then (lexes_blank l) f

skip : (xs m : List ℕ) (p : ℕ) → tokens_from (length xs) p (xs ++ m) ≡ tokens_from 0 (p + length xs) m
unfolding tokens_from
skip [] m p = let i : p ≡ p + 0 = omega arith in ap (λ (k : ℕ). tokens_from 0 k m) i
skip (x ∷ xs) m p = let i : p + 1 + length xs ≡ p + suc (length xs) = omega arith in skip xs m (p + 1) ∙ ap (λ (k : ℕ). tokens_from 0 k m) i

first_token : (b p : ℕ) (xs m : List ℕ) (t : Token) → is_blank b ≡ false → front_token b (xs ++ m) ≡ good t (suc (length xs)) → tokens_from 0 p (b ∷ (xs ++ m)) ≡ next p t (tokens_from 0 (p + 1 + length xs) m)
unfolding tokens_from
first_token b p xs m t h e =
    let i : suc (length xs) - 1 ≡ length xs = omega arith in
    rw (h, e) (ap (next p t) (ap (λ (k : ℕ). tokens_from k (p + 1) (xs ++ m)) i ∙ skip xs m (p + 1)))

lexes_token : (b : ℕ) (xs m : List ℕ) (t : Token) → is_blank b ≡ false → front_token b (xs ++ m) ≡ good t (suc (length xs)) → Lexes (b ∷ (xs ++ m)) (t ∷ []) m
lexes_token b xs m t h e =
    record { from = λ p. (p + 1 + length xs, subst (λ (u : Tokens). Follows u (t ∷ []) (tokens_from 0 (p + 1 + length xs) m)) (sym (first_token b p xs m t h e)) (some none)) }

-- ---- symbols

module _ (m : List ℕ) where
  lexes_open : Lexes (code "(" ∷ m) (symbol OpenParenthesis ∷ []) m
  unfolding is_blank front_token starts_name is_letter is_digit symbol_in begins spellings bytes
  lexes_open = lexes_token (code "(") [] m (symbol OpenParenthesis) refl refl

  lexes_close : Lexes (code ")" ∷ m) (symbol CloseParenthesis ∷ []) m
  unfolding is_blank front_token starts_name is_letter is_digit symbol_in begins spellings bytes
  lexes_close = lexes_token (code ")") [] m (symbol CloseParenthesis) refl refl

  lexes_left : Lexes (code "[" ∷ m) (symbol OpenBracket ∷ []) m
  unfolding is_blank front_token starts_name is_letter is_digit symbol_in begins spellings bytes
  lexes_left = lexes_token (code "[") [] m (symbol OpenBracket) refl refl

  lexes_right : Lexes (code "]" ∷ m) (symbol CloseBracket ∷ []) m
  unfolding is_blank front_token starts_name is_letter is_digit symbol_in begins spellings bytes
  lexes_right = lexes_token (code "]") [] m (symbol CloseBracket) refl refl

  -- `; ` behind a definition
  lexes_semicolon : Lexes (bytes "; " ++ m) (symbol Semicolon ∷ []) m
  unfolding is_blank front_token starts_name is_letter is_digit symbol_in begins spellings bytes
  lexes_semicolon = lexes_then (lexes_token (code ";") [] (code " " ∷ m) (symbol Semicolon) refl refl) (lexes_blank m)

  lexes_assign : Lexes (bytes " = " ++ m) (symbol Assign ∷ []) m
  unfolding is_blank front_token starts_name is_letter is_digit symbol_in begins spellings bytes
  lexes_assign = before (lexes_then (lexes_token (code "=") [] (code " " ∷ m) (symbol Assign) refl refl) (lexes_blank m))

  lexes_question : Lexes (bytes " ? " ++ m) (symbol Question ∷ []) m
  unfolding is_blank front_token starts_name is_letter is_digit symbol_in begins spellings bytes
  lexes_question = before (lexes_then (lexes_token (code "?") [] (code " " ∷ m) (symbol Question) refl refl) (lexes_blank m))

  lexes_colon : Lexes (bytes " : " ++ m) (symbol Colon ∷ []) m
  unfolding is_blank front_token starts_name is_letter is_digit symbol_in begins spellings bytes
  lexes_colon = before (lexes_then (lexes_token (code ":") [] (code " " ∷ m) (symbol Colon) refl refl) (lexes_blank m))

  lexes_point : Lexes (code "." ∷ m) (symbol Point ∷ []) m
  unfolding is_blank front_token starts_name is_letter is_digit symbol_in begins spellings bytes
  lexes_point = lexes_token (code ".") [] m (symbol Point) refl refl

  -- `other` in front of its point
  lexes_other : Lexes (bytes "other" ++ (code "." ∷ m)) (symbol Other ∷ []) (code "." ∷ m)
  unfolding is_blank front_token starts_name is_letter is_digit continues_name name_front front_of word_in reserved same_name same_bytes lower_case bytes
  lexes_other = lexes_token (code "o") (bytes "ther") (code "." ∷ m) (symbol Other) refl refl

-- a binary operator between its blanks
binary_token : (j : Binary) (m : List ℕ) → Lexes (binary_text j ++ (code " " ∷ m)) (operator j ∷ []) (code " " ∷ m)
unfolding binary_text is_blank front_token starts_name is_letter is_digit continues_name name_front front_of word_in reserved same_name same_bytes lower_case symbol_in begins spellings bytes
binary_token Or m = lexes_token (code "|") (bytes "|") (code " " ∷ m) (operator Or) refl refl
binary_token And m = lexes_token (code "&") (bytes "&") (code " " ∷ m) (operator And) refl refl
binary_token Equal m = lexes_token (code "=") (bytes "=") (code " " ∷ m) (operator Equal) refl refl
binary_token NotEqual m = lexes_token (code "!") (bytes "=") (code " " ∷ m) (operator NotEqual) refl refl
binary_token Is m = lexes_token (code "i") (bytes "s") (code " " ∷ m) (operator Is) refl refl
binary_token Isnt m = lexes_token (code "i") (bytes "snt") (code " " ∷ m) (operator Isnt) refl refl
binary_token Less m = lexes_token (code "<") [] (code " " ∷ m) (operator Less) refl refl
binary_token LessOrEqual m = lexes_token (code "<") (bytes "=") (code " " ∷ m) (operator LessOrEqual) refl refl
binary_token Greater m = lexes_token (code ">") [] (code " " ∷ m) (operator Greater) refl refl
binary_token GreaterOrEqual m = lexes_token (code ">") (bytes "=") (code " " ∷ m) (operator GreaterOrEqual) refl refl
binary_token Add m = lexes_token (code "+") [] (code " " ∷ m) (operator Add) refl refl
binary_token Subtract m = lexes_token (code "-") [] (code " " ∷ m) (operator Subtract) refl refl
binary_token Multiply m = lexes_token (code "*") [] (code " " ∷ m) (operator Multiply) refl refl
binary_token Divide m = lexes_token (code "/") [] (code " " ∷ m) (operator Divide) refl refl
binary_token Remainder m = lexes_token (code "%") [] (code " " ∷ m) (operator Remainder) refl refl

lexes_binary : (j : Binary) (m : List ℕ) → Lexes (code " " ∷ (binary_text j ++ (code " " ∷ m))) (operator j ∷ []) m
lexes_binary j m = before (lexes_then (binary_token j m) (lexes_blank m))

-- l starts with no `=`, so that a `!` in front of it is no `!=`
abbrev pub NoEqual : List ℕ → Type 0
NoEqual l = Without (eqb (code "=")) l

exclamation_token : (m : List ℕ) → NoEqual m → front_token (code "!") m ≡ good (unary_token Not) 1
unfolding Without front_token starts_name is_letter is_digit symbol_in begins spellings bytes
exclamation_token [] h = refl
exclamation_token (b ∷ m) h = rw h refl

lexes_unary : (u : Unary) (m : List ℕ) → NoEqual m → Lexes (unary_text u ++ m) (unary_token u ∷ []) m
unfolding unary_text is_blank front_token starts_name is_letter is_digit symbol_in begins spellings bytes
lexes_unary Not m h = lexes_token (code "!") [] m (unary_token Not) refl (exclamation_token m h)
lexes_unary Plus m h = lexes_token (code "+") [] m (unary_token Plus) refl refl
lexes_unary Minus m h = lexes_token (code "-") [] m (unary_token Minus) refl refl

-- ---- names and literals

none_empty : starts_name 0 ≡ true → ⊥
unfolding starts_name is_letter
none_empty e = true≢false (sym e)

lexes_name : (w m : List ℕ) → is_name w ≡ true → Ends m → Lexes (w ++ m) (word w ∷ []) m
lexes_name w m h h' = go w (name_parts w h)
  where
    go : (w : List ℕ) → IsName w → Lexes (w ++ m) (word w ∷ []) m
    go [] x = absurd (none_empty x.starts)
    go (b ∷ w) x = lexes_token b w m (word (b ∷ w)) (starts_solid b x.starts) (name_token b w m x (ends_name m h'))

-- a keyword: all its bytes continue a name
keyword_front : (w m : List ℕ) (t : Token) → every continues_name w ≡ true → length w ≤ name_bytes → word_in reserved w ≡ t → Ends m → name_front (w ++ m) ≡ good t (length w)
unfolding name_front
keyword_front w m t h hl e h' = rw (front_all continues_name w m h (ends_name m h'), le-ltb name_bytes (length w) hl) (ap (λ (x : Token). good x (length w)) e)

keyword : (b : ℕ) (w m : List ℕ) (t : Token) → starts_name b ≡ true → every continues_name (b ∷ w) ≡ true → length (b ∷ w) ≤ name_bytes → word_in reserved (b ∷ w) ≡ t → Ends m → Lexes (b ∷ (w ++ m)) (t ∷ []) m
unfolding front_token
keyword b w m t hb h hl e h' = lexes_token b w m t (starts_solid b hb) (rw hb (keyword_front (b ∷ w) m t h hl e h'))

lexes_number : (ds m : List ℕ) (t : Token) → Number ds → number_front (ds ++ m) ≡ good t (length ds) → Lexes (ds ++ m) (t ∷ []) m
lexes_number ds m t x e = lexes_at (ap (λ (l : List ℕ). l ++ m) x.splits) (lexes_token x.first x.others m t (digit_none x.first x.digit).1 (number_token ds m t x e))

real_number : (n p : ℕ) → Number (literal_text (real n p))
unfolding literal_text
real_number n p =
    let x = decimal_number (n / 10 ^ p) in
    record { first = x.first; others = x.others ++ (code "." ∷ last_digits p n); splits = ap (λ (l : List ℕ). l ++ (code "." ∷ last_digits p n)) x.splits; digit = x.digit }

lexes_real : (n p : ℕ) (m : List ℕ) → is_real n p ≡ true → Ends m → Lexes (literal_text (real n p) ++ m) (constant (real n p) ∷ []) m
lexes_real n p m h h' = lexes_number (literal_text (real n p)) m (constant (real n p)) (real_number n p) front
  where
    front : number_front (literal_text (real n p) ++ m) ≡ good (constant (real n p)) (length (literal_text (real n p)))
    front = unfold literal_text in
        let ds = decimal (n / 10 ^ p) in
        let i : length ds + 1 + p ≡ length (ds ++ (code "." ∷ last_digits p n)) = omega (arith, length-append ds (code "." ∷ last_digits p n), length_last p n) in
        ap number_front (append_assoc ds (code "." ∷ last_digits p n) m) ∙ (real_front_lem n p m (real_parts n p h) h' ∙ ap (good (constant (real n p))) i)

lexes_string : (l m : List ℕ) → is_string l ≡ true → Lexes (literal_text (string l) ++ m) (constant (string l) ∷ []) m
unfolding literal_text is_blank
lexes_string l m h =
    lexes_token (code "\"") (escaped_all l ++ code "\"" ∷ []) m (constant (string l)) refl
    (ap (front_token (code "\"")) (append_assoc (escaped_all l) (code "\"" ∷ []) m) ∙ string_token l m h)

lexes_literal : (l : Literal) (m : List ℕ) → is_literal l ≡ true → Ends m → Lexes (literal_text l ++ m) (constant l ∷ []) m
unfolding is_literal
lexes_literal undefined m h h' = unfold literal_text bytes starts_name is_letter continues_name is_digit every word_in reserved same_name same_bytes lower_case in keyword (code "u") (bytes "ndefined") m (constant undefined) refl refl (omega arith) refl h'
lexes_literal error m h h' = unfold literal_text bytes starts_name is_letter continues_name is_digit every word_in reserved same_name same_bytes lower_case in keyword (code "e") (bytes "rror") m (constant error) refl refl (omega arith) refl h'
lexes_literal (boolean true) m h h' = unfold literal_text bytes starts_name is_letter continues_name is_digit every word_in reserved same_name same_bytes lower_case in keyword (code "t") (bytes "rue") m (constant (boolean true)) refl refl (omega arith) refl h'
lexes_literal (boolean false) m h h' = unfold literal_text bytes starts_name is_letter continues_name is_digit every word_in reserved same_name same_bytes lower_case in keyword (code "f") (bytes "alse") m (constant (boolean false)) refl refl (omega arith) refl h'
lexes_literal (integer n) m h h' = unfold literal_text in lexes_number (decimal n) m (constant (integer n)) (decimal_number n) (integer_front_lem n m (leb-true n max_integer h) h')
lexes_literal (real n p) m h h' = lexes_real n p m h h'
lexes_literal (string l) m h h' = lexes_string l m h

-- ---- what stands behind an expression

ends_blank : (m : List ℕ) → Ends (code " " ∷ m)
unfolding Ends continues_name starts_name is_letter is_digit
ends_blank m = (refl, refl)

ends_close : (m : List ℕ) → Ends (code ")" ∷ m)
unfolding Ends continues_name starts_name is_letter is_digit
ends_close m = (refl, refl)

ends_right : (m : List ℕ) → Ends (code "]" ∷ m)
unfolding Ends continues_name starts_name is_letter is_digit
ends_right m = (refl, refl)

ends_spaced : (m : List ℕ) → Ends (bytes "; " ++ m) × Ends (bytes " ? " ++ m) × Ends (bytes " : " ++ m) × Ends (bytes " = " ++ m)
unfolding Ends continues_name starts_name is_letter is_digit bytes
ends_spaced m = ((refl, refl), (refl, refl), (refl, refl), (refl, refl))

-- ---- no print starts with `=`

digit_no_equal : (b : ℕ) → is_digit b ≡ true → eqb (code "=") b ≡ false
unfolding is_digit
digit_no_equal b h = let x = both (leb 48 b) (leb b 57) h in ne_eqb 61 b (λ e. omega (arith, leb-true b 57 x.1))

name_no_equal : (b : ℕ) → starts_name b ≡ true → eqb (code "=") b ≡ false
name_no_equal b h = ne_eqb 61 b (λ e. true≢false (sym h ∙ (ap starts_name (sym e) ∙ equal_starts_none)))
  where
    equal_starts_none : starts_name 61 ≡ false
    equal_starts_none = unfold starts_name is_letter in refl

number_first : (ds m : List ℕ) → Number ds → NoEqual (ds ++ m)
number_first ds m x = subst (λ (l : List ℕ). NoEqual (l ++ m)) (sym x.splits) first
  where
    first : NoEqual (x.first ∷ (x.others ++ m))
    first = unfold Without in digit_no_equal x.first x.digit

name_first : (w m : List ℕ) → IsName w → NoEqual (w ++ m)
unfolding Without
name_first [] m x = absurd (none_empty x.starts)
name_first (b ∷ w) m x = name_no_equal b x.starts

literal_first : (l : Literal) (m : List ℕ) → NoEqual (literal_text l ++ m)
literal_first undefined m = unfold literal_text Without bytes in refl
literal_first error m = unfold literal_text Without bytes in refl
literal_first (boolean true) m = unfold literal_text Without bytes in refl
literal_first (boolean false) m = unfold literal_text Without bytes in refl
literal_first (integer n) m = unfold literal_text in number_first (decimal n) m (decimal_number n)
literal_first (real n p) m = number_first (literal_text (real n p)) m (real_number n p)
literal_first (string l) m = unfold literal_text Without in refl

reference_first : (s : Scope) (w m : List ℕ) → is_name w ≡ true → NoEqual (reference_text s w ++ m)
reference_first own w m h = unfold reference_text in name_first w m (name_parts w h)
reference_first other w m h = unfold reference_text Without bytes in refl

pub unary_first : (u : Unary) (m : List ℕ) → NoEqual (unary_text u ++ m)
unfolding unary_text Without bytes
unary_first Not m = refl
unary_first Plus m = refl
unary_first Minus m = refl

pub wrap_first : (k b : ℕ) (t m : List ℕ) → ((m : List ℕ) → NoEqual (t ++ m)) → NoEqual (wrap k b t ++ m)
wrap_first k b t m f = go (ltb b k)
  where
    go : (c : Bool) → NoEqual (pick c (λ _. code "(" ∷ (t ++ code ")" ∷ [])) (λ _. t) ++ m)
    go true = unfold Without in refl
    go false = f m

pub no_equal : (e : Expr) → is_writable e ≡ true → (m : List ℕ) → NoEqual (printed e ++ m)
unfolding is_writable printed
no_equal (literal l) h m = literal_first l m
no_equal (reference s w) h m = reference_first s w m h
no_equal (unary u a) h m = rw (append_assoc (unary_text u) (wrap 7 (binds a) (printed a)) m) (unary_first u (wrap 7 (binds a) (printed a) ++ m))
no_equal (binary j a b) h m =
    let u = wrap (binds_of j) (binds a) (printed a) in
    let w = code " " ∷ (binary_text j ++ (code " " ∷ wrap (binds_of j + 1) (binds b) (printed b))) in
    rw (append_assoc u w m) (wrap_first (binds_of j) (binds a) (printed a) (w ++ m) (no_equal a (both (is_writable a) (is_writable b) h).0))
no_equal (conditional a b c) h m =
    let u = wrap 1 (binds a) (printed a) in
    let w = bytes " ? " ++ (printed b ++ (bytes " : " ++ printed c)) in
    rw (append_assoc u w m) (wrap_first 1 (binds a) (printed a) (w ++ m) (no_equal a (both (is_writable a) (is_writable b && is_writable c) h).0))

-- ---- expressions

-- the text t is the tokens ts, whatever stands behind it that ends it
abbrev pub Writes : List ℕ → List Token → Type 0
Writes t ts = (m : List ℕ) → Ends m → Lexes (t ++ m) ts m

pub writes_wrap : (k b : ℕ) (t : List ℕ) (ts : List Token) → Writes t ts → Writes (wrap k b t) (wrap_tokens k b ts)
writes_wrap k b t ts f m h = go (ltb b k)
  where
    go : (c : Bool) → Lexes (pick c (λ _. code "(" ∷ (t ++ code ")" ∷ [])) (λ _. t) ++ m) (pick c (λ _. symbol OpenParenthesis ∷ (ts ++ symbol CloseParenthesis ∷ [])) (λ _. ts)) m
    go true =
        lexes_at (ap (λ (l : List ℕ). code "(" ∷ l) (append_assoc t (code ")" ∷ []) m))
        (lexes_then (lexes_open (t ++ code ")" ∷ m)) (lexes_then (f (code ")" ∷ m) (ends_close m)) (lexes_close m)))
    go false = f m h

writes_reference : (s : Scope) (w : List ℕ) → is_name w ≡ true → Writes (reference_text s w) (reference_tokens s w)
writes_reference own w h m h' = unfold reference_text in lexes_name w m h h'
writes_reference other w h m h' = unfold reference_text bytes in lexes_then (lexes_other (w ++ m)) (lexes_then (lexes_point (w ++ m)) (lexes_name w m h h'))

pub writes_unary : (u : Unary) (t : List ℕ) (ts : List Token) → ((m : List ℕ) → NoEqual (t ++ m)) → Writes t ts → Writes (unary_text u ++ t) (unary_token u ∷ ts)
writes_unary u t ts n f m h = lexes_at (append_assoc (unary_text u) t m) (lexes_then (lexes_unary u (t ++ m) (n m)) (f m h))

pub writes_binary : (j : Binary) (x y : List ℕ) (xs ys : List Token) → Writes x xs → Writes y ys → Writes (x ++ (code " " ∷ (binary_text j ++ (code " " ∷ y)))) (xs ++ operator j ∷ ys)
writes_binary j x y xs ys f g m h =
    lexes_at (append_assoc x (code " " ∷ (binary_text j ++ (code " " ∷ y))) m ∙ ap (λ (l : List ℕ). x ++ (code " " ∷ l)) (append_assoc (binary_text j) (code " " ∷ y) m))
    (lexes_then (f (code " " ∷ (binary_text j ++ (code " " ∷ (y ++ m)))) (ends_blank _)) (lexes_then (lexes_binary j (y ++ m)) (g m h)))

pub writes_conditional : (x y z : List ℕ) (xs ys zs : List Token) → Writes x xs → Writes y ys → Writes z zs → Writes (x ++ (bytes " ? " ++ (y ++ (bytes " : " ++ z)))) (xs ++ symbol Question ∷ (ys ++ symbol Colon ∷ zs))
writes_conditional x y z xs ys zs f g k m h =
    let l₂ : List ℕ = bytes " : " ++ (z ++ m) in
    let l₁ : List ℕ = bytes " ? " ++ (y ++ l₂) in
    let e : (y ++ (bytes " : " ++ z)) ++ m ≡ y ++ l₂ = append_assoc y (bytes " : " ++ z) m ∙ ap (λ (l : List ℕ). y ++ l) (append_assoc (bytes " : ") z m) in
    lexes_at (append_assoc x (bytes " ? " ++ (y ++ (bytes " : " ++ z))) m ∙ ap (λ (l : List ℕ). x ++ l) (append_assoc (bytes " ? ") (y ++ (bytes " : " ++ z)) m ∙ ap (λ (l : List ℕ). bytes " ? " ++ l) e))
    (lexes_then (f l₁ (ends_spaced (y ++ l₂)).1) (lexes_then (lexes_question (y ++ l₂)) (lexes_then (g l₂ (ends_spaced (z ++ m)).2) (lexes_then (lexes_colon (z ++ m)) (k m h)))))

-- THE TOKENS OF A PRINTED EXPRESSION
pub writes : (e : Expr) → is_writable e ≡ true → Writes (printed e) (expr_tokens e)
unfolding is_writable printed expr_tokens
writes (literal l) h = λ m h'. lexes_literal l m h h'
writes (reference s w) h = writes_reference s w h
writes (unary u a) h =
    writes_unary u (wrap 7 (binds a) (printed a)) (wrap_tokens 7 (binds a) (expr_tokens a))
    (λ m. wrap_first 7 (binds a) (printed a) m (no_equal a h)) (writes_wrap 7 (binds a) (printed a) (expr_tokens a) (writes a h))
writes (binary j a b) h =
    let x = both (is_writable a) (is_writable b) h in
    writes_binary j (wrap (binds_of j) (binds a) (printed a)) (wrap (binds_of j + 1) (binds b) (printed b)) _ _ (writes_wrap (binds_of j) (binds a) (printed a) (expr_tokens a) (writes a x.0))
    (writes_wrap (binds_of j + 1) (binds b) (printed b) (expr_tokens b) (writes b x.1))
writes (conditional a b c) h =
    let x = both (is_writable a) (is_writable b && is_writable c) h in
    let y = both (is_writable b) (is_writable c) x.1 in
    writes_conditional (wrap 1 (binds a) (printed a)) (printed b) (printed c) _ _ _ (writes_wrap 1 (binds a) (printed a) (expr_tokens a) (writes a x.0)) (writes b y.0) (writes c y.1)

-- ---- ads

pub writes_definition : (w t : List ℕ) (ts : List Token) → is_name w ≡ true → Writes t ts → Writes (w ++ (bytes " = " ++ t)) (word w ∷ symbol Assign ∷ ts)
writes_definition w t ts h f m h' =
    lexes_at (append_assoc w (bytes " = " ++ t) m ∙ ap (λ (l : List ℕ). w ++ l) (append_assoc (bytes " = ") t m))
    (lexes_then (lexes_name w (bytes " = " ++ (t ++ m)) h (ends_spaced (t ++ m)).3) (lexes_then (lexes_assign (t ++ m)) (f m h')))

-- two parts with `; ` between them
pub writes_parted : (x y : List ℕ) (xs ys : List Token) → Writes x xs → Writes y ys → Writes (x ++ (bytes "; " ++ y)) (xs ++ symbol Semicolon ∷ ys)
writes_parted x y xs ys f g m h =
    lexes_at (append_assoc x (bytes "; " ++ y) m ∙ ap (λ (l : List ℕ). x ++ l) (append_assoc (bytes "; ") y m))
    (lexes_then (f (bytes "; " ++ (y ++ m)) (ends_spaced (y ++ m)).0) (lexes_then (lexes_semicolon (y ++ m)) (g m h)))

pub writes_definitions : (a : Ad) → are_writable a ≡ true → Writes (definitions_text a) (definition_tokens a)
unfolding are_writable definitions_text definition_tokens
writes_definitions [] h = λ m h'. record { from = λ p. (p, none) }
writes_definitions (d ∷ []) h =
    let x = both (is_name d.name) (is_writable d.expression && true) h in
    writes_definition d.name (printed d.expression) (expr_tokens d.expression) x.0 (writes d.expression (both (is_writable d.expression) true x.1).0)
writes_definitions (d ∷ e ∷ ds) h =
    let x = both (is_name d.name) (is_writable d.expression && are_writable (e ∷ ds)) h in
    let y = both (is_writable d.expression) (are_writable (e ∷ ds)) x.1 in
    writes_parted (definition_text d) (definitions_text (e ∷ ds)) (word d.name ∷ symbol Assign ∷ expr_tokens d.expression) (definition_tokens (e ∷ ds))
    (writes_definition d.name (printed d.expression) (expr_tokens d.expression) x.0 (writes d.expression y.0)) (writes_definitions (e ∷ ds) y.1)

-- the tokens of definitions in brackets are all tokens of the text
pub whole_tokens : (t : List ℕ) (ts : List Token) → Writes t ts → Whole (tokens (code "[" ∷ (t ++ code "]" ∷ []))) (symbol OpenBracket ∷ (ts ++ symbol CloseBracket ∷ []))
whole_tokens t ts f = ended (all.from 0)
  where
    all : Lexes (code "[" ∷ (t ++ code "]" ∷ [])) (symbol OpenBracket ∷ (ts ++ symbol CloseBracket ∷ [])) []
    all = lexes_then (lexes_left (t ++ code "]" ∷ [])) (lexes_then (f (code "]" ∷ []) (ends_right [])) (lexes_right []))

    empty : (q : ℕ) → tokens_from 0 q [] ≡ end q
    empty q = unfold tokens_from in refl

    ended : (q : ℕ) × Follows (tokens (code "[" ∷ (t ++ code "]" ∷ []))) (symbol OpenBracket ∷ (ts ++ symbol CloseBracket ∷ [])) (tokens_from 0 q []) → Whole (tokens (code "[" ∷ (t ++ code "]" ∷ []))) (symbol OpenBracket ∷ (ts ++ symbol CloseBracket ∷ []))
    ended x = (x.0, rw (empty x.0) at x.1)

-- THE TOKENS OF A PRINTED AD
pub printed_tokens : (a : Ad) → are_writable a ≡ true → Whole (tokens (printed_ad a)) (ad_tokens a)
unfolding printed_ad ad_tokens
printed_tokens a h = whole_tokens (definitions_text a) (definition_tokens a) (writes_definitions a h)
