-- Without one pair of its parentheses a print does not read as its tree. Assumes nothing.
use Rattle.std.specs.Prelude.{ℕ, ◌+◌, ◌<◌, ◌≡◌, refl, Bool, true, false, cond, ◌&&◌, List, [], ◌∷◌, ◌++◌, ltb}
use Prim.Native.Char.{code}
use Rattle.std.proofs.Common.{arith, sym, ◌∙◌, ap, append_assoc, lt-ltb, le-ltb}
use Rattle.text.specs.Laws.Booleans.{both}
use Rattle.text.specs.Bytes.{bytes}
use Rattle.syntax.specs.Tree.{Expr, Ad}
use Rattle.syntax.specs.Token.{Token, word, operator, symbol}
use Rattle.syntax.specs.Grammar.{binds_of, unary_token}
use Rattle.syntax.specs.Reader.{accepted, parse}
use Rattle.syntax.specs.Print.{binary_text, unary_text, binds, wrap, printed, definition_text, definitions_text}
use Rattle.syntax.proofs.Laws.Accepts.{accepts}
use Rattle.syntax.specs.declared.Binary.{Binary}
use Rattle.syntax.specs.declared.Unary.{Unary}
use Rattle.syntax.specs.declared.Symbol.TheVariants.{Question, Colon, OpenBracket, CloseBracket, Semicolon, Assign}
use Rattle.syntax.specs.Inner.Lexeme.{is_name}
use Rattle.round_trip.specs.Bounded.{is_writable, are_writable}
use Rattle.round_trip.specs.Printed.{wrap_tokens, expr_tokens, definition_tokens, ad_tokens, parentheses}
use Rattle.round_trip.specs.WithoutPair.{WithoutPair, pair_here, pair_operand, pair_left, pair_right, pair_condition, pair_then, pair_else, DefinitionsWithoutPair, pair_in_last, pair_in_first, pair_in_later, in_brackets}
use Rattle.round_trip.proofs.Laws.Lexing.{NoEqual, Writes, no_equal, wrap_first, unary_first, writes, writes_wrap, writes_unary, writes_binary, writes_conditional, writes_definition, writes_definitions, writes_parted, whole_tokens}
use Rattle.round_trip.proofs.Laws.Parentheses.{append, operator_none, unary_none, symbols_none, wrap_counts, fewest_parentheses, one_list}
use Rattle.round_trip.proofs.Laws.Readable.{accepted_bounded}

-- the text t has tokens with one pair less than us
pub record Less (t : List ℕ) (us : List Token) : Type 0 where
  pub those : List Token
  pub written : Writes t those
  pub plain : (m : List ℕ) → NoEqual (t ++ m)
  pub fewer : parentheses those + 1 ≡ parentheses us

wrap_fewer : (k b : ℕ) (xs ys : List Token) → parentheses xs + 1 ≡ parentheses ys → parentheses (wrap_tokens k b xs) + 1 ≡ parentheses (wrap_tokens k b ys)
wrap_fewer k b xs ys h = go (ltb b k) (wrap_counts k b xs) (wrap_counts k b ys)
  where
    go : (c : Bool) → parentheses (wrap_tokens k b xs) ≡ cond c (parentheses xs + 1) (parentheses xs) → parentheses (wrap_tokens k b ys) ≡ cond c (parentheses ys + 1) (parentheses ys) → parentheses (wrap_tokens k b xs) + 1 ≡ parentheses (wrap_tokens k b ys)
    go true p q = omega arith
    go false p q = omega arith

-- inside parentheses or not
less_wrap : (k b : ℕ) (t : List ℕ) (us : List Token) → Less t us → Less (wrap k b t) (wrap_tokens k b us)
less_wrap k b t us x =
    record { those = wrap_tokens k b x.those; written = writes_wrap k b t x.those x.written; plain = λ m. wrap_first k b t m x.plain; fewer = wrap_fewer k b x.those us x.fewer }

-- its own pair
less_here : (k : ℕ) (e : Expr) → is_writable e ≡ true → binds e < k → Less (printed e) (wrap_tokens k (binds e) (expr_tokens e))
less_here k e h lt =
    record { those = expr_tokens e; written = writes e h; plain = no_equal e h; fewer = sym (wrap_counts k (binds e) (expr_tokens e) ∙ rw (lt-ltb (binds e) k lt) refl) }

less_unary : (u : Unary) (t : List ℕ) (us : List Token) → Less t us → Less (unary_text u ++ t) (unary_token u ∷ us)
less_unary u t us x =
    record { those = unary_token u ∷ x.those; written = writes_unary u t x.those x.plain x.written; plain = λ m. rw (append_assoc (unary_text u) t m) (unary_first u (t ++ m)); fewer = omega (arith, x.fewer, unary_none u x.those, unary_none u us) }

module _ (j : Binary) (x y : List ℕ) (xs ys : List Token) where
  count : (ps qs : List Token) → parentheses (ps ++ operator j ∷ qs) ≡ parentheses ps + parentheses qs
  count ps qs = append ps (operator j ∷ qs) ∙ ap (λ (n : ℕ). parentheses ps + n) (operator_none j qs)

  less_left : Less x xs → Writes y ys → Less (x ++ (code " " ∷ (binary_text j ++ (code " " ∷ y)))) (xs ++ operator j ∷ ys)
  less_left l w =
      let r = code " " ∷ (binary_text j ++ (code " " ∷ y)) in
      record { those = l.those ++ operator j ∷ ys; written = writes_binary j x y l.those ys l.written w; plain = λ m. rw (append_assoc x r m) (l.plain (r ++ m)); fewer = omega (arith, l.fewer, count l.those ys, count xs ys) }

  less_right : Writes x xs → ((m : List ℕ) → NoEqual (x ++ m)) → Less y ys → Less (x ++ (code " " ∷ (binary_text j ++ (code " " ∷ y)))) (xs ++ operator j ∷ ys)
  less_right w n l =
      let r = code " " ∷ (binary_text j ++ (code " " ∷ y)) in
      record { those = xs ++ operator j ∷ l.those; written = writes_binary j x y xs l.those w l.written; plain = λ m. rw (append_assoc x r m) (n (r ++ m)); fewer = omega (arith, l.fewer, count xs l.those, count xs ys) }

module _ (x y z : List ℕ) (xs ys zs : List Token) where
  count₃ : (ps qs rs : List Token) → parentheses (ps ++ symbol Question ∷ (qs ++ symbol Colon ∷ rs)) ≡ parentheses ps + (parentheses qs + parentheses rs)
  count₃ ps qs rs = omega (arith, append ps (symbol Question ∷ (qs ++ symbol Colon ∷ rs)), (symbols_none (qs ++ symbol Colon ∷ rs)).0, append qs (symbol Colon ∷ rs), (symbols_none rs).1)

  abbrev rest : List ℕ
  rest = bytes " ? " ++ (y ++ (bytes " : " ++ z))

  less_condition : Less x xs → Writes y ys → Writes z zs → Less (x ++ rest) (xs ++ symbol Question ∷ (ys ++ symbol Colon ∷ zs))
  less_condition l v w =
      record { those = l.those ++ symbol Question ∷ (ys ++ symbol Colon ∷ zs); written = writes_conditional x y z l.those ys zs l.written v w; plain = λ m. rw (append_assoc x rest m) (l.plain (rest ++ m)); fewer = omega (arith, l.fewer, count₃ l.those ys zs, count₃ xs ys zs) }

  less_then : Writes x xs → ((m : List ℕ) → NoEqual (x ++ m)) → Less y ys → Writes z zs → Less (x ++ rest) (xs ++ symbol Question ∷ (ys ++ symbol Colon ∷ zs))
  less_then v n l w =
      record { those = xs ++ symbol Question ∷ (l.those ++ symbol Colon ∷ zs); written = writes_conditional x y z xs l.those zs v l.written w; plain = λ m. rw (append_assoc x rest m) (n (rest ++ m)); fewer = omega (arith, l.fewer, count₃ xs l.those zs, count₃ xs ys zs) }

  less_else : Writes x xs → ((m : List ℕ) → NoEqual (x ++ m)) → Writes y ys → Less z zs → Less (x ++ rest) (xs ++ symbol Question ∷ (ys ++ symbol Colon ∷ zs))
  less_else v n w l =
      record { those = xs ++ symbol Question ∷ (ys ++ symbol Colon ∷ l.those); written = writes_conditional x y z xs ys l.those v w l.written; plain = λ m. rw (append_assoc x rest m) (n (rest ++ m)); fewer = omega (arith, l.fewer, count₃ xs ys l.those, count₃ xs ys zs) }

-- an operand as it is printed
wrapped : (k : ℕ) (e : Expr) → is_writable e ≡ true → Writes (wrap k (binds e) (printed e)) (wrap_tokens k (binds e) (expr_tokens e))
wrapped k e h = writes_wrap k (binds e) (printed e) (expr_tokens e) (writes e h)

wrapped_plain : (k : ℕ) (e : Expr) → is_writable e ≡ true → (m : List ℕ) → NoEqual (wrap k (binds e) (printed e) ++ m)
wrapped_plain k e h m = wrap_first k (binds e) (printed e) m (no_equal e h)

-- around a whole expression `wrap` writes none
whole_less : (b : ℕ) (t : List ℕ) (us : List Token) → Less t (wrap_tokens 0 b us) → Less t us
whole_less b t us x = rw (le-ltb b 0 (omega arith)) at x

less : {k : ℕ} {e : Expr} {t : List ℕ} → WithoutPair k e t → is_writable e ≡ true → Less t (wrap_tokens k (binds e) (expr_tokens e))
unfolding is_writable binds expr_tokens
less (pair_here {k} {e} lt) h = less_here k e h lt
less (pair_operand {k} {u} {a} {t} p) h = less_wrap k 7 (unary_text u ++ t) _ (less_unary u t _ (less p h))
less (pair_left {k} {j} {a} {b} {t} p) h =
    let x = both (is_writable a) (is_writable b) h in
    less_wrap k (binds_of j) _ _ (less_left j t (wrap (binds_of j + 1) (binds b) (printed b)) _ _ (less p x.0) (wrapped (binds_of j + 1) b x.1))
less (pair_right {k} {j} {a} {b} {t} p) h =
    let x = both (is_writable a) (is_writable b) h in
    less_wrap k (binds_of j) _ _ (less_right j (wrap (binds_of j) (binds a) (printed a)) t _ _ (wrapped (binds_of j) a x.0) (wrapped_plain (binds_of j) a x.0) (less p x.1))
less (pair_condition {k} {a} {b} {c} {t} p) h =
    let x = both (is_writable a) (is_writable b && is_writable c) h in
    let y = both (is_writable b) (is_writable c) x.1 in
    less_wrap k 0 _ _ (less_condition t (printed b) (printed c) _ _ _ (less p x.0) (writes b y.0) (writes c y.1))
less (pair_then {k} {a} {b} {c} {t} p) h =
    let x = both (is_writable a) (is_writable b && is_writable c) h in
    let y = both (is_writable b) (is_writable c) x.1 in
    less_wrap k 0 _ _ (less_then (wrap 1 (binds a) (printed a)) t (printed c) _ _ _ (wrapped 1 a x.0) (wrapped_plain 1 a x.0) (whole_less (binds b) t (expr_tokens b) (less p y.0)) (writes c y.1))
less (pair_else {k} {a} {b} {c} {t} p) h =
    let x = both (is_writable a) (is_writable b && is_writable c) h in
    let y = both (is_writable b) (is_writable c) x.1 in
    less_wrap k 0 _ _ (less_else (wrap 1 (binds a) (printed a)) (printed b) t _ _ _ (wrapped 1 a x.0) (wrapped_plain 1 a x.0) (writes b y.0) (whole_less (binds c) t (expr_tokens c) (less p y.1)))

-- ---- ads

-- the text t of definitions has tokens with one pair less than us
record LessWritten (t : List ℕ) (us : List Token) : Type 0 where
  those : List Token
  written : Writes t those
  fewer : parentheses those + 1 ≡ parentheses us

less_definition : (w t : List ℕ) (us : List Token) → is_name w ≡ true → Less t us → LessWritten (w ++ (bytes " = " ++ t)) (word w ∷ symbol Assign ∷ us)
unfolding parentheses
less_definition w t us h x =
    record { those = word w ∷ symbol Assign ∷ x.those; written = writes_definition w t x.those h x.written; fewer = omega (arith, x.fewer) }

parted_count : (ps qs : List Token) → parentheses (ps ++ symbol Semicolon ∷ qs) ≡ parentheses ps + parentheses qs
parted_count ps qs = append ps (symbol Semicolon ∷ qs) ∙ ap (λ (n : ℕ). parentheses ps + n) (symbols_none qs).2

module _ (x y : List ℕ) (xs ys : List Token) where
  less_first : LessWritten x xs → Writes y ys → LessWritten (x ++ (bytes "; " ++ y)) (xs ++ symbol Semicolon ∷ ys)
  less_first l w = record { those = l.those ++ symbol Semicolon ∷ ys; written = writes_parted x y l.those ys l.written w; fewer = omega (arith, l.fewer, parted_count l.those ys, parted_count xs ys) }

  less_later : Writes x xs → LessWritten y ys → LessWritten (x ++ (bytes "; " ++ y)) (xs ++ symbol Semicolon ∷ ys)
  less_later w l = record { those = xs ++ symbol Semicolon ∷ l.those; written = writes_parted x y xs l.those w l.written; fewer = omega (arith, l.fewer, parted_count xs l.those, parted_count xs ys) }

whole_expression : (e : Expr) (t : List ℕ) → WithoutPair 0 e t → is_writable e ≡ true → Less t (expr_tokens e)
whole_expression e t p h = whole_less (binds e) t (expr_tokens e) (less p h)

less_definitions : {a : Ad} {t : List ℕ} → DefinitionsWithoutPair a t → are_writable a ≡ true → LessWritten t (definition_tokens a)
unfolding are_writable definition_tokens
less_definitions (pair_in_last {d} {t} p) h =
    let x = both (is_name d.name) (is_writable d.expression && true) h in
    less_definition d.name t (expr_tokens d.expression) x.0 (whole_expression d.expression t p (both (is_writable d.expression) true x.1).0)
less_definitions (pair_in_first {d} {e} {ds} {t} p) h =
    let x = both (is_name d.name) (is_writable d.expression && are_writable (e ∷ ds)) h in
    let y = both (is_writable d.expression) (are_writable (e ∷ ds)) x.1 in
    less_first (d.name ++ (bytes " = " ++ t)) (definitions_text (e ∷ ds)) _ _ (less_definition d.name t (expr_tokens d.expression) x.0 (whole_expression d.expression t p y.0)) (writes_definitions (e ∷ ds) y.1)
less_definitions (pair_in_later {d} {e} {ds} {t} p) h =
    let x = both (is_name d.name) (is_writable d.expression && are_writable (e ∷ ds)) h in
    let y = both (is_writable d.expression) (are_writable (e ∷ ds)) x.1 in
    less_later (definition_text d) t _ _ (writes_definition d.name (printed d.expression) (expr_tokens d.expression) x.0 (writes d.expression y.0)) (less_definitions p y.1)

-- brackets are no parentheses
bracket_count : (ts : List Token) → parentheses (symbol OpenBracket ∷ (ts ++ symbol CloseBracket ∷ [])) ≡ parentheses ts
unfolding parentheses
bracket_count ts = omega (arith, append ts (symbol CloseBracket ∷ []))

ad_count : (a : Ad) → parentheses (ad_tokens a) ≡ parentheses (definition_tokens a)
unfolding ad_tokens
ad_count a = bracket_count (definition_tokens a)

-- 'Parentheses only where the tree would otherwise read differently': WITHOUT ANY ONE PAIR OF ITS PARENTHESES, THE PRINT OF A TREE
-- READS DIFFERENTLY OR IS REFUSED
pub pair_needed : (a : Ad) (t : List ℕ) → DefinitionsWithoutPair a t → parse (in_brackets t) ≡ accepted a → ⊥
pair_needed a t p e =
    let l = less_definitions p (accepted_bounded (in_brackets t) a e).writable in
    let x = (accepts (in_brackets t) a).0 e in
    let same = one_list x.1.1 (whole_tokens t l.those l.written).1 in
    omega (arith, fewest_parentheses x.2, ap parentheses same, bracket_count l.those, ad_count a, l.fewer)
