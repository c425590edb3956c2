-- No text of a tree has fewer parentheses than its print, so no pair of the print can go. Assumes nothing.
use Rattle.std.specs.Prelude.{ℕ, ◌+◌, ◌≤◌, ◌≡◌, refl, Bool, true, false, cond, List, [], ◌∷◌, ◌++◌, ltb}
use native.Mathlib.Omega.{arith}
use Rattle.std.proofs.Common.{◌∙◌, ap, subst, ne_eqb}
use Rattle.syntax.specs.Tree.{Expr, Ad}
use Rattle.syntax.specs.Token.{Token, word, operator, symbol, Tokens, end, tokens, pick}
use Rattle.syntax.specs.Grammar.{binds_of, unary_token, Reads, reads_literal, reads_own, reads_other, reads_parentheses, reads_unary, reads_binary, reads_conditional, reads_tighter, Defines, defines_one, defines_more, IsAd, ad_empty, ad_plain, ad_trailing, Follows, none, some, Whole}
use Rattle.syntax.specs.Reader.{code_of, accepted, parse}
use Rattle.syntax.specs.Print.{binds}
use Rattle.syntax.proofs.Laws.Codes.{operator_low}
use Rattle.syntax.proofs.Laws.Accepts.{accepts}
use Rattle.syntax.specs.declared.Binary.{Binary}
use Rattle.syntax.specs.declared.Unary.{Unary}
use Rattle.syntax.specs.declared.Unary.TheVariants.{Not, Plus, Minus}
use Rattle.syntax.specs.declared.Symbol.TheVariants.{Question, Colon, OpenParenthesis, CloseParenthesis, OpenBracket, CloseBracket, Semicolon, Assign}
use Rattle.round_trip.proofs.Laws.Deepest.{wrap_le, wrap_more, wrap_same}
use Rattle.round_trip.specs.Printed.{wrap_tokens, expr_tokens, definition_tokens, ad_tokens, parentheses}

pub append : (xs ys : List Token) → parentheses (xs ++ ys) ≡ parentheses xs + parentheses ys
unfolding parentheses
append [] ys = omega arith
append (t ∷ xs) ys = omega (arith, append xs ys)

-- one pair more
pub pair : (ts : List Token) → parentheses (symbol OpenParenthesis ∷ (ts ++ symbol CloseParenthesis ∷ [])) ≡ parentheses ts + 1
unfolding parentheses
pair ts = omega (arith, append ts (symbol CloseParenthesis ∷ []))

-- an operator is no parenthesis
pub operator_none : (j : Binary) (ts : List Token) → parentheses (operator j ∷ ts) ≡ parentheses ts
unfolding parentheses
operator_none j ts = rw (ne_eqb (code_of (operator j)) 19 (λ e. omega (arith, operator_low j))) (omega arith)

pub unary_none : (u : Unary) (ts : List Token) → parentheses (unary_token u ∷ ts) ≡ parentheses ts
unfolding parentheses
unary_none Not ts = omega arith
unary_none Plus ts = omega arith
unary_none Minus ts = omega arith

pub symbols_none : (ts : List Token) → (parentheses (symbol Question ∷ ts) ≡ parentheses ts) × (parentheses (symbol Colon ∷ ts) ≡ parentheses ts) × (parentheses (symbol Semicolon ∷ ts) ≡ parentheses ts) × (parentheses (symbol CloseParenthesis ∷ ts) ≡ parentheses ts) × (parentheses (symbol OpenParenthesis ∷ ts) ≡ parentheses ts + 1)
unfolding parentheses
symbols_none ts = (omega arith, omega arith, omega arith, omega arith, omega arith)

pub wrap_counts : (k b : ℕ) (ts : List Token) → parentheses (wrap_tokens k b ts) ≡ cond (ltb b k) (parentheses ts + 1) (parentheses ts)
wrap_counts k b ts = go (ltb b k)
  where
    go : (c : Bool) → parentheses (pick c (λ _. symbol OpenParenthesis ∷ (ts ++ symbol CloseParenthesis ∷ [])) (λ _. ts)) ≡ cond c (parentheses ts + 1) (parentheses ts)
    go true = pair ts
    go false = refl

-- the laws of `wrap_level` once more, of pairs
wrap_laws : (k b : ℕ) (ts : List Token) →
    (parentheses ts ≤ parentheses (wrap_tokens k b ts)) × (parentheses (wrap_tokens k b ts) ≤ parentheses ts + 1)
    × (parentheses (wrap_tokens k b ts) ≤ parentheses (wrap_tokens (k + 1) b ts)) × (parentheses (wrap_tokens b b ts) ≡ parentheses ts)
wrap_laws k b ts =
    let n = parentheses ts in
    let l = wrap_le k b n in
    (omega (arith, wrap_counts k b ts), omega (arith, wrap_counts k b ts), omega (arith, wrap_counts k b ts, wrap_counts (k + 1) b ts, wrap_more k b n), wrap_counts b b ts ∙ wrap_same b n)

least : {b d : ℕ} {ts : List Token} {e : Expr} → Reads b d ts e → parentheses (wrap_tokens b (binds e) (expr_tokens e)) ≤ parentheses ts
unfolding binds expr_tokens
least reads_literal = omega arith
least reads_own = omega arith
least reads_other = omega arith
least (reads_parentheses {d} {ts} {e} hd r) = omega (arith, least r, wrap_laws 8 (binds e) (expr_tokens e), wrap_laws 0 (binds e) (expr_tokens e), pair ts)
least (reads_unary {d} {u} {ts} {e} hd r) = omega (arith, least r, unary_none u ts, unary_none u (wrap_tokens 7 (binds e) (expr_tokens e)))
least (reads_binary {d} {j} {xs} {ys} {a} {b} r t) =
    let u = wrap_tokens (binds_of j) (binds a) (expr_tokens a) in
    let w = wrap_tokens (binds_of j + 1) (binds b) (expr_tokens b) in
    omega (arith, least r, least t, wrap_laws 0 (binds_of j) (u ++ operator j ∷ w), append xs (operator j ∷ ys), operator_none j ys, append u (operator j ∷ w), operator_none j w)
least (reads_conditional {d} {xs} {ys} {zs} {a} {b} {c} hd x y z) =
    let u = wrap_tokens 1 (binds a) (expr_tokens a) in
    let ps = expr_tokens b in
    let qs = expr_tokens c in
    omega (arith, least x, least y, least z, wrap_laws 0 (binds b) ps, wrap_laws 0 (binds c) qs, append xs (symbol Question ∷ (ys ++ symbol Colon ∷ zs)), (symbols_none (ys ++ symbol Colon ∷ zs)).0, append ys (symbol Colon ∷ zs), (symbols_none zs).1, append u (symbol Question ∷ (ps ++ symbol Colon ∷ qs)), (symbols_none (ps ++ symbol Colon ∷ qs)).0, append ps (symbol Colon ∷ qs), (symbols_none qs).1)
least (reads_tighter {b} {d} {ts} {e} hb r) = omega (arith, least r, wrap_laws b (binds e) (expr_tokens e))

-- NO TOKENS OF AN EXPRESSION HAVE FEWER PAIRS THAN ITS PRINT
pub fewest : {d : ℕ} {ts : List Token} {e : Expr} → Reads 0 d ts e → parentheses (expr_tokens e) ≤ parentheses ts
fewest {d} {ts} {e} r = omega (arith, least r, wrap_laws 0 (binds e) (expr_tokens e))

-- a definition in front
one_fewest : (w : List ℕ) (xs ys : List Token) → parentheses ys ≤ parentheses xs → parentheses (word w ∷ symbol Assign ∷ ys) ≤ parentheses (word w ∷ symbol Assign ∷ xs)
unfolding parentheses
one_fewest w xs ys h = omega arith

parted_fewest : (xs ys ps qs : List Token) → parentheses ps ≤ parentheses xs → parentheses qs ≤ parentheses ys → parentheses (ps ++ symbol Semicolon ∷ qs) ≤ parentheses (xs ++ symbol Semicolon ∷ ys)
parted_fewest xs ys ps qs h k = omega (arith, append xs (symbol Semicolon ∷ ys), append ps (symbol Semicolon ∷ qs), (symbols_none ys).2, (symbols_none qs).2)

more_fewest : (w : List ℕ) (ts us : List Token) (e : Expr) (a : Ad) → parentheses (expr_tokens e) ≤ parentheses ts → parentheses (definition_tokens a) ≤ parentheses us → parentheses (definition_tokens (record { name = w; expression = e } ∷ a)) ≤ parentheses (word w ∷ symbol Assign ∷ (ts ++ symbol Semicolon ∷ us))
unfolding definition_tokens
more_fewest w ts us e [] h k = one_fewest w (ts ++ symbol Semicolon ∷ us) (expr_tokens e) (omega (arith, append ts (symbol Semicolon ∷ us)))
more_fewest w ts us e (d ∷ a) h k = one_fewest w (ts ++ symbol Semicolon ∷ us) (expr_tokens e ++ symbol Semicolon ∷ definition_tokens (d ∷ a)) (parted_fewest ts us (expr_tokens e) (definition_tokens (d ∷ a)) h k)

defines_fewest : {ts : List Token} {a : Ad} → Defines ts a → parentheses (definition_tokens a) ≤ parentheses ts
defines_fewest (defines_one {w} {ts} {e} r) = unfold definition_tokens in one_fewest w ts (expr_tokens e) (fewest r)
defines_fewest (defines_more {w} {ts} {us} {e} {a} r d) = more_fewest w ts us e a (fewest r) (defines_fewest d)

pub closed_fewest : (xs ys zs : List Token) → parentheses ys ≤ parentheses xs → parentheses (symbol OpenBracket ∷ (ys ++ symbol CloseBracket ∷ [])) ≤ parentheses (symbol OpenBracket ∷ (xs ++ zs))
unfolding parentheses
closed_fewest xs ys zs h = omega (arith, append xs zs, append ys (symbol CloseBracket ∷ []))

-- NO TOKENS OF AN AD HAVE FEWER PAIRS OF PARENTHESES THAN ITS PRINT
pub fewest_parentheses : {ts : List Token} {a : Ad} → IsAd ts a → parentheses (ad_tokens a) ≤ parentheses ts
unfolding ad_tokens
fewest_parentheses ad_empty = unfold definition_tokens in omega arith
fewest_parentheses (ad_plain {ts} {a} d) = closed_fewest ts (definition_tokens a) (symbol CloseBracket ∷ []) (defines_fewest d)
fewest_parentheses (ad_trailing {ts} {a} d) = closed_fewest ts (definition_tokens a) (symbol Semicolon ∷ symbol CloseBracket ∷ []) (defines_fewest d)

-- SO NO PAIR CAN GO: without any one pair of its parentheses the print's tokens are no ad with this tree
pub none_idle : (a : Ad) (xs ys zs : List Token) → ad_tokens a ≡ xs ++ symbol OpenParenthesis ∷ (ys ++ symbol CloseParenthesis ∷ zs) → IsAd (xs ++ (ys ++ zs)) a → ⊥
none_idle a xs ys zs e d =
    omega (arith, fewest_parentheses d, ap parentheses e, append xs (symbol OpenParenthesis ∷ (ys ++ symbol CloseParenthesis ∷ zs)), (symbols_none (ys ++ symbol CloseParenthesis ∷ zs)).4, append ys (symbol CloseParenthesis ∷ zs), (symbols_none zs).3, append xs (ys ++ zs), append ys zs)

-- a text has one list of tokens
pub one_list : {u : Tokens} {ts us : List Token} {n m : ℕ} → Follows u ts (end n) → Follows u us (end m) → ts ≡ us
one_list none none = refl
one_list (some {t = t} f) (some g) = ap (λ (l : List Token). t ∷ l) (one_list f g)

-- 'Parentheses only where the tree would otherwise read differently': A TEXT OF THE PRINT'S TOKENS WITHOUT ONE PAIR READS
-- DIFFERENTLY OR IS REFUSED
pub no_pair_can_go : (a : Ad) (xs ys zs : List Token) → ad_tokens a ≡ xs ++ symbol OpenParenthesis ∷ (ys ++ symbol CloseParenthesis ∷ zs) → (s : List ℕ) → Whole (tokens s) (xs ++ (ys ++ zs)) → parse s ≡ accepted a → ⊥
no_pair_can_go a xs ys zs e s t h =
    let x = (accepts s a).0 h in
    none_idle a xs ys zs e (subst (λ (l : List Token). IsAd l a) (one_list x.1.1 t.1) x.2)
