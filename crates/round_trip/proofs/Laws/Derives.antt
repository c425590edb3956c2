-- The tokens of a print are a sentence of the grammar, with the tree that was printed. Assumes nothing.
use Rattle.std.specs.Prelude.{ℕ, zero, suc, ◌+◌, ◌-◌, ◌≤◌, ◌<◌, ◌≡◌, refl, Bool, true, false, cond, List, [], ◌∷◌, ◌++◌, ltb}
use Rattle.std.proofs.Common.{arith, subst, ltb-false}
use Rattle.syntax.specs.Bounds.{max_level}
use Rattle.syntax.specs.Tree.{own, other, Expr, literal, reference, unary, binary, conditional, Definition, Ad}
use Rattle.syntax.specs.Token.{Token, symbol, pick}
use Rattle.syntax.specs.Grammar.{binds_of, Reads, reads_literal, reads_own, reads_other, reads_parentheses, reads_unary, reads_binary, reads_conditional, reads_tighter, Defines, defines_one, defines_more, IsAd, ad_empty, ad_plain}
use Rattle.syntax.specs.Print.{binds, wrap_level, level_of, ad_level}
use Rattle.syntax.proofs.Laws.Codes.{binds_low}
use Rattle.syntax.specs.declared.Symbol.TheVariants.{OpenParenthesis, CloseParenthesis}
use Rattle.round_trip.specs.Printed.{wrap_tokens, expr_tokens, definition_tokens, ad_tokens}

-- what binds tighter may stand where less is asked
loosen : {d : ℕ} {ts : List Token} {e : Expr} (n b : ℕ) → n + b ≤ 8 → Reads (n + b) d ts e → Reads b d ts e
loosen {d} {ts} {e} zero b h r = let i : 0 + b ≡ b = omega arith in subst (λ (k : ℕ). Reads k d ts e) i r
loosen {d} {ts} {e} (suc n) b h r =
    let i : suc n + b ≡ n + b + 1 = omega arith in
    loosen n b (omega arith) (reads_tighter (omega arith) (subst (λ (k : ℕ). Reads k d ts e) i r))

loosen_to : {d : ℕ} {ts : List Token} {e : Expr} (b k : ℕ) → k ≤ b → b ≤ 8 → Reads b d ts e → Reads k d ts e
loosen_to {d} {ts} {e} b k h h' r =
    let i : b ≡ b - k + k = omega arith in
    loosen (b - k) k (omega arith) (subst (λ (n : ℕ). Reads n d ts e) i r)

pub binds_le : (e : Expr) → binds e ≤ 8
unfolding binds
binds_le (literal l) = omega arith
binds_le (reference s w) = omega arith
binds_le (unary u a) = omega arith
binds_le (binary j a b) = omega (arith, (binds_low j).1)
binds_le (conditional a b c) = omega arith

reads_wrap : (k d : ℕ) (e : Expr) → k ≤ 8 → d + wrap_level k (binds e) (level_of e) ≤ max_level →
    ((d : ℕ) → d + level_of e ≤ max_level → Reads (binds e) d (expr_tokens e) e) →
    Reads k d (wrap_tokens k (binds e) (expr_tokens e)) e
reads_wrap k d e hk hd f = go (ltb (binds e) k) refl hd
  where
    go : (b : Bool) → ltb (binds e) k ≡ b → d + cond b (level_of e + 1) (level_of e) ≤ max_level →
        Reads k d (pick b (λ _. symbol OpenParenthesis ∷ (expr_tokens e ++ symbol CloseParenthesis ∷ [])) (λ _. expr_tokens e)) e
    go true h hd = loosen_to 8 k hk (omega arith) (reads_parentheses (omega arith) (loosen_to (binds e) 0 (omega arith) (binds_le e) (f (d + 1) (omega arith))))
    go false h hd = loosen_to (binds e) k (ltb-false _ _ h) (binds_le e) (f d hd)

-- THE TOKENS OF A PRINTED EXPRESSION ARE THE EXPRESSION, at any level that leaves room for those of its print
pub reads_tokens : (e : Expr) (d : ℕ) → d + level_of e ≤ max_level → Reads (binds e) d (expr_tokens e) e
unfolding binds level_of expr_tokens
reads_tokens (literal l) d h = reads_literal
reads_tokens (reference own w) d h = reads_own
reads_tokens (reference other w) d h = reads_other
reads_tokens (unary u a) d h = let hd : d < max_level = omega arith in reads_unary hd (reads_wrap 7 (d + 1) a (omega arith) (omega arith) (reads_tokens a))
reads_tokens (binary j a b) d h =
    let low = binds_low j in
    reads_binary (reads_wrap (binds_of j) d a (omega arith) (omega arith) (reads_tokens a))
    (reads_wrap (binds_of j + 1) d b (omega arith) (omega arith) (reads_tokens b))
reads_tokens (conditional a b c) d h =
    let hd : d < max_level = omega arith in
    reads_conditional hd (reads_wrap 1 d a (omega arith) (omega arith) (reads_tokens a))
    (loosen_to (binds b) 0 (omega arith) (binds_le b) (reads_tokens b (d + 1) (omega arith)))
    (loosen_to (binds c) 0 (omega arith) (binds_le c) (reads_tokens c (d + 1) (omega arith)))

reads_whole : (e : Expr) → level_of e ≤ max_level → Reads 0 0 (expr_tokens e) e
reads_whole e h = loosen_to (binds e) 0 (omega arith) (binds_le e) (reads_tokens e 0 (omega arith))

defines_tokens : (d : Definition) (a : Ad) → ad_level (d ∷ a) ≤ max_level → Defines (definition_tokens (d ∷ a)) (d ∷ a)
unfolding definition_tokens ad_level
defines_tokens d [] h = defines_one (reads_whole d.expression (omega arith))
defines_tokens d (e ∷ a) h = defines_more (reads_whole d.expression (omega arith)) (defines_tokens e a (omega arith))

-- THE TOKENS OF A PRINTED AD ARE THE AD
pub derives : (a : Ad) → ad_level a ≤ max_level → IsAd (ad_tokens a) a
unfolding definition_tokens ad_tokens
derives [] h = ad_empty
derives (d ∷ a) h = ad_plain (defines_tokens d a h)
