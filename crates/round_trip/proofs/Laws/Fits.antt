-- The names and strings of a tree are no longer than a text of it, so that those of a text of 16,384 bytes have room. Assumes nothing.
use Rattle.std.specs.Prelude.{ℕ, ◌+◌, ◌≤◌, ◌≡◌, refl, List, [], ◌∷◌, ◌++◌, length}
use native.Mathlib.Omega.{arith}
use Rattle.std.proofs.Common.{length-append}
use Rattle.syntax.specs.Tree.{Literal, undefined, error, boolean, integer, real, string, Expr, Ad}
use Rattle.syntax.specs.Token.{Token, operator, symbol}
use Rattle.syntax.specs.Grammar.{Reads, reads_literal, reads_own, reads_other, reads_parentheses, reads_unary, reads_binary, reads_conditional, reads_tighter, Defines, defines_one, defines_more, IsAd, ad_empty, ad_plain, ad_trailing}
use Rattle.syntax.specs.Reader.{accepted, parse}
use Rattle.syntax.proofs.Laws.Accepts.{accepts}
use Rattle.syntax.proofs.Laws.FrontTokens.{held, carried, all_carried, tokens_carry}
use Rattle.syntax.specs.declared.Symbol.TheVariants.{Question, Colon, CloseParenthesis, CloseBracket, Semicolon}
use Rattle.ad.specs.Layout.{literal_bytes, expr_bytes, ad_bytes}

literal_held : (l : Literal) → length (literal_bytes l) ≡ held l
unfolding literal_bytes held
literal_held undefined = refl
literal_held error = refl
literal_held (boolean b) = refl
literal_held (integer n) = refl
literal_held (real n places) = refl
literal_held (string xs) = refl

bytes_append : (xs ys : List Token) → all_carried (xs ++ ys) ≡ all_carried xs + all_carried ys
unfolding all_carried
bytes_append [] ys = omega arith
bytes_append (t ∷ xs) ys = omega (arith, bytes_append xs ys)

reads_bytes : {b d : ℕ} {ts : List Token} {e : Expr} → Reads b d ts e → length (expr_bytes e) ≤ all_carried ts
unfolding expr_bytes all_carried carried
reads_bytes (reads_literal {l = l}) = omega (arith, literal_held l)
reads_bytes reads_own = omega arith
reads_bytes reads_other = omega arith
reads_bytes (reads_parentheses {d} {ts} hd r) = omega (arith, reads_bytes r, bytes_append ts (symbol CloseParenthesis ∷ []))
reads_bytes (reads_unary hd r) = omega (arith, reads_bytes r)
reads_bytes (reads_binary {d} {j} {xs} {ys} {a} {b} r t) = omega (arith, reads_bytes r, reads_bytes t, length-append (expr_bytes a) (expr_bytes b), bytes_append xs (operator j ∷ ys))
reads_bytes (reads_conditional {d} {xs} {ys} {zs} {a} {b} {c} hd x y z) =
    omega (arith, reads_bytes x, reads_bytes y, reads_bytes z, length-append (expr_bytes a) (expr_bytes b ++ expr_bytes c), length-append (expr_bytes b) (expr_bytes c), bytes_append xs (symbol Question ∷ (ys ++ symbol Colon ∷ zs)), bytes_append ys (symbol Colon ∷ zs))
reads_bytes (reads_tighter hb r) = reads_bytes r

defines_bytes : {ts : List Token} {a : Ad} → Defines ts a → length (ad_bytes a) ≤ all_carried ts
unfolding ad_bytes all_carried carried
defines_bytes (defines_one {w} {ts} {e} r) = omega (arith, reads_bytes r, length-append w (expr_bytes e ++ []), length-append (expr_bytes e) [])
defines_bytes (defines_more {w} {ts} {us} {e} {a} r d) =
    omega (arith, reads_bytes r, defines_bytes d, length-append w (expr_bytes e ++ ad_bytes a), length-append (expr_bytes e) (ad_bytes a), bytes_append ts (symbol Semicolon ∷ us))

ad_bytes_lem : {ts : List Token} {a : Ad} → IsAd ts a → length (ad_bytes a) ≤ all_carried ts
unfolding all_carried
ad_bytes_lem ad_empty = unfold ad_bytes in omega arith
ad_bytes_lem (ad_plain {ts} d) = omega (arith, defines_bytes d, bytes_append ts (symbol CloseBracket ∷ []))
ad_bytes_lem (ad_trailing {ts} d) = omega (arith, defines_bytes d, bytes_append ts (symbol Semicolon ∷ symbol CloseBracket ∷ []))

-- THE NAMES AND STRINGS OF AN ACCEPTED TREE ARE NO LONGER THAN ITS TEXT
pub accepted_fits : (s : List ℕ) (a : Ad) → parse s ≡ accepted a → length (ad_bytes a) ≤ length s
accepted_fits s a e = let x = (accepts s a).0 e in omega (arith, ad_bytes_lem x.2, tokens_carry s x.0 x.1.1)
