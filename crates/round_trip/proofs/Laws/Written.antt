-- The names and literals of a tree are those of its tokens: where a text can write these, it can write those. Assumes nothing.
use Rattle.std.specs.Prelude.{ℕ, ◌≡◌, true, List, [], ◌∷◌, ◌++◌}
use Rattle.std.proofs.Math.Path.{refl}
use Rattle.syntax.specs.Tree.{Expr, Ad}
use Rattle.syntax.specs.Token.{Token, operator, symbol}
use Rattle.syntax.specs.Grammar.{Reads, reads_literal, reads_own, reads_other, reads_parentheses, reads_unary, reads_binary, reads_conditional, reads_tighter, Defines, defines_one, defines_more, IsAd, ad_empty, ad_plain, ad_trailing}
use Rattle.syntax.proofs.Laws.FrontTokens.{Written, AllWritten, written_split}
use Rattle.syntax.specs.declared.Symbol.TheVariants.{Question, Colon, CloseParenthesis, CloseBracket, Semicolon}
use Rattle.round_trip.specs.Bounded.{is_writable, are_writable}

reads_written : {b d : ℕ} {ts : List Token} {e : Expr} → Reads b d ts e → AllWritten ts → is_writable e ≡ true
unfolding is_writable AllWritten Written
reads_written reads_literal h = h.0
reads_written reads_own h = h.0
reads_written reads_other h = h.1.1.0
reads_written (reads_parentheses {d} {ts} hd r) h = reads_written r (written_split ts (symbol CloseParenthesis ∷ []) h.1).0
reads_written (reads_unary hd r) h = reads_written r h.1
reads_written (reads_binary {d} {j} {xs} {ys} r t) h =
    let x = written_split xs (operator j ∷ ys) h in
    rw (reads_written r x.0, reads_written t x.1.1) refl
reads_written (reads_conditional {d} {xs} {ys} {zs} hd x y z) h =
    let u = written_split xs (symbol Question ∷ (ys ++ symbol Colon ∷ zs)) h in
    let w = written_split ys (symbol Colon ∷ zs) u.1.1 in
    rw (reads_written x u.0, reads_written y w.0, reads_written z w.1.1) refl
reads_written (reads_tighter hb r) h = reads_written r h

defines_written : {ts : List Token} {a : Ad} → Defines ts a → AllWritten ts → are_writable a ≡ true
unfolding are_writable AllWritten Written
defines_written (defines_one r) h = rw (h.0, reads_written r h.1.1) refl
defines_written (defines_more {w} {ts} {us} r d) h =
    let x = written_split ts (symbol Semicolon ∷ us) h.1.1 in
    rw (h.0, reads_written r x.0, defines_written d x.1.1) refl

-- and so is every one of an ad of such tokens
pub writable_ad : {ts : List Token} {a : Ad} → IsAd ts a → AllWritten ts → are_writable a ≡ true
writable_ad ad_empty h = unfold are_writable in refl
writable_ad (ad_plain {ts} d) h = unfold AllWritten in defines_written d (written_split ts (symbol CloseBracket ∷ []) h.1).0
writable_ad (ad_trailing {ts} d) h = unfold AllWritten in defines_written d (written_split ts (symbol Semicolon ∷ symbol CloseBracket ∷ []) h.1).0
