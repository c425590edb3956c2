-- How long and how deep an expression prints, at most. Assumes nothing.
use Rattle.std.specs.Prelude.{ℕ, ◌+◌, ◌*◌, ◌^◌, ◌≤◌, ◌<◌, ◌≡◌, refl, Bool, true, false, cond, ◌&&◌, List, [], ◌∷◌, ◌++◌, length, ltb, leb, eqb}
use Prim.Native.Char.{code}
use Rattle.std.proofs.Common.{arith, ◌∙◌, length-append, ltb-true, leb-true}
use Rattle.text.specs.Laws.Booleans.{and_left, and_right}
use Rattle.text.specs.Bytes.{bytes}
use Rattle.syntax.specs.Tree.{Literal, undefined, error, boolean, integer, real, string, Scope, own, other, Expr, literal, reference, unary, binary, conditional, size}
use Rattle.syntax.specs.Token.{pick}
use Rattle.syntax.specs.Grammar.{binds_of}
use Rattle.syntax.specs.Print.{escaped, escaped_all, literal_text, binary_text, unary_text, binds, wrap, reference_text, printed, level_of}
use Rattle.syntax.specs.declared.Binary.{Binary}
use Rattle.syntax.specs.declared.Binary.TheVariants.{Or, And, Equal, NotEqual, Is, Isnt, Less, LessOrEqual, Greater, GreaterOrEqual, Add, Subtract, Multiply, Divide, Remainder}
use Rattle.syntax.specs.declared.Unary.{Unary}
use Rattle.syntax.specs.declared.Unary.TheVariants.{Not, Plus, Minus}
use Rattle.syntax.specs.Inner.Lexeme.{is_real, is_literal}
use Rattle.lexemes.specs.Laws.Digits.{decimal_short, real_short}
use Rattle.ad.specs.Layout.{literal_bytes, expr_bytes}
use Rattle.round_trip.specs.Bounded.{is_writable}

-- ---- literals

escaped_short : (b : ℕ) → length (escaped b) ≤ 2
unfolding escaped bytes
escaped_short b = go (eqb b (code "\"")) (eqb b (code "\\")) (eqb b (code "\n")) (eqb b (code "\t"))
  where
    go : (p q r s : Bool) → length (cond p (bytes "\\\"") (cond q (bytes "\\\\") (cond r (bytes "\\n") (cond s (bytes "\\t") (b ∷ []))))) ≤ 2
    go true q r s = omega arith
    go false true r s = omega arith
    go false false true s = omega arith
    go false false false true = omega arith
    go false false false false = omega arith

escaped_all_short : (l : List ℕ) → length (escaped_all l) ≤ 2 * length l
unfolding escaped_all
escaped_all_short [] = omega arith
escaped_all_short (b ∷ l) = simp length-append (omega (arith, escaped_short b, escaped_all_short l))

literal_short : (l : Literal) → is_literal l ≡ true → length (literal_text l) ≤ 36 + 2 * length (literal_bytes l)
unfolding literal_text literal_bytes is_literal is_real bytes
literal_short undefined e = omega arith
literal_short error e = omega arith
literal_short (boolean true) e = omega arith
literal_short (boolean false) e = omega arith
literal_short (integer n) e = let h = leb-true n 2147483647 e in omega (arith, decimal_short 9 n (omega arith))
literal_short (real n p) e =
    let h : n < 1000000000000000 = ltb-true n (10 ^ 15) (and_left (ltb n (10 ^ 15)) (leb 1 p && ltb p 15) e) in
    let g = ltb-true p 15 (and_right (leb 1 p) (ltb p 15) (and_right (ltb n (10 ^ 15)) (leb 1 p && ltb p 15) e)) in
    omega (arith, short n p h)
  where
    short : (n p : ℕ) → n < 1000000000000000 → length (literal_text (real n p)) ≤ 16 + p
    short n p h = real_short n p h
literal_short (string l) e = simp length-append (omega (arith, escaped_all_short l))

-- ---- operators

pub operator_short : (j : Binary) → length (binary_text j) ≤ 4
unfolding binary_text bytes
operator_short Or = omega arith
operator_short And = omega arith
operator_short Equal = omega arith
operator_short NotEqual = omega arith
operator_short Is = omega arith
operator_short Isnt = omega arith
operator_short Less = omega arith
operator_short LessOrEqual = omega arith
operator_short Greater = omega arith
operator_short GreaterOrEqual = omega arith
operator_short Add = omega arith
operator_short Subtract = omega arith
operator_short Multiply = omega arith
operator_short Divide = omega arith
operator_short Remainder = omega arith

pub sign_one : (u : Unary) → length (unary_text u) ≡ 1
unfolding unary_text bytes
sign_one Not = refl
sign_one Plus = refl
sign_one Minus = refl

-- n, and k more where parentheses are written
pub around_short : (a b n k : ℕ) → (n ≤ cond (ltb b a) (n + k) n) × (cond (ltb b a) (n + k) n ≤ n + k)
around_short a b n k = go (ltb b a)
  where
    go : (t : Bool) → (n ≤ cond t (n + k) n) × (cond t (n + k) n ≤ n + k)
    go true = omega arith
    go false = omega arith

pub length_wrap : (k b : ℕ) (t : List ℕ) → length (wrap k b t) ≡ cond (ltb b k) (length t + 2) (length t)
length_wrap k b t = go (ltb b k)
  where
    go : (c : Bool) → length (pick c (λ _. code "(" ∷ (t ++ code ")" ∷ [])) (λ _. t)) ≡ cond c (length t + 2) (length t)
    go true = simp length-append (omega arith)
    go false = refl

-- ---- expressions

pub length_unary : (u : Unary) (a : Expr) → length (printed (unary u a)) ≡ cond (ltb (binds a) 7) (length (printed a) + 2) (length (printed a)) + 1
unfolding printed
length_unary u a = length-append (unary_text u) (wrap 7 (binds a) (printed a)) ∙ (omega (arith, sign_one u, length_wrap 7 (binds a) (printed a)))

pub length_binary : (j : Binary) (a b : Expr) →
    length (printed (binary j a b)) ≡ cond (ltb (binds a) (binds_of j)) (length (printed a) + 2) (length (printed a)) + (length (binary_text j) + cond (ltb (binds b) (binds_of j + 1)) (length (printed b) + 2) (length (printed b)) + 2)
unfolding printed
length_binary j a b =
    let A : List ℕ = wrap (binds_of j) (binds a) (printed a) in
    let B : List ℕ = wrap (binds_of j + 1) (binds b) (printed b) in
    omega (arith, length-append A (code " " ∷ (binary_text j ++ (code " " ∷ B))), length-append (binary_text j) (code " " ∷ B), length_wrap (binds_of j) (binds a) (printed a), length_wrap (binds_of j + 1) (binds b) (printed b))

pub length_conditional : (a b c : Expr) →
    length (printed (conditional a b c)) ≡ cond (ltb (binds a) 1) (length (printed a) + 2) (length (printed a)) + (length (printed b) + length (printed c) + 6)
unfolding printed bytes
length_conditional a b c =
    let A : List ℕ = wrap 1 (binds a) (printed a) in
    omega (arith, length-append A (bytes " ? " ++ (printed b ++ (bytes " : " ++ printed c))), length-append (printed b) (bytes " : " ++ printed c), length_wrap 1 (binds a) (printed a))

reference_short : (s : Scope) (w : List ℕ) → length (reference_text s w) ≤ 6 + length w
unfolding reference_text bytes
reference_short own w = omega arith
reference_short other w = omega arith

pub print_short : (e : Expr) → is_writable e ≡ true → length (printed e) ≤ 40 * size e + 2 * length (expr_bytes e)
unfolding printed is_writable size expr_bytes
print_short (literal l) h = omega (arith, literal_short l h)
print_short (reference s w) h = omega (arith, reference_short s w)
print_short (unary u a) h = omega (arith, length_unary u a, around_short 7 (binds a) (length (printed a)) 2, print_short a h)
print_short (binary j a b) h =
    let l = and_left (is_writable a) (is_writable b) h in
    let r = and_right (is_writable a) (is_writable b) h in
    omega (arith, length_binary j a b, operator_short j, around_short (binds_of j) (binds a) (length (printed a)) 2, around_short (binds_of j + 1) (binds b) (length (printed b)) 2, print_short a l, print_short b r, length-append (expr_bytes a) (expr_bytes b))
print_short (conditional a b c) h =
    let l = and_left (is_writable a) (is_writable b && is_writable c) h in
    let m = and_right (is_writable a) (is_writable b && is_writable c) h in
    omega (arith, length_conditional a b c, around_short 1 (binds a) (length (printed a)) 2, print_short a l, print_short b (and_left (is_writable b) (is_writable c) m), print_short c (and_right (is_writable b) (is_writable c) m), length-append (expr_bytes a) (expr_bytes b ++ expr_bytes c), length-append (expr_bytes b) (expr_bytes c))

pub level_short : (e : Expr) → level_of e ≤ 2 * size e
unfolding level_of size
level_short (literal l) = omega arith
level_short (reference s w) = omega arith
level_short (unary u a) = omega (arith, around_short 7 (binds a) (level_of a) 1, level_short a)
level_short (binary j a b) = omega (arith, around_short (binds_of j) (binds a) (level_of a) 1, around_short (binds_of j + 1) (binds b) (level_of b) 1, level_short a, level_short b)
level_short (conditional a b c) = omega (arith, around_short 1 (binds a) (level_of a) 1, level_short a, level_short b, level_short c)
