-- The text of a literal or a reference, by the kind of its node. Assumes nothing.
use Prim.Native.Nat.{ℕ}
use native.Mathlib.Omega.{arith}
use mathlib.Core.Path.{◌≡◌, refl, sym, ◌∙◌, ap}
use mathlib.Core.Bool.{Bool, true, false, ◌&&◌}
use mathlib.Core.List.{List, ◌++◌}
use lib.ListN.{length}
use lib.Dec.{eqb}
use borrow.Author.Tests.{eqb-true, ne_eqb}
use Rattle.text.specs.Laws.Booleans.{and_left}
use Rattle.text.specs.Bytes.{bytes}
use Rattle.syntax.specs.Tree.{Literal, undefined, error, boolean, integer, real, string, own, other, Expr, literal, reference}
use Rattle.syntax.specs.Print.{decimal, literal_text, reference_text, printed}
use Rattle.syntax.specs.Inner.Lexeme.{is_name, is_string, is_real}
use Rattle.std.proofs.Common.{Option, Some, None, IsSome}
use Rattle.ad.specs.declared.kind.Kind.{Kind}
use Rattle.ad.specs.Stored.{kind_of, kind_at, operand_at, bytes_at}
use Rattle.tree_check.proofs.Tests.{leaf_none}
use Rattle.writer.specs.Inner.Put.{Near}
use Rattle.tree_check.specs.Inner.Decode.{Found, got, bad, test, keyword_fits, boolean_fits, integer_fits, stands_at, leaf_of, leaf_at}

none : {e : Expr} → bad ≡ got e → ⊥
none h = let z : ◌≡◌ {A = ℕ} 0 1 = cc in omega arith

got_same : {e e' : Expr} → got e ≡ got e' → e ≡ e'
got_same h = cc

inv_test : (t : Bool) (go : Unit {0} → Found) (e : Expr) → test t go ≡ got e → (t ≡ true) × (go tt ≡ got e)
inv_test true go e h = (refl, h)
inv_test false go e h = absurd (none h)

third : (w b : List ℕ) (i o : ℕ) (e : Expr) → leaf_at w b i o ≡ got e → operand_at w i 2 ≡ 0
unfolding leaf_of
third w b i o e h = eqb-true _ 0 (inv_test (eqb (operand_at w i 2) 0) _ e h).0

-- a node with a leaf is of some kind
pub leaf_kind : (w b : List ℕ) (i o : ℕ) (e : Expr) → leaf_at w b i o ≡ got e → (r : Option Kind) → r ≡ kind_of (kind_at w i) → IsSome r
leaf_kind w b i o e h (Some k) q = refl
leaf_kind w b i o e h None q =
    let z = third w b i o e h in
    absurd (none (sym (leaf_none w b i o _ _ refl refl (operand_at w i 2) refl z (sym q)) ∙ h))

pub near_as : (at : ℕ) (t u : List ℕ) → t ≡ u → Near at t → Near at u
near_as at t u e n = rw e at n

module _ (w b : List ℕ) (i k x y : ℕ) (ek : k ≡ kind_at w i) (ex : x ≡ operand_at w i 0) (ey : y ≡ operand_at w i 1) where
  leaf_at_lem : (v o : ℕ) (e : Expr) → k ≡ v → leaf_at w b i o ≡ got e → leaf_of b o v x y (operand_at w i 2) ≡ got e
  leaf_at_lem v o e g h = (λ m. leaf_of b o ((sym g ∙ ek) m) (ex m) (ey m) (operand_at w i 2)) ∙ h

  module _ (e : Expr) (o : ℕ) (h : leaf_at w b i o ≡ got e) where
    plain : (v : ℕ) (t : Bool) (l : Literal) → k ≡ v → (leaf_of b o v x y (operand_at w i 2) ≡ got e → test (eqb (operand_at w i 2) 0) (λ _. test t (λ _. got (literal l))) ≡ got e) → e ≡ literal l
    plain v t l g f =
        let p = inv_test (eqb (operand_at w i 2) 0) (λ _. test t (λ _. got (literal l))) e (f (leaf_at_lem v o e g h)) in
        sym (got_same (inv_test t (λ _. got (literal l)) e p.1).1)

    pub text_1 : k ≡ 1 → printed e ≡ literal_text undefined
    unfolding leaf_of printed
    text_1 g = ap printed (plain 1 (keyword_fits x y) undefined g (λ q. q))

    pub text_2 : k ≡ 2 → printed e ≡ literal_text error
    unfolding leaf_of printed
    text_2 g = ap printed (plain 2 (keyword_fits x y) error g (λ q. q))

    pub text_3 : k ≡ 3 → printed e ≡ literal_text (boolean (eqb x 1))
    unfolding leaf_of printed
    text_3 g = ap printed (plain 3 (boolean_fits x y) (boolean (eqb x 1)) g (λ q. q))

    pub text_4 : k ≡ 4 → printed e ≡ decimal x
    unfolding leaf_of printed literal_text
    text_4 g = ap printed (plain 4 (integer_fits x y) (integer x) g (λ q. q))

    pub text_5 : k ≡ 5 → printed e ≡ literal_text (real x y)
    unfolding leaf_of printed
    text_5 g = ap printed (plain 5 (is_real x y) (real x y) g (λ q. q))

    -- a part of the bytes
    bytes_from : (v : ℕ) (t : Bool) (f : List ℕ → Expr) → k ≡ v → (leaf_of b o v x y (operand_at w i 2) ≡ got e → test (eqb (operand_at w i 2) 0) (λ _. test (stands_at b o x y && t) (λ _. got (f (bytes_at b o y)))) ≡ got e) → e ≡ f (bytes_at b x y)
    bytes_from v t f g q =
        let p = inv_test (eqb (operand_at w i 2) 0) (λ _. test (stands_at b o x y && t) (λ _. got (f (bytes_at b o y)))) e (q (leaf_at_lem v o e g h)) in
        let r = inv_test (stands_at b o x y && t) (λ _. got (f (bytes_at b o y))) e p.1 in
        let at : x ≡ o = eqb-true x o (and_left (eqb x o) (eqb (length (bytes_at b o y)) y) (and_left (stands_at b o x y) t r.0)) in
        sym (got_same r.1) ∙ ap (λ (m : ℕ). f (bytes_at b m y)) (sym at)

    pub text_6 : k ≡ 6 → printed e ≡ literal_text (string (bytes_at b x y))
    unfolding leaf_of printed
    text_6 g = ap printed (bytes_from 6 (is_string (bytes_at b o y)) (λ l. literal (string l)) g (λ q. q))

    pub text_7 : k ≡ 7 → printed e ≡ bytes_at b x y
    unfolding leaf_of printed reference_text
    text_7 g = ap printed (bytes_from 7 (is_name (bytes_at b o y)) (λ l. reference own l) g (λ q. q))

    is_eight : (k ≡ 1 → ⊥) → (k ≡ 2 → ⊥) → (k ≡ 3 → ⊥) → (k ≡ 4 → ⊥) → (k ≡ 5 → ⊥) → (k ≡ 6 → ⊥) → (k ≡ 7 → ⊥) → k ≡ 8
    unfolding leaf_of
    is_eight n₁ n₂ n₃ n₄ n₅ n₆ n₇ = go (eqb k 8) refl
      where
        go : (t : Bool) → eqb k 8 ≡ t → k ≡ 8
        go true q = eqb-true k 8 q
        go false q =
            let l = leaf_at_lem k o e refl h in
            let m : test (eqb (operand_at w i 2) 0) (λ _. bad) ≡ got e = rw (ne_eqb k 1 n₁, ne_eqb k 2 n₂, ne_eqb k 3 n₃, ne_eqb k 4 n₄, ne_eqb k 5 n₅, ne_eqb k 6 n₆, ne_eqb k 7 n₇, q) at l in
            absurd (none (inv_test (eqb (operand_at w i 2) 0) (λ _. bad) e m).1)

    pub text_8 : (k ≡ 1 → ⊥) → (k ≡ 2 → ⊥) → (k ≡ 3 → ⊥) → (k ≡ 4 → ⊥) → (k ≡ 5 → ⊥) → (k ≡ 6 → ⊥) → (k ≡ 7 → ⊥) → printed e ≡ bytes "other." ++ bytes_at b x y
    unfolding leaf_of printed reference_text
    text_8 n₁ n₂ n₃ n₄ n₅ n₆ n₇ = ap printed (bytes_from 8 (is_name (bytes_at b o y)) (λ l. reference other l) (is_eight n₁ n₂ n₃ n₄ n₅ n₆ n₇) (λ q. q))
