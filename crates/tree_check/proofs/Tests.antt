-- What each way through the tests and the leaves gives. Assumes nothing.
use Rattle.std.proofs.Common.{Option, Some, None}
use Prim.Native.Nat.{ℕ, zero, suc, ◌+◌, ◌-◌, ◌^◌, ◌≤◌}
use native.Mathlib.Nat.{add-zero}
use native.Mathlib.Omega.{arith}
use mathlib.Core.Path.{◌≡◌, refl, sym, ◌∙◌, ap, subst}
use mathlib.Core.Bool.{Bool, true, false, ◌&&◌}
use mathlib.Core.List.{List, []}
use lib.ListN.{length, drop, length-take, length-drop}
use lib.Dec.{ltb, leb, eqb}
use borrow.Author.Tests.{ltb-true, leb-true, eqb-true, ne_eqb}
use Rattle.text.specs.Laws.Booleans.{and_left, and_right}
use Rattle.text.specs.Bytes.{bytes}
use Rattle.syntax.specs.Tree.{Literal, undefined, error, boolean, integer, real, string, own, other, literal, reference}
use Rattle.syntax.specs.Print.{decimal, literal_text, reference_text, binds, printed, level_of}
use Rattle.syntax.specs.Inner.Lexeme.{every, in_string, is_name, is_string, is_real}
use Rattle.ad.specs.Layout.{literal_bytes, expr_bytes}
use Rattle.ad.specs.Layout.{code_of}
use Rattle.ad.specs.Stored.{kind_of, kind_at, operand_at, bytes_at}
use Rattle.ad.specs.Laws.Coding.{coded, uncoded, other_code}
use Rattle.ad.specs.declared.kind.Kind.{Kind}
use Rattle.ad.specs.declared.kind.Kind.TheVariants as K
use Rattle.tree_check.specs.Inner.Decode.{tree, Found, got, bad, test, keyword_fits, boolean_fits, integer_fits, stands_at, leaf_of, leaf_at, Same, walk_if, plain_walk}
use Rattle.tree_check.specs.declared.Tree.{Tree}

pub walk_if_lem : (t : Bool) (r : Option Tree) → t ≡ true → r ≡ walk_if t r
walk_if_lem t r e = rw e refl

pub places_few : (x y : ℕ) → is_real x y ≡ true → y ≤ 14
unfolding is_real
places_few x y e =
    let h = ltb-true y 15 (and_right (leb 1 y) (ltb y 15)
    (and_right (ltb x (10 ^ 15)) (leb 1 y && ltb y 15) e)) in
    omega arith

pub string_room : (l : List ℕ) → is_string l ≡ true → length l ≤ 1024
unfolding is_string
string_room l e = leb-true (length l) 1024 (and_right (every in_string l) (leb (length l) 1024) e)

module _ (b : List ℕ) (o x y : ℕ) (t : Bool) (e : (stands_at b o x y && t) ≡ true) where
  stood : stands_at b o x y ≡ true
  stood = and_left (stands_at b o x y) t e

  pub stands_long : length (bytes_at b o y) ≡ y
  stands_long = eqb-true (length (bytes_at b o y)) y (and_right (eqb x o) (eqb (length (bytes_at b o y)) y) stood)

  pub stands_room : length b ≡ 16384 → o ≤ 16384 → o + y ≤ 16384
  stands_room h g = omega (arith, stands_long, length-take y (drop o b), length-drop o b)

-- ---- leaves

same_if :
    (o : ℕ) (t : Bool) (go : Unit {0} → Found) (v : Option Tree) (r : Option Tree) → r ≡ walk_if t v →
    (t ≡ true → Same o (go tt) v) → Same o (test t go) r
same_if o true go v r e f = subst (Same o (go tt)) (sym e) (f refl)
same_if o false go v r e f = subst (Same o bad) (sym e) refl

module _ (b : List ℕ) (o x y : ℕ) (r : Option Tree) where
  plain : (l : Literal) (n : ℕ) → literal_bytes l ≡ [] → n ≡ length (literal_text l) → Same o (got (literal l)) (plain_walk o n)
  unfolding expr_bytes binds level_of printed
  plain l n e h = (literal l, refl, sym (rw e (add-zero o)), refl, refl, h)

  pub leaf_undefined : r ≡ walk_if (keyword_fits x y) (plain_walk o 9) → Same o (leaf_of b o 1 x y 0) r
  unfolding leaf_of literal_bytes literal_text bytes
  leaf_undefined e = same_if o (keyword_fits x y) _ (plain_walk o 9) r e (λ _. plain undefined 9 refl refl)

  pub leaf_error : r ≡ walk_if (keyword_fits x y) (plain_walk o 5) → Same o (leaf_of b o 2 x y 0) r
  unfolding leaf_of literal_bytes literal_text bytes
  leaf_error e = same_if o (keyword_fits x y) _ (plain_walk o 5) r e (λ _. plain error 5 refl refl)

  pub leaf_boolean : r ≡ walk_if (boolean_fits x y) (plain_walk o (5 - x)) → Same o (leaf_of b o 3 x y 0) r
  unfolding leaf_of literal_bytes literal_text bytes
  leaf_boolean e = same_if o (boolean_fits x y) _ (plain_walk o (5 - x)) r e (λ t. plain (boolean (eqb x 1)) (5 - x) refl (bit x (leb-true x 1 (and_left (leb x 1) (eqb y 0) t))))
    where
      bit : (x : ℕ) → x ≤ 1 → 5 - x ≡ length (literal_text (boolean (eqb x 1)))
      bit zero h = refl
      bit (suc zero) h = refl
      bit (suc (suc x)) h = absurd (omega arith)

  pub leaf_integer : r ≡ walk_if (integer_fits x y) (plain_walk o (length (decimal x))) → Same o (leaf_of b o 4 x y 0) r
  unfolding leaf_of literal_bytes literal_text
  leaf_integer e = same_if o (integer_fits x y) _ (plain_walk o (length (decimal x))) r e (λ _. plain (integer x) (length (decimal x)) refl refl)

  pub leaf_real : r ≡ walk_if (is_real x y) (plain_walk o (length (literal_text (real x y)))) → Same o (leaf_of b o 5 x y 0) r
  unfolding leaf_of literal_bytes
  leaf_real e = same_if o (is_real x y) _ (plain_walk o (length (literal_text (real x y)))) r e (λ _. plain (real x y) (length (literal_text (real x y))) refl refl)

  pub leaf_string : r ≡ walk_if (stands_at b o x y && is_string (bytes_at b o y)) (tree (o + y) 8 0 (length (literal_text (string (bytes_at b o y))))) → Same o (leaf_of b o 6 x y 0) r
  unfolding leaf_of expr_bytes literal_bytes binds level_of printed
  leaf_string e = same_if o (stands_at b o x y && is_string (bytes_at b o y)) _ (tree (o + y) 8 0 (length (literal_text (string (bytes_at b o y))))) r e
      (λ t. (literal (string (bytes_at b o y)), refl, ap (◌+◌ o) (sym (stands_long b o x y (is_string (bytes_at b o y)) t)), refl, refl, refl))

  pub leaf_own : r ≡ walk_if (stands_at b o x y && is_name (bytes_at b o y)) (tree (o + y) 8 0 (0 + y)) → Same o (leaf_of b o 7 x y 0) r
  unfolding leaf_of expr_bytes binds level_of printed reference_text
  leaf_own e = same_if o (stands_at b o x y && is_name (bytes_at b o y)) _ (tree (o + y) 8 0 (0 + y)) r e
      (λ t. let l = stands_long b o x y (is_name (bytes_at b o y)) t in (reference own (bytes_at b o y), refl, ap (◌+◌ o) (sym l), refl, refl, omega arith))

  pub leaf_other : r ≡ walk_if (stands_at b o x y && is_name (bytes_at b o y)) (tree (o + y) 8 0 (6 + y)) → Same o (leaf_of b o 8 x y 0) r
  unfolding leaf_of expr_bytes binds level_of printed reference_text bytes
  leaf_other e = same_if o (stands_at b o x y && is_name (bytes_at b o y)) _ (tree (o + y) 8 0 (6 + y)) r e
      (λ t. let l = stands_long b o x y (is_name (bytes_at b o y)) t in (reference other (bytes_at b o y), refl, ap (◌+◌ o) (sym l), refl, refl, omega arith))

module _ (w b : List ℕ) (i o x y : ℕ) (ex : x ≡ operand_at w i 0) (ey : y ≡ operand_at w i 1) where
  pub leaf_third : (z : ℕ) → z ≡ operand_at w i 2 → (z ≡ 0 → ⊥) → Same o (leaf_at w b i o) None
  unfolding leaf_of
  leaf_third z e n = rw (ne_eqb (operand_at w i 2) 0 (λ q. n (e ∙ q))) refl

  module _ (z : ℕ) (ez : z ≡ operand_at w i 2) (e₀ : z ≡ 0) where
    pub leaf_is : (k : Kind) (r : Option Tree) → kind_of (kind_at w i) ≡ Some k → Same o (leaf_of b o (code_of k) x y 0) r → Same o (leaf_at w b i o) r
    leaf_is k r e s =
        let p : leaf_of b o (code_of k) x y 0 ≡ leaf_at w b i o = λ m. leaf_of b o (sym (coded (kind_at w i) k e) m) (ex m) (ey m) ((sym e₀ ∙ ez) m) in
        subst (λ (f : Found). Same o f r) p s

    other_number : (k : ℕ) → k ≡ kind_at w i → (k ≡ 1 → ⊥) → (k ≡ 2 → ⊥) → (k ≡ 3 → ⊥) → (k ≡ 4 → ⊥) → (k ≡ 5 → ⊥) → (k ≡ 6 → ⊥) → (k ≡ 7 → ⊥) → (k ≡ 8 → ⊥) → Same o (leaf_at w b i o) None
    unfolding leaf_of
    other_number k ek n₁ n₂ n₃ n₄ n₅ n₆ n₇ n₈ = rw (← ez, e₀, ← ek, ne_eqb k 1 n₁, ne_eqb k 2 n₂, ne_eqb k 3 n₃, ne_eqb k 4 n₄, ne_eqb k 5 n₅, ne_eqb k 6 n₆, ne_eqb k 7 n₇, ne_eqb k 8 n₈) refl

    -- a number that is no kind's
    pub leaf_none : kind_of (kind_at w i) ≡ None → Same o (leaf_at w b i o) None
    leaf_none e = other_number (kind_at w i) refl (not K.Undefined) (not K.Error) (not K.Boolean) (not K.Integer) (not K.Real) (not K.String) (not K.Own) (not K.Other)
      where
        not : (k : Kind) → kind_at w i ≡ code_of k → ⊥
        not k h = let f = uncoded k in let g : kind_of (code_of k) ≡ None = sym (ap kind_of h) ∙ e in cc

    -- an operator's
    pub leaf_not : (k : Kind) → kind_of (kind_at w i) ≡ Some k → (k ≡ K.Undefined → ⊥) → (k ≡ K.Error → ⊥) → (k ≡ K.Boolean → ⊥) → (k ≡ K.Integer → ⊥) → (k ≡ K.Real → ⊥) → (k ≡ K.String → ⊥) → (k ≡ K.Own → ⊥) → (k ≡ K.Other → ⊥) → Same o (leaf_at w b i o) None
    leaf_not k e n₁ n₂ n₃ n₄ n₅ n₆ n₇ n₈ =
        let n = other_code (kind_at w i) k in
        other_number (kind_at w i) refl (n K.Undefined e n₁) (n K.Error e n₂) (n K.Boolean e n₃) (n K.Integer e n₄) (n K.Real e n₅) (n K.String e n₆) (n K.Own e n₇) (n K.Other e n₈)
