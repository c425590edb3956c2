-- Literals and references as they stand in memory. Assumes nothing.
use Rattle.std.specs.Prelude.{ℕ, zero, suc, ◌+◌, ◌*◌, ◌≤◌, ◌<◌, ◌≡◌, Bool, true, false, cond, ◌&&◌, List, [], length, leb}
use Rattle.std.proofs.Common.{arith, sym}
use Rattle.std.proofs.Math.Path.{refl}
use Rattle.std.proofs.Math.Dec.{eqb}
use borrow.Author.Tests.{leb-true, eqb-true, eq-eqb}
use Rattle.text.specs.Laws.Booleans.{and_left, and_right}
use Rattle.syntax.specs.Tree.{Literal, undefined, error, boolean, integer, real, string, Scope, own, other, Expr, literal, reference, size}
use Rattle.syntax.specs.Token.{pick}
use Rattle.syntax.specs.Inner.Lexeme.{is_name, is_string, is_literal}
use Rattle.ad.specs.Layout.{scope_kind, node, literal_node, literal_bytes, expr_bytes, expr_nodes}
use Rattle.ad.specs.Stored.{kind_at, operand_at, bytes_at}
use Rattle.round_trip.specs.Bounded.{is_writable}
use Rattle.tree_check.specs.Inner.Decode.{Found, got, bad, chain, test, stands_at, leaf_of, leaf_at}
use Rattle.tree_check.specs.Laws.Runs.{Stands, stands_none, stands_as, node_of, kind_is, first_is, second_is, third_is, bytes_of, bytes_are}

-- what holds of the tree that is found, if one is
abbrev pub All : (Expr → Type 0) → Found → Type 0
All P (got e) = P e
All P bad = Unit {0}

pub on_test : (P : Expr → Type 0) (t : Bool) (go : Unit {0} → Found) → (t ≡ true → All P (go tt)) → All P (test t go)
on_test P true go f = f refl
on_test P false go f = tt

pub on_pick : (P : Expr → Type 0) (t : Bool) (go else : Unit {0} → Found) → (t ≡ true → All P (go tt)) → (t ≡ false → All P (else tt)) → All P (pick t go else)
on_pick P true go else f g = f refl
on_pick P false go else f g = g refl

pub on_chain : (P Q : Expr → Type 0) (x : Found) (go : Expr → Found) → All P x → ((e : Expr) → P e → All Q (go e)) → All Q (chain x go)
on_chain P Q (got e) go h f = f e h
on_chain P Q bad go h f = tt

-- e is the tree of the nodes s to i, whose bytes begin at o
pub record Run (w b : List ℕ) (s i o : ℕ) (e : Expr) : Type 0 where
  pub writable : is_writable e ≡ true
  pub long : s + size e ≡ i + 1
  pub words : Stands w (4 * s) (expr_nodes s o e)
  pub bytes : Stands b o (expr_bytes e)

-- ---- what is found is there

module _ (w b : List ℕ) (i o : ℕ) (h : 4 * i + 4 ≤ length w) where
  plain : (l : Literal) (k x y : ℕ) → literal_node o l ≡ node k x y 0 → literal_bytes l ≡ [] → is_literal l ≡ true →
      kind_at w i ≡ k → operand_at w i 0 ≡ x → operand_at w i 1 ≡ y → operand_at w i 2 ≡ 0 → Run w b i i o (literal l)
  unfolding is_writable size expr_nodes expr_bytes
  plain l k x y n e f a c d z = record {
    writable = f;
    long = refl;
    words = stands_as (sym n) (node_of w i k x y 0 h a c d z);
    bytes = stands_as (sym e) (stands_none b o);
  }

  bit : (x : ℕ) → x ≤ 1 → cond (eqb x 1) 1 0 ≡ x
  bit zero l = refl
  bit (suc zero) l = refl
  bit (suc (suc x)) l = absurd (omega arith)

  -- the offset and the length of a name or a string
  module _ (k : ℕ) (e : kind_at w i ≡ k) (t : Bool) (g : (stands_at b o (operand_at w i 0) (operand_at w i 1) && t) ≡ true) (z : operand_at w i 2 ≡ 0) where
    l : List ℕ
    l = bytes_at b o (operand_at w i 1)

    f : stands_at b o (operand_at w i 0) (operand_at w i 1) ≡ true
    f = and_left (stands_at b o (operand_at w i 0) (operand_at w i 1)) t g

    stood : Stands w (4 * i) (node k o (length l) 0)
    unfolding l
    stood = node_of w i k o (length (bytes_at b o (operand_at w i 1))) 0 h e (eqb-true _ _ (and_left (eqb (operand_at w i 0) o) (eqb (length (bytes_at b o (operand_at w i 1))) (operand_at w i 1)) f)) (sym (eqb-true _ _ (and_right (eqb (operand_at w i 0) o) (eqb (length (bytes_at b o (operand_at w i 1))) (operand_at w i 1)) f))) z

  string_sound : kind_at w i ≡ 6 → (stands_at b o (operand_at w i 0) (operand_at w i 1) && is_string (bytes_at b o (operand_at w i 1))) ≡ true → operand_at w i 2 ≡ 0 → Run w b i i o (literal (string (bytes_at b o (operand_at w i 1))))
  unfolding is_writable is_literal size expr_nodes expr_bytes literal_node literal_bytes l
  string_sound e g z = record {
    writable = and_right (stands_at b o (operand_at w i 0) (operand_at w i 1)) (is_string (bytes_at b o (operand_at w i 1))) g;
    long = refl;
    words = stood 6 e (is_string (bytes_at b o (operand_at w i 1))) g z;
    bytes = bytes_of b o (operand_at w i 1);
  }

  name_sound : (s : Scope) → kind_at w i ≡ scope_kind s → (stands_at b o (operand_at w i 0) (operand_at w i 1) && is_name (bytes_at b o (operand_at w i 1))) ≡ true → operand_at w i 2 ≡ 0 → Run w b i i o (reference s (bytes_at b o (operand_at w i 1)))
  unfolding is_writable size expr_nodes expr_bytes l
  name_sound s e g z = record {
    writable = and_right (stands_at b o (operand_at w i 0) (operand_at w i 1)) (is_name (bytes_at b o (operand_at w i 1))) g;
    long = refl;
    words = stood (scope_kind s) e (is_name (bytes_at b o (operand_at w i 1))) g z;
    bytes = bytes_of b o (operand_at w i 1);
  }

  pub leaf_sound : All (λ e. Run w b i i o e) (leaf_at w b i o)
  unfolding leaf_of is_literal literal_node literal_bytes scope_kind
  leaf_sound =
      let k = kind_at w i in
      let x = operand_at w i 0 in
      let y = operand_at w i 1 in
      let Q : Expr → Type 0 = λ e. Run w b i i o e in
      on_test Q (eqb (operand_at w i 2) 0) _ λ z₀. let z = eqb-true _ _ z₀ in
      on_pick Q (eqb k 1) _ _ (λ c. on_test Q (eqb x 0 && eqb y 0) _ λ t. plain undefined 1 0 0 refl refl refl (eqb-true _ _ c) (eqb-true _ _ (and_left (eqb x 0) (eqb y 0) t)) (eqb-true _ _ (and_right (eqb x 0) (eqb y 0) t)) z) λ _.
      on_pick Q (eqb k 2) _ _ (λ c. on_test Q (eqb x 0 && eqb y 0) _ λ t. plain error 2 0 0 refl refl refl (eqb-true _ _ c) (eqb-true _ _ (and_left (eqb x 0) (eqb y 0) t)) (eqb-true _ _ (and_right (eqb x 0) (eqb y 0) t)) z) λ _.
      on_pick Q (eqb k 3) _ _ (λ c. on_test Q (leb x 1 && eqb y 0) _ λ t. plain (boolean (eqb x 1)) 3 (cond (eqb x 1) 1 0) 0 refl refl refl (eqb-true _ _ c) (sym (bit x (leb-true _ _ (and_left (leb x 1) (eqb y 0) t)))) (eqb-true _ _ (and_right (leb x 1) (eqb y 0) t)) z) λ _.
      on_pick Q (eqb k 4) _ _ (λ c. on_test Q _ _ λ t. plain (integer x) 4 x 0 refl refl (and_left (leb x 2147483647) (eqb y 0) t) (eqb-true _ _ c) refl (eqb-true _ _ (and_right (leb x 2147483647) (eqb y 0) t)) z) λ _.
      on_pick Q (eqb k 5) _ _ (λ c. on_test Q _ _ λ t. plain (real x y) 5 x y refl refl t (eqb-true _ _ c) refl refl z) λ _.
      on_pick Q (eqb k 6) _ _ (λ c. on_test Q _ _ λ t. string_sound (eqb-true _ _ c) t z) λ _.
      on_pick Q (eqb k 7) _ _ (λ c. on_test Q _ _ λ t. name_sound own (eqb-true _ _ c) t z) λ _.
      on_pick Q (eqb k 8) _ _ (λ c. on_test Q _ _ λ t. name_sound other (eqb-true _ _ c) t z) λ _. tt

-- ---- what is there is found

module _ (w b : List ℕ) (i o : ℕ) where
  pub literal_complete : (l : Literal) → is_literal l ≡ true → Stands w (4 * i) (literal_node o l) → Stands b o (literal_bytes l) → (leaf_at w b i o ≡ got (literal l)) × (kind_at w i < 9)
  unfolding leaf_of is_literal literal_node literal_bytes
  literal_complete undefined f h g =
      let k = kind_is w i 1 0 0 0 h in
      (rw (k, first_is w i 1 0 0 0 h, second_is w i 1 0 0 0 h, third_is w i 1 0 0 0 h) refl, omega arith)
  literal_complete error f h g =
      let k = kind_is w i 2 0 0 0 h in
      (rw (k, first_is w i 2 0 0 0 h, second_is w i 2 0 0 0 h, third_is w i 2 0 0 0 h) refl, omega arith)
  literal_complete (boolean true) f h g =
      let k = kind_is w i 3 1 0 0 h in
      (rw (k, first_is w i 3 1 0 0 h, second_is w i 3 1 0 0 h, third_is w i 3 1 0 0 h) refl, omega arith)
  literal_complete (boolean false) f h g =
      let k = kind_is w i 3 0 0 0 h in
      (rw (k, first_is w i 3 0 0 0 h, second_is w i 3 0 0 0 h, third_is w i 3 0 0 0 h) refl, omega arith)
  literal_complete (integer n) f h g =
      let k = kind_is w i 4 n 0 0 h in
      (rw (k, first_is w i 4 n 0 0 h, second_is w i 4 n 0 0 h, third_is w i 4 n 0 0 h, f) refl, omega arith)
  literal_complete (real n p) f h g =
      let k = kind_is w i 5 n p 0 h in
      (rw (k, first_is w i 5 n p 0 h, second_is w i 5 n p 0 h, third_is w i 5 n p 0 h, f) refl, omega arith)
  literal_complete (string l) f h g =
      let k = kind_is w i 6 o (length l) 0 h in
      (rw (k, first_is w i 6 o (length l) 0 h, second_is w i 6 o (length l) 0 h, third_is w i 6 o (length l) 0 h, bytes_are b l o g, eq-eqb o o refl, eq-eqb (length l) (length l) refl, f) refl, omega arith)

  pub name_complete : (s : Scope) (l : List ℕ) → is_name l ≡ true → Stands w (4 * i) (node (scope_kind s) o (length l) 0) → Stands b o l → (leaf_at w b i o ≡ got (reference s l)) × (kind_at w i < 9)
  unfolding leaf_of scope_kind
  name_complete own l f h g =
      let k = kind_is w i 7 o (length l) 0 h in
      (rw (k, first_is w i 7 o (length l) 0 h, second_is w i 7 o (length l) 0 h, third_is w i 7 o (length l) 0 h, bytes_are b l o g, eq-eqb o o refl, eq-eqb (length l) (length l) refl, f) refl, omega arith)
  name_complete other l f h g =
      let k = kind_is w i 8 o (length l) 0 h in
      (rw (k, first_is w i 8 o (length l) 0 h, second_is w i 8 o (length l) 0 h, third_is w i 8 o (length l) 0 h, bytes_are b l o g, eq-eqb o o refl, eq-eqb (length l) (length l) refl, f) refl, omega arith)
