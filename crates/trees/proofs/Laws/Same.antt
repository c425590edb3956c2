-- An expression has one value, wherever the bytes of a String stand. Assumes nothing.
use Rattle.std.specs.Prelude.{ℕ, ◌≡◌, refl, Bool, not, List, length}
use Rattle.std.proofs.Math.Path.{sym, subst}
use Rattle.std.proofs.Common.{ap, ◌∙◌, true≢false}
use Rattle.std.proofs.Math.Bool.{true, false}
use Rattle.text.specs.Strings.{same_bytes, string_order}
use Rattle.syntax.specs.Tree as tree
use Rattle.syntax.specs.Tree.{Literal, Expr, Ad}
use Rattle.syntax.specs.Grammar.{defined}
use Rattle.syntax.specs.declared.Binary.{Binary}
use Rattle.syntax.specs.declared.Binary.TheVariants.{Or, And, Equal, NotEqual, Is, Isnt, Less, LessOrEqual, Greater, GreaterOrEqual, Add, Subtract, Multiply, Divide, Remainder}
use Rattle.syntax.specs.declared.Unary.{Unary}
use Rattle.syntax.specs.declared.Unary.TheVariants.{Not, Plus, Minus}
use Rattle.ad.specs.Layout.{stored_bytes}
use Rattle.values.specs.declared.Value.{Value}
use Rattle.values.specs.declared.Value.TheVariants.{Undefined, Error, Boolean, Integer, Real, String}
use Rattle.values.specs.Values.{bytes_at}
use Rattle.logic.specs.declared.Truth.{Truth}
use Rattle.logic.specs.declared.Truth.TheVariants as truth
use Rattle.logic.specs.Logic.{truth_of, row, conditional_value}
use Rattle.identity.specs.Identity.{same_string, same_value}
use Rattle.comparison.specs.declared.Comparison.{Comparison}
use Rattle.comparison.specs.declared.Comparison.TheVariants as comparison
use Rattle.comparison.specs.Comparison.{order_holds, comparison_value}
use Rattle.operators.specs.Operators.{binary_value, unary_value}
use Rattle.trees.specs.Values.{Denotes, ad_of, side_of, Finds, found_first, found_later, Means, is_literal_lem, is_circular, is_absent, is_found, is_unary, is_binary, is_conditional, Same, same_value_lem, same_bytes_lem, Worths, has_none, has_one}

-- ---- the rules make the same of the same values

module _ (first second : List ℕ) where
  module _ (s t : Bool) (o p n m : ℕ) (h : bytes_at first second s o n ≡ bytes_at first second t p m) where
    compared_left : (c : Comparison) (v : Value) → comparison_value first second c (String s o n) v ≡ comparison_value first second c (String t p m) v
    compared_left c Undefined = refl
    compared_left c Error = refl
    compared_left c (Boolean x) = refl
    compared_left c (Integer x) = refl
    compared_left c (Real x) = refl
    compared_left c (String r q k) = ap (λ (x : List ℕ). Boolean (order_holds c (string_order x (bytes_at first second r q k)))) h

    compared_right : (c : Comparison) (v : Value) → comparison_value first second c v (String s o n) ≡ comparison_value first second c v (String t p m)
    compared_right c Undefined = refl
    compared_right c Error = refl
    compared_right c (Boolean x) = refl
    compared_right c (Integer x) = refl
    compared_right c (Real x) = refl
    compared_right c (String r q k) = ap (λ (x : List ℕ). Boolean (order_holds c (string_order (bytes_at first second r q k) x))) h

    is_right : (v : Value) → same_value first second v (String s o n) ≡ same_value first second v (String t p m)
    is_right Undefined = refl
    is_right Error = refl
    is_right (Boolean x) = refl
    is_right (Integer x) = refl
    is_right (Real x) = refl
    is_right (String r q k) = ap (same_bytes (bytes_at first second r q k)) h

    binary_left : (j : Binary) (v : Value) → binary_value first second j (String s o n) v ≡ binary_value first second j (String t p m) v
    binary_left Or v = refl
    binary_left And v = refl
    binary_left Equal v = compared_left comparison.Equal v
    binary_left NotEqual v = compared_left comparison.NotEqual v
    binary_left Is v = ap (λ (x : List ℕ). Boolean (same_string first second x v)) h
    binary_left Isnt v = ap (λ (x : List ℕ). Boolean (not (same_string first second x v))) h
    binary_left Less v = compared_left comparison.Below v
    binary_left LessOrEqual v = compared_left comparison.AtMost v
    binary_left Greater v = compared_left comparison.Above v
    binary_left GreaterOrEqual v = compared_left comparison.AtLeast v
    binary_left Add v = refl
    binary_left Subtract v = refl
    binary_left Multiply v = refl
    binary_left Divide v = refl
    binary_left Remainder v = refl

    binary_right : (j : Binary) (v : Value) → binary_value first second j v (String s o n) ≡ binary_value first second j v (String t p m)
    binary_right Or v = refl
    binary_right And v = refl
    binary_right Equal v = compared_right comparison.Equal v
    binary_right NotEqual v = compared_right comparison.NotEqual v
    binary_right Is v = ap (λ (x : Bool). Boolean x) (is_right v)
    binary_right Isnt v = ap (λ (x : Bool). Boolean (not x)) (is_right v)
    binary_right Less v = compared_right comparison.Below v
    binary_right LessOrEqual v = compared_right comparison.AtMost v
    binary_right Greater v = compared_right comparison.Above v
    binary_right GreaterOrEqual v = compared_right comparison.AtLeast v
    binary_right Add v = refl
    binary_right Subtract v = refl
    binary_right Multiply v = refl
    binary_right Divide v = refl
    binary_right Remainder v = refl

    unary_string : (u : Unary) → unary_value u (String s o n) ≡ unary_value u (String t p m)
    unary_string Not = refl
    unary_string Plus = refl
    unary_string Minus = refl

  as_same : {u v : Value} → u ≡ v → Same first second u v
  as_same {u} e = subst (Same first second u) e same_value_lem

  unary_same : (j : Unary) {u v : Value} → Same first second u v → unary_value j u ≡ unary_value j v
  unary_same j same_value_lem = refl
  unary_same j (same_bytes_lem {s = s} {t = t} {o = o} {p = p} {n = n} {m = m} h) = unary_string s t o p n m h j

  binary_first : (j : Binary) (x : Value) {u v : Value} → Same first second u v → binary_value first second j u x ≡ binary_value first second j v x
  binary_first j x same_value_lem = refl
  binary_first j x (same_bytes_lem {s = s} {t = t} {o = o} {p = p} {n = n} {m = m} h) = binary_left s t o p n m h j x

  binary_second : (j : Binary) (x : Value) {u v : Value} → Same first second u v → binary_value first second j x u ≡ binary_value first second j x v
  binary_second j x same_value_lem = refl
  binary_second j x (same_bytes_lem {s = s} {t = t} {o = o} {p = p} {n = n} {m = m} h) = binary_right s t o p n m h j x

  truth_same : {u v : Value} → Same first second u v → truth_of u ≡ truth_of v
  truth_same same_value_lem = refl
  truth_same (same_bytes_lem h) = refl

  row_same : (t : Truth) {y y' z z' : Value} → Same first second y y' → Same first second z z' → Same first second (row z Undefined y Error t) (row z' Undefined y' Error t)
  row_same truth.F p q = q
  row_same truth.U p q = same_value_lem
  row_same truth.T p q = p
  row_same truth.O p q = same_value_lem

  conditional_same : {x x' y y' z z' : Value} → Same first second x x' → Same first second y y' → Same first second z z' → Same first second (conditional_value x y z) (conditional_value x' y' z')
  conditional_same {x} {x'} {y} {y'} {z} {z'} p q r =
      subst (λ (t : Truth). Same first second (row z Undefined y Error (truth_of x)) (row z' Undefined y' Error t)) (truth_same p) (row_same (truth_of x) q r)

-- ---- names find one definition

finds_defined : {name : List ℕ} {k n : ℕ} {a : Ad} {e : Expr} → Finds name k a n e → defined name a ≡ true
unfolding defined
finds_defined (found_first h) = rw h refl
finds_defined (found_later h f) = rw h (finds_defined f)

module _ (P : ℕ → Expr → Type 0) where
  finds_one : {name : List ℕ} {k n m : ℕ} {a : Ad} {e f : Expr} → Finds name k a n e → Finds name k a m f → P m f → P n e
  finds_one (found_first h) (found_first g) x = x
  finds_one (found_first h) (found_later g f) x = absurd (true≢false (sym h ∙ g))
  finds_one (found_later h f) (found_first g) x = absurd (true≢false (sym g ∙ h))
  finds_one (found_later h f) (found_later g f') x = finds_one f f' x

-- ---- one value

module _ (a a' : Ad) where
  abbrev Alike : Value → Value → Type 0
  Alike = Same (stored_bytes a) (stored_bytes a')

  literal_same : (second : Bool) (l : Literal) {u v : Value} → Denotes second (stored_bytes (ad_of a a' second)) l u → Denotes second (stored_bytes (ad_of a a' second)) l v → Same (stored_bytes a) (stored_bytes a') u v
  unfolding Denotes
  literal_same second tree.undefined p q = as_same (stored_bytes a) (stored_bytes a') (p ∙ sym q)
  literal_same second tree.error p q = as_same (stored_bytes a) (stored_bytes a') (p ∙ sym q)
  literal_same second (tree.boolean t) p q = as_same (stored_bytes a) (stored_bytes a') (p ∙ sym q)
  literal_same second (tree.integer n) p q = as_same (stored_bytes a) (stored_bytes a') (p.0 ∙ sym q.0)
  literal_same second (tree.real n places) p q = as_same (stored_bytes a) (stored_bytes a') (p ∙ sym q)
  literal_same true (tree.string l) {u} {v} (o, e, h) (o', e', h') =
      subst (λ (x : Value). Same (stored_bytes a) (stored_bytes a') x v) (sym e) (subst (Same (stored_bytes a) (stored_bytes a') (String true o (length l))) (sym e') (same_bytes_lem (h ∙ sym h')))
  literal_same false (tree.string l) {u} {v} (o, e, h) (o', e', h') =
      subst (λ (x : Value). Same (stored_bytes a) (stored_bytes a') x v) (sym e) (subst (Same (stored_bytes a) (stored_bytes a') (String false o (length l))) (sym e') (same_bytes_lem (h ∙ sym h')))

  -- AN EXPRESSION HAS ONE VALUE
  pub one_meaning : {second : Bool} {n : ℕ} {e : Expr} {u v : Value} → Means a a' second n e u → Means a a' second n e v → Same (stored_bytes a) (stored_bytes a') u v
  one_meaning (is_literal_lem {second = second} {l = l} p) (is_literal_lem q) = literal_same second l p q
  one_meaning (is_circular p) (is_circular q) = same_value_lem
  one_meaning (is_circular p) (is_absent q) = same_value_lem
  one_meaning (is_circular p) (is_found q f m) = absurd (q p)
  one_meaning (is_absent p) (is_circular q) = same_value_lem
  one_meaning (is_absent p) (is_absent q) = same_value_lem
  one_meaning (is_absent p) (is_found q f m) = absurd (true≢false (sym (finds_defined f) ∙ p))
  one_meaning (is_found q f m) (is_circular p) = absurd (q p)
  one_meaning (is_found q f m) (is_absent p) = absurd (true≢false (sym (finds_defined f) ∙ p))
  one_meaning (is_found {second = second} {s = s} {v = u} q f m) (is_found {v = v} q' f' m') =
      one_meaning m (finds_one (λ k x. Means a a' (side_of second s) k x v) f f' m')
  one_meaning (is_unary {u = j} p) (is_unary q) = as_same (stored_bytes a) (stored_bytes a') (unary_same (stored_bytes a) (stored_bytes a') j (one_meaning p q))
  one_meaning (is_binary {j = j} {x = x} {y = y} p q) (is_binary {x = x'} {y = y'} p' q') =
      as_same (stored_bytes a) (stored_bytes a')
      (binary_first (stored_bytes a) (stored_bytes a') j y (one_meaning p p') ∙ binary_second (stored_bytes a) (stored_bytes a') j x' (one_meaning q q'))
  one_meaning (is_conditional p q r) (is_conditional p' q' r') = conditional_same (stored_bytes a) (stored_bytes a') (one_meaning p p') (one_meaning q q') (one_meaning r r')

  -- A NAME'S DEFINITION HAS ONE VALUE
  pub one_worth : (second : Bool) (name : List ℕ) {u v : Value} → Worths a a' second name u → Worths a a' second name v → Same (stored_bytes a) (stored_bytes a') u v
  one_worth second name (has_none p) (has_none q) = same_value_lem
  one_worth second name (has_none p) (has_one f m) = absurd (true≢false (sym (finds_defined f) ∙ p))
  one_worth second name (has_one f m) (has_none p) = absurd (true≢false (sym (finds_defined f) ∙ p))
  one_worth second name (has_one f m) (has_one {v = v} f' m') = one_meaning m (finds_one (λ k x. Means a a' second k x v) f f' m')
