-- What each way through the writers of trees gives. Assumes nothing.
use Prim.Native.Nat.{ℕ, ◌+◌, ◌≤◌, ◌<◌}
use native.Mathlib.Omega.{arith}
use mathlib.Core.Path.{◌≡◌, refl, sym, ◌∙◌, ap, subst}
use mathlib.Core.List.{List, [], ◌∷◌, ◌++◌, append_assoc}
use lib.ListN.{length, set, length-append}
use borrow.Author.Tests.{lt-ltb, le-ltb, ne_eqb}
use Rattle.text.specs.Bytes.{bytes}
use Rattle.syntax.specs.Tree.{Expr, literal, reference, unary, binary, conditional, size}
use Rattle.syntax.specs.Grammar.{binds_of}
use Rattle.syntax.specs.Print.{unary_text, binary_text, binds, printed}
use Rattle.ad.specs.Layout.{expr_bytes}
use Rattle.std.proofs.Common.{Option, IsSome}
use Rattle.syntax.specs.declared.Binary.{Binary}
use Rattle.syntax.specs.declared.Unary.{Unary}
use Rattle.ad.specs.declared.kind.Kind.{Kind}
use Rattle.ad.specs.declared.kind.Kind.TheVariants as K
use Rattle.ad.specs.Layout.{code_of}
use Rattle.ad.specs.Stored.{kind_of, kind_at, operand_at, unary_of, binary_of}
use Rattle.ad.specs.Laws.Content.{binary_found, binary_high}
use Rattle.ad.specs.Laws.Coding.{some_kind, unary_range, unary_coded, binary_range, binary_coded}
use Rattle.leaf_printer.proofs.Leaves.{leaf_kind}
use Rattle.writer.specs.Inner.Put.{Puts, Near}
use Rattle.writer.proofs.Laws.{puts_byte, puts_join, puts_as}
use Rattle.tree_check.specs.Laws.Leaves.{Run}
use Rattle.tree_check.specs.Laws.Trees.{unary_parts, binary_parts, conditional_parts, leaf_parts}
use Rattle.tree_check.specs.Laws.Operands.{run_leaf, run_one, run_two, run_three}
use Rattle.tree_printer.specs.Inner.Post.{binds_kind, wrapped, Fits, Written}
use Rattle.leaf_printer.specs.Inner.Post.{LeafFits, LeafWritten}
use Rattle.tree_printer.specs.Sizes.{tree_size}
use Rattle.tree_printer.proofs.Sizes.{one_smaller, two_smaller, three_smaller}

-- ---- the same by another name

pub fits_as : (w b : List ℕ) (n n' x x' m : ℕ) → n ≡ n' → x ≡ x' → Fits (wrapped n') w b x' m → Fits (wrapped n) w b x m
fits_as w b n n' x x' m e g f =
    subst (λ (k : ℕ). Fits (wrapped k) w b x m) (sym e)
    (subst (λ (k : ℕ). Fits (wrapped n') w b k m) (sym g) f)

pub tree_fits_as : (w b : List ℕ) (x x' m : ℕ) → x ≡ x' → Fits printed w b x' m → Fits printed w b x m
tree_fits_as w b x x' m g f = subst (λ (k : ℕ). Fits printed w b k m) (sym g) f

pub written_as : (w b o o₁ : List ℕ) (n n' x x' at r : ℕ) → n ≡ n' → x ≡ x' → Written (wrapped n) w b x at o o₁ r → Written (wrapped n') w b x' at o o₁ r
written_as w b o o₁ n n' x x' at r e g f =
    subst (λ (k : ℕ). Written (wrapped k) w b x' at o o₁ r) e
    (subst (λ (k : ℕ). Written (wrapped n) w b k at o o₁ r) g f)

pub tree_written_as : (w b o o₁ : List ℕ) (x x' at r : ℕ) → x ≡ x' → Written printed w b x at o o₁ r → Written printed w b x' at o o₁ r
tree_written_as w b o o₁ x x' at r g f = subst (λ (k : ℕ). Written printed w b k at o o₁ r) g f

-- ---- how a tree binds

pub binds_is : (w b : List ℕ) (s i o : ℕ) (e : Expr) → Run w b s i o e → binds_kind (kind_at w i) ≡ binds e
unfolding binds_kind binds size
binds_is w b s i o (literal l) r = rw (lt-ltb (kind_at w i) 9 (leaf_parts (literal l) r refl).1) refl
binds_is w b s i o (reference m l) r = rw (lt-ltb (kind_at w i) 9 (leaf_parts (reference m l) r refl).1) refl
binds_is w b s i o (unary j p) r =
    let k = (unary_parts j p r).0 in
    let g = unary_range j in
    let h : 9 ≤ kind_at w i = omega arith in
    let h' : kind_at w i < 12 = omega arith in
    rw (le-ltb (kind_at w i) 9 h, lt-ltb (kind_at w i) 12 h') refl
binds_is w b s i o (binary j p q) r =
    let k = (binary_parts j p q r).0 in
    let g = binary_high j in
    let h : 9 ≤ kind_at w i = omega arith in
    let h' : 12 ≤ kind_at w i = omega arith in
    rw (le-ltb (kind_at w i) 9 h, le-ltb (kind_at w i) 12 h', ne_eqb (kind_at w i) 12 (λ z. omega arith)) (ap binds_of (ap binary_of k ∙ binary_found j))
binds_is w b s i o (conditional p q c) r = rw (conditional_parts p q c r).0 refl

pub binds_leaf : (k : ℕ) → k < 9 → 8 ≡ binds_kind k
unfolding binds_kind
binds_leaf k h = rw (lt-ltb k 9 h) refl

pub binds_unary : (k : ℕ) → 9 ≤ k → k < 12 → 7 ≡ binds_kind k
unfolding binds_kind
binds_unary k h g = rw (le-ltb k 9 h, lt-ltb k 12 g) refl

pub binds_conditional : (k : ℕ) → k ≡ 12 → 0 ≡ binds_kind k
unfolding binds_kind
binds_conditional k h = rw h refl

pub binds_binary : (k : ℕ) → 9 ≤ k → 12 ≤ k → (k ≡ 12 → ⊥) → binds_of (binary_of k) ≡ binds_kind k
unfolding binds_kind
binds_binary k h g n = rw (le-ltb k 9 h, le-ltb k 12 g, ne_eqb k 12 n) refl

-- ---- the kind of a tree's last node

pub run_kind : (w b : List ℕ) (s i o : ℕ) (e : Expr) → Run w b s i o e → (r : Option Kind) → r ≡ kind_of (kind_at w i) → IsSome r
unfolding size
run_kind w b s i o (literal l) r = leaf_kind w b i o (literal l) (run_leaf (literal l) r (leaf_parts (literal l) r refl).1)
run_kind w b s i o (reference m l) r = leaf_kind w b i o (reference m l) (run_leaf (reference m l) r (leaf_parts (reference m l) r refl).1)
run_kind w b s i o (unary j p) r = some_kind (kind_at w i) (K.Unary j) (unary_parts j p r).0
run_kind w b s i o (binary j p q) r = some_kind (kind_at w i) (K.Binary j) (binary_parts j p q r).0
run_kind w b s i o (conditional p q c) r = some_kind (kind_at w i) K.Conditional (conditional_parts p q c r).0

pub kind_low : (x : Kind) {k : ℕ} → k ≡ code_of x → ((u : Unary) → x ≡ K.Unary u → ⊥) → (x ≡ K.Conditional → ⊥) → ((j : Binary) → x ≡ K.Binary j → ⊥) → k < 9
kind_low K.Undefined e n m l = omega arith
kind_low K.Error e n m l = omega arith
kind_low K.Boolean e n m l = omega arith
kind_low K.Integer e n m l = omega arith
kind_low K.Real e n m l = omega arith
kind_low K.String e n m l = omega arith
kind_low K.Own e n m l = omega arith
kind_low K.Other e n m l = omega arith
kind_low (K.Unary u) e n m l = absurd (n u refl)
kind_low K.Conditional e n m l = absurd (m refl)
kind_low (K.Binary j) e n m l = absurd (l j refl)

pub unary_from : (u : Unary) {k : ℕ} → k ≡ code_of (K.Unary u) → 9 ≤ k
unary_from u e = omega (arith, unary_range u)

pub unary_below : (u : Unary) {k : ℕ} → k ≡ code_of (K.Unary u) → k < 12
unary_below u e = omega (arith, unary_range u)

pub unary_is : (u : Unary) {k : ℕ} → k ≡ code_of (K.Unary u) → u ≡ unary_of k
unary_is u e = sym (ap unary_of e ∙ unary_coded u)

pub binary_above : (j : Binary) {k : ℕ} → k ≡ code_of (K.Binary j) → 12 < k
binary_above j e = omega (arith, binary_range j)

pub binary_is : (j : Binary) {k : ℕ} → k ≡ code_of (K.Binary j) → j ≡ binary_of k
binary_is j e = sym (ap binary_of e ∙ binary_coded j)

-- ---- parentheses

bare : (k : ℕ) (e : Expr) → k ≤ binds e → wrapped k e ≡ printed e
bare k e h = rw (le-ltb (binds e) k h) refl

closed : (k : ℕ) (e : Expr) → binds e < k → wrapped k e ≡ 40 ∷ (printed e ++ 41 ∷ [])
closed k e h = rw (lt-ltb (binds e) k h) refl

module _ (w b : List ℕ) (i at need c : ℕ) (hc : c ≡ binds_kind (kind_at w i)) where
  binding_is : (s k : ℕ) (e : Expr) → Run w b s i k e → c ≡ binds e
  binding_is s k e r = hc ∙ binds_is w b s i k e r

  module _ (h : need ≤ c) where
    pub bare_written : (o o₁ : List ℕ) (r : ℕ) → Written printed w b i at o o₁ r → Written (wrapped need) w b i at o o₁ r
    bare_written o o₁ r W e s k x = let z = binding_is s k e x in puts_as (sym (bare need e (omega arith))) (W e s k x)

  module _ (h : c < need) where
    whole : (f : Fits (wrapped need) w b i at) → at + length (printed f.tree) + 2 ≤ 1000000
    whole f =
        let e = f.tree in
        let z = binding_is f.first f.byte e f.stands in
        let n : Near at (40 ∷ (printed e ++ 41 ∷ [])) = subst (Near at) (closed need e (omega arith)) f.near in
        omega (arith, length-append (printed e) (41 ∷ []))

    pub closed_fits : Fits (wrapped need) w b i at → Fits printed w b i (at + 1)
    closed_fits f = record {
      words = f.words;
      node = f.node;
      tree = f.tree;
      first = f.first;
      byte = f.byte;
      stands = f.stands;
      near = omega (arith, whole f);
    }

    pub closed_written : (o o₁ o₂ o₃ : List ℕ) (m : ℕ) → o₁ ≡ set o at 40 → Written printed w b i (at + 1) o₁ o₂ m → o₃ ≡ set o₂ m 41 → Written (wrapped need) w b i at o o₃ (m + 1)
    closed_written o o₁ o₂ o₃ m p W q e s k x =
        let z = binding_is s k e x in
        puts_as (sym (closed need e (omega arith))) (puts_join (puts_byte 40 o o₁ at p) (puts_join (W e s k x) (puts_byte 41 o₂ o₃ m q)))

-- ---- trees

module _ (w b : List ℕ) (i at : ℕ) (o : List ℕ) where
  module _ (h : kind_at w i < 9) where
    pub leaf_fits : Fits printed w b i at → LeafFits w b i at
    leaf_fits f = record { words = f.words; node = f.node; tree = f.tree; byte = f.byte; found = run_leaf f.tree f.stands h; near = f.near }

    pub leaf_written : (o₁ : List ℕ) (r : ℕ) → LeafWritten w b i at o o₁ r → Written printed w b i at o o₁ r
    leaf_written o₁ r W e s k x = W e k (run_leaf e x h)

  module _ (h : 9 ≤ kind_at w i) (g : kind_at w i < 12) where
    module _ (f : Fits printed w b i at) where
      one_long : (z : (p : Expr) × (f.tree ≡ unary (unary_of (kind_at w i)) p) × (operand_at w i 0 < i) × Run w b f.first (operand_at w i 0) f.byte p) →
          at + length (unary_text (unary_of (kind_at w i))) + length (wrapped 7 z.0) ≤ 1000000
      unfolding printed
      one_long z =
          let n : Near at (unary_text (unary_of (kind_at w i)) ++ wrapped 7 z.0) = subst (λ (x : Expr). Near at (printed x)) z.1 f.near in
          omega (arith, length-append (unary_text (unary_of (kind_at w i))) (wrapped 7 z.0))

      pub one_near : Near at (unary_text (unary_of (kind_at w i)))
      one_near = let z = run_one f.tree f.stands h g in omega (arith, one_long z)

      pub one_falls : tree_size w (operand_at w i 0) < tree_size w i
      one_falls = one_smaller f.tree f.stands h g

      pub one_fits_lem : (m : ℕ) → m ≡ at + length (unary_text (unary_of (kind_at w i))) → Fits (wrapped 7) w b (operand_at w i 0) m
      one_fits_lem m e =
          let z = run_one f.tree f.stands h g in
          let lt = z.2 in
          record { words = f.words; node = omega (arith, f.node); tree = z.0; first = f.first; byte = f.byte; stands = z.3; near = omega (arith, one_long z) }

    pub one_written : (o₁ o₂ : List ℕ) (m r : ℕ) → Puts (unary_text (unary_of (kind_at w i))) o at o₁ m → Written (wrapped 7) w b (operand_at w i 0) m o₁ o₂ r → Written printed w b i at o o₂ r
    unfolding printed
    one_written o₁ o₂ m r P W e s k x =
        let z = run_one e x h g in
        puts_as (ap printed (sym z.1)) (puts_join P (W z.0 s k z.3))

  module _ (h : 12 < kind_at w i) where
    text_two : (p q : Expr) → printed (binary (binary_of (kind_at w i)) p q) ≡ wrapped (binds_of (binary_of (kind_at w i))) p ++ ((32 ∷ (binary_text (binary_of (kind_at w i)) ++ 32 ∷ [])) ++ wrapped (binds_of (binary_of (kind_at w i)) + 1) q)
    unfolding printed
    text_two p q =
        let J = binary_of (kind_at w i) in
        ap (λ (l : List ℕ). wrapped (binds_of J) p ++ (32 ∷ l)) (sym (append_assoc (binary_text J) (32 ∷ []) (wrapped (binds_of J + 1) q)))

    length_two : (p q : Expr) → length (printed (binary (binary_of (kind_at w i)) p q)) ≡ length (wrapped (binds_of (binary_of (kind_at w i))) p) + (length (binary_text (binary_of (kind_at w i))) + 2) + length (wrapped (binds_of (binary_of (kind_at w i)) + 1) q)
    length_two p q =
        let J = binary_of (kind_at w i) in
        let A = wrapped (binds_of J) p in
        let O : List ℕ = 32 ∷ (binary_text J ++ 32 ∷ []) in
        let B = wrapped (binds_of J + 1) q in
        ap length (text_two p q) ∙ (omega (arith, length-append A (O ++ B), length-append O B, length-append (binary_text J) (32 ∷ [])))

    module _ (f : Fits printed w b i at) where
      two_long : (z : (p q : Expr) × (f.tree ≡ binary (binary_of (kind_at w i)) p q) × (operand_at w i 0 < i) × (operand_at w i 1 < i) × Run w b f.first (operand_at w i 0) f.byte p × Run w b (operand_at w i 0 + 1) (operand_at w i 1) (f.byte + length (expr_bytes p)) q) →
          at + length (wrapped (binds_of (binary_of (kind_at w i))) z.0) + (length (binary_text (binary_of (kind_at w i))) + 2) + length (wrapped (binds_of (binary_of (kind_at w i)) + 1) z.1) ≤ 1000000
      two_long z =
          let n : Near at (printed (binary (binary_of (kind_at w i)) z.0 z.1)) = subst (λ (x : Expr). Near at (printed x)) z.2 f.near in
          omega (arith, length_two z.0 z.1)

      pub two_falls : (tree_size w (operand_at w i 0) < tree_size w i) × (tree_size w (operand_at w i 1) < tree_size w i)
      two_falls = two_smaller f.tree f.stands h

      pub two_fits : Fits (wrapped (binds_of (binary_of (kind_at w i)))) w b (operand_at w i 0) at
      two_fits =
          let z = run_two f.tree f.stands h in
          let lt = z.3 in
          record { words = f.words; node = omega (arith, f.node); tree = z.0; first = f.first; byte = f.byte; stands = z.5; near = omega (arith, two_long z) }

      module _ (o₁ : List ℕ) (m : ℕ) (W : Written (wrapped (binds_of (binary_of (kind_at w i)))) w b (operand_at w i 0) at o o₁ m) where
        pub two_near : m + length (binary_text (binary_of (kind_at w i))) + 2 ≤ 1000000
        two_near = let z = run_two f.tree f.stands h in omega (arith, two_long z, (W z.0 f.first f.byte z.5).behind)

        pub two_second : (n : ℕ) → n ≡ m + length (32 ∷ (binary_text (binary_of (kind_at w i)) ++ 32 ∷ [])) → Fits (wrapped (binds_of (binary_of (kind_at w i)) + 1)) w b (operand_at w i 1) n
        two_second n e =
            let z = run_two f.tree f.stands h in
            let lt = z.4 in
            record { words = f.words; node = omega (arith, f.node); tree = z.1; first = operand_at w i 0 + 1; byte = f.byte + length (expr_bytes z.0); stands = z.6; near = omega (arith, two_long z, (W z.0 f.first f.byte z.5).behind, length-append (binary_text (binary_of (kind_at w i))) (32 ∷ [])) }

    pub two_written : (o₁ o₂ o₃ : List ℕ) (m n r : ℕ) → Written (wrapped (binds_of (binary_of (kind_at w i)))) w b (operand_at w i 0) at o o₁ m → Puts (32 ∷ (binary_text (binary_of (kind_at w i)) ++ 32 ∷ [])) o₁ m o₂ n → Written (wrapped (binds_of (binary_of (kind_at w i)) + 1)) w b (operand_at w i 1) n o₂ o₃ r → Written printed w b i at o o₃ r
    two_written o₁ o₂ o₃ m n r first sign second e s k x =
        let z = run_two e x h in
        puts_as (sym (ap printed z.2 ∙ text_two z.0 z.1)) (puts_join (first z.0 s k z.5) (puts_join sign (second z.1 (operand_at w i 0 + 1) (k + length (expr_bytes z.0)) z.6)))

  module _ (h : kind_at w i ≡ 12) where
    length_three : (p q c : Expr) → length (printed (conditional p q c)) ≡ length (wrapped 1 p) + 3 + length (printed q) + 3 + length (printed c)
    unfolding printed bytes
    length_three p q c = omega (arith, length-append (wrapped 1 p) (bytes " ? " ++ (printed q ++ (bytes " : " ++ printed c))), length-append (printed q) (bytes " : " ++ printed c))

    module _ (f : Fits printed w b i at) where
      three_long : (z : (p q c : Expr) × (f.tree ≡ conditional p q c) × (operand_at w i 0 < i) × (operand_at w i 1 < i) × (operand_at w i 2 < i) × Run w b f.first (operand_at w i 0) f.byte p
          × Run w b (operand_at w i 0 + 1) (operand_at w i 1) (f.byte + length (expr_bytes p)) q
          × Run w b (operand_at w i 1 + 1) (operand_at w i 2) (f.byte + length (expr_bytes p) + length (expr_bytes q)) c) →
          at + length (wrapped 1 z.0) + 3 + length (printed z.1) + 3 + length (printed z.2) ≤ 1000000
      three_long z =
          let n : Near at (printed (conditional z.0 z.1 z.2)) = subst (λ (x : Expr). Near at (printed x)) z.3 f.near in
          omega (arith, length_three z.0 z.1 z.2)

      pub three_falls : (tree_size w (operand_at w i 0) < tree_size w i) × (tree_size w (operand_at w i 1) < tree_size w i) × (tree_size w (operand_at w i 2) < tree_size w i)
      three_falls = three_smaller f.tree f.stands h

      pub three_fits_lem : Fits (wrapped 1) w b (operand_at w i 0) at
      three_fits_lem =
          let z = run_three f.tree f.stands h in
          let lt = z.4 in
          record { words = f.words; node = omega (arith, f.node); tree = z.0; first = f.first; byte = f.byte; stands = z.7; near = omega (arith, three_long z) }

      module _ (o₁ : List ℕ) (m : ℕ) (first : Written (wrapped 1) w b (operand_at w i 0) at o o₁ m) where
        pub three_near : m + 3 ≤ 1000000
        three_near = let z = run_three f.tree f.stands h in omega (arith, three_long z, (first z.0 f.first f.byte z.7).behind)

        pub three_second : (n : ℕ) → n ≡ m + 3 → Fits printed w b (operand_at w i 1) n
        three_second n e =
            let z = run_three f.tree f.stands h in
            let lt = z.5 in
            record { words = f.words; node = omega (arith, f.node); tree = z.1; first = operand_at w i 0 + 1; byte = f.byte + length (expr_bytes z.0); stands = z.8; near = omega (arith, three_long z, (first z.0 f.first f.byte z.7).behind) }

        module _ (o₂ o₃ : List ℕ) (n p : ℕ) (e : n ≡ m + 3) (second : Written printed w b (operand_at w i 1) n o₂ o₃ p) where
          pub three_near_2 : p + 3 ≤ 1000000
          three_near_2 =
              let z = run_three f.tree f.stands h in
              omega (arith, three_long z, (first z.0 f.first f.byte z.7).behind, (second z.1 (operand_at w i 0 + 1) (f.byte + length (expr_bytes z.0)) z.8).behind)

          pub three_third : (q : ℕ) → q ≡ p + 3 → Fits printed w b (operand_at w i 2) q
          three_third q g =
              let z = run_three f.tree f.stands h in
              let lt = z.6 in
              record { words = f.words; node = omega (arith, f.node); tree = z.2; first = operand_at w i 1 + 1; byte = f.byte + length (expr_bytes z.0) + length (expr_bytes z.1); stands = z.9; near = omega (arith, three_long z, (first z.0 f.first f.byte z.7).behind, (second z.1 (operand_at w i 0 + 1) (f.byte + length (expr_bytes z.0)) z.8).behind) }

    pub three_written : (o₁ o₂ o₃ o₄ o₅ : List ℕ) (m n p q r : ℕ) → Written (wrapped 1) w b (operand_at w i 0) at o o₁ m → Puts (bytes " ? ") o₁ m o₂ n → Written printed w b (operand_at w i 1) n o₂ o₃ p → Puts (bytes " : ") o₃ p o₄ q →
        Written printed w b (operand_at w i 2) q o₄ o₅ r → Written printed w b i at o o₅ r
    unfolding printed
    three_written o₁ o₂ o₃ o₄ o₅ m n p q r first question second colon third e s k x =
        let z = run_three e x h in
        puts_as (ap printed (sym z.3)) (puts_join (first z.0 s k z.7) (puts_join question (puts_join (second z.1 (operand_at w i 0 + 1) (k + length (expr_bytes z.0)) z.8) (puts_join colon (third z.2 (operand_at w i 1 + 1) (k + length (expr_bytes z.0) + length (expr_bytes z.1)) z.9)))))
