-- The tree that ends at a node of a stored ad is the node's expression. Assumes nothing.
use Prim.Native.Nat.{ℕ, zero, suc, ◌+◌, ◌-◌, ◌≤◌, ◌<◌}
use native.Mathlib.Omega.{arith}
use mathlib.Core.Path.{◌≡◌, refl, sym, ◌∙◌, ap, subst}
use mathlib.Core.List.{List, [], ◌∷◌, ◌++◌}
use mathlib.Core.Bool.{Bool, true, false}
use lib.ListN.{length, length-append}
use lib.Dec.{ltb}
use borrow.Author.Tests.{ltb-true, ltb-false}
use Rattle.syntax.specs.Tree.{Expr, literal, reference, unary, binary, conditional, Ad, size, nodes}
use Rattle.syntax.specs.Print.{printed}
use Rattle.tree_check.specs.Laws.Leaves.{Run}
use Rattle.tree_check.specs.Laws.Trees.{unary_parts, binary_parts, conditional_parts}
use Rattle.well_formed.specs.Laws.Definitions.{Table, table_row}
use Rattle.inspection.specs.Inspection.{subexpressions, expressions, text_at}

-- ---- texts by number

text_left : (xs ys : List Expr) (i : ℕ) → i < length xs → text_at (xs ++ ys) i ≡ text_at xs i
unfolding text_at
text_left [] ys i h = absurd (omega arith)
text_left (x ∷ xs) ys zero h = refl
text_left (x ∷ xs) ys (suc i) h = text_left xs ys i (omega arith)

text_right : (xs ys : List Expr) (i : ℕ) → length xs ≤ i → text_at (xs ++ ys) i ≡ text_at ys (i - length xs)
unfolding text_at
text_right [] ys i h = ap (text_at ys) (let e : i ≡ i - 0 = omega arith in e)
text_right (x ∷ xs) ys zero h = absurd (omega arith)
text_right (x ∷ xs) ys (suc i) h = text_right xs ys i (omega arith) ∙ ap (text_at ys) (let e : i - length xs ≡ suc i - suc (length xs) = omega arith in e)

pub text_none : (xs : List Expr) (i : ℕ) → length xs ≤ i → text_at xs i ≡ []
unfolding text_at
text_none [] i h = refl
text_none (x ∷ xs) zero h = absurd (omega arith)
text_none (x ∷ xs) (suc i) h = text_none xs i (omega arith)

sub_length : (e : Expr) → length (subexpressions e) ≡ size e
unfolding subexpressions size
sub_length (literal l) = refl
sub_length (reference s w) = refl
sub_length (unary u a) = omega (arith, length-append (subexpressions a) (unary u a ∷ []), sub_length a)
sub_length (binary j a b) = omega (arith, length-append (subexpressions a) (subexpressions b ++ (binary j a b ∷ [])), length-append (subexpressions b) (binary j a b ∷ []), sub_length a, sub_length b)
sub_length (conditional a b c) = omega (arith, length-append (subexpressions a) (subexpressions b ++ (subexpressions c ++ (conditional a b c ∷ []))), length-append (subexpressions b) (subexpressions c ++ (conditional a b c ∷ [])), length-append (subexpressions c) (conditional a b c ∷ []), sub_length a, sub_length b, sub_length c)

pub all_length : (a : Ad) → length (expressions a) ≡ nodes a
unfolding expressions nodes
all_length [] = refl
all_length (d ∷ a) = omega (arith, length-append (subexpressions d.expression) (expressions a), sub_length d.expression, all_length a)

-- ---- the tree at a node

-- a tree has its last node at i, and t is its text
pub record Reached (w b : List ℕ) (i : ℕ) (t : List ℕ) : Type 0 where
  pub tree : Expr
  pub first : ℕ
  pub byte : ℕ
  pub stands : Run w b first i byte tree
  pub text : t ≡ printed tree

here :
    {w b : List ℕ} {s i o : ℕ} (e : Expr) (k : ℕ) (t : List ℕ) → Run w b s i o e → k ≡ i → t ≡
    printed e → Reached w b k t
here {w} {b} {s} {i} {o} e k t r h g = record { tree = e; first = s; byte = o; stands = subst (λ (x : ℕ). Run w b s x o e) (sym h) r; text = g }

moved : {w b : List ℕ} {i i' : ℕ} {t t' : List ℕ} → i ≡ i' → t ≡ t' → Reached w b i t → Reached w b i' t'
moved {w} {b} {i} {i'} {t} {t'} h g r = subst (λ (x : ℕ). Reached w b x t') h (subst (Reached w b i) g r)

-- the last of some
end :
    {w b : List ℕ} {s i o : ℕ} (e : Expr) (k m : ℕ) → Run w b s i o e → k ≡ i → m ≡ 0 → Reached w b
    k (text_at (e ∷ []) m)
unfolding text_at
end e k m r h z = here e k (text_at (e ∷ []) m) r h (ap (text_at (e ∷ [])) z)

-- a number falls among the first or among those behind
among :
    {w b : List ℕ} {k : ℕ} (xs ys : List Expr) (m : ℕ) →
    (m < length xs → Reached w b k (text_at xs m)) →
    (length xs ≤ m → Reached w b k (text_at ys (m - length xs))) → Reached w b k
    (text_at (xs ++ ys) m)
among {w} {b} {k} xs ys m f g = go (ltb m (length xs)) refl
  where
    go : (t : Bool) → ltb m (length xs) ≡ t → Reached w b k (text_at (xs ++ ys) m)
    go true e = let h : m < length xs = ltb-true m (length xs) e in moved refl (sym (text_left xs ys m h)) (f h)
    go false e = let h : length xs ≤ m = ltb-false m (length xs) e in moved refl (sym (text_right xs ys m h)) (g h)

-- every node of a tree
reach :
    (e : Expr) (w b : List ℕ) (s i o m k : ℕ) → Run w b s i o e → m < size e → k ≡ s + m → Reached w
    b k (text_at (subexpressions e) m)
unfolding subexpressions size
reach (literal l) w b s i o m k r h g = end (literal l) k m r (omega (arith, r.long)) (omega arith)
reach (reference x l) w b s i o m k r h g = end (reference x l) k m r (omega (arith, r.long)) (omega arith)
reach (unary u p) w b s i o m k r h g =
    let y = unary_parts u p r in
    let n = sub_length p in
    among (subexpressions p) (unary u p ∷ []) m
    (λ l. reach p w b s _ o m k y.4 (omega arith) g)
    (λ l. end (unary u p) k (m - length (subexpressions p)) r (omega (arith, r.long)) (omega arith))
reach (binary j p q) w b s i o m k r h g =
    let y = binary_parts j p q r in
    let n = sub_length p in
    let n' = sub_length q in
    among (subexpressions p) (subexpressions q ++ (binary j p q ∷ [])) m
    (λ l. reach p w b s _ o m k y.4 (omega arith) g)
    (λ l. among (subexpressions q) (binary j p q ∷ []) (m - length (subexpressions p))
    (λ l'. reach q w b (s + size p) _ _ (m - length (subexpressions p)) k y.5 (omega arith) (omega arith))
    (λ l'. end (binary j p q) k (m - length (subexpressions p) - length (subexpressions q)) r (omega (arith, r.long)) (omega arith)))
reach (conditional p q c) w b s i o m k r h g =
    let y = conditional_parts p q c r in
    let n = sub_length p in
    let n' = sub_length q in
    let n'' = sub_length c in
    let m' = m - length (subexpressions p) in
    among (subexpressions p) (subexpressions q ++ (subexpressions c ++ (conditional p q c ∷ []))) m
    (λ l. reach p w b s _ o m k y.4 (omega arith) g)
    (λ l. among (subexpressions q) (subexpressions c ++ (conditional p q c ∷ [])) m'
    (λ l'. reach q w b (s + size p) _ _ m' k y.5 (omega arith) (omega arith))
    (λ l'. among (subexpressions c) (conditional p q c ∷ []) (m' - length (subexpressions q))
    (λ l''. reach c w b (s + size p + size q) _ _ (m' - length (subexpressions q)) k y.6 (omega arith) (omega arith))
    (λ l''. end (conditional p q c) k (m' - length (subexpressions q) - length (subexpressions c)) r (omega (arith, r.long)) (omega arith))))

-- EVERY NODE OF A STORED AD
pub reach_ad : (a : Ad) (w b : List ℕ) (j n o m k : ℕ) → Table w b j n o a → m < nodes a → k ≡ n + m → Reached w b k (text_at (expressions a) m)
unfolding expressions nodes
reach_ad [] w b j n o m k t h g = absurd (omega arith)
reach_ad (d ∷ a) w b j n o m k t h g =
    let r = table_row t in
    let l = sub_length d.expression in
    among (subexpressions d.expression) (expressions a) m
    (λ x. reach d.expression w b n _ _ m k r.run (omega arith) g)
    (λ x. reach_ad a w b (j + 1) (n + size d.expression) _ (m - length (subexpressions d.expression)) k r.rest (omega arith) (omega arith))
