-- Stored content determines the tree. Assumes nothing.
use Rattle.std.specs.Prelude.{ℕ, zero, suc, ◌+◌, ◌-◌, ◌*◌, ◌≤◌, ◌≡◌, refl, Bool, true, false, cond, length, get_or, replicate}
use Rattle.std.proofs.Common.{arith, sym, ◌∙◌, ap, length-append}
use mathlib.Core.List.{List, [], ◌∷◌, ◌++◌, append_assoc, head-eq_of_cons-eq, tail-eq_of_cons-eq}
use Rattle.std.proofs.lemmas.List.{length-replicate}
use Rattle.syntax.specs.Bounds.{max_nodes}
use Rattle.syntax.specs.Tree.{Literal, undefined, error, boolean, integer, real, string, Scope, own, other, Expr, literal, reference, unary, binary, conditional, Definition, Ad, size, nodes}
use Rattle.syntax.specs.declared.Binary.{Binary}
use Rattle.syntax.specs.declared.Binary.TheVariants.{Or, And, Equal, NotEqual, Is, Isnt, Less, LessOrEqual, Greater, GreaterOrEqual, Add, Subtract, Multiply, Divide, Remainder}
use Rattle.syntax.specs.declared.Unary.{Unary}
use Rattle.syntax.specs.declared.Unary.TheVariants.{Not, Plus, Minus}
use Rattle.ad.specs.Stored.{unary_of, binary_of}
use Rattle.ad.specs.Layout.{unary_kind, binary_kind, scope_kind, node, literal_node, literal_bytes, expr_nodes, expr_bytes, ad_nodes, ad_definitions, ad_bytes, Named, node_words, ad_words, padded, stored_words, stored_bytes}

-- ---- lists taken apart

pub split : {A : Type 0} (xs ys us vs : List A) → length xs ≡ length ys → xs ++ us ≡ ys ++ vs → (xs ≡ ys) × (us ≡ vs)
split [] [] us vs l e = (refl, e)
split [] (y ∷ ys) us vs l e = absurd (omega arith)
split (x ∷ xs) [] us vs l e = absurd (omega arith)
split (x ∷ xs) (y ∷ ys) us vs l e =
    let h = split xs ys us vs (omega arith) (tail-eq_of_cons-eq e) in
    let t = head-eq_of_cons-eq e in
    ((λ i. t i ∷ h.0 i), h.1)

-- ---- kinds

bit_same : (b b' : Bool) → ◌≡◌ {A = ℕ} (cond b 1 0) (cond b' 1 0) → b ≡ b'
bit_same true true h = refl
bit_same true false h = absurd (omega arith)
bit_same false true h = absurd (omega arith)
bit_same false false h = refl

reals : {n n' k k' : ℕ} → n ≡ n' → k ≡ k' → real n k ≡ real n' k'
reals p q = λ i. real (p i) (q i)

pub unary_found : (u : Unary) → unary_of (unary_kind u) ≡ u
unfolding unary_of
unary_found Not = refl
unary_found Plus = refl
unary_found Minus = refl

pub unary_range : (u : Unary) → (9 ≤ unary_kind u) × (unary_kind u ≤ 11)
unary_range Not = omega arith
unary_range Plus = omega arith
unary_range Minus = omega arith

pub binary_found : (j : Binary) → binary_of (binary_kind j) ≡ j
unfolding binary_of
binary_found Or = refl
binary_found And = refl
binary_found Equal = refl
binary_found NotEqual = refl
binary_found Is = refl
binary_found Isnt = refl
binary_found Less = refl
binary_found LessOrEqual = refl
binary_found Greater = refl
binary_found GreaterOrEqual = refl
binary_found Add = refl
binary_found Subtract = refl
binary_found Multiply = refl
binary_found Divide = refl
binary_found Remainder = refl

pub binary_high : (j : Binary) → 13 ≤ binary_kind j
binary_high Or = omega arith
binary_high And = omega arith
binary_high Equal = omega arith
binary_high NotEqual = omega arith
binary_high Is = omega arith
binary_high Isnt = omega arith
binary_high Less = omega arith
binary_high LessOrEqual = omega arith
binary_high Greater = omega arith
binary_high GreaterOrEqual = omega arith
binary_high Add = omega arith
binary_high Subtract = omega arith
binary_high Multiply = omega arith
binary_high Divide = omega arith
binary_high Remainder = omega arith

pub binary_low : (j : Binary) → binary_kind j ≤ 27
binary_low Or = omega arith
binary_low And = omega arith
binary_low Equal = omega arith
binary_low NotEqual = omega arith
binary_low Is = omega arith
binary_low Isnt = omega arith
binary_low Less = omega arith
binary_low LessOrEqual = omega arith
binary_low Greater = omega arith
binary_low GreaterOrEqual = omega arith
binary_low Add = omega arith
binary_low Subtract = omega arith
binary_low Multiply = omega arith
binary_low Divide = omega arith
binary_low Remainder = omega arith

scope_same : (s s' : Scope) → scope_kind s ≡ scope_kind s' → s ≡ s'
unfolding scope_kind
scope_same own own h = refl
scope_same own other h = absurd (omega arith)
scope_same other own h = absurd (omega arith)
scope_same other other h = refl

pub scope_range : (s : Scope) → (7 ≤ scope_kind s) × (scope_kind s ≤ 8)
unfolding scope_kind
scope_range own = omega arith
scope_range other = omega arith

literal_low : (o : ℕ) (l : Literal) → get_or (literal_node o l) 0 0 ≤ 6
unfolding literal_node
literal_low o undefined = omega arith
literal_low o error = omega arith
literal_low o (boolean b) = omega arith
literal_low o (integer n) = omega arith
literal_low o (real n k) = omega arith
literal_low o (string l) = omega arith

pub literal_four : (o : ℕ) (l : Literal) → length (literal_node o l) ≡ 4
unfolding literal_node
literal_four o undefined = refl
literal_four o error = refl
literal_four o (boolean b) = refl
literal_four o (integer n) = refl
literal_four o (real n k) = refl
literal_four o (string l) = refl

literal_same : (o : ℕ) (X X' : List ℕ) (l l' : Literal) → literal_node o l ≡ literal_node o l' → literal_bytes l ++ X ≡ literal_bytes l' ++ X' → l ≡ l'
unfolding literal_node literal_bytes
literal_same o X X' undefined undefined h g = refl
literal_same o X X' undefined error h g = let z : ◌≡◌ {A = ℕ} 1 2 = ap (λ (xs : List ℕ). get_or xs 0 0) h in absurd (omega arith)
literal_same o X X' undefined (boolean b') h g = let z : ◌≡◌ {A = ℕ} 1 3 = ap (λ (xs : List ℕ). get_or xs 0 0) h in absurd (omega arith)
literal_same o X X' undefined (integer n') h g = let z : ◌≡◌ {A = ℕ} 1 4 = ap (λ (xs : List ℕ). get_or xs 0 0) h in absurd (omega arith)
literal_same o X X' undefined (real n' k') h g = let z : ◌≡◌ {A = ℕ} 1 5 = ap (λ (xs : List ℕ). get_or xs 0 0) h in absurd (omega arith)
literal_same o X X' undefined (string l') h g = let z : ◌≡◌ {A = ℕ} 1 6 = ap (λ (xs : List ℕ). get_or xs 0 0) h in absurd (omega arith)
literal_same o X X' error undefined h g = let z : ◌≡◌ {A = ℕ} 2 1 = ap (λ (xs : List ℕ). get_or xs 0 0) h in absurd (omega arith)
literal_same o X X' error error h g = refl
literal_same o X X' error (boolean b') h g = let z : ◌≡◌ {A = ℕ} 2 3 = ap (λ (xs : List ℕ). get_or xs 0 0) h in absurd (omega arith)
literal_same o X X' error (integer n') h g = let z : ◌≡◌ {A = ℕ} 2 4 = ap (λ (xs : List ℕ). get_or xs 0 0) h in absurd (omega arith)
literal_same o X X' error (real n' k') h g = let z : ◌≡◌ {A = ℕ} 2 5 = ap (λ (xs : List ℕ). get_or xs 0 0) h in absurd (omega arith)
literal_same o X X' error (string l') h g = let z : ◌≡◌ {A = ℕ} 2 6 = ap (λ (xs : List ℕ). get_or xs 0 0) h in absurd (omega arith)
literal_same o X X' (boolean b) undefined h g = let z : ◌≡◌ {A = ℕ} 3 1 = ap (λ (xs : List ℕ). get_or xs 0 0) h in absurd (omega arith)
literal_same o X X' (boolean b) error h g = let z : ◌≡◌ {A = ℕ} 3 2 = ap (λ (xs : List ℕ). get_or xs 0 0) h in absurd (omega arith)
literal_same o X X' (boolean b) (boolean b') h g = ap boolean (bit_same b b' (ap (λ (xs : List ℕ). get_or xs 1 0) h))
literal_same o X X' (boolean b) (integer n') h g = let z : ◌≡◌ {A = ℕ} 3 4 = ap (λ (xs : List ℕ). get_or xs 0 0) h in absurd (omega arith)
literal_same o X X' (boolean b) (real n' k') h g = let z : ◌≡◌ {A = ℕ} 3 5 = ap (λ (xs : List ℕ). get_or xs 0 0) h in absurd (omega arith)
literal_same o X X' (boolean b) (string l') h g = let z : ◌≡◌ {A = ℕ} 3 6 = ap (λ (xs : List ℕ). get_or xs 0 0) h in absurd (omega arith)
literal_same o X X' (integer n) undefined h g = let z : ◌≡◌ {A = ℕ} 4 1 = ap (λ (xs : List ℕ). get_or xs 0 0) h in absurd (omega arith)
literal_same o X X' (integer n) error h g = let z : ◌≡◌ {A = ℕ} 4 2 = ap (λ (xs : List ℕ). get_or xs 0 0) h in absurd (omega arith)
literal_same o X X' (integer n) (boolean b') h g = let z : ◌≡◌ {A = ℕ} 4 3 = ap (λ (xs : List ℕ). get_or xs 0 0) h in absurd (omega arith)
literal_same o X X' (integer n) (integer n') h g = ap integer (ap (λ (xs : List ℕ). get_or xs 1 0) h)
literal_same o X X' (integer n) (real n' k') h g = let z : ◌≡◌ {A = ℕ} 4 5 = ap (λ (xs : List ℕ). get_or xs 0 0) h in absurd (omega arith)
literal_same o X X' (integer n) (string l') h g = let z : ◌≡◌ {A = ℕ} 4 6 = ap (λ (xs : List ℕ). get_or xs 0 0) h in absurd (omega arith)
literal_same o X X' (real n k) undefined h g = let z : ◌≡◌ {A = ℕ} 5 1 = ap (λ (xs : List ℕ). get_or xs 0 0) h in absurd (omega arith)
literal_same o X X' (real n k) error h g = let z : ◌≡◌ {A = ℕ} 5 2 = ap (λ (xs : List ℕ). get_or xs 0 0) h in absurd (omega arith)
literal_same o X X' (real n k) (boolean b') h g = let z : ◌≡◌ {A = ℕ} 5 3 = ap (λ (xs : List ℕ). get_or xs 0 0) h in absurd (omega arith)
literal_same o X X' (real n k) (integer n') h g = let z : ◌≡◌ {A = ℕ} 5 4 = ap (λ (xs : List ℕ). get_or xs 0 0) h in absurd (omega arith)
literal_same o X X' (real n k) (real n' k') h g = reals (ap (λ (xs : List ℕ). get_or xs 1 0) h) (ap (λ (xs : List ℕ). get_or xs 2 0) h)
literal_same o X X' (real n k) (string l') h g = let z : ◌≡◌ {A = ℕ} 5 6 = ap (λ (xs : List ℕ). get_or xs 0 0) h in absurd (omega arith)
literal_same o X X' (string l) undefined h g = let z : ◌≡◌ {A = ℕ} 6 1 = ap (λ (xs : List ℕ). get_or xs 0 0) h in absurd (omega arith)
literal_same o X X' (string l) error h g = let z : ◌≡◌ {A = ℕ} 6 2 = ap (λ (xs : List ℕ). get_or xs 0 0) h in absurd (omega arith)
literal_same o X X' (string l) (boolean b') h g = let z : ◌≡◌ {A = ℕ} 6 3 = ap (λ (xs : List ℕ). get_or xs 0 0) h in absurd (omega arith)
literal_same o X X' (string l) (integer n') h g = let z : ◌≡◌ {A = ℕ} 6 4 = ap (λ (xs : List ℕ). get_or xs 0 0) h in absurd (omega arith)
literal_same o X X' (string l) (real n' k') h g = let z : ◌≡◌ {A = ℕ} 6 5 = ap (λ (xs : List ℕ). get_or xs 0 0) h in absurd (omega arith)
literal_same o X X' (string l) (string l') h g = ap string (split l l' X X' (ap (λ (xs : List ℕ). get_or xs 2 0) h) g).0

-- ---- an expression's last node, and those before it

abbrev last_of : ℕ → ℕ → Expr → List ℕ
last_of n o (literal l) = literal_node o l
last_of n o (reference s w) = node (scope_kind s) o (length w) 0
last_of n o (unary u a) = node (unary_kind u) (n + size a - 1) 0 0
last_of n o (binary j a b) = node (binary_kind j) (n + size a - 1) (n + size a + size b - 1) 0
last_of n o (conditional a b c) = node 12 (n + size a - 1) (n + size a + size b - 1) (n + size a + size b + size c - 1)

abbrev first_of : ℕ → ℕ → Expr → List ℕ
first_of n o (literal l) = []
first_of n o (reference s w) = []
first_of n o (unary u a) = expr_nodes n o a
first_of n o (binary j a b) = expr_nodes n o a ++ expr_nodes (n + size a) (o + length (expr_bytes a)) b
first_of n o (conditional a b c) = expr_nodes n o a ++ (expr_nodes (n + size a) (o + length (expr_bytes a)) b ++ expr_nodes (n + size a + size b) (o + length (expr_bytes a) + length (expr_bytes b)) c)

last_first : (n o : ℕ) (e : Expr) → expr_nodes n o e ≡ first_of n o e ++ last_of n o e
unfolding expr_nodes
last_first n o (literal l) = refl
last_first n o (reference s w) = refl
last_first n o (unary u a) = refl
last_first n o (binary j a b) = sym (append_assoc (expr_nodes n o a) (expr_nodes (n + size a) (o + length (expr_bytes a)) b) (last_of n o (binary j a b)))
last_first n o (conditional a b c) =
    let A = expr_nodes n o a in
    let B = expr_nodes (n + size a) (o + length (expr_bytes a)) b in
    let C = expr_nodes (n + size a + size b) (o + length (expr_bytes a) + length (expr_bytes b)) c in
    let L = last_of n o (conditional a b c) in
    sym (append_assoc A (B ++ C) L ∙ ap (◌++◌ A) (append_assoc B C L))

last_four : (n o : ℕ) (e : Expr) → length (last_of n o e) ≡ 4
last_four n o (literal l) = literal_four o l
last_four n o (reference s w) = refl
last_four n o (unary u a) = refl
last_four n o (binary j a b) = refl
last_four n o (conditional a b c) = refl

pub length_nodes : (n o : ℕ) (e : Expr) → length (expr_nodes n o e) ≡ 4 * size e
unfolding expr_nodes size
length_nodes n o (literal l) = literal_four o l
length_nodes n o (reference s w) = refl
length_nodes n o (unary u a) = simp length-append (omega (arith, length_nodes n o a))
length_nodes n o (binary j a b) = simp length-append (omega (arith, length_nodes n o a, length_nodes (n + size a) (o + length (expr_bytes a)) b))
length_nodes n o (conditional a b c) = simp length-append (omega (arith, length_nodes n o a, length_nodes (n + size a) (o + length (expr_bytes a)) b, length_nodes (n + size a + size b) (o + length (expr_bytes a) + length (expr_bytes b)) c))

pub size_some : (e : Expr) → 1 ≤ size e
unfolding size
size_some (literal l) = omega arith
size_some (reference s w) = omega arith
size_some (unary u a) = omega arith
size_some (binary j a b) = omega arith
size_some (conditional a b c) = omega arith

-- equal nodes have equal last nodes, and equal nodes before them
apart : (n o : ℕ) (e e' : Expr) → expr_nodes n o e ≡ expr_nodes n o e' → (first_of n o e ≡ first_of n o e') × (last_of n o e ≡ last_of n o e')
apart n o e e' h =
    let g : first_of n o e ++ last_of n o e ≡ first_of n o e' ++ last_of n o e' = sym (last_first n o e) ∙ (h ∙ last_first n o e') in
    let l = ap length g in
    split (first_of n o e) (first_of n o e') (last_of n o e) (last_of n o e') (omega (arith, length-append (first_of n o e) (last_of n o e), length-append (first_of n o e') (last_of n o e'), last_four n o e, last_four n o e')) g

same_kind : (n o : ℕ) (e e' : Expr) → expr_nodes n o e ≡ expr_nodes n o e' → get_or (last_of n o e) 0 0 ≡ get_or (last_of n o e') 0 0
same_kind n o e e' h = ap (λ (xs : List ℕ). get_or xs 0 0) (apart n o e e' h).1

-- the word k of the last node
same_word : (n o k : ℕ) (e e' : Expr) → expr_nodes n o e ≡ expr_nodes n o e' → get_or (last_of n o e) k 0 ≡ get_or (last_of n o e') k 0
same_word n o k e e' h = ap (λ (xs : List ℕ). get_or xs k 0) (apart n o e e' h).1

references : {s s' : Scope} {w w' : List ℕ} → s ≡ s' → w ≡ w' → reference s w ≡ reference s' w'
references p q = λ i. reference (p i) (q i)

unaries : {u u' : Unary} {a a' : Expr} → u ≡ u' → a ≡ a' → unary u a ≡ unary u' a'
unaries p q = λ i. unary (p i) (q i)

binaries : {j j' : Binary} {a a' b b' : Expr} → j ≡ j' → a ≡ a' → b ≡ b' → binary j a b ≡ binary j' a' b'
binaries p q r = λ i. binary (p i) (q i) (r i)

conditionals : {a a' b b' c c' : Expr} → a ≡ a' → b ≡ b' → c ≡ c' → conditional a b c ≡ conditional a' b' c'
conditionals p q r = λ i. conditional (p i) (q i) (r i)

-- equal nodes and bytes are of equal expressions
expr_same : (n o : ℕ) (X X' : List ℕ) (e e' : Expr) → expr_nodes n o e ≡ expr_nodes n o e' → expr_bytes e ++ X ≡ expr_bytes e' ++ X' → e ≡ e'
unfolding expr_bytes
expr_same n o X X' (literal l) (literal l') h g = ap literal (literal_same o X X' l l' (apart n o (literal l) (literal l') h).1 g)
expr_same n o X X' (reference s w) (reference s' w') h g = references (scope_same s s' (same_kind n o (reference s w) (reference s' w') h)) (split w w' X X' (same_word n o 2 (reference s w) (reference s' w') h) g).0
expr_same n o X X' (unary u a) (unary u' a') h g = unaries (sym (unary_found u) ∙ (ap unary_of (same_kind n o (unary u a) (unary u' a') h) ∙ unary_found u')) (expr_same n o X X' a a' (apart n o (unary u a) (unary u' a') h).0 g)
expr_same n o X X' (binary j a b) (binary j' a' b') h g =
    let k = sym (binary_found j) ∙ (ap binary_of (same_kind n o (binary j a b) (binary j' a' b') h) ∙ binary_found j') in
    let z : size a ≡ size a' = omega (arith, same_word n o 1 (binary j a b) (binary j' a' b') h, size_some a, size_some a') in
    let f = split (expr_nodes n o a) (expr_nodes n o a') (expr_nodes (n + size a) (o + length (expr_bytes a)) b) (expr_nodes (n + size a') (o + length (expr_bytes a')) b') (omega (arith, length_nodes n o a, length_nodes n o a')) (apart n o (binary j a b) (binary j' a' b') h).0 in
    let g₁ = sym (append_assoc (expr_bytes a) (expr_bytes b) X) ∙ (g ∙ append_assoc (expr_bytes a') (expr_bytes b') X') in
    let p = expr_same n o (expr_bytes b ++ X) (expr_bytes b' ++ X') a a' f.0 g₁ in
    let g₂ = (split (expr_bytes a) (expr_bytes a') (expr_bytes b ++ X) (expr_bytes b' ++ X') (ap (λ (x : Expr). length (expr_bytes x)) p) g₁).1 in
    let f₂ : expr_nodes (n + size a) (o + length (expr_bytes a)) b ≡ expr_nodes (n + size a) (o + length (expr_bytes a)) b' = f.1 ∙ ap (λ (x : Expr). expr_nodes (n + size x) (o + length (expr_bytes x)) b') (sym p) in
    binaries k p (expr_same (n + size a) (o + length (expr_bytes a)) X X' b b' f₂ g₂)
expr_same n o X X' (conditional a b c) (conditional a' b' c') h g =
    let z : size a ≡ size a' = omega (arith, same_word n o 1 (conditional a b c) (conditional a' b' c') h, size_some a, size_some a') in
    let y : size b ≡ size b' = omega (arith, same_word n o 2 (conditional a b c) (conditional a' b' c') h, size_some b, size_some b') in
    let f = split (expr_nodes n o a) (expr_nodes n o a') _ _ (omega (arith, length_nodes n o a, length_nodes n o a')) (apart n o (conditional a b c) (conditional a' b' c') h).0 in
    let f₁ = split (expr_nodes (n + size a) (o + length (expr_bytes a)) b) (expr_nodes (n + size a') (o + length (expr_bytes a')) b') _ _ (omega (arith, length_nodes (n + size a) (o + length (expr_bytes a)) b, length_nodes (n + size a') (o + length (expr_bytes a')) b')) f.1 in
    let g₀ = sym (append_assoc (expr_bytes a) (expr_bytes b ++ expr_bytes c) X) ∙ (g ∙ append_assoc (expr_bytes a') (expr_bytes b' ++ expr_bytes c') X') in
    let p = expr_same n o ((expr_bytes b ++ expr_bytes c) ++ X) ((expr_bytes b' ++ expr_bytes c') ++ X') a a' f.0 g₀ in
    let g₁ = sym (append_assoc (expr_bytes b) (expr_bytes c) X) ∙ ((split (expr_bytes a) (expr_bytes a') ((expr_bytes b ++ expr_bytes c) ++ X) ((expr_bytes b' ++ expr_bytes c') ++ X') (ap (λ (x : Expr). length (expr_bytes x)) p) g₀).1 ∙ append_assoc (expr_bytes b') (expr_bytes c') X') in
    let f₂ : expr_nodes (n + size a) (o + length (expr_bytes a)) b ≡ expr_nodes (n + size a) (o + length (expr_bytes a)) b' = f₁.0 ∙ ap (λ (x : Expr). expr_nodes (n + size x) (o + length (expr_bytes x)) b') (sym p) in
    let q = expr_same (n + size a) (o + length (expr_bytes a)) (expr_bytes c ++ X) (expr_bytes c' ++ X') b b' f₂ g₁ in
    let g₂ = (split (expr_bytes b) (expr_bytes b') (expr_bytes c ++ X) (expr_bytes c' ++ X') (ap (λ (x : Expr). length (expr_bytes x)) q) g₁).1 in
    let f₃ : expr_nodes (n + size a + size b) (o + length (expr_bytes a) + length (expr_bytes b)) c ≡ expr_nodes (n + size a + size b) (o + length (expr_bytes a) + length (expr_bytes b)) c' = f₁.1 ∙ (ap (λ (x : Expr). expr_nodes (n + size x + size b') (o + length (expr_bytes x) + length (expr_bytes b')) c') (sym p) ∙ ap (λ (x : Expr). expr_nodes (n + size a + size x) (o + length (expr_bytes a) + length (expr_bytes x)) c') (sym q)) in
    conditionals p q (expr_same (n + size a + size b) (o + length (expr_bytes a) + length (expr_bytes b)) X X' c c' f₃ g₂)
expr_same n o X X' (literal l) (reference s' w') h g = let z = same_kind n o (literal l) (reference s' w') h in absurd (omega (arith, literal_low o l, scope_range s'))
expr_same n o X X' (literal l) (unary u' a') h g = let z = same_kind n o (literal l) (unary u' a') h in absurd (omega (arith, literal_low o l, unary_range u'))
expr_same n o X X' (literal l) (binary j' a' b') h g = let z = same_kind n o (literal l) (binary j' a' b') h in absurd (omega (arith, literal_low o l, binary_high j'))
expr_same n o X X' (literal l) (conditional a' b' c') h g = let z = same_kind n o (literal l) (conditional a' b' c') h in absurd (omega (arith, literal_low o l))
expr_same n o X X' (reference s w) (literal l') h g = let z = same_kind n o (reference s w) (literal l') h in absurd (omega (arith, scope_range s, literal_low o l'))
expr_same n o X X' (reference s w) (unary u' a') h g = let z = same_kind n o (reference s w) (unary u' a') h in absurd (omega (arith, scope_range s, unary_range u'))
expr_same n o X X' (reference s w) (binary j' a' b') h g = let z = same_kind n o (reference s w) (binary j' a' b') h in absurd (omega (arith, scope_range s, binary_high j'))
expr_same n o X X' (reference s w) (conditional a' b' c') h g = let z = same_kind n o (reference s w) (conditional a' b' c') h in absurd (omega (arith, scope_range s))
expr_same n o X X' (unary u a) (literal l') h g = let z = same_kind n o (unary u a) (literal l') h in absurd (omega (arith, unary_range u, literal_low o l'))
expr_same n o X X' (unary u a) (reference s' w') h g = let z = same_kind n o (unary u a) (reference s' w') h in absurd (omega (arith, unary_range u, scope_range s'))
expr_same n o X X' (unary u a) (binary j' a' b') h g = let z = same_kind n o (unary u a) (binary j' a' b') h in absurd (omega (arith, unary_range u, binary_high j'))
expr_same n o X X' (unary u a) (conditional a' b' c') h g = let z = same_kind n o (unary u a) (conditional a' b' c') h in absurd (omega (arith, unary_range u))
expr_same n o X X' (binary j a b) (literal l') h g = let z = same_kind n o (binary j a b) (literal l') h in absurd (omega (arith, binary_high j, literal_low o l'))
expr_same n o X X' (binary j a b) (reference s' w') h g = let z = same_kind n o (binary j a b) (reference s' w') h in absurd (omega (arith, binary_high j, scope_range s'))
expr_same n o X X' (binary j a b) (unary u' a') h g = let z = same_kind n o (binary j a b) (unary u' a') h in absurd (omega (arith, binary_high j, unary_range u'))
expr_same n o X X' (binary j a b) (conditional a' b' c') h g = let z = same_kind n o (binary j a b) (conditional a' b' c') h in absurd (omega (arith, binary_high j))
expr_same n o X X' (conditional a b c) (literal l') h g = let z = same_kind n o (conditional a b c) (literal l') h in absurd (omega (arith, literal_low o l'))
expr_same n o X X' (conditional a b c) (reference s' w') h g = let z = same_kind n o (conditional a b c) (reference s' w') h in absurd (omega (arith, scope_range s'))
expr_same n o X X' (conditional a b c) (unary u' a') h g = let z = same_kind n o (conditional a b c) (unary u' a') h in absurd (omega (arith, unary_range u'))
expr_same n o X X' (conditional a b c) (binary j' a' b') h g = let z = same_kind n o (conditional a b c) (binary j' a' b') h in absurd (omega (arith, binary_high j'))

-- ---- ads

-- room without a definition holds no length
none_at : (z i : ℕ) → ◌≡◌ {A = ℕ} (get_or (replicate z 0) i 0) 0
none_at zero i = refl
none_at (suc z) zero = refl
none_at (suc z) (suc i) = none_at z i

abbrev defined_as : Definition → List ℕ → Expr → Definition
defined_as d w e = record { name = w; expression = e }

definitions : {d d' : Definition} → d.name ≡ d'.name → d.expression ≡ d'.expression → d ≡ d'
definitions {d} p q = λ i. defined_as d (p i) (q i)

-- where the nodes and the bytes of the definitions behind d begin
abbrev node_behind : ℕ → Definition → ℕ
node_behind n d = n + size d.expression

abbrev byte_behind : ℕ → Definition → ℕ
byte_behind o d = o + length d.name + length (expr_bytes d.expression)

ad_same : (n o z z' : ℕ) (X X' Y Y' : List ℕ) (a a' : Ad) → Named a → Named a' → ad_definitions n o a ++ replicate z 0 ≡ ad_definitions n o a' ++ replicate z' 0 → ad_nodes n o a ++ Y ≡ ad_nodes n o a' ++ Y' → ad_bytes a ++ X ≡ ad_bytes a' ++ X' → a ≡ a'
unfolding ad_definitions ad_nodes ad_bytes Named
ad_same n o z z' X X' Y Y' [] [] m m' h f g = refl
ad_same n o z z' X X' Y Y' [] (d' ∷ ds') m m' h f g =
    let e : get_or (replicate z 0) 1 0 ≡ length d'.name = ap (λ (xs : List ℕ). get_or xs 1 0) h in
    absurd (omega (arith, none_at z 1, m'.0))
ad_same n o z z' X X' Y Y' (d ∷ ds) [] m m' h f g =
    let e : length d.name ≡ get_or (replicate z' 0) 1 0 = ap (λ (xs : List ℕ). get_or xs 1 0) h in
    absurd (omega (arith, none_at z' 1, m.0))
ad_same n o z z' X X' Y Y' (d ∷ ds) (d' ∷ ds') m m' h f g =
    let long : length d.name ≡ length d'.name = ap (λ (xs : List ℕ). get_or xs 1 0) h in
    let root : n + size d.expression - 1 ≡ n + size d'.expression - 1 = ap (λ (xs : List ℕ). get_or xs 2 0) h in
    let same_size : size d.expression ≡ size d'.expression = omega (arith, size_some d.expression, size_some d'.expression) in
    let B = expr_bytes d.expression ++ ad_bytes ds in
    let B' = expr_bytes d'.expression ++ ad_bytes ds' in
    let s = split d.name d'.name (B ++ X) (B' ++ X') long (sym (append_assoc d.name B X) ∙ (g ∙ append_assoc d'.name B' X')) in
    let E = expr_nodes n (o + length d.name) d.expression in
    let E' = expr_nodes n (o + length d'.name) d'.expression in
    let R = ad_nodes (node_behind n d) (byte_behind o d) ds in
    let R' = ad_nodes (node_behind n d') (byte_behind o d') ds' in
    let t = split E E' (R ++ Y) (R' ++ Y') (omega (arith, length_nodes n (o + length d.name) d.expression, length_nodes n (o + length d'.name) d'.expression)) (sym (append_assoc E R Y) ∙ (f ∙ append_assoc E' R' Y')) in
    let g₁ = sym (append_assoc (expr_bytes d.expression) (ad_bytes ds) X) ∙ (s.1 ∙ append_assoc (expr_bytes d'.expression) (ad_bytes ds') X') in
    let t₁ : E ≡ expr_nodes n (o + length d.name) d'.expression = t.0 ∙ ap (λ (l : ℕ). expr_nodes n (o + l) d'.expression) (sym long) in
    let q = expr_same n (o + length d.name) (ad_bytes ds ++ X) (ad_bytes ds' ++ X') d.expression d'.expression t₁ g₁ in
    let p : d ≡ d' = definitions s.0 q in
    let g₂ = (split (expr_bytes d.expression) (expr_bytes d'.expression) (ad_bytes ds ++ X) (ad_bytes ds' ++ X') (ap (λ (x : Expr). length (expr_bytes x)) q) g₁).1 in
    let f₂ : R ++ Y ≡ ad_nodes (node_behind n d) (byte_behind o d) ds' ++ Y' = t.1 ∙ ap (λ (x : Definition). ad_nodes (node_behind n x) (byte_behind o x) ds' ++ Y') (sym p) in
    let h₁ = tail-eq_of_cons-eq (tail-eq_of_cons-eq (tail-eq_of_cons-eq h)) in
    let h₂ : ad_definitions (node_behind n d) (byte_behind o d) ds ++ replicate z 0 ≡ ad_definitions (node_behind n d) (byte_behind o d) ds' ++ replicate z' 0 = h₁ ∙ ap (λ (x : Definition). ad_definitions (node_behind n x) (byte_behind o x) ds' ++ replicate z' 0) (sym p) in
    let r = ad_same (node_behind n d) (byte_behind o d) z z' X X' Y Y' ds ds' m.1 m'.1 h₂ f₂ g₂ in
    (λ i. p i ∷ r i)

pub length_ad : (n o : ℕ) (a : Ad) → length (ad_nodes n o a) ≡ 4 * nodes a
unfolding ad_nodes nodes
length_ad n o [] = refl
length_ad n o (d ∷ ds) = simp length-append (omega (arith, length_nodes n (o + length d.name) d.expression, length_ad (node_behind n d) (byte_behind o d) ds))

pub length_entries : (n o : ℕ) (a : Ad) → length (ad_definitions n o a) ≡ 3 * length a
unfolding ad_definitions
length_entries n o [] = refl
length_entries n o (d ∷ ds) = omega (arith, length_entries (node_behind n d) (byte_behind o d) ds)

pub padded_length : (n : ℕ) (xs : List ℕ) → length xs ≤ n → length (xs ++ replicate (n - length xs) 0) ≡ n
padded_length n xs h = omega (arith, length-append xs (replicate (n - length xs) 0), length-replicate {A = ℕ} (n - length xs) 0)

-- ---- THE THEOREM

-- 'equal trees have equal content', and no two trees have the same: an ad's memory says which ad it holds
pub content_tree : (a a' : Ad) → Named a → Named a' → nodes a ≤ max_nodes → nodes a' ≤ max_nodes → stored_words a ≡ stored_words a' → stored_bytes a ≡ stored_bytes a' → a ≡ a'
unfolding stored_words stored_bytes
content_tree a a' m m' k k' h g =
    let A = ad_nodes 0 0 a in
    let A' = ad_nodes 0 0 a' in
    let D = ad_definitions 0 0 a in
    let D' = ad_definitions 0 0 a' in
    let s = split (padded node_words A) (padded node_words A') (padded (ad_words - node_words) D) (padded (ad_words - node_words) D')
    (omega (arith, length-append A (replicate (node_words - length A) 0), length-replicate {A = ℕ} (node_words - length A) 0, length-append A' (replicate (node_words - length A') 0), length-replicate {A = ℕ} (node_words - length A') 0, length_ad 0 0 a, length_ad 0 0 a')) h in
    ad_same 0 0 (ad_words - node_words - length D) (ad_words - node_words - length D') _ _ _ _ a a' m m' s.1 s.0 g
