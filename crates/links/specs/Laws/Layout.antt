-- A stored ad is well formed: its nodes stand after their operands, and its definitions have their roots among them. Assumes nothing.
use Rattle.std.specs.Prelude.{◌≡◌, ◌≢◌, ◌⊎◌, cond, ℕ, zero, suc, ◌+◌, ◌-◌, ◌*◌, ◌≤◌, ◌<◌, take}
use Rattle.std.proofs.Math.Path.{refl, ap}
use Rattle.std.proofs.Common.{sym, ◌∙◌, subst, inl, inr, le_refl, arith}
use mathlib.Core.List.{List, [], ◌∷◌, ◌++◌, append_assoc, append-nil}
use Rattle.std.proofs.Math.ListN.{length, get_or, replicate, length-append, get_or-append}
use Rattle.std.proofs.Math.Seq.{get_or-append-add}
use Rattle.ad.specs.Laws.Content.{size_some, padded_length}
use Rattle.syntax.specs.Bounds.{max_nodes, max_definitions}
use Rattle.syntax.specs.Tree.{Literal, undefined, error, boolean, integer, real, string, Scope, own, other, Expr, literal, reference, unary, binary, conditional, Ad, size, nodes}
use Rattle.syntax.specs.declared.Binary.{Binary}
use Rattle.syntax.specs.declared.Binary.TheVariants.{Or, And, Equal, NotEqual, Is, Isnt, Less, LessOrEqual, Greater, GreaterOrEqual, Add, Subtract, Multiply, Divide, Remainder}
use Rattle.syntax.specs.declared.Unary.{Unary}
use Rattle.syntax.specs.declared.Unary.TheVariants.{Not, Plus, Minus}
use Rattle.ad.specs.Layout.{unary_kind, binary_kind, scope_kind, node, literal_node, expr_bytes, expr_nodes, ad_nodes, ad_definitions, Named, node_words, ad_words, stored_words}
use Rattle.graph.specs.Members.{◌∈◌, Each}
use Rattle.graph.proofs.Laws.Members.{mem_nil, mem_cons}
use Rattle.graph.specs.Graph.{Sound}
use Rattle.ad.specs.Stored.{leading, kind_at, operand_at, node_count, definition_count, length_at, root_at, operands, arity}
use Rattle.links.specs.Pair.{StoredAd, pair_graph}
use Rattle.links.specs.Inner.Asked.{Formed, Measured}
use Rattle.links.specs.Laws.Counting.{leading_is}
use Rattle.links.specs.Laws.Soundness.{pair_sound}

-- ---- the words of some nodes, the first of which has the number n: m nodes, each after its operands

data Nodes : ℕ → List ℕ → ℕ → Type 0 where
  nodes_none : {n : ℕ} → Nodes n [] 0
  nodes_one : {n k a b c m : ℕ} {xs : List ℕ} → k ≢ 0 → Each (λ y. y < n) (take (arity k) (a ∷ b ∷ c ∷ [])) → Nodes (suc n) xs m → Nodes n (k ∷ a ∷ b ∷ c ∷ xs) (suc m)

nodes_append : {n m p : ℕ} {xs ys : List ℕ} → Nodes n xs m → Nodes (n + m) ys p → Nodes n (xs ++ ys) (m + p)
nodes_append {n} {p = p} {ys = ys} nodes_none e =
    subst (λ (u : ℕ). Nodes n ys u) (let q : p ≡ 0 + p = omega arith in q) (subst (λ (u : ℕ). Nodes u ys p) (let q : n + 0 ≡ n = omega arith in q) e)
nodes_append {n} {p = p} {ys = ys} (nodes_one {k = k} {a = a} {b = b} {c = c} {m = m} {xs = xs} f g d) e =
    subst (λ (u : ℕ). Nodes n (k ∷ a ∷ b ∷ c ∷ (xs ++ ys)) u) (let q : suc (m + p) ≡ suc m + p = omega arith in q)
    (nodes_one f g (nodes_append d (subst (λ (u : ℕ). Nodes u ys p) (let q : n + suc m ≡ suc n + m = omega arith in q) e)))

nodes_length : {n m : ℕ} {xs : List ℕ} → Nodes n xs m → length xs ≡ 4 * m
nodes_length nodes_none = refl
nodes_length (nodes_one {m = m} f g d) = let h = nodes_length d in omega arith

recount : {n m m' : ℕ} {xs : List ℕ} → m ≡ m' → Nodes n xs m → Nodes n xs m'
recount {n} {xs = xs} e d = subst (λ (u : ℕ). Nodes n xs u) e d

-- one node
one_node : {n : ℕ} (k a b c : ℕ) → k ≢ 0 → Each (λ y. y < n) (take (arity k) (a ∷ b ∷ c ∷ [])) → Nodes n (node k a b c) 1
one_node k a b c f g = nodes_one f g nodes_none

each_none : {n : ℕ} → Each (λ y. y < n) []
each_none y m = absurd (mem_nil m)

each_cons : {n x : ℕ} {l : List ℕ} → x < n → Each (λ y. y < n) l → Each (λ y. y < n) (x ∷ l)
each_cons {n} {x} {l} h f y m = go (mem_cons m)
  where
    go : (y ≡ x) ⊎ (y ∈ l) → y < n
    go (inl e) = rw e h
    go (inr k) = f y k

literal_nodes : (n o : ℕ) (l : Literal) → Nodes n (literal_node o l) 1
unfolding literal_node arity
literal_nodes n o undefined = one_node 1 0 0 0 (λ e. omega arith) each_none
literal_nodes n o error = one_node 2 0 0 0 (λ e. omega arith) each_none
literal_nodes n o (boolean b) = one_node 3 (cond b 1 0) 0 0 (λ e. omega arith) each_none
literal_nodes n o (integer m) = one_node 4 m 0 0 (λ e. omega arith) each_none
literal_nodes n o (real m places) = one_node 5 m places 0 (λ e. omega arith) each_none
literal_nodes n o (string l) = one_node 6 o (length l) 0 (λ e. omega arith) each_none

reference_nodes : (n o m : ℕ) (s : Scope) → Nodes n (node (scope_kind s) o m 0) 1
unfolding scope_kind arity
reference_nodes n o m own = one_node 7 o m 0 (λ e. omega arith) each_none
reference_nodes n o m other = one_node 8 o m 0 (λ e. omega arith) each_none

unary_nodes : (n a : ℕ) (u : Unary) → a < n → Nodes n (node (unary_kind u) a 0 0) 1
unfolding arity
unary_nodes n a Not h = one_node 9 a 0 0 (λ e. omega arith) (each_cons h each_none)
unary_nodes n a Plus h = one_node 10 a 0 0 (λ e. omega arith) (each_cons h each_none)
unary_nodes n a Minus h = one_node 11 a 0 0 (λ e. omega arith) (each_cons h each_none)

binary_nodes : (n a b : ℕ) (j : Binary) → a < n → b < n → Nodes n (node (binary_kind j) a b 0) 1
unfolding arity
binary_nodes n a b Or h k = one_node 13 a b 0 (λ e. omega arith) (each_cons h (each_cons k each_none))
binary_nodes n a b And h k = one_node 14 a b 0 (λ e. omega arith) (each_cons h (each_cons k each_none))
binary_nodes n a b Equal h k = one_node 15 a b 0 (λ e. omega arith) (each_cons h (each_cons k each_none))
binary_nodes n a b NotEqual h k = one_node 16 a b 0 (λ e. omega arith) (each_cons h (each_cons k each_none))
binary_nodes n a b Is h k = one_node 17 a b 0 (λ e. omega arith) (each_cons h (each_cons k each_none))
binary_nodes n a b Isnt h k = one_node 18 a b 0 (λ e. omega arith) (each_cons h (each_cons k each_none))
binary_nodes n a b Less h k = one_node 19 a b 0 (λ e. omega arith) (each_cons h (each_cons k each_none))
binary_nodes n a b LessOrEqual h k = one_node 20 a b 0 (λ e. omega arith) (each_cons h (each_cons k each_none))
binary_nodes n a b Greater h k = one_node 21 a b 0 (λ e. omega arith) (each_cons h (each_cons k each_none))
binary_nodes n a b GreaterOrEqual h k = one_node 22 a b 0 (λ e. omega arith) (each_cons h (each_cons k each_none))
binary_nodes n a b Add h k = one_node 23 a b 0 (λ e. omega arith) (each_cons h (each_cons k each_none))
binary_nodes n a b Subtract h k = one_node 24 a b 0 (λ e. omega arith) (each_cons h (each_cons k each_none))
binary_nodes n a b Multiply h k = one_node 25 a b 0 (λ e. omega arith) (each_cons h (each_cons k each_none))
binary_nodes n a b Divide h k = one_node 26 a b 0 (λ e. omega arith) (each_cons h (each_cons k each_none))
binary_nodes n a b Remainder h k = one_node 27 a b 0 (λ e. omega arith) (each_cons h (each_cons k each_none))

conditional_nodes : (n a b c : ℕ) → a < n → b < n → c < n → Nodes n (node 12 a b c) 1
unfolding arity
conditional_nodes n a b c h k l = one_node 12 a b c (λ e. omega arith) (each_cons h (each_cons k (each_cons l each_none)))

expr_nodes_lem : (n o : ℕ) (e : Expr) → Nodes n (expr_nodes n o e) (size e)
unfolding expr_nodes size
expr_nodes_lem n o (literal l) = literal_nodes n o l
expr_nodes_lem n o (reference s w) = reference_nodes n o (length w) s
expr_nodes_lem n o (unary u a) =
    let h = size_some a in
    nodes_append (expr_nodes_lem n o a) (unary_nodes (n + size a) (n + size a - 1) u (omega arith))
expr_nodes_lem n o (binary j a b) =
    let h = size_some a in
    let k = size_some b in
    recount (let q : size a + (size b + 1) ≡ size a + size b + 1 = omega arith in q)
    (nodes_append (expr_nodes_lem n o a)
    (nodes_append (expr_nodes_lem (n + size a) (o + length (expr_bytes a)) b)
    (binary_nodes (n + size a + size b) (n + size a - 1) (n + size a + size b - 1) j (omega arith) (omega arith))))
expr_nodes_lem n o (conditional a b c) =
    let h = size_some a in
    let k = size_some b in
    let l = size_some c in
    recount (let q : size a + (size b + (size c + 1)) ≡ size a + size b + size c + 1 = omega arith in q)
    (nodes_append (expr_nodes_lem n o a)
    (nodes_append (expr_nodes_lem (n + size a) (o + length (expr_bytes a)) b)
    (nodes_append (expr_nodes_lem (n + size a + size b) (o + length (expr_bytes a) + length (expr_bytes b)) c)
    (conditional_nodes (n + size a + size b + size c) (n + size a - 1) (n + size a + size b - 1) (n + size a + size b + size c - 1) (omega arith) (omega arith) (omega arith)))))

ad_nodes_lem : (n o : ℕ) (a : Ad) → Nodes n (ad_nodes n o a) (nodes a)
unfolding ad_nodes nodes
ad_nodes_lem n o [] = nodes_none
ad_nodes_lem n o (d ∷ ds) = nodes_append (expr_nodes_lem n _ d.expression) (ad_nodes_lem (n + size d.expression) _ ds)

-- ---- by their index, whatever follows them

pub kind_next : (k a b c : ℕ) (l : List ℕ) (i : ℕ) → kind_at (k ∷ a ∷ b ∷ c ∷ l) (suc i) ≡ kind_at l i
kind_next k a b c l i = ap (λ (u : ℕ). get_or (k ∷ a ∷ b ∷ c ∷ l) u 0) (let q : 4 * suc i ≡ suc (suc (suc (suc (4 * i)))) = omega arith in q)

pub operand_next : (k a b c : ℕ) (l : List ℕ) (i j : ℕ) → operand_at (k ∷ a ∷ b ∷ c ∷ l) (suc i) j ≡ operand_at l i j
operand_next k a b c l i j = ap (λ (u : ℕ). get_or (k ∷ a ∷ b ∷ c ∷ l) u 0) (let q : 4 * suc i + 1 + j ≡ suc (suc (suc (suc (4 * i + 1 + j)))) = omega arith in q)

operands_next : (k a b c : ℕ) (l : List ℕ) (i : ℕ) → operands (k ∷ a ∷ b ∷ c ∷ l) (suc i) ≡ operands l i
unfolding operands
operands_next k a b c l i =
    rw (kind_next k a b c l i, operand_next k a b c l i 0, operand_next k a b c l i 1, operand_next k a b c l i 2) refl

nodes_kind : {n m : ℕ} {xs : List ℕ} → Nodes n xs m → (ys : List ℕ) (i : ℕ) → i < m → kind_at (xs ++ ys) i ≢ 0
nodes_kind nodes_none ys i h = absurd (let q : ⊥ = omega arith in q)
nodes_kind (nodes_one f g d) ys zero h = f
nodes_kind (nodes_one {k = k} {a = a} {b = b} {c = c} {xs = xs} f g d) ys (suc i) h =
    subst (λ (u : ℕ). u ≢ 0) (sym (kind_next k a b c (xs ++ ys) i)) (nodes_kind d ys i (omega arith))

nodes_operands : {n m : ℕ} {xs : List ℕ} → Nodes n xs m → (ys : List ℕ) (i : ℕ) → i < m → Each (λ y. y < n + i) (operands (xs ++ ys) i)
unfolding operands
nodes_operands nodes_none ys i h = absurd (let q : ⊥ = omega arith in q)
nodes_operands {n} (nodes_one f g d) ys zero h = λ y k. let p : y < n = g y k in omega arith
nodes_operands {n} (nodes_one {k = k} {a = a} {b = b} {c = c} {xs = xs} f g d) ys (suc i) h =
    rw (operands_next k a b c (xs ++ ys) i) (λ y p. let q : y < suc n + i = nodes_operands d ys i (omega arith) y p in omega arith)

-- ---- the words of m definitions, whose roots are below top

data Definitions (top : ℕ) : List ℕ → ℕ → Type 0 where
  definitions_none : Definitions top [] 0
  definitions_one : {o l r m : ℕ} {xs : List ℕ} → l ≢ 0 → r < top → Definitions top xs m → Definitions top (o ∷ l ∷ r ∷ xs) (suc m)

definitions_length : {top m : ℕ} {xs : List ℕ} → Definitions top xs m → length xs ≡ 3 * m
definitions_length definitions_none = refl
definitions_length (definitions_one f g d) = let h = definitions_length d in omega arith

ad_definitions_lem : (top n o : ℕ) (a : Ad) → Named a → n + nodes a ≤ top → Definitions top (ad_definitions n o a) (length a)
unfolding ad_definitions nodes Named
ad_definitions_lem top n o [] k h = definitions_none
ad_definitions_lem top n o (d ∷ ds) k h =
    let s = size_some d.expression in
    let z : 0 < length d.name = k.0 in
    let f : length d.name ≢ 0 = λ e. omega arith in
    let g : n + size d.expression - 1 < top = omega arith in
    definitions_one f g (ad_definitions_lem top (n + size d.expression) _ ds k.1 (omega arith))

third_next : (o l r : ℕ) (xs : List ℕ) (j k : ℕ) → get_or (o ∷ l ∷ r ∷ xs) (3 * suc j + k) 0 ≡ get_or xs (3 * j + k) 0
third_next o l r xs j k = ap (λ (u : ℕ). get_or (o ∷ l ∷ r ∷ xs) u 0) (let q : 3 * suc j + k ≡ suc (suc (suc (3 * j + k))) = omega arith in q)

definitions_at_lem : {top m : ℕ} {xs : List ℕ} → Definitions top xs m → (ys : List ℕ) (j : ℕ) → j < m →
    (get_or (xs ++ ys) (3 * j + 1) 0 ≢ 0) × (get_or (xs ++ ys) (3 * j + 2) 0 < top)
definitions_at_lem definitions_none ys j h = absurd (let q : ⊥ = omega arith in q)
definitions_at_lem (definitions_one f g d) ys zero h = (f, g)
definitions_at_lem {top} (definitions_one {o = o} {l = l} {r = r} {xs = xs} f g d) ys (suc j) h =
    let p = definitions_at_lem d ys j (omega arith) in
    (subst (λ (u : ℕ). u ≢ 0) (sym (third_next o l r (xs ++ ys) j 1)) p.0, subst (λ (u : ℕ). u < top) (sym (third_next o l r (xs ++ ys) j 2)) p.1)

-- ---- zeros behind

zeros_at : (k i : ℕ) (zs : List ℕ) → i < k → get_or (replicate k 0 ++ zs) i 0 ≡ 0
zeros_at zero i zs h = absurd (let q : ⊥ = omega arith in q)
zeros_at (suc k) zero zs h = refl
zeros_at (suc k) (suc i) zs h = zeros_at k i zs (omega arith)

-- the word at i, past the front of n words, is a 0
padded_zero : (n i : ℕ) (xs zs : List ℕ) → length xs ≤ i → i < n → get_or ((xs ++ replicate (n - length xs) 0) ++ zs) i 0 ≡ 0
padded_zero n i xs zs h k =
    let e : i ≡ length xs + (i - length xs) = omega arith in
    ap (λ (l : List ℕ). get_or l i 0) (append_assoc xs (replicate (n - length xs) 0) zs)
    ∙ ap (λ (u : ℕ). get_or (xs ++ (replicate (n - length xs) 0 ++ zs)) u 0) e
    ∙ get_or-append-add xs (replicate (n - length xs) 0 ++ zs) (i - length xs) 0
    ∙ zeros_at (n - length xs) (i - length xs) zs (omega arith)

-- ---- the memory: N words for the nodes xs, then M words for the definitions ds

module _ (N M : ℕ) (xs ds : List ℕ) (fits : length xs ≤ N) (fits' : length ds ≤ M) where
  memory : List ℕ
  memory = (xs ++ replicate (N - length xs) 0) ++ (ds ++ replicate (M - length ds) 0)

  memory_long : length memory ≡ N + M
  unfolding memory
  memory_long =
      let a = length-append (xs ++ replicate (N - length xs) 0) (ds ++ replicate (M - length ds) 0) in
      omega (arith, padded_length N xs fits, padded_length M ds fits')

  -- the words behind the nodes
  behind : (i : ℕ) → get_or memory (N + i) 0 ≡ get_or (ds ++ replicate (M - length ds) 0) i 0
  unfolding memory
  behind i =
      ap (λ (u : ℕ). get_or ((xs ++ replicate (N - length xs) 0) ++ (ds ++ replicate (M - length ds) 0)) u 0)
      (let q : N + i ≡ length (xs ++ replicate (N - length xs) 0) + i = omega (arith, padded_length N xs fits) in q)
      ∙ get_or-append-add (xs ++ replicate (N - length xs) 0) (ds ++ replicate (M - length ds) 0) i 0

  front : memory ≡ xs ++ (replicate (N - length xs) 0 ++ (ds ++ replicate (M - length ds) 0))
  unfolding memory
  front = append_assoc xs (replicate (N - length xs) 0) (ds ++ replicate (M - length ds) 0)

  module _ (m : ℕ) (d : Nodes 0 xs m) where
    memory_kind : (i : ℕ) → i < m → kind_at memory i ≢ 0
    memory_kind i h = rw front (nodes_kind d _ i h)

    memory_operands : (i : ℕ) → i < m → Each (λ y. y < i) (operands memory i)
    memory_operands i h = rw front (λ y k. let q : y < 0 + i = nodes_operands d _ i h y k in omega arith)

    memory_end : (i : ℕ) → m ≤ i → 4 * i < N → kind_at memory i ≡ 0
    unfolding memory
    memory_end i l h = padded_zero N (4 * i) xs _ (let e = nodes_length d in omega arith) h

  module _ (top m : ℕ) (d : Definitions top ds m) where
    memory_length : (j : ℕ) → j < m → get_or memory (N + 3 * j + 1) 0 ≢ 0
    memory_length j h =
        let q : N + 3 * j + 1 ≡ N + (3 * j + 1) = omega arith in
        subst (λ (u : ℕ). u ≢ 0) (sym (ap (λ (u : ℕ). get_or memory u 0) q ∙ behind (3 * j + 1))) (definitions_at_lem d (replicate (M - length ds) 0) j h).0

    memory_root : (j : ℕ) → j < m → get_or memory (N + 3 * j + 2) 0 < top
    memory_root j h =
        let q : N + 3 * j + 2 ≡ N + (3 * j + 2) = omega arith in
        subst (λ (u : ℕ). u < top) (sym (ap (λ (u : ℕ). get_or memory u 0) q ∙ behind (3 * j + 2))) (definitions_at_lem d (replicate (M - length ds) 0) j h).1

    memory_stop : 3 * m + 1 < M → get_or memory (N + 3 * m + 1) 0 ≡ 0
    memory_stop h =
        let q : N + 3 * m + 1 ≡ N + (3 * m + 1) = omega arith in
        let e = definitions_length d in
        ap (λ (u : ℕ). get_or memory u 0) q ∙ behind (3 * m + 1)
        ∙ ap (λ (l : List ℕ). get_or l (3 * m + 1) 0) (sym (append-nil (ds ++ replicate (M - length ds) 0)))
        ∙ padded_zero M (3 * m + 1) ds [] (omega arith) h

-- ---- THE THEOREMS

-- how many nodes and definitions are read of a stored ad
leading_all : (f : ℕ → ℕ) (n k : ℕ) → n ≤ k → ((j : ℕ) → j < n → f j ≢ 0) → (n < k → f n ≡ 0) → leading f 0 k ≡ n
leading_all f n k h a b =
    leading_is f n 0 k h (λ j lt. subst (λ (u : ℕ). f u ≢ 0) (let q : j ≡ 0 + j = omega arith in q) (a j lt))
    (λ lt. subst (λ (u : ℕ). f u ≡ 0) (let q : n ≡ 0 + n = omega arith in q) (b lt))

module _ (a : Ad) (few : nodes a ≤ max_nodes) (fewer : length a ≤ max_definitions) (named : Named a) where
  xs : List ℕ
  xs = ad_nodes 0 0 a

  ds : List ℕ
  ds = ad_definitions 0 0 a

  block : Nodes 0 xs (nodes a)
  unfolding xs
  block = ad_nodes_lem 0 0 a

  table : Definitions (nodes a) ds (length a)
  unfolding ds
  table = ad_definitions_lem (nodes a) 0 0 a named (omega arith)

  fits : length xs ≤ node_words
  fits = let e = nodes_length block in omega arith

  fits' : length ds ≤ ad_words - node_words
  fits' = let e = definitions_length table in omega arith

  stored_is : stored_words a ≡ memory node_words (ad_words - node_words) xs ds fits fits'
  unfolding stored_words memory xs ds
  stored_is = refl

  pub stored_nodes : node_count (stored_words a) ≡ nodes a
  unfolding node_count
  stored_nodes =
      rw stored_is
      (leading_all (kind_at (memory node_words (ad_words - node_words) xs ds fits fits')) (nodes a) max_nodes few
      (memory_kind node_words (ad_words - node_words) xs ds fits fits' (nodes a) block)
      (λ lt. memory_end node_words (ad_words - node_words) xs ds fits fits' (nodes a) block (nodes a) (le_refl (nodes a)) (omega arith)))

  pub stored_definitions : definition_count (stored_words a) ≡ length a
  unfolding definition_count
  stored_definitions =
      rw stored_is
      (leading_all (length_at (memory node_words (ad_words - node_words) xs ds fits fits')) (length a) max_definitions fewer
      (memory_length node_words (ad_words - node_words) xs ds fits fits' (nodes a) (length a) table)
      (λ lt. memory_stop node_words (ad_words - node_words) xs ds fits fits' (nodes a) (length a) table (omega arith)))

  -- the words of the definitions
  pub stored_behind : (i : ℕ) → i < 3 * length a → get_or (stored_words a) (node_words + i) 0 ≡ get_or (ad_definitions 0 0 a) i 0
  unfolding ds
  stored_behind i h =
      ap (λ (m : List ℕ). get_or m (node_words + i) 0) stored_is ∙ behind node_words (ad_words - node_words) xs ds fits fits' i
      ∙ get_or-append ds _ 0 i (let e = definitions_length table in omega arith)

  stored_ad_formed : Formed (stored_words a)
  stored_ad_formed = record {
    words_room = rw stored_is (let e = memory_long node_words (ad_words - node_words) xs ds fits fits' in omega arith);
    operands_below = λ i h. subst (λ (m : List ℕ). Each (λ y. y < i) (operands m i)) (sym stored_is)
        (memory_operands node_words (ad_words - node_words) xs ds fits fits' (nodes a) block i (rw stored_nodes at h));
    unused_clear = λ i l h. subst (λ (m : List ℕ). kind_at m i ≡ 0) (sym stored_is)
        (memory_end node_words (ad_words - node_words) xs ds fits fits' (nodes a) block i (rw stored_nodes at l) (omega arith));
    roots_in = λ j h. rw stored_nodes (subst (λ (m : List ℕ). root_at m j < nodes a) (sym stored_is)
        (memory_root node_words (ad_words - node_words) xs ds fits fits' (nodes a) (length a) table j (rw stored_definitions at h)));
  }

-- a stored ad within the bounds is well formed
pub stored_formed : {w b : List ℕ} {a : Ad} → StoredAd w b a → Formed w
stored_formed {w} {b} {a} s = subst Formed (sym s.words) (stored_ad_formed a s.few_nodes s.few_definitions s.named)

-- and its counts are those of its tree
pub stored_measured : {w b : List ℕ} {a : Ad} {n d : ℕ} → StoredAd w b a → n ≡ nodes a → d ≡ length a → Measured w n d
stored_measured {w} {b} {a} s e i = record {
  formed = stored_formed s;
  nodes_are = e ∙ sym (ap node_count s.words ∙ stored_nodes a s.few_nodes s.few_definitions s.named);
  definitions_are = i ∙ sym (ap definition_count s.words ∙ stored_definitions a s.few_nodes s.few_definitions s.named);
}

-- two stored ads give a sound graph
pub stored_sound : {v b w c : List ℕ} {x y : Ad} → StoredAd v b x → StoredAd w c y → Sound (pair_graph v b w c)
stored_sound {v} {b} {w} {c} s t = pair_sound v b w c (stored_formed s) (stored_formed t)
