-- The memory of an ad, stored one definition after the other, and its names found again. Assumes nothing.
use Prim.Native.Nat.{ℕ, suc, ◌+◌, ◌-◌, ◌*◌, ◌≤◌, ◌<◌}
use native.Mathlib.Omega.{arith}
use mathlib.Core.Path.{◌≡◌, refl, sym, ◌∙◌, ap}
use mathlib.Core.List.{List, [], ◌∷◌, ◌++◌, append_assoc, append-nil}
use lib.ListN.{length, set, take, drop, length-append, length-take}
use lib.Seq.{sets, set_comm, sets-eq, length-sets, drop_at}
use Rattle.leaves.proofs.Laws.{stores, marks}
use Rattle.ad.specs.Laws.Content.{length_ad, length_entries, length_nodes}
use Rattle.text.specs.Parts.{sets_append}
use Rattle.syntax.specs.Tree.{Expr, Definition, Ad, size, nodes}
use Rattle.syntax.specs.Grammar.{defined}
use Rattle.ad.specs.Layout.{expr_nodes, expr_bytes, ad_nodes, ad_definitions, ad_bytes}
use Rattle.ad.specs.Inner.Names.{defined_in}
use Rattle.ad.specs.Laws.Names.{names_in}
use Rattle.leaves.specs.Inner.Marks.{Mark, mark, Memory, memory}
use Rattle.definition_reader.specs.Inner.Post.{stored_in, Holds, one}

-- ---- one definition more

pub nodes_more : (a : Ad) (d : Definition) → nodes (a ++ d ∷ []) ≡ nodes a + size d.expression
unfolding nodes
nodes_more [] d = omega arith
nodes_more (x ∷ a) d = let h = nodes_more a d in omega arith

bytes_more : (a : Ad) (d : Definition) → ad_bytes (a ++ d ∷ []) ≡ ad_bytes a ++ (d.name ++ expr_bytes d.expression)
unfolding ad_bytes
bytes_more [] d = ap (◌++◌ d.name) (append-nil (expr_bytes d.expression))
bytes_more (x ∷ a) d = rw (bytes_more a d) (sym (append_assoc x.name (expr_bytes x.expression ++ ad_bytes a) (d.name ++ expr_bytes d.expression) ∙ ap (◌++◌ x.name) (append_assoc (expr_bytes x.expression) (ad_bytes a) (d.name ++ expr_bytes d.expression))))

length_more :
    (a : Ad) (d : Definition) → length (ad_bytes (a ++ d ∷ [])) ≡ length (ad_bytes a) + length
    d.name + length (expr_bytes d.expression)
length_more a d = ap length (bytes_more a d) ∙ simp length-append (omega arith)

numbers : {n n' o o' : ℕ} (e : Expr) → n ≡ n' → o ≡ o' → expr_nodes n o e ≡ expr_nodes n' o' e
numbers e p q = λ i. expr_nodes (p i) (q i) e

nodes_stored :
    (n o : ℕ) (a : Ad) (d : Definition) → ad_nodes n o (a ++ d ∷ []) ≡ ad_nodes n o a ++ expr_nodes
    (n + nodes a) (o + length (ad_bytes a) + length d.name) d.expression
unfolding ad_nodes nodes ad_bytes
nodes_stored n o [] d = append-nil _ ∙ numbers d.expression (omega arith) (omega arith)
nodes_stored n o (x ∷ a) d =
    let e = x.expression in
    let h = nodes_stored (n + size e) (o + length x.name + length (expr_bytes e)) a d in
    let l : length (x.name ++ (expr_bytes e ++ ad_bytes a)) ≡ length x.name + (length (expr_bytes e) + length (ad_bytes a)) = simp length-append in
    let i : n + size e + nodes a ≡ n + (size e + nodes a) = omega arith in
    let j : o + length x.name + length (expr_bytes e) + length (ad_bytes a) + length d.name ≡ o + length (x.name ++ (expr_bytes e ++ ad_bytes a)) + length d.name = omega arith in
    ap (◌++◌ (expr_nodes n (o + length x.name) e)) (h ∙ ap (◌++◌ (ad_nodes (n + size e) (o + length x.name + length (expr_bytes e)) a)) (numbers d.expression i j))
    ∙ sym (append_assoc (expr_nodes n (o + length x.name) e) (ad_nodes (n + size e) (o + length x.name + length (expr_bytes e)) a) (expr_nodes (n + (size e + nodes a)) (o + length (x.name ++ (expr_bytes e ++ ad_bytes a)) + length d.name) d.expression))

-- a definition's three words
abbrev entry : ℕ → ℕ → ℕ → List ℕ
entry o l r = o ∷ l ∷ r ∷ []

entries : {o o' r r' : ℕ} (l : ℕ) → o ≡ o' → r ≡ r' → entry o l r ≡ entry o' l r'
entries l p q = λ i. entry (p i) l (q i)

definitions_stored :
    (n o : ℕ) (a : Ad) (d : Definition) → ad_definitions n o (a ++ d ∷ []) ≡ ad_definitions n o a ++
    entry (o + length (ad_bytes a)) (length d.name) (n + nodes a + size d.expression - 1)
unfolding ad_definitions nodes ad_bytes
definitions_stored n o [] d = entries (length d.name) (omega arith) (omega arith)
definitions_stored n o (x ∷ a) d =
    let e = x.expression in
    let h = definitions_stored (n + size e) (o + length x.name + length (expr_bytes e)) a d in
    let l : length (x.name ++ (expr_bytes e ++ ad_bytes a)) ≡ length x.name + (length (expr_bytes e) + length (ad_bytes a)) = simp length-append in
    let i : n + size e + nodes a + size d.expression - 1 ≡ n + (size e + nodes a) + size d.expression - 1 = omega arith in
    let j : o + length x.name + length (expr_bytes e) + length (ad_bytes a) ≡ o + length (x.name ++ (expr_bytes e ++ ad_bytes a)) = omega arith in
    ap (λ (r : List ℕ). o ∷ length x.name ∷ (n + size e - 1) ∷ r) (h ∙ ap (◌++◌ (ad_definitions (n + size e) (o + length x.name + length (expr_bytes e)) a)) (entries (length d.name) j i))

-- ---- stores that do not meet

set_sets : (ys l : List ℕ) (i j x : ℕ) → i < j → set (sets l j ys) i x ≡ sets (set l i x) j ys
set_sets [] l i j x h = refl
set_sets (y ∷ ys) l i j x h = set_sets ys (set l j y) i (suc j) x (omega arith) ∙ ap (λ (z : List ℕ). sets z (suc j) ys) (set_comm l j i y x (λ e. omega arith))

sets_comm : (xs ys l : List ℕ) (i j : ℕ) → i + length xs ≤ j → sets (sets l j ys) i xs ≡ sets (sets l i xs) j ys
sets_comm [] ys l i j h = refl
sets_comm (x ∷ xs) ys l i j h = ap (λ (z : List ℕ). sets z (suc i) xs) (set_sets ys l i j x (omega arith)) ∙ sets_comm xs ys (set l i x) (suc i) j (omega arith)

module _ (d : ℕ) (m : Mark) (w v : Memory) (a : Ad) (H : Holds d m w v a) (name : List ℕ) (e : Expr) (n k : ℕ) (hn : mark n k ≡ mark (m.nodes + size e) (m.bytes + length name + length (expr_bytes e))) (fit : n ≤ 1024) (hk : k ≤ length v.bytes) where
  node_count_lem : n ≡ m.nodes + size e
  node_count_lem = ap (λ (z : Mark). z.nodes) hn

  byte_count : k ≡ m.bytes + length name + length (expr_bytes e)
  byte_count = ap (λ (z : Mark). z.bytes) hn

  at_nodes : m.nodes ≡ nodes a
  at_nodes = ap (λ (z : Mark). z.nodes) H.mark_of

  at_bytes : m.bytes ≡ length (ad_bytes a)
  at_bytes = ap (λ (z : Mark). z.bytes) H.mark_of

  D : Definition
  D = record { name = name; expression = e }

  more_words : (w₁ w₂ : List ℕ) → w₁ ≡ sets w.words (4 * m.nodes) (expr_nodes m.nodes (m.bytes + length name) e) → w₂ ≡ sets w₁ (4096 + 3 * d) (entry m.bytes (length name) (n - 1)) → w₂ ≡ (stored_in v (a ++ one name e)).words
  unfolding D
  more_words w₁ w₂ h₁ h₂ =
      let N = ad_nodes 0 0 a in
      let X = expr_nodes (nodes a) (length (ad_bytes a) + length name) e in
      let T = entry (length (ad_bytes a)) (length name) (nodes a + size e - 1) in
      let l_n = length_ad 0 0 a in
      let l_d = length_entries 0 0 a in
      let z₁ : 0 + nodes a ≡ nodes a = omega arith in
      let z₂ : 0 + length (ad_bytes a) + length name ≡ length (ad_bytes a) + length name = omega arith in
      let z₃ : 0 + length (ad_bytes a) ≡ length (ad_bytes a) = omega arith in
      let z₄ : 0 + nodes a + size e - 1 ≡ nodes a + size e - 1 = omega arith in
      let c₁ : 0 + length N ≡ 4 * nodes a = omega arith in
      let c₂ : 4096 + length (ad_definitions 0 0 a) ≡ 4096 + 3 * length a = omega arith in
      let s₁ : w.words ≡ sets (sets v.words 0 N) 4096 (ad_definitions 0 0 a) = ap (λ (z : Memory). z.words) H.memory_of in
      let g₁ : ad_nodes 0 0 (a ++ one name e) ≡ N ++ X = nodes_stored 0 0 a D ∙ ap (◌++◌ N) (numbers e z₁ z₂) in
      let g₂ : ad_definitions 0 0 (a ++ one name e) ≡ ad_definitions 0 0 a ++ T = definitions_stored 0 0 a D ∙ ap (◌++◌ (ad_definitions 0 0 a)) (entries (length name) z₃ z₄) in
      let u : sets v.words 0 (N ++ X) ≡ sets (sets v.words 0 N) (4 * nodes a) X = sets_append N X v.words 0 ∙ ap (λ (i : ℕ). sets (sets v.words 0 N) i X) c₁ in
      let t : sets (sets v.words 0 (N ++ X)) 4096 (ad_definitions 0 0 a ++ T) ≡ sets (sets (sets (sets v.words 0 N) (4 * nodes a) X) 4096 (ad_definitions 0 0 a)) (4096 + 3 * length a) T = rw u (sets_append (ad_definitions 0 0 a) T (sets (sets v.words 0 N) (4 * nodes a) X) 4096 ∙ ap (λ (i : ℕ). sets (sets (sets (sets v.words 0 N) (4 * nodes a) X) 4096 (ad_definitions 0 0 a)) i T) c₂) in
      let f : 4 * nodes a + length X ≤ 4096 = omega (arith, length_nodes (nodes a) (length (ad_bytes a) + length name) e, node_count_lem, at_nodes) in
      let r : nodes a + size e - 1 ≡ n - 1 = omega (arith, node_count_lem, at_nodes) in
      let y : sets w₁ (4096 + 3 * d) (entry m.bytes (length name) (n - 1)) ≡ sets (sets v.words 0 (N ++ X)) 4096 (ad_definitions 0 0 a ++ T) = rw (h₁, s₁, at_nodes, at_bytes, H.count, ← r, sets_comm X (ad_definitions 0 0 a) (sets v.words 0 N) (4 * nodes a) 4096 f) (sym t) in
      let z : sets (sets v.words 0 (ad_nodes 0 0 (a ++ one name e))) 4096 (ad_definitions 0 0 (a ++ one name e)) ≡ sets (sets v.words 0 (N ++ X)) 4096 (ad_definitions 0 0 a ++ T) = rw (g₁, g₂) refl in
      h₂ ∙ (y ∙ sym z)

  more_bytes : (b₁ b₂ : List ℕ) → b₁ ≡ sets w.bytes m.bytes name → b₂ ≡ sets b₁ (m.bytes + length name) (expr_bytes e) → b₂ ≡ (stored_in v (a ++ one name e)).bytes
  unfolding D
  more_bytes b₁ b₂ h₁ h₂ =
      let B = ad_bytes a in
      let s₁ : w.bytes ≡ sets v.bytes 0 B = ap (λ (z : Memory). z.bytes) H.memory_of in
      let c : 0 + length B ≡ length B = omega arith in
      let t : sets v.bytes 0 (B ++ (name ++ expr_bytes e)) ≡ sets (sets (sets v.bytes 0 B) (length B) name) (length B + length name) (expr_bytes e) = sets_append B (name ++ expr_bytes e) v.bytes 0 ∙ (rw c (sets_append name (expr_bytes e) (sets v.bytes 0 B) (length B))) in
      let y : sets b₁ (m.bytes + length name) (expr_bytes e) ≡ sets v.bytes 0 (B ++ (name ++ expr_bytes e)) = rw (h₁, s₁, at_bytes) (sym t) in
      h₂ ∙ (y ∙ sym (ap (sets v.bytes 0) (bytes_more a D)))

  -- the ad with one definition more is stored
  pub holds_more : (w₁ w₂ b₁ b₂ : List ℕ) → w₁ ≡ sets w.words (4 * m.nodes) (expr_nodes m.nodes (m.bytes + length name) e) → w₂ ≡ sets w₁ (4096 + 3 * d) (entry m.bytes (length name) (n - 1)) → b₁ ≡ sets w.bytes m.bytes name → b₂ ≡ sets b₁ (m.bytes + length name) (expr_bytes e) → Holds (d + 1) (mark n k) (memory w₂ b₂) v (a ++ one name e)
  unfolding D
  holds_more w₁ w₂ b₁ b₂ h₁ h₂ h₃ h₄ = record {
    count = simp length-append (omega (arith, H.count));
    mark_of = marks (omega (arith, node_count_lem, at_nodes, nodes_more a D)) (omega (arith, byte_count, at_bytes, length_more a D));
    memory_of = stores (more_words w₁ w₂ h₁ h₂) (more_bytes b₁ b₂ h₃ h₄);
    short = hk;
  }

-- ---- names found again

pub names_found : (d : ℕ) (m : Mark) (w v : Memory) (a : Ad) → Holds d m w v a → d ≤ 256 → 4864 ≤ length w.words → m.bytes ≤ length w.bytes → (name : List ℕ) → defined_in w.words w.bytes name 0 d ≡ defined name a
names_found d m w v a H hd hw hb name =
    let N = ad_nodes 0 0 a in
    let l = sets v.words 0 N in
    let s₁ : w.words ≡ sets l 4096 (ad_definitions 0 0 a) = ap (λ (z : Memory). z.words)
    H.memory_of in
    let s₂ : w.bytes ≡ sets v.bytes 0 (ad_bytes a) = ap (λ (z : Memory). z.bytes)
    H.memory_of in
    let l_d = length_entries 0 0 a in
    let e₁ : length w.words ≡ length l = ap length s₁
    ∙ length-sets l 4096 (ad_definitions 0 0 a) in
    let e₂ : length w.bytes ≡ length v.bytes = ap length s₂
    ∙ length-sets v.bytes 0 (ad_bytes a) in
    let b₀ : m.bytes ≡ length (ad_bytes a) = ap (λ (z : Mark). z.bytes) H.mark_of in
    let f₁ : 4096 + length (ad_definitions 0 0 a) ≤ length l = omega (arith, H.count) in
    let f₂ : 0 + length (ad_bytes a) ≤ length v.bytes = omega arith in
    let t₁ = s₁ ∙ sets-eq (ad_definitions 0 0 a) l 4096 f₁ in
    let t₂ = s₂ ∙ sets-eq (ad_bytes a) v.bytes 0 f₂ in
    let lt : length (take 4096 l) ≡ 4096 + 3 * 0 = omega (arith, length-take 4096 l) in
    rw H.count (names_in w.words w.bytes name 0 0 0 a
    (drop (4096 + length (ad_definitions 0 0 a)) l) (drop (0 + length (ad_bytes a)) v.bytes) (ap
    (drop (4096 + 3 * 0)) (t₁
    ∙ append_assoc (take 4096 l) (ad_definitions 0 0 a)
    (drop (4096 + length (ad_definitions 0 0 a)) l))
    ∙ drop_at (take 4096 l) (ad_definitions 0 0 a ++ drop (4096 + length (ad_definitions 0 0 a)) l)
    (4096 + 3 * 0) lt) t₂)
