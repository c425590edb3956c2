-- The graph of two stored ads is the graph of their trees. Assumes nothing.
use Rattle.std.specs.Prelude.{ℕ, ◌+◌, ◌-◌, ◌≤◌, ◌<◌, ◌≡◌, refl, ◌≢◌, Bool, true, ◌&&◌, ◌||◌, length, ltb}
use native.Mathlib.Omega.{arith}
use Rattle.std.proofs.Math.Decide.{dec_lt}
use Rattle.std.proofs.Math.Path.{sym, ap}
use Rattle.std.proofs.Common.{ap₂, ◌∙◌}
use Rattle.std.proofs.Math.Bool.{false, cond}
use mathlib.Core.List.{List, [], ◌++◌, map}
use Rattle.std.proofs.Math.ListN.{get_or, get_or-eq_default}
use Rattle.std.proofs.lemmas.List.{length-map, get_or-map}
use borrow.Author.Tests.{le-ltb, lt-ltb, ne_eqb}
use Rattle.syntax.specs.Bounds.{max_nodes}
use Rattle.syntax.specs.Tree.{Literal, undefined, error, boolean, integer, real, string, own, other, Ad, nodes}
use Rattle.syntax.specs.declared.Binary.{Binary}
use Rattle.syntax.specs.declared.Unary.{Unary}
use Rattle.ad.specs.Layout.{unary_kind, binary_kind, scope_kind, literal_node}
use Rattle.ad.specs.Laws.Content.{unary_range, binary_high}
use Rattle.ad.specs.Stored.{kind_at, node_count, operands, name_at, is_own, is_other, find}
use Rattle.ad.specs.Stored as stored
use Rattle.links.specs.Pair.{inside, across, linked, links_from, refers_at, numbered, both, requirements, rank, definition_at, pair_graph, StoredAd}
use Rattle.links.specs.Laws.Layout.{stored_nodes}
use Rattle.links.specs.Laws.Finding.{find_tree}
use Rattle.trees.specs.Nodes.{Node, leaf, refers, of_one, of_two, of_three, nodes_in, nth_node, operands_of, words_of, Says}
use Rattle.trees.specs.Links.{leads, is_reference, leads_from, is_reference_at, tree_graph}
use Rattle.trees.proofs.Laws.Stored.{length_in, stored_node, said_name}

-- ---- a list by its index

pub map_at : {A B : Type 0} (f : A → B) (l : List A) (i : ℕ) (d : A) (e : B) → i < length l → get_or (map f l) i e ≡ f (get_or l i d)
map_at = get_or-map

map_out : {A B : Type 0} (f : A → B) (l : List A) (i : ℕ) (e : B) → length l ≤ i → get_or (map f l) i e ≡ e
map_out f l i e h = get_or-eq_default (map f l) e (rw (length-map l f) h)

-- ---- the kinds

-- no literal has the kind of a reference
literal_kind : (o : ℕ) (l : Literal) → get_or (literal_node o l) 0 0 < 7
unfolding literal_node
literal_kind o undefined = omega arith
literal_kind o error = omega arith
literal_kind o (boolean b) = omega arith
literal_kind o (integer n) = omega arith
literal_kind o (real n places) = omega arith
literal_kind o (string l) = omega arith

-- what is taken of a node, by its kind
abbrev choice : {A : Type 0} → ℕ → A → A → A → A
choice k p q r = cond (is_own k) p (cond (is_other k) q r)

choice_none : {A : Type 0} (k : ℕ) (p q r : A) → k ≢ 7 → k ≢ 8 → choice k p q r ≡ r
choice_none k p q r f g = rw (ne_eqb _ _ f, ne_eqb _ _ g) refl

module _ {w b : List ℕ} {i : ℕ} {A : Type 0} (p q r : A) where
  kind_is : {t : Node} (s : Says w b i t) → kind_at w i ≡ get_or (words_of s.place t) 0 0
  kind_is s = ap (λ (l : List ℕ). get_or l 0 0) s.words

  chosen_leaf : {l : Literal} → Says w b i (leaf l) → choice (kind_at w i) p q r ≡ r
  unfolding words_of
  chosen_leaf {l} s =
      let e : kind_at w i ≡ get_or (literal_node s.place l) 0 0 = kind_is s in
      let h = literal_kind s.place l in
      choice_none (kind_at w i) p q r (λ z. omega arith) (λ z. omega arith)

  chosen_own : {name : List ℕ} → Says w b i (refers own name) → choice (kind_at w i) p q r ≡ p
  unfolding words_of scope_kind
  chosen_own s = ap (λ (k : ℕ). choice k p q r) (kind_is s)

  chosen_other : {name : List ℕ} → Says w b i (refers other name) → choice (kind_at w i) p q r ≡ q
  unfolding words_of scope_kind
  chosen_other s = ap (λ (k : ℕ). choice k p q r) (kind_is s)

  chosen_one : {u : Unary} {x : ℕ} → Says w b i (of_one u x) → choice (kind_at w i) p q r ≡ r
  unfolding words_of
  chosen_one {u} {x} s =
      let e : kind_at w i ≡ unary_kind u = kind_is s in
      let h = unary_range u in
      choice_none (kind_at w i) p q r (λ z. omega arith) (λ z. omega arith)

  chosen_two : {j : Binary} {x y : ℕ} → Says w b i (of_two j x y) → choice (kind_at w i) p q r ≡ r
  unfolding words_of
  chosen_two {j} {x} {y} s =
      let e : kind_at w i ≡ binary_kind j = kind_is s in
      let h = binary_high j in
      choice_none (kind_at w i) p q r (λ z. omega arith) (λ z. omega arith)

  chosen_three : {x y z : ℕ} → Says w b i (of_three x y z) → choice (kind_at w i) p q r ≡ r
  unfolding words_of
  chosen_three {x} {y} {z} s =
      let e : kind_at w i ≡ 12 = kind_is s in
      choice_none (kind_at w i) p q r (λ z. omega arith) (λ z. omega arith)

-- ---- one ad

module _ {w b w' b' : List ℕ} {a a' : Ad} (s : StoredAd w b a) (s' : StoredAd w' b' a') where
  pub counted : node_count w ≡ nodes a
  counted = ap node_count s.words ∙ stored_nodes a s.few_nodes s.few_definitions s.named

  -- of one node
  links_said : (i : ℕ) (t : Node) → Says w b i t →
      choice (kind_at w i) (map inside (find w b (name_at w b i))) (map across (find w' b' (name_at w b i))) (map inside (operands w i)) ≡ leads a a' t
  unfolding leads operands_of
  links_said i (leaf l) t = chosen_leaf _ _ _ t ∙ ap (map inside) t.operands_are
  links_said i (refers own name) t = chosen_own _ _ _ t ∙ ap (map inside) (find_tree s (name_at w b i) ∙ ap (λ (l : List ℕ). definition_at 0 l a) (said_name t))
  links_said i (refers other name) t = chosen_other _ _ _ t ∙ ap (map across) (find_tree s' (name_at w b i) ∙ ap (λ (l : List ℕ). definition_at 0 l a') (said_name t))
  links_said i (of_one u x) t = chosen_one _ _ _ t ∙ ap (map inside) t.operands_are
  links_said i (of_two j x y) t = chosen_two _ _ _ t ∙ ap (map inside) t.operands_are
  links_said i (of_three x y z) t = chosen_three _ _ _ t ∙ ap (map inside) t.operands_are

  -- WHAT NODE i OF A STORED AD LEADS TO IS WHAT THE i-TH NODE OF ITS TREE LEADS TO
  pub links_tree : (i : ℕ) → links_from w b w' b' i ≡ leads_from a a' i
  unfolding links_from leads_from
  links_tree i = go (dec_lt i (nodes a))
    where
      go : Dec (i < nodes a) →
          cond (ltb i (node_count w)) (choice (kind_at w i) (map inside (find w b (name_at w b i))) (map across (find w' b' (name_at w b i))) (map inside (operands w i))) [] ≡
          get_or (map (leads a a') (nodes_in 0 a)) i []
      go (yes h) =
          rw (counted, lt-ltb _ _ h) (links_said i (nth_node a i) (stored_node s i h))
          ∙ sym (map_at (leads a a') (nodes_in 0 a) i (leaf undefined) [] (let e = length_in 0 a in omega arith))
      go (no n) =
          let k : ¬ (i < nodes a) = n in
          let h : nodes a ≤ i = omega arith in
          rw (counted, le-ltb _ _ h) (sym (map_out (leads a a') (nodes_in 0 a) i [] (let e = length_in 0 a in omega arith)))

module _ {w b : List ℕ} {a : Ad} (s : StoredAd w b a) where
  refers_choice : (k : ℕ) → stored.is_reference k ≡ choice k true true false
  refers_choice k = go (is_own k) (is_other k)
    where
      go : (x y : Bool) → (x || y) ≡ cond x true (cond y true false)
      go true y = refl
      go false true = refl
      go false false = refl

  ref_said : (i : ℕ) (t : Node) → Says w b i t → choice (kind_at w i) true true false ≡ is_reference t
  unfolding is_reference
  ref_said i (leaf l) t = chosen_leaf _ _ _ t
  ref_said i (refers own name) t = chosen_own _ _ _ t
  ref_said i (refers other name) t = chosen_other _ _ _ t
  ref_said i (of_one u x) t = chosen_one _ _ _ t
  ref_said i (of_two j x y) t = chosen_two _ _ _ t
  ref_said i (of_three x y z) t = chosen_three _ _ _ t

  refers_tree : (i : ℕ) → refers_at w i ≡ is_reference_at a i
  unfolding refers_at is_reference_at
  refers_tree i = go (dec_lt i (nodes a))
    where
      go : Dec (i < nodes a) → (ltb i (node_count w) && stored.is_reference (kind_at w i)) ≡ get_or (map is_reference (nodes_in 0 a)) i false
      go (yes h) =
          rw (counted s s, lt-ltb _ _ h) (refers_choice (kind_at w i) ∙ ref_said i (nth_node a i) (stored_node s i h))
          ∙ sym (map_at is_reference (nodes_in 0 a) i (leaf undefined) false (let e = length_in 0 a in omega arith))
      go (no n) =
          let k : ¬ (i < nodes a) = n in
          let h : nodes a ≤ i = omega arith in
          rw (counted s s, le-ltb _ _ h) (sym (map_out is_reference (nodes_in 0 a) i false (let e = length_in 0 a in omega arith)))

-- ---- THE THEOREM

-- THE GRAPH OF TWO STORED ADS IS THAT OF THEIR TREES: so whatever is said of it, as what is circular, what a node needs and what the
-- list is, is said of the trees
pub pair_tree : {v b w c : List ℕ} {a a' : Ad} → StoredAd v b a → StoredAd w c a' → pair_graph v b w c ≡ tree_graph a a'
unfolding pair_graph tree_graph
pair_tree {v} {b} {w} {c} {a} {a'} s s' = λ i. record {
  size = ap₂ ◌+◌ p q i;
  node = both (λ x. ltb x (p i)) (λ x. ltb x (q i));
  slots = max_nodes + max_nodes;
  nth = λ x. cond (ltb x (p i)) x (max_nodes + (x - p i));
  links = both (λ x. map (linked false) (links_tree s s' x i)) (λ x. map (linked true) (links_tree s' s x i));
  ref = both (λ x. refers_tree s x i) (λ x. refers_tree s' x i);
  roots = map (numbered false) (find_tree s requirements i) ++ (map (numbered true) (find_tree s' requirements i) ++ (map (numbered false) (find_tree s rank i) ++ map (numbered true) (find_tree s' rank i)));
}
  where
    p : node_count v ≡ nodes a
    p = counted s s'

    q : node_count w ≡ nodes a'
    q = counted s' s
