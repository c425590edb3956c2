-- Two well-formed ads give a sound graph. Assumes nothing.
use Rattle.std.specs.Prelude.{◌≡◌, ◌⊎◌, Bool, cond, not, ℕ, ◌+◌, ◌-◌, ◌≤◌, ◌<◌}
use Rattle.std.proofs.Math.Path.{refl, ap}
use Rattle.std.proofs.Common.{sym, ◌∙◌, subst, length-append}
use Rattle.std.proofs.Math.Logic.{inl, inr}
use Rattle.std.proofs.Math.Bool.{true, false}
use Rattle.std.proofs.lemmas.Bool.{false≢true}
use mathlib.Core.List.{List, [], ◌∷◌, ◌++◌, map}
use Rattle.std.proofs.Math.Decide.{dec_lt}
use native.Mathlib.Omega.{arith}
use Rattle.std.proofs.Math.ListN.{length, length-take}
use Rattle.std.proofs.lemmas.List.{length-map}
use Rattle.std.proofs.Math.Dec.{ltb}
use borrow.Author.Tests.{le-ltb, lt-ltb, ltb-true}
use Rattle.text.specs.Laws.Booleans.{and_left}
use Rattle.syntax.specs.Bounds.{max_nodes}
use Rattle.graph.specs.Members.{◌∈◌, here, there, Each}
use Rattle.graph.proofs.Laws.Members.{mem_nil, mem_cons, mem_append, Sides, room_sides}
use Rattle.graph.specs.Graph.{Graph, Node, Sound}
use Rattle.ad.specs.Stored.{kind_at, node_count, definition_count, is_own, is_other, operands, name_at, root_at, find, roots_from}
use Rattle.links.specs.Pair.{numbered, linked, inside, across, links_from, refers_at, both, roots_of, requirements, rank, pair_graph}
use Rattle.links.specs.Inner.Asked.{Formed}
use Rattle.links.specs.Laws.Counting.{nodes_few, roots_each, found_few, found_root, map_from, arity_few}

-- ---- the two sides

module _ {A : Type 0} (p q : ℕ → A) where
  pub both_low : (x : ℕ) → x < max_nodes → both p q x ≡ p x
  unfolding both
  both_low x h = rw (lt-ltb _ _ h) refl

  pub both_high : (x : ℕ) → max_nodes ≤ x → both p q x ≡ q (x - max_nodes)
  unfolding both
  both_high x h = rw (le-ltb _ _ h) refl

-- a fact of each side's nodes is a fact of the pair's
pub both_each : {A : Type 0} (P : ℕ → A → Type 0) (p q : ℕ → A) → ((x : ℕ) → x < max_nodes → P x (p x)) → ((x : ℕ) → P (max_nodes + x) (q x)) → (x : ℕ) → P x (both p q x)
both_each P p q f g x = go (dec_lt x max_nodes)
  where
    go : Dec (x < max_nodes) → P x (both p q x)
    go (yes h) = rw (both_low p q x h) (f x h)
    go (no n) =
        let h : max_nodes ≤ x = let k : ¬ (x < max_nodes) = n in omega arith in
        let e : max_nodes + (x - max_nodes) ≡ x = omega arith in
        rw (both_high p q x h) (subst (λ (u : ℕ). P u (q (x - max_nodes))) e (g (x - max_nodes)))

-- ---- one ad: its links stay in the two ads

pub root_in : (w : List ℕ) → Formed w → (y : ℕ) → y ∈ roots_from w 0 (definition_count w) → y < node_count w
root_in w fw = roots_each w (λ y. y < node_count w) 0 (definition_count w) (λ i h. subst (λ (u : ℕ). root_at w u < node_count w) (let q : i ≡ 0 + i = omega arith in q) (fw.roots_in i h))

module _ (w b w' b' : List ℕ) where
  -- what a fact of a node's links asks: of its operands, of a definition of its own ad, of one of the other
  pub links_each : (P : ℕ → List (Bool × ℕ) → Type 0) → ((i : ℕ) → P i []) →
      ((i : ℕ) → i < node_count w → refers_at w i ≡ true → P i (map inside (find w b (name_at w b i)))) →
      ((i : ℕ) → i < node_count w → refers_at w i ≡ true → P i (map across (find w' b' (name_at w b i)))) →
      ((i : ℕ) → i < node_count w → refers_at w i ≡ false → P i (map inside (operands w i))) → (i : ℕ) → P i (links_from w b w' b' i)
  unfolding links_from refers_at
  links_each P e f g h i = go (ltb i (node_count w)) refl (is_own (kind_at w i)) refl (is_other (kind_at w i)) refl
    where
      go : (s : Bool) → ltb i (node_count w) ≡ s → (o : Bool) → is_own (kind_at w i) ≡ o → (t : Bool) → is_other (kind_at w i) ≡ t →
          P i (cond s (cond o (map inside (find w b (name_at w b i))) (cond t (map across (find w' b' (name_at w b i))) (map inside (operands w i)))) [])
      go false a o c t d = e i
      go true a true c t d = f i (ltb-true _ _ a) (rw (a, c) refl)
      go true a false c true d = g i (ltb-true _ _ a) (rw (a, c, d) refl)
      go true a false c false d = h i (ltb-true _ _ a) (rw (a, c, d) refl)

  operands_few : (i : ℕ) → length (operands w i) ≤ 3
  unfolding operands
  operands_few i = let a = arity_few (kind_at w i) in simp length-take (omega arith)

  links_few : (i : ℕ) → length (links_from w b w' b' i) ≤ 3
  links_few =
      links_each (λ i l. length l ≤ 3) (λ i. omega arith)
      (λ i h r. let a = found_few w b (name_at w b i) in rw (length-map (find w b (name_at w b i)) inside) (omega arith))
      (λ i h r. let a = found_few w' b' (name_at w b i) in rw (length-map (find w' b' (name_at w b i)) across) (omega arith))
      (λ i h r. rw (length-map (operands w i) inside) (operands_few i))

  links_single : (i : ℕ) → refers_at w i ≡ true → length (links_from w b w' b' i) ≤ 1
  links_single =
      links_each (λ i l. refers_at w i ≡ true → length l ≤ 1) (λ i e. omega arith)
      (λ i h r e. rw (length-map (find w b (name_at w b i)) inside) (found_few w b (name_at w b i)))
      (λ i h r e. rw (length-map (find w' b' (name_at w b i)) across) (found_few w' b' (name_at w b i)))
      (λ i h r e. absurd (false≢true (sym r ∙ e)))

  module _ (s : Bool) where
    inside_each : (Q : ℕ → Type 0) (l : List ℕ) → ((y : ℕ) → y ∈ l → Q (numbered s y)) → Each Q (map (linked s) (map inside l))
    inside_each Q [] f x m = absurd (mem_nil m)
    inside_each Q (a ∷ l) f x m = go (λ n. inside_each Q l (λ y k. f y (there k)) x n) (mem_cons m)
      where
        go : (x ∈ map (linked s) (map inside l) → Q x) → (x ≡ numbered s a) ⊎ (x ∈ map (linked s) (map inside l)) → Q x
        go ih (inl e) = subst Q (sym e) (f a (here refl))
        go ih (inr n) = ih n

    across_each : (Q : ℕ → Type 0) (l : List ℕ) → ((y : ℕ) → y ∈ l → Q (numbered (not s) y)) → Each Q (map (linked s) (map across l))
    across_each Q [] f x m = absurd (mem_nil m)
    across_each Q (a ∷ l) f x m = go (λ n. across_each Q l (λ y k. f y (there k)) x n) (mem_cons m)
      where
        go : (x ∈ map (linked s) (map across l) → Q x) → (x ≡ numbered (not s) a) ⊎ (x ∈ map (linked s) (map across l)) → Q x
        go ih (inl e) = subst Q (sym e) (f a (here refl))
        go ih (inr n) = ih n

    -- an operator's links are its operands, which stand below it
    falls_each : Formed w → (i : ℕ) → refers_at w i ≡ false → Each (λ y. y < numbered s i) (map (linked s) (links_from w b w' b' i))
    falls_each fw =
        links_each (λ i l. refers_at w i ≡ false → Each (λ y. y < numbered s i) (map (linked s) l)) (λ i e y m. absurd (mem_nil m))
        (λ i h r e. absurd (false≢true (sym e ∙ r)))
        (λ i h r e. absurd (false≢true (sym e ∙ r)))
        (λ i h r e. inside_each (λ y. y < numbered s i) (operands w i) (λ y m. up s i y (fw.operands_below i h y m)))
      where
        up : (s : Bool) (i y : ℕ) → y < i → numbered s y < numbered s i
        up true i y h = omega arith
        up false i y h = h

    -- a link goes to a stored node
    stays_each : Formed w → Formed w' → (Q : ℕ → Type 0) → ((y : ℕ) → y < node_count w → Q (numbered s y)) →
        ((y : ℕ) → y < node_count w' → Q (numbered (not s) y)) → (i : ℕ) → Each Q (map (linked s) (links_from w b w' b' i))
    stays_each fw fw' Q f g =
        links_each (λ i l. Each Q (map (linked s) l)) (λ i y m. absurd (mem_nil m))
        (λ i h r. inside_each Q (find w b (name_at w b i)) (λ y m. f y (root_in w fw y (found_root w b (name_at w b i) y m))))
        (λ i h r. across_each Q (find w' b' (name_at w b i)) (λ y m. g y (root_in w' fw' y (found_root w' b' (name_at w b i) y m))))
        (λ i h r. inside_each Q (operands w i) (λ y m. f y (let a : y < i = fw.operands_below i h y m in omega arith)))

-- ---- the pair

module _ (v b w c : List ℕ) (fv : Formed v) (fw : Formed w) where
  abbrev G : Graph
  G = pair_graph v b w c

  first_node : (y : ℕ) → y < node_count v → Node G (numbered false y)
  unfolding pair_graph
  first_node y h = both_low _ _ y (let a = nodes_few v in omega arith) ∙ lt-ltb _ _ h

  second_node : (y : ℕ) → y < node_count w → Node G (numbered true y)
  unfolding pair_graph
  second_node y h =
      both_high _ _ (max_nodes + y) (omega arith) ∙ ap (λ (u : ℕ). ltb u (node_count w)) (let q : (max_nodes + y) - max_nodes ≡ y = omega arith in q) ∙ lt-ltb _ _ h

  -- a node is one of the first ad's, or one of the second's
  pub node_sides : (x : ℕ) → Node G x → Sides (node_count v) max_nodes (node_count w) x
  unfolding pair_graph
  node_sides x e = go (dec_lt x max_nodes)
    where
      go : Dec (x < max_nodes) → Sides (node_count v) max_nodes (node_count w) x
      go (yes h) = inl (ltb-true _ _ (sym (both_low _ _ x h) ∙ e))
      go (no n) =
          let h : max_nodes ≤ x = let k : ¬ (x < max_nodes) = n in omega arith in
          let q : x - max_nodes < node_count w = ltb-true _ _ (sym (both_high _ _ x h) ∙ e) in
          inr (h, omega arith)

  sound_nth_in : (i : ℕ) → i < node_count v + node_count w → Node G (G.nth i)
  unfolding pair_graph
  sound_nth_in i h = go (dec_lt i (node_count v))
    where
      go : Dec (i < node_count v) → Node G (cond (ltb i (node_count v)) i (max_nodes + (i - node_count v)))
      go (yes k) = rw (lt-ltb _ _ k) (first_node i k)
      go (no n) =
          let k : node_count v ≤ i = let a : ¬ (i < node_count v) = n in omega arith in
          rw (le-ltb _ _ k) (second_node (i - node_count v) (omega arith))

  sound_nth_all : (x : ℕ) → Node G x → (i : ℕ) × (i < node_count v + node_count w) × (G.nth i ≡ x)
  unfolding pair_graph
  sound_nth_all x e = go (node_sides x e)
    where
      go : Sides (node_count v) max_nodes (node_count w) x → (i : ℕ) × (i < node_count v + node_count w) × (cond (ltb i (node_count v)) i (max_nodes + (i - node_count v)) ≡ x)
      go (inl h) = (x, omega arith, rw (lt-ltb _ _ h) refl)
      go (inr (h, k)) =
          let a : node_count v ≤ node_count v + (x - max_nodes) = omega arith in
          (node_count v + (x - max_nodes), omega arith, rw (le-ltb _ _ a) (let q : max_nodes + ((node_count v + (x - max_nodes)) - node_count v) ≡ x = omega arith in q))

  sound_in_slots : (x : ℕ) → Node G x → x < max_nodes + max_nodes
  sound_in_slots x e = go (node_sides x e)
    where
      go : Sides (node_count v) max_nodes (node_count w) x → x < max_nodes + max_nodes
      go (inl h) = let a = nodes_few v in omega arith
      go (inr (h, k)) = let a = nodes_few w in omega arith

  sound_links_in : (x : ℕ) → Each (Node G) (G.links x)
  unfolding pair_graph
  sound_links_in =
      both_each (λ x l. Each (Node G) l) _ _ (λ x h. stays_each v b w c false fv fw (Node G) first_node second_node x)
      (λ x. stays_each w c v b true fw fv (Node G) second_node first_node x)

  sound_few : (x : ℕ) → length (G.links x) ≤ 3
  unfolding pair_graph
  sound_few =
      both_each (λ x l. length l ≤ 3) (λ i. map (linked false) (links_from v b w c i)) (λ i. map (linked true) (links_from w c v b i)) (λ x h. rw (length-map (links_from v b w c x) (linked false)) (links_few v b w c x))
      (λ x. rw (length-map (links_from w c v b x) (linked true)) (links_few w c v b x))

  -- what is said of a node's links where it is a reference, or is none
  ref_each : (P : ℕ → List ℕ → Type 0) (r : Bool) →
      ((i : ℕ) → refers_at v i ≡ r → P i (map (linked false) (links_from v b w c i))) →
      ((i : ℕ) → refers_at w i ≡ r → P (max_nodes + i) (map (linked true) (links_from w c v b i))) →
      (x : ℕ) → G.ref x ≡ r → P x (G.links x)
  unfolding pair_graph
  ref_each P r f g x e = go (dec_lt x max_nodes)
    where
      go : Dec (x < max_nodes) → P x (both (λ i. map (linked false) (links_from v b w c i)) (λ i. map (linked true) (links_from w c v b i)) x)
      go (yes h) = rw (both_low (λ i. map (linked false) (links_from v b w c i)) (λ i. map (linked true) (links_from w c v b i)) x h) (f x (sym (both_low _ _ x h) ∙ e))
      go (no n) =
          let h : max_nodes ≤ x = let k : ¬ (x < max_nodes) = n in omega arith in
          let q : max_nodes + (x - max_nodes) ≡ x = omega arith in
          rw (both_high (λ i. map (linked false) (links_from v b w c i)) (λ i. map (linked true) (links_from w c v b i)) x h)
          (subst (λ (u : ℕ). P u (map (linked true) (links_from w c v b (x - max_nodes)))) q (g (x - max_nodes) (sym (both_high _ _ x h) ∙ e)))

  sound_refs_in : (x : ℕ) → G.ref x ≡ true → Node G x
  unfolding pair_graph refers_at
  sound_refs_in x e = go (dec_lt x max_nodes)
    where
      go : Dec (x < max_nodes) → both (λ i. ltb i (node_count v)) (λ i. ltb i (node_count w)) x ≡ true
      go (yes h) = both_low _ _ x h ∙ and_left _ _ (sym (both_low _ _ x h) ∙ e)
      go (no n) =
          let h : max_nodes ≤ x = let k : ¬ (x < max_nodes) = n in omega arith in
          both_high _ _ x h ∙ and_left _ _ (sym (both_high _ _ x h) ∙ e)

  append_each : (l m : List ℕ) → Each (Node G) l → Each (Node G) m → Each (Node G) (l ++ m)
  append_each l m f g x k = go (mem_append l k)
    where
      go : (x ∈ l) ⊎ (x ∈ m) → Node G x
      go (inl n) = f x n
      go (inr n) = g x n

  first_roots : (name : List ℕ) → Each (Node G) (roots_of false v b name)
  first_roots name = map_from (numbered false) (Node G) (find v b name) (λ y m. first_node y (root_in v fv y (found_root v b name y m)))

  second_roots : (name : List ℕ) → Each (Node G) (roots_of true w c name)
  second_roots name = map_from (numbered true) (Node G) (find w c name) (λ y m. second_node y (root_in w fw y (found_root w c name y m)))

  sound_roots_in : Each (Node G) G.roots
  unfolding pair_graph
  sound_roots_in =
      append_each _ _ (first_roots requirements)
      (append_each _ _ (second_roots requirements) (append_each _ _ (first_roots rank) (second_roots rank)))

  sound_roots_few : length G.roots ≤ 4
  unfolding pair_graph
  sound_roots_few = four (roots_of false v b requirements) (roots_of true w c requirements) (roots_of false v b rank) (roots_of true w c rank) (few false v b requirements) (few true w c requirements) (few false v b rank) (few true w c rank)
    where
      few : (s : Bool) (u d name : List ℕ) → length (roots_of s u d name) ≤ 1
      few s u d name = rw (length-map (find u d name) (numbered s)) (found_few u d name)

      four : (k l m n : List ℕ) → length k ≤ 1 → length l ≤ 1 → length m ≤ 1 → length n ≤ 1 → length (k ++ (l ++ (m ++ n))) ≤ 4
      four k l m n p q r s = simp length-append (omega arith)

  -- THE SOUNDNESS of the graph of two well-formed ads
  pub pair_sound : Sound (pair_graph v b w c)
  unfolding pair_graph
  pair_sound = record {
    room = λ l d e. room_sides (node_count v) max_nodes (node_count w) l d (λ x m. node_sides x (e x m));
    in_slots = sound_in_slots;
    nth_in = sound_nth_in;
    nth_all = sound_nth_all;
    links_in = sound_links_in;
    few = sound_few;
    rank = λ x. x;
    falls = λ x y r m. ref_each (λ x l. Each (λ y. y < x) l) false (falls_each v b w c false fv) (falls_each w c v b true fw) x r y m;
    refs_in = sound_refs_in;
    single = ref_each (λ x l. length l ≤ 1) true
        (λ i r. rw (length-map (links_from v b w c i) (linked false)) (links_single v b w c i r))
        (λ i r. rw (length-map (links_from w c v b i) (linked true)) (links_single w c v b i r));
    roots_in = sound_roots_in;
    roots_few = sound_roots_few;
  }
