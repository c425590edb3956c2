-- The two ads exchanged: a finished match keeps its verdict, and the ranks change places. Assumes nothing.
use Rattle.std.specs.Prelude.{ℕ, zero, suc, ◌+◌, ◌-◌, ◌%◌, ◌^◌, ◌≤◌, ◌<◌, ◌≡◌, refl, Bool, cond, not, ◌&&◌, length, eqb, ltb}
use Rattle.std.proofs.Math.Decide.{dec_lt}
use native.Mathlib.Omega.{arith}
use Rattle.std.proofs.Common.{sym, ap₂, ◌∙◌, subst, le-ltb, lt-ltb}
use Rattle.std.proofs.Math.Path.{ap}
use Rattle.std.proofs.Math.Bool.{true, false}
use mathlib.Core.List.{List, [], ◌∷◌, map}
use Rattle.syntax.specs.Bounds.{max_nodes}
use Rattle.ad.specs.Stored.{kind_at, operand_at, arity, unary_of, binary_of, is_reference, operands, name_at, find}
use Rattle.graph.specs.Members.{◌∈◌, here, there, Each}
use Rattle.graph.specs.Graph.{Node, Flags, needs}
use Rattle.links.specs.Pair.{numbered, linked, inside, across, links_from, refers_at, both, roots_of, requirements, rank, pair_graph}
use Rattle.links.specs.Inner.Asked.{Formed}
use Rattle.links.specs.Laws.Counting.{nodes_few, found_root}
use Rattle.links.specs.Laws.Soundness.{both_low, both_high, root_in, links_each, pair_sound}
use Rattle.values.specs.declared.Value.{Value}
use Rattle.values.specs.declared.Value.TheVariants.{Undefined, Error, Boolean, Integer, Real, String}
use Rattle.values.specs.Values.{turned}
use Rattle.integers.specs.Integers.{width}
use Rattle.reals.specs.Reals.{stored_real}
use Rattle.operators.specs.Laws.Exchange.{binary_exchange, unary_exchange, conditional_exchange}
use Rattle.nodes.specs.declared.Node as kind
use Rattle.nodes.specs.declared.Node.TheVariants.{Constant, Reference, OfOne, OfTwo, Conditional}
use Rattle.nodes.specs.Nodes.{constant_of, node_of, applied, value_in}
use Rattle.valuation.specs.Gives.{Gives}
use Rattle.valuation.proofs.Laws.Values.{gives_unique}
use Rattle.valuation.proofs.Laws.Transfer.{Alike, anil, acons, Embeds, carries, gives_goes, mem_map, map_mem}
use Rattle.valuation.proofs.Laws.Exchange.{list_exchanged}
use Rattle.evaluation.specs.Evaluation.{node_from, node_at, rule_at}
use Rattle.verdict.specs.Verdict.{is_true, rank_of}
use Rattle.matching.specs.Matching.{Worth, absent, present, Concluded, Match}
use Rattle.matching.proofs.Laws.Concluding.{roots_first, roots_second, ranks_first, ranks_second, roots_from_lem}
use Rattle.matching.specs.declared.Outcome.{Outcome}
use Rattle.matching.specs.declared.Outcome.TheVariants.{Finished, Unfinished}

-- what a match answers, and what it answers with the two ads exchanged; the counts of transitions may differ
pub data Exchanged : Outcome → Outcome → Type 0 where
  finished : {o o' : Outcome} {matched : Bool} {i j steps count count' : ℕ} → o ≡ Finished matched i j steps count → o' ≡ Finished matched j i steps count' → Exchanged o o'
  unfinished : {o o' : Outcome} {steps count count' : ℕ} → o ≡ Unfinished steps count → o' ≡ Unfinished steps count' → Exchanged o o'

-- ---- the sides change places

-- the node of the same ad where that is lent on the other side
unfoldable swap : ℕ → ℕ
swap x = cond (ltb x max_nodes) (max_nodes + x) (x - max_nodes)

swap_low : (x : ℕ) → x < max_nodes → swap x ≡ max_nodes + x
unfolding swap
swap_low x h = rw (lt-ltb _ _ h) refl

swap_high : (x : ℕ) → max_nodes ≤ x → swap x ≡ x - max_nodes
unfolding swap
swap_high x h = rw (le-ltb _ _ h) refl

swap_numbered : (s : Bool) (y : ℕ) → y < max_nodes → swap (numbered s y) ≡ numbered (not s) y
swap_numbered true y h = swap_high (max_nodes + y) (omega arith) ∙ (let e : (max_nodes + y) - max_nodes ≡ y = omega arith in e)
swap_numbered false y h = swap_low y h

swap_swap : (x : ℕ) → x < max_nodes + max_nodes → swap (swap x) ≡ x
swap_swap x h = go (dec_lt x max_nodes)
  where
    go : Dec (x < max_nodes) → swap (swap x) ≡ x
    go (yes l) = ap swap (swap_low x l) ∙ swap_high (max_nodes + x) (omega arith) ∙ (let e : (max_nodes + x) - max_nodes ≡ x = omega arith in e)
    go (no l) =
        let k : ¬ (x < max_nodes) = l in
        ap swap (swap_high x (omega arith)) ∙ swap_low (x - max_nodes) (omega arith) ∙ (let e : max_nodes + (x - max_nodes) ≡ x = omega arith in e)

swap_apart : (x y : ℕ) → x < max_nodes + max_nodes → y < max_nodes + max_nodes → swap x ≡ swap y → x ≡ y
swap_apart x y h k e = sym (swap_swap x h) ∙ ap swap e ∙ swap_swap y k

both_swap : {A : Type 0} (p q : ℕ → A) (x : ℕ) → x < max_nodes + max_nodes → both q p (swap x) ≡ both p q x
both_swap p q x h = go (dec_lt x max_nodes)
  where
    go : Dec (x < max_nodes) → both q p (swap x) ≡ both p q x
    go (yes l) =
        ap (both q p) (swap_low x l) ∙ both_high q p (max_nodes + x) (omega arith) ∙ ap p (let e : (max_nodes + x) - max_nodes ≡ x = omega arith in e) ∙ sym (both_low p q x l)
    go (no l) =
        let k : ¬ (x < max_nodes) = l in
        ap (both q p) (swap_high x (omega arith)) ∙ both_low q p (x - max_nodes) (omega arith) ∙ sym (both_high p q x (omega arith))

and_comm : (p q : Bool) → (p && q) ≡ (q && p)
and_comm true true = refl
and_comm true false = refl
and_comm false true = refl
and_comm false false = refl

-- ---- links

links_inside : (s : Bool) (l : List ℕ) → Each (λ y. y < max_nodes) l → map (linked (not s)) (map inside l) ≡ map swap (map (linked s) (map inside l))
links_inside s [] h = refl
links_inside true (y ∷ l) h = ap₂ ◌∷◌ (sym (swap_numbered true y (h y (here refl)))) (links_inside true l (λ z m. h z (there m)))
links_inside false (y ∷ l) h = ap₂ ◌∷◌ (sym (swap_numbered false y (h y (here refl)))) (links_inside false l (λ z m. h z (there m)))

links_across : (s : Bool) (l : List ℕ) → Each (λ y. y < max_nodes) l → map (linked (not s)) (map across l) ≡ map swap (map (linked s) (map across l))
links_across s [] h = refl
links_across true (y ∷ l) h = ap₂ ◌∷◌ (sym (swap_numbered false y (h y (here refl)))) (links_across true l (λ z m. h z (there m)))
links_across false (y ∷ l) h = ap₂ ◌∷◌ (sym (swap_numbered true y (h y (here refl)))) (links_across false l (λ z m. h z (there m)))

found_small : (w b name : List ℕ) → Formed w → Each (λ y. y < max_nodes) (find w b name)
found_small w b name f y m = let a = root_in w f y (found_root w b name y m) in let h = nodes_few w in omega arith

links_turn : (s : Bool) (w b w' b' : List ℕ) → Formed w → Formed w' → (i : ℕ) →
    map (linked (not s)) (links_from w b w' b' i) ≡ map swap (map (linked s) (links_from w b w' b' i))
links_turn s w b w' b' f g =
    links_each w b w' b' (λ i l. map (linked (not s)) l ≡ map swap (map (linked s) l)) (λ i. refl)
    (λ i h r. links_inside s (find w b (name_at w b i)) (found_small w b (name_at w b i) f))
    (λ i h r. links_across s (find w' b' (name_at w b i)) (found_small w' b' (name_at w b i) g))
    (λ i h r. links_inside s (operands w i) (λ y m. let a = f.operands_below i h y m in let k = nodes_few w in let z : y < i = a in omega arith))

roots_turn : (s : Bool) (w b name : List ℕ) → Formed w → roots_of (not s) w b name ≡ map swap (roots_of s w b name)
roots_turn s w b name f = go (find w b name) (found_small w b name f)
  where
    go : (l : List ℕ) → Each (λ y. y < max_nodes) l → map (numbered (not s)) l ≡ map swap (map (numbered s) l)
    go [] h = refl
    go (y ∷ l) h = ap₂ ◌∷◌ (sym (swap_numbered s y (h y (here refl)))) (go l (λ z m. h z (there m)))

-- ---- the rules

turned_node : kind.Node → kind.Node
turned_node (Constant v) = Constant (turned v)
turned_node Reference = Reference
turned_node (OfOne op) = OfOne op
turned_node (OfTwo op) = OfTwo op
turned_node Conditional = Conditional

constant_turned : (s : Bool) (k a b : ℕ) → turned (constant_of s k a b) ≡ constant_of (not s) k a b
constant_turned s k a b = go (eqb k 2) (eqb k 3) (eqb k 4) (eqb k 5) (eqb k 6)
  where
    go : (u2 u3 u4 u5 u6 : Bool) → turned (cond u2 Error (cond u3 (Boolean (not (eqb a 0))) (cond u4 (Integer (a % 2 ^ width)) (cond u5 (Real (stored_real a b)) (cond u6 (String s (a % 2 ^ 16) (b % 2 ^ 16)) Undefined))))) ≡
        cond u2 Error (cond u3 (Boolean (not (eqb a 0))) (cond u4 (Integer (a % 2 ^ width)) (cond u5 (Real (stored_real a b)) (cond u6 (String (not s) (a % 2 ^ 16) (b % 2 ^ 16)) Undefined))))
    go true u3 u4 u5 u6 = refl
    go false true u4 u5 u6 = refl
    go false false true u5 u6 = refl
    go false false false true u6 = refl
    go false false false false true = refl
    go false false false false false = refl

node_turned : (s : Bool) (k a b : ℕ) → turned_node (node_of s k a b) ≡ node_of (not s) k a b
unfolding turned_node
node_turned s k a b = go (is_reference k) (eqb (arity k) 1) (eqb (arity k) 2) (eqb (arity k) 3)
  where
    go : (r one two three : Bool) →
        turned_node (cond r Reference (cond one (OfOne (unary_of k)) (cond two (OfTwo (binary_of k)) (cond three Conditional (Constant (constant_of s k a b)))))) ≡
        cond r Reference (cond one (OfOne (unary_of k)) (cond two (OfTwo (binary_of k)) (cond three Conditional (Constant (constant_of (not s) k a b)))))
    go true one two three = refl
    go false true two three = refl
    go false false true three = refl
    go false false false true = refl
    go false false false false = ap (λ (v : Value). Constant v) (constant_turned s k a b)

applied_turned : (first second : List ℕ) (n : kind.Node) (x y z : Value) → applied second first (turned_node n) (turned x) (turned y) (turned z) ≡ turned (applied first second n x y z)
unfolding turned_node
applied_turned first second (Constant v) x y z = refl
applied_turned first second Reference x y z = refl
applied_turned first second (OfOne op) x y z = unary_exchange op x
applied_turned first second (OfTwo op) x y z = binary_exchange first second op x y
applied_turned first second Conditional x y z = conditional_exchange x y z

abbrev Turned : Value → Value → Type 0
Turned x y = y ≡ turned x

value_turned : (us vs : List Value) → Alike Turned us vs → (i : ℕ) → value_in vs i ≡ turned (value_in us i)
unfolding value_in
value_turned [] [] anil i = refl
value_turned [] (x ∷ vs) l i = elim l [ ]
value_turned (u ∷ us) [] l i = elim l [ ]
value_turned (u ∷ us) (x ∷ vs) (acons e l) zero = e
value_turned (u ∷ us) (x ∷ vs) (acons e l) (suc i) = value_turned us vs l i

true_turned : (v : Value) → is_true (turned v) ≡ is_true v
true_turned Undefined = refl
true_turned Error = refl
true_turned (Boolean b) = refl
true_turned (Integer x) = refl
true_turned (Real x) = refl
true_turned (String s o n) = refl

rank_turned : (v : Value) → rank_of (turned v) ≡ rank_of v
rank_turned Undefined = refl
rank_turned Error = refl
rank_turned (Boolean b) = refl
rank_turned (Integer x) = refl
rank_turned (Real x) = refl
rank_turned (String s o n) = refl

-- ---- the graph

module _ (v b w c : List ℕ) (f : Formed v) (g : Formed w) where
  small : (x : ℕ) → Node (pair_graph v b w c) x → x < max_nodes + max_nodes
  unfolding pair_graph
  small x n = (pair_sound v b w c f g).in_slots x n

  links_go : (x : ℕ) → Node (pair_graph v b w c) x → (pair_graph w c v b).links (swap x) ≡ map swap ((pair_graph v b w c).links x)
  unfolding pair_graph
  links_go x n =
      both_swap (λ i. map (linked true) (links_from v b w c i)) (λ i. map (linked false) (links_from w c v b i)) x (small x n)
      ∙ go (dec_lt x max_nodes)
    where
      go : Dec (x < max_nodes) → both (λ i. map (linked true) (links_from v b w c i)) (λ i. map (linked false) (links_from w c v b i)) x ≡
          map swap (both (λ i. map (linked false) (links_from v b w c i)) (λ i. map (linked true) (links_from w c v b i)) x)
      go (yes l) = both_low _ _ x l ∙ links_turn false v b w c f g x ∙ ap (map swap) (sym (both_low _ _ x l))
      go (no l) =
          let k : ¬ (x < max_nodes) = l in
          let h : max_nodes ≤ x = omega arith in
          both_high _ _ x h ∙ links_turn true w c v b g f (x - max_nodes) ∙ ap (map swap) (sym (both_high _ _ x h))

  refs_go : (x : ℕ) → Node (pair_graph v b w c) x → (pair_graph w c v b).ref (swap x) ≡ (pair_graph v b w c).ref x
  unfolding pair_graph
  refs_go x n = both_swap (refers_at v) (refers_at w) x (small x n)

  embeds : Embeds (pair_graph v b w c) (pair_graph w c v b) swap (Node (pair_graph v b w c))
  embeds = record {
    closed = λ x n. (pair_sound v b w c f g).links_in x;
    links_go = links_go;
    refs_go = refs_go;
    apart = λ x y n m. swap_apart x y (small x n) (small y m);
  }

  node_go : (x : ℕ) → Node (pair_graph v b w c) x → node_at w v (swap x) ≡ turned_node (node_at v w x)
  node_go x n = both_swap (node_from true v) (node_from false w) x (small x n) ∙ go (dec_lt x max_nodes)
    where
      go : Dec (x < max_nodes) → both (node_from true v) (node_from false w) x ≡ turned_node (node_at v w x)
      go (yes l) =
          both_low (node_from true v) (node_from false w) x l ∙ sym (node_turned false (kind_at v x) (operand_at v x 0) (operand_at v x 1))
          ∙ ap turned_node (sym (both_low (node_from false v) (node_from true w) x l))
      go (no l) =
          let k : ¬ (x < max_nodes) = l in
          let h : max_nodes ≤ x = omega arith in
          both_high (node_from true v) (node_from false w) x h
          ∙ sym (node_turned true (kind_at w (x - max_nodes)) (operand_at w (x - max_nodes) 0) (operand_at w (x - max_nodes) 1))
          ∙ ap turned_node (sym (both_high (node_from false v) (node_from true w) x h))

  rules_go : (x : ℕ) → Node (pair_graph v b w c) x → (us vs : List Value) → Alike Turned us vs → Turned (rule_at v b w c x us) (rule_at w c v b (swap x) vs)
  unfolding rule_at
  rules_go x n us vs l =
      ap (λ (m : kind.Node). applied c b m (value_in vs 0) (value_in vs 1) (value_in vs 2)) (node_go x n)
      ∙ ap (λ (z : Value). applied c b (turned_node (node_at v w x)) z (value_in vs 1) (value_in vs 2)) (value_turned us vs l 0)
      ∙ ap (λ (z : Value). applied c b (turned_node (node_at v w x)) (turned (value_in us 0)) z (value_in vs 2)) (value_turned us vs l 1)
      ∙ ap (λ (z : Value). applied c b (turned_node (node_at v w x)) (turned (value_in us 0)) (turned (value_in us 1)) z) (value_turned us vs l 2)
      ∙ applied_turned b c (node_at v w x) (value_in us 0) (value_in us 1) (value_in us 2)

  -- ---- values

  module _ {p q : ℕ → Bool} (fl : Flags (pair_graph v b w c) p) (fl' : Flags (pair_graph w c v b) q) where
    values_go : (x : ℕ) {u u' : Value} → Node (pair_graph v b w c) x → Gives (needs (pair_graph v b w c) p) (rule_at v b w c) x u →
        Gives (needs (pair_graph w c v b) q) (rule_at w c v b) (swap x) u' → u' ≡ turned u
    values_go x {u} {u'} n a d = go (gives_goes (carries embeds fl fl' rules_go) n a)
      where
        go : (z : Value) × Gives (needs (pair_graph w c v b) q) (rule_at w c v b) (swap x) z × Turned u z → u' ≡ turned u
        go (z, e, s) = gives_unique (needs (pair_graph w c v b) q) (rule_at w c v b) d e ∙ s

    worth_go : {l : List ℕ} {u u' : Value} → Each (Node (pair_graph v b w c)) l → Worth (needs (pair_graph v b w c) p) (rule_at v b w c) l u →
        Worth (needs (pair_graph w c v b) q) (rule_at w c v b) (map swap l) u' → u' ≡ turned u
    worth_go n absent absent = refl
    worth_go n (present {x = x} a) (present d) = values_go x (n x (here refl)) a d

  -- ---- the roots

  abbrev exchanged : ℕ → Type 0
  exchanged y = y ∈ map swap (pair_graph v b w c).roots

  -- the roots of the ads exchanged are the same, in another order
  root_to : (s : Bool) (x e name : List ℕ) → Formed x → Each (λ y. y ∈ (pair_graph v b w c).roots) (roots_of s x e name) → Each exchanged (roots_of (not s) x e name)
  root_to s x e name h m y k = go (map_mem swap (roots_of s x e name) (subst (λ (l : List ℕ). y ∈ l) (roots_turn s x e name h) k))
    where
      go : (z : ℕ) × (z ∈ roots_of s x e name) × (y ≡ swap z) → exchanged y
      go (z, n, q) = subst exchanged (sym q) (mem_map swap (m z n))

  roots_to : Each exchanged (pair_graph w c v b).roots
  roots_to =
      roots_from_lem w c v b exchanged
      (root_to true w c requirements g (roots_second v b w c))
      (root_to false v b requirements f (roots_first v b w c))
      (root_to true w c rank g (ranks_second v b w c))
      (root_to false v b rank f (ranks_first v b w c))

  root_from : (s : Bool) (x e name : List ℕ) → Formed x → Each (λ y. y ∈ (pair_graph w c v b).roots) (roots_of (not s) x e name) → Each (λ y. swap y ∈ (pair_graph w c v b).roots) (roots_of s x e name)
  root_from s x e name h m y k = m (swap y) (subst (λ (l : List ℕ). swap y ∈ l) (sym (roots_turn s x e name h)) (mem_map swap k))

  roots_back : Each (λ y. y ∈ (pair_graph w c v b).roots) (map swap (pair_graph v b w c).roots)
  roots_back y m = go (map_mem swap (pair_graph v b w c).roots m)
    where
      all : Each (λ z. swap z ∈ (pair_graph w c v b).roots) (pair_graph v b w c).roots
      all =
          roots_from_lem v b w c (λ z. swap z ∈ (pair_graph w c v b).roots)
          (root_from false v b requirements f (roots_second w c v b))
          (root_from true w c requirements g (roots_first w c v b))
          (root_from false v b rank f (ranks_second w c v b))
          (root_from true w c rank g (ranks_first w c v b))

      go : (z : ℕ) × (z ∈ (pair_graph v b w c).roots) × (y ≡ swap z) → y ∈ (pair_graph w c v b).roots
      go (z, n, q) = subst (λ (u : ℕ). u ∈ (pair_graph w c v b).roots) (sym q) (all z n)

  roots_in : Each (Node (pair_graph v b w c)) (pair_graph v b w c).roots
  roots_in = (pair_sound v b w c f g).roots_in

  -- ---- the match

  module _ {budget : ℕ} {table list table' list' : List ℕ} {o o' : Outcome} (m : Match v b w c budget table list o) (m' : Match w c v b budget table' list' o') where
    as_long : length m'.order ≡ length m.order
    as_long =
        (list_exchanged (pair_sound w c v b g f) embeds roots_in roots_to roots_back (m.circular, m.flagged, m.entered) (m'.circular, m'.flagged, m'.entered)).long

    module _ (h : Concluded (needs (pair_graph v b w c) m.circular) v b w c (length m.order) m.count o)
        (k : Concluded (needs (pair_graph w c v b) m'.circular) w c v b (length m'.order) m'.count o') where
      turn : (s : Bool) (x e name : List ℕ) {u u' : Value} → Formed x → Each (λ y. y ∈ (pair_graph v b w c).roots) (roots_of s x e name) →
          Worth (needs (pair_graph v b w c) m.circular) (rule_at v b w c) (roots_of s x e name) u →
          Worth (needs (pair_graph w c v b) m'.circular) (rule_at w c v b) (roots_of (not s) x e name) u' → u' ≡ turned u
      turn s x e name {u} {u'} fx r a d =
          worth_go m.flagged m'.flagged (λ y n. roots_in y (r y n)) a
          (subst (λ (l : List ℕ). Worth (needs (pair_graph w c v b) m'.circular) (rule_at w c v b) l u') (roots_turn s x e name fx) d)

      first_requirement : k.second_requirement ≡ turned h.first_requirement
      first_requirement = turn false v b requirements f (roots_first v b w c) h.first_required k.second_required

      second_requirement : k.first_requirement ≡ turned h.second_requirement
      second_requirement = turn true w c requirements g (roots_second v b w c) h.second_required k.first_required

      first_rank : k.second_rank ≡ turned h.first_rank
      first_rank = turn false v b rank f (ranks_first v b w c) h.first_ranked k.second_ranked

      second_rank : k.first_rank ≡ turned h.second_rank
      second_rank = turn true w c rank g (ranks_second v b w c) h.second_ranked k.first_ranked

      verdict : (is_true k.first_requirement && is_true k.second_requirement) ≡ (is_true h.first_requirement && is_true h.second_requirement)
      verdict =
          ap₂ ◌&&◌ (ap is_true second_requirement ∙ true_turned h.second_requirement) (ap is_true first_requirement ∙ true_turned h.first_requirement)
          ∙ and_comm (is_true h.second_requirement) (is_true h.first_requirement)

      finished_turned : o' ≡ Finished (is_true h.first_requirement && is_true h.second_requirement) (rank_of h.second_rank) (rank_of h.first_rank) (length m.order) m'.count
      finished_turned =
          k.answers
          ∙ ap (λ (z : Bool). Finished z (rank_of k.first_rank) (rank_of k.second_rank) (length m'.order) m'.count) verdict
          ∙ ap (λ (z : ℕ). Finished (is_true h.first_requirement && is_true h.second_requirement) z (rank_of k.second_rank) (length m'.order) m'.count) (ap rank_of second_rank ∙ rank_turned h.second_rank)
          ∙ ap (λ (z : ℕ). Finished (is_true h.first_requirement && is_true h.second_requirement) (rank_of h.second_rank) z (length m'.order) m'.count) (ap rank_of first_rank ∙ rank_turned h.first_rank)
          ∙ ap (λ (z : ℕ). Finished (is_true h.first_requirement && is_true h.second_requirement) (rank_of h.second_rank) (rank_of h.first_rank) z m'.count) as_long

    -- EXCHANGE: with the two ads exchanged a finished match keeps its verdict and the ranks change places; it takes as many
    -- steps, and one that is not finished is not finished then
    pub exchange : Exchanged o o'
    exchange = go (dec_lt budget (length m.order))
      where
        go : Dec (budget < length m.order) → Exchanged o o'
        go (yes l) = unfinished (m.unfinished l) (m'.unfinished (let e = as_long in omega arith))
        go (no l) =
            let z : length m.order ≤ budget = let k : ¬ (budget < length m.order) = l in omega arith in
            let h = m.finished z in
            let k = m'.finished (let e = as_long in omega arith) in
            finished h.answers (finished_turned h k)
