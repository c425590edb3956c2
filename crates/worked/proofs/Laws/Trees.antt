-- The graph of two stored ads by their trees, and what a match of them comes to. Assumes nothing.
use Prim.Native.Nat.{ℕ, zero, suc, ◌+◌, ◌≤◌, ◌<◌}
use Rattle.std.proofs.Common.{arith, sym, ◌∙◌, inl, inr, take_all}
use Rattle.std.proofs.Math.Decide.{dec_lt}
use Rattle.std.specs.Prelude.{◌≡◌, Bool, true, ◌&&◌, Some, length}
use Rattle.std.proofs.Math.Path.{refl, ap, ap₂, subst, fun_ext}
use Rattle.std.proofs.Math.Bool.{false, cond}
use mathlib.Core.List.{List, [], ◌∷◌, ◌++◌, map}
use Rattle.std.proofs.Math.Dec.{ltb}
use Rattle.text.specs.Laws.Booleans.{both as halves}
use Rattle.syntax.specs.Bounds.{max_nodes}
use Rattle.syntax.specs.Tree.{Ad, nodes}
use Rattle.ad.specs.Layout.{stored_words, stored_bytes}
use Rattle.ad.specs.Stored.{kind_at, node_count, operands, name_at, is_own, is_other, is_reference}
use Rattle.graph.specs.Members.{◌∈◌, here, there}
use Rattle.graph.proofs.Laws.Members.{mem_nil, mem_cons, mem_left, mem_right, Sides}
use Rattle.graph.specs.Graph.{Graph, Sound, Node, Path⁺, Circular, Flags, needs, Entered}
use Rattle.graph.proofs.Laws.Order.{entered_unique}
use Rattle.links.specs.Pair.{inside, across, linked, links_from, numbered, both, refers_at, roots_of, requirements, rank, definition_at, pair_graph, StoredAd}
use Rattle.links.specs.Laws.Layout.{stored_nodes, stored_formed}
use Rattle.links.specs.Laws.Finding.{find_tree}
use Rattle.links.specs.Laws.Soundness.{pair_sound, node_sides}
use Rattle.values.specs.declared.Value.{Value}
use Rattle.nodes.specs.Nodes.{value_in}
use Rattle.valuation.specs.Gives.{Give, nil, cons, Gives}
use Rattle.evaluation.specs.Evaluation.{rule_at}
use Rattle.verdict.specs.Verdict.{is_true, rank_of}
use Rattle.matching.specs.Matching.{Worth, absent, present, Match}
use Rattle.matching.proofs.Laws.Concluding.{flags_same, worth_unique}
use Rattle.matching.specs.declared.Outcome.{Outcome}
use Rattle.matching.specs.declared.Outcome.TheVariants.{Finished}
use Rattle.slots.specs.declared.Slot.TheVariants.{Held}
use Rattle.slots.specs.Packed.{slot_at}
use Rattle.worked.specs.Table.{Gift, Row, Given, InSlots, Comes}
use Rattle.worked.proofs.Laws.Solving.{attempt, attempted, among, among_in, enters, entered_by}
use Rattle.worked.proofs.Laws.Circles.{cond_both, either, returns, enough, returns_path, path_returns}

-- ---- links and roots by the trees: nothing is counted or looked up in words

unfoldable pub tree_from : Ad → Ad → ℕ → List (Bool × ℕ)
tree_from a a' i =
    cond (ltb i (nodes a))
    (cond (is_own (kind_at (stored_words a) i))
    (map inside (definition_at 0 (name_at (stored_words a) (stored_bytes a) i) a))
    (cond (is_other (kind_at (stored_words a) i)) (map across (definition_at 0 (name_at (stored_words a) (stored_bytes a) i) a')) (map inside (operands (stored_words a) i))))
    []

unfoldable pub tree_links : Ad → Ad → ℕ → List ℕ
tree_links a a' = both (λ i. map (linked false) (tree_from a a' i)) (λ i. map (linked true) (tree_from a' a i))

unfoldable pub tree_refers : Ad → Ad → ℕ → Bool
tree_refers a a' = both (λ i. ltb i (nodes a) && is_reference (kind_at (stored_words a) i)) (λ i. ltb i (nodes a') && is_reference (kind_at (stored_words a') i))

abbrev pub tree_root : Bool → List ℕ → Ad → List ℕ
tree_root second name a = map (numbered second) (definition_at 0 name a)

unfoldable pub tree_roots : Ad → Ad → List ℕ
tree_roots a a' = tree_root false requirements a ++ (tree_root true requirements a' ++ (tree_root false rank a ++ tree_root true rank a'))

unfoldable pub up_to : ℕ → ℕ → List ℕ
up_to i zero = []
up_to i (suc n) = i ∷ up_to (suc i) n

-- the nodes of both ads
unfoldable pub tree_nodes : Ad → Ad → List ℕ
tree_nodes a a' = up_to 0 (nodes a) ++ up_to max_nodes (nodes a')

in_up_to : (i n x : ℕ) → i ≤ x → x < i + n → x ∈ up_to i n
unfolding up_to
in_up_to i zero x h k = absurd (let q : ⊥ = omega arith in q)
in_up_to i (suc n) x h k = go (λ l. in_up_to (suc i) n x l (omega arith)) (dec_lt i x)
  where
    go : (suc i ≤ x → x ∈ up_to (suc i) n) → Dec (i < x) → x ∈ (i ∷ up_to (suc i) n)
    go f (yes l) = there (f (omega arith))
    go f (no l) = here (let q : ¬ (i < x) = l in let e : x ≡ i = omega arith in e)

module _ {a a' : Ad} (s : StoredAd (stored_words a) (stored_bytes a) a) (s' : StoredAd (stored_words a') (stored_bytes a') a') where
  counted : {b : Ad} → StoredAd (stored_words b) (stored_bytes b) b → node_count (stored_words b) ≡ nodes b
  counted {b} t = stored_nodes b t.few_nodes t.few_definitions t.named

  from_are : {b b' : Ad} → StoredAd (stored_words b) (stored_bytes b) b → StoredAd (stored_words b') (stored_bytes b') b' → (i : ℕ) →
      links_from (stored_words b) (stored_bytes b) (stored_words b') (stored_bytes b') i ≡ tree_from b b' i
  unfolding links_from tree_from
  from_are {b} {b'} t t' i = rw (counted t, find_tree t (name_at (stored_words b) (stored_bytes b) i), find_tree t' (name_at (stored_words b) (stored_bytes b) i)) refl

  abbrev G : Graph
  G = pair_graph (stored_words a) (stored_bytes a) (stored_words a') (stored_bytes a')

  abbrev rule : ℕ → List Value → Value
  rule = rule_at (stored_words a) (stored_bytes a) (stored_words a') (stored_bytes a')

  sound : Sound G
  sound = pair_sound (stored_words a) (stored_bytes a) (stored_words a') (stored_bytes a') (stored_formed s) (stored_formed s')

  links_are : G.links ≡ tree_links a a'
  unfolding pair_graph tree_links
  links_are =
      ap₂ both (fun_ext (λ i. ap (map (linked false)) (from_are s s' i))) (fun_ext (λ i. ap (map (linked true)) (from_are s' s i)))

  pub refers_are : G.ref ≡ tree_refers a a'
  unfolding pair_graph tree_refers refers_at
  refers_are =
      ap₂ both (fun_ext (λ i. ap (λ (n : ℕ). ltb i n && is_reference (kind_at (stored_words a) i)) (counted s)))
      (fun_ext (λ i. ap (λ (n : ℕ). ltb i n && is_reference (kind_at (stored_words a') i)) (counted s')))

  root_is : {b : Ad} → StoredAd (stored_words b) (stored_bytes b) b → (second : Bool) (name : List ℕ) → roots_of second (stored_words b) (stored_bytes b) name ≡ tree_root second name b
  root_is t second name = ap (map (numbered second)) (find_tree t name)

  roots_are : G.roots ≡ tree_roots a a'
  unfolding pair_graph tree_roots
  roots_are = rw (find_tree s requirements, find_tree s' requirements, find_tree s rank, find_tree s' rank) refl

  pub node_in : (x : ℕ) → Node G x → x ∈ tree_nodes a a'
  unfolding tree_nodes
  node_in x n = go (node_sides (stored_words a) (stored_bytes a) (stored_words a') (stored_bytes a') (stored_formed s) (stored_formed s') x n)
    where
      go : Sides (node_count (stored_words a)) max_nodes (node_count (stored_words a')) x → x ∈ (up_to 0 (nodes a) ++ up_to max_nodes (nodes a'))
      go (inl h) = mem_left _ (in_up_to 0 (nodes a) x (omega arith) (let e = counted s in omega arith))
      go (inr (h, k)) = mem_right (up_to 0 (nodes a)) (in_up_to max_nodes (nodes a') x h (let e = counted s' in omega arith))

  -- the references that lead back to themselves
  abbrev pub circles : ℕ → Bool
  circles x = tree_refers a a' x && returns (tree_links a a') x

  -- so far as was tried, of all nodes
  unfoldable pub all_tried : List ℕ → Bool
  all_tried [] = true
  all_tried (x ∷ xs) = cond (enough (tree_links a a') x) (all_tried xs) false

  tried : (xs : List ℕ) → all_tried xs ≡ true → (x : ℕ) → x ∈ xs → enough (tree_links a a') x ≡ true
  unfolding all_tried
  tried [] e x m = absurd (mem_nil m)
  tried (y ∷ xs) e x m =
      let d = cond_both (enough (tree_links a a') y) (all_tried xs) e in
      either (λ q. subst (λ (u : ℕ). enough (tree_links a a') u ≡ true) (sym q) d.0) (λ k. tried xs d.1 x k) (mem_cons m)

  -- the circular references are those found
  pub circles_are : all_tried (tree_nodes a a') ≡ true → Flags G circles
  circles_are e x = (there_is, back_is)
    where
      there_is : circles x ≡ true → Circular G x
      there_is q =
          let d = halves (tree_refers a a' x) (returns (tree_links a a') x) q in
          (ap (λ (f : ℕ → Bool). f x) refers_are ∙ d.0, subst (λ (l : ℕ → List ℕ). Path⁺ l x x) (sym links_are) (returns_path (tree_links a a') x d.1))

      back_is : Circular G x → circles x ≡ true
      back_is c =
          let r : tree_refers a a' x ≡ true = sym (ap (λ (f : ℕ → Bool). f x) refers_are) ∙ c.0 in
          rw r (path_returns (tree_links a a') x (tried (tree_nodes a a') e x (node_in x (sound.refs_in x c.0))) (subst (λ (l : ℕ → List ℕ). Path⁺ l x x) links_are c.1))

  -- ---- what a match of them comes to

  abbrev pub need : (ℕ → Bool) → ℕ → List ℕ
  need c x = cond (c x) [] (tree_links a a' x)

  needs_are : (c : ℕ → Bool) → needs G c ≡ need c
  unfolding needs
  needs_are c = fun_ext (λ x. ap (λ (l : ℕ → List ℕ). cond (c x) [] (l x)) links_are)

  worth_given : {n : ℕ → List ℕ} {l : List ℕ} {us : List Value} → Give n rule l us → Worth n rule l (value_in us 0)
  unfolding value_in
  worth_given nil = absent
  worth_given (cons {us = us} d e) = present (us, d, refl)

  module _ (c : ℕ → Bool) (fl : Flags G c) (f : ℕ) where
    worth_tried : {b : Ad} → StoredAd (stored_words b) (stored_bytes b) b → (second : Bool) (name : List ℕ) {us : List Value} → attempt (need c) rule f (tree_root second name b) ≡ Some us →
        Worth (needs G c) rule (roots_of second (stored_words b) (stored_bytes b) name) (value_in us 0)
    worth_tried {b} t second name {us} e =
        subst (λ (l : List ℕ). Worth (needs G c) rule l (value_in us 0)) (sym (root_is t second name))
        (subst (λ (n : ℕ → List ℕ). Worth n rule (tree_root second name b) (value_in us 0)) (sym (needs_are c)) (worth_given (attempted (need c) rule f (tree_root second name b) us e)))

    -- each definition is tried
    unfoldable pub Tries : List Gift → Type 0
    Tries [] = Unit {0}
    Tries (g ∷ gs) = (attempt (need c) rule f (tree_root false g.name a) ≡ Some (g.value ∷ [])) × Tries gs

    tries_given : (gs : List Gift) → Tries gs → Given (needs G c) (stored_words a) (stored_bytes a) (stored_words a') (stored_bytes a') gs
    unfolding Given Tries value_in
    tries_given [] t = tt
    tries_given (g ∷ gs) t = (worth_tried s false g.name t.0, tries_given gs t.1)

    -- each definition's root is in the list
    unfoldable pub Lists : List ℕ → List Gift → Type 0
    Lists l [] = Unit {0}
    Lists l (g ∷ gs) = ((x : ℕ) × (tree_root false g.name a ≡ x ∷ []) × (among x l ≡ true)) × Lists l gs

    -- what is tried of a row
    pub record Checks (r : Row) : Type 0 where
      pub first_requirement : List Value
      pub second_requirement : List Value
      pub first_rank : List Value
      pub second_rank : List Value
      pub order_is : enters (need c) f [] (tree_roots a a') ≡ Some r.order
      pub gives : Tries r.gives
      pub listed : Lists r.order r.gives
      pub first_required : attempt (need c) rule f (tree_root false requirements a) ≡ Some first_requirement
      pub second_required : attempt (need c) rule f (tree_root true requirements a') ≡ Some second_requirement
      pub first_ranked : attempt (need c) rule f (tree_root false rank a) ≡ Some first_rank
      pub second_ranked : attempt (need c) rule f (tree_root true rank a') ≡ Some second_rank
      pub matched_is : (is_true (value_in first_requirement 0) && is_true (value_in second_requirement 0)) ≡ r.matched
      pub first_rank_is : rank_of (value_in first_rank 0) ≡ r.first_rank
      pub second_rank_is : rank_of (value_in second_rank 0) ≡ r.second_rank

    module _ {r : Row} (k : Checks r) {budget : ℕ} {table listed : List ℕ} {o : Outcome}
        (m : Match (stored_words a) (stored_bytes a) (stored_words a') (stored_bytes a') budget table listed o) where
      same : c ≡ m.circular
      same = flags_same G fl m.flagged

      orders : m.order ≡ r.order
      orders =
          entered_unique m.entered
          (subst (λ (d : ℕ → Bool). Entered (needs G d) [] G.roots r.order) same
          (subst (λ (l : List ℕ). Entered (needs G c) [] l r.order) (sym roots_are)
          (subst (λ (n : ℕ → List ℕ). Entered n [] (tree_roots a a') r.order) (sym (needs_are c)) (entered_by (need c) f (tree_roots a a') r.order k.order_is))))

      value_is : {b : Ad} → StoredAd (stored_words b) (stored_bytes b) b → (second : Bool) (name : List ℕ) {us : List Value} {u : Value} → attempt (need c) rule f (tree_root second name b) ≡ Some us →
          Worth (needs G m.circular) rule (roots_of second (stored_words b) (stored_bytes b) name) u → u ≡ value_in us 0
      value_is {b} t second name {us} e w =
          worth_unique w (subst (λ (d : ℕ → Bool). Worth (needs G d) rule (roots_of second (stored_words b) (stored_bytes b) name) (value_in us 0)) same (worth_tried t second name e))

      slot_at_lem : length r.order ≤ budget → (x : ℕ) → x ∈ r.order → (u : Value) × Gives (needs G m.circular) rule x u × (slot_at table x ≡ Held u)
      slot_at_lem h x n = m.ran.holds x (subst (λ (l : List ℕ). x ∈ l) (sym orders ∙ sym (take_all budget m.order (let e = ap length orders in omega arith))) n)

      slot_of : length r.order ≤ budget → (g : Gift) → attempt (need c) rule f (tree_root false g.name a) ≡ Some (g.value ∷ []) →
          (x : ℕ) × (tree_root false g.name a ≡ x ∷ []) × (among x r.order ≡ true) →
          (x : ℕ) × (roots_of false (stored_words a) (stored_bytes a) g.name ≡ x ∷ []) × (slot_at table x ≡ Held g.value)
      unfolding value_in
      slot_of h g t (x, q, n) =
          let root : roots_of false (stored_words a) (stored_bytes a) g.name ≡ x ∷ [] = root_is s false g.name ∙ q in
          let d = slot_at_lem h x (among_in x r.order n) in
          let w : Worth (needs G m.circular) rule (roots_of false (stored_words a) (stored_bytes a) g.name) d.0 = subst (λ (l : List ℕ). Worth (needs G m.circular) rule l d.0) (sym root) (present d.1) in
          (x, root, d.2 ∙ ap Held (value_is s false g.name t w))

      slots_of : length r.order ≤ budget → (gs : List Gift) → Tries gs → Lists r.order gs → InSlots (stored_words a) (stored_bytes a) table gs
      unfolding Tries Lists InSlots
      slots_of h [] t l = tt
      slots_of h (g ∷ gs) t l = (slot_of h g t.0 l.0, slots_of h gs t.1 l.1)

      pub comes : Comes r (stored_words a) (stored_bytes a) (stored_words a') (stored_bytes a') m
      comes = record {
        given = subst (λ (d : ℕ → Bool). Given (needs G d) (stored_words a) (stored_bytes a) (stored_words a') (stored_bytes a') r.gives) same (tries_given r.gives k.gives);
        shown = λ h. slots_of h r.gives k.gives k.listed;
        lists = orders;
        finishes = λ h.
            let d = m.finished (let e = ap length orders in omega arith) in
            let p = value_is s false requirements k.first_required d.first_required in
            let q = value_is s' true requirements k.second_required d.second_required in
            let i = value_is s false rank k.first_ranked d.first_ranked in
            let j = value_is s' true rank k.second_ranked d.second_ranked in
            d.answers
            ∙ ap (λ (z : Bool). Finished z (rank_of d.first_rank) (rank_of d.second_rank) (length m.order) m.count) (ap₂ (λ (x y : Value). is_true x && is_true y) p q ∙ k.matched_is)
            ∙ ap (λ (z : ℕ). Finished r.matched z (rank_of d.second_rank) (length m.order) m.count) (ap rank_of i ∙ k.first_rank_is)
            ∙ ap (λ (z : ℕ). Finished r.matched r.first_rank z (length m.order) m.count) (ap rank_of j ∙ k.second_rank_is)
            ∙ ap (λ (z : List ℕ). Finished r.matched r.first_rank r.second_rank (length z) m.count) orders;
        stops = λ h. m.unfinished (let e = ap length orders in omega arith);
      }
