-- What a stored ad, and a match of two, come to on the trees that they hold. w and b are the words and bytes of one ad; v and b those
-- of the first of a pair, w and c those of the second. Assumes nothing.
use Rattle.std.specs.Prelude.{ℕ, ◌+◌, ◌-◌, ◌≤◌, ◌<◌, ◌≡◌, refl, ◌↔◌, Bool, true, false, ◌&&◌, List, [], ◌∷◌, map, length, take, drop}
use Rattle.std.proofs.Common.{arith, sym, ap, ◌∙◌, subst, inl, inr, take-append-drop}
use Rattle.syntax.specs.Bounds.{max_nodes}
use Rattle.syntax.specs.Tree.{Scope, Expr, reference, Ad, nodes}
use Rattle.ad.specs.Layout.{stored_words, stored_bytes}
use Rattle.ad.specs.Stored.{node_count}
use Rattle.well_formed.specs.WellFormed.{Holds}
use Rattle.graph.specs.Members.{◌∈◌}
use Rattle.graph.specs.Graph.{Graph, Node, Circular, Flags, needs, IsList}
use Rattle.graph.proofs.Laws.Members.{mem_nil, mem_left, Sides}
use Rattle.graph.proofs.Laws.Traversal.{the_list, needs_links}
use Rattle.links.specs.Pair.{numbered, definition_at, requirements, rank, pair_graph}
use Rattle.links.specs.Laws.Finding.{find_tree}
use Rattle.links.specs.Laws.Layout.{stored_sound, stored_formed}
use Rattle.links.specs.Laws.Soundness.{node_sides}
use Rattle.values.specs.declared.Value.{Value}
use Rattle.slots.specs.declared.Slot.TheVariants.{Held}
use Rattle.slots.specs.Packed.{slot_at}
use Rattle.valuation.specs.Gives.{Gives}
use Rattle.valuation.proofs.Laws.Values.{one_value_graph}
use Rattle.valuation.proofs.Laws.Transfer.{entered_part}
use Rattle.evaluation.specs.Evaluation.{rule_at}
use Rattle.verdict.specs.Verdict.{is_true, rank_of}
use Rattle.matching.specs.Matching.{Worth, absent, present, Match}
use Rattle.matching.specs.declared.Outcome.{Outcome}
use Rattle.matching.specs.declared.Outcome.TheVariants.{Finished}
use Rattle.trees.specs.Nodes.{last_of, nth_node, Says}
use Rattle.trees.specs.Links.{tree_graph}
use Rattle.trees.specs.Values.{ad_of, Returns, Means, Same, Worths, has_none, has_one, Part, whole, FromLiteral}
use Rattle.trees.proofs.Laws.Stored.{stored_node}
use Rattle.trees.proofs.Laws.Graph.{counted, pair_tree}
use Rattle.trees.proofs.Laws.Parts.{Owned, owned}
use Rattle.admission.specs.Laws.Wells.{stored_of}
use Rattle.trees.proofs.Laws.Own.{Looked, nowhere, somewhere, look, finds_defines, node_own}
use Rattle.trees.proofs.Laws.Returning.{returns_circular, circular_returns}
use Rattle.trees.proofs.Laws.Meaning.{gives_means}
use Rattle.trees.proofs.Laws.Same.{one_meaning, one_worth}
use Rattle.trees.proofs.Laws.Texts.{from_literal}

-- ---- one ad

-- NODE i OF A STORED AD IS THE i-TH NODE OF ITS TREE: its kind, its literal or name, and the numbers of its operands: 'An operator
-- leads to all its operands, arms not taken included'
pub node_is : {w b : List ℕ} {a : Ad} → Holds w b a → (i : ℕ) → i < nodes a → Says w b i (nth_node a i)
node_is h = stored_node (stored_of h)

-- EVERY NODE IS THE LAST OF SOME EXPRESSION: so that what is said of each `Part` is said of each node. 'A node is a literal, a reference
-- or an operator.'
pub node_owned : (a : Ad) (i : ℕ) → i < nodes a → Owned a i
node_owned = owned

-- ---- a pair

module _ {v b w c : List ℕ} {a a' : Ad} (h : Holds v b a) (h' : Holds w c a') where
  -- the same ads in memory of their own
  kept : Holds (stored_words a) (stored_bytes a) a
  kept = record { text = h.text; reads = h.reads; fits = h.fits; words = refl; bytes = refl }

  kept' : Holds (stored_words a') (stored_bytes a') a'
  kept' = record { text = h'.text; reads = h'.reads; fits = h'.fits; words = refl; bytes = refl }

  -- THE GRAPH OF TWO STORED ADS IS THAT OF THEIR TREES: 'An operator leads to all its operands, arms not taken included .. A reference
  -- leads to its definition'
  pub graph_is : pair_graph v b w c ≡ tree_graph a a'
  graph_is = pair_tree (stored_of h) (stored_of h')

  -- SO THE CIRCULAR REFERENCES ARE THOSE OF THE TREES: 'A reference that leads, in one or more steps, back to itself is circular'
  pub circular_is : (x : ℕ) → Circular (pair_graph v b w c) x ↔ Circular (tree_graph a a') x
  circular_is x = (subst (λ (G : Graph). Circular G x) graph_is, subst (λ (G : Graph). Circular G x) (sym graph_is))

  -- on the trees: 'A reference that leads, in one or more steps, back to itself is circular'
  pub returns_is : (second : Bool) (n : ℕ) (s : Scope) (name : List ℕ) → Part (ad_of a a' second) n (reference s name) → Circular (pair_graph v b w c) (numbered second n) ↔ Returns a a' second n s name
  returns_is second n s name p = ((λ k. circular_returns kept kept' second p ((circular_is (numbered second n)).0 k)), λ k. (circular_is (numbered second n)).1 (returns_circular kept kept' second p k))

  -- AND THE LIST IS THAT OF THE TREES: 'To enter a node not yet in the list is to enter what it needs, .. and then at once the node
  -- itself'
  pub list_is : (l : List ℕ) → IsList (pair_graph v b w c) l ↔ IsList (tree_graph a a') l
  list_is l = (subst (λ (G : Graph). IsList G l) graph_is, subst (λ (G : Graph). IsList G l) (sym graph_is))

  -- ---- values

  -- what holds of the stored ads holds of any memory that holds them
  anywhere : (P : List ℕ → List ℕ → List ℕ → List ℕ → Type 0) → P (stored_words a) (stored_bytes a) (stored_words a') (stored_bytes a') → P v b w c
  anywhere P x =
      subst (λ (z : List ℕ). P z b w c) (sym h.words) (subst (λ (z : List ℕ). P (stored_words a) z w c) (sym h.bytes)
      (subst (λ (z : List ℕ). P (stored_words a) (stored_bytes a) z c) (sym h'.words) (subst (λ (z : List ℕ). P (stored_words a) (stored_bytes a) (stored_words a') z) (sym h'.bytes) x)))

  -- Valued v b w c f second n e u: u is what the rules make of the own node of the expression e
  abbrev Valued : List ℕ → List ℕ → List ℕ → List ℕ → (ℕ → Bool) → Bool → ℕ → Expr → Value → Type 0
  Valued v b w c f second n e u = Gives (needs (pair_graph v b w c) f) (rule_at v b w c) (numbered second (last_of n e)) u

  abbrev ValueIs : List ℕ → List ℕ → List ℕ → List ℕ → Type 0
  ValueIs v b w c = (f : ℕ → Bool) → Flags (pair_graph v b w c) f → (second : Bool) (n : ℕ) (e : Expr) → Part (ad_of a a' second) n e → (u : Value) →
      Valued v b w c f second n e u → Means a a' second n e u

  value_stored : ValueIs (stored_words a) (stored_bytes a) (stored_words a') (stored_bytes a')
  value_stored f fl second n e p u g =
      let q = pair_tree (stored_of kept) (stored_of kept') in
      gives_means kept kept' f (subst (λ (G : Graph). Flags G f) q fl) (subst (λ (G : Graph). Gives (needs G f) (rule_at (stored_words a) (stored_bytes a) (stored_words a') (stored_bytes a')) (numbered second (last_of n e)) u) q g)
      second n e p refl

  -- an expression's value, by the rules and on the trees: 'A node's value is what the rules make of the values of its needs'
  pub record Valuation (second : Bool) (n : ℕ) (e : Expr) : Type 0 where
    pub circular : ℕ → Bool
    pub flagged : Flags (pair_graph v b w c) circular
    pub value : Value
    pub given : Gives (needs (pair_graph v b w c) circular) (rule_at v b w c) (numbered second (last_of n e)) value
    pub means : Means a a' second n e value
    pub only : (t : Value) → Means a a' second n e t → Same (stored_bytes a) (stored_bytes a') value t

  module _ (f : ℕ → Bool) (fl : Flags (pair_graph v b w c) f) (second : Bool) (n : ℕ) (e : Expr) (p : Part (ad_of a a' second) n e) where
    -- WHAT THE RULES MAKE OF A NODE IS THE VALUE OF ITS EXPRESSION ON THE TREES: 'A node's value is what the rules make of the values of
    -- its needs'
    pub value_is : (u : Value) → Gives (needs (pair_graph v b w c) f) (rule_at v b w c) (numbered second (last_of n e)) u → Means a a' second n e u
    value_is = anywhere ValueIs value_stored f fl second n e p

    -- AND NO OTHER: the same value, or a String of the same bytes
    pub value_only : (u t : Value) → Gives (needs (pair_graph v b w c) f) (rule_at v b w c) (numbered second (last_of n e)) u → Means a a' second n e t → Same (stored_bytes a) (stored_bytes a') u t
    value_only u t g m = one_meaning a a' (value_is u g) m

  -- EVERY EXPRESSION HAS EXACTLY ONE VALUE ON THE TREES, and it is the one that the rules make of its node
  pub value_one : (second : Bool) (n : ℕ) (e : Expr) → Part (ad_of a a' second) n e → Valuation second n e
  value_one second n e p =
      let G = pair_graph v b w c in
      let sound = stored_sound (stored_of h) (stored_of h') in
      let l = (the_list G sound).is_list in
      let node : Node G (numbered second (last_of n e)) = subst (λ (G : Graph). Node G (numbered second (last_of n e))) (sym graph_is) (node_own kept kept' second p) in
      let o = one_value_graph G sound l.0 l.1 (rule_at v b w c) (numbered second (last_of n e)) node in
      let m = value_is l.0 l.1 second n e p o.value o.given in
      record { circular = l.0; flagged = l.1; value = o.value; given = o.given; means = m; only = λ t k. one_meaning a a' m k }

  -- A NAME'S DEFINITION HAS ONE VALUE ON THE TREES
  pub worth_only : (second : Bool) (name : List ℕ) {u t : Value} → Worths a a' second name u → Worths a a' second name t → Same (stored_bytes a) (stored_bytes a') u t
  worth_only second name p q = one_worth a a' second name p q

  -- A STRING VALUE IS A STRING LITERAL OF EITHER AD: 'String values are literals of either ad; their bytes are shown as a part of that
  -- ad's lent memory'
  pub string_is : (second : Bool) (n : ℕ) (e : Expr) → Part (ad_of a a' second) n e → (u : Value) → Means a a' second n e u → FromLiteral a a' u
  string_is second n e p u m = from_literal a a' p m

  -- the value of a name's definition
  worth_at_lem : (f : ℕ → Bool) → Flags (pair_graph v b w c) f → (second : Bool) (name : List ℕ) (u : Value) {l : List ℕ} → l ≡ map (numbered second) (definition_at 0 name (ad_of a a' second)) →
      Worth (needs (pair_graph v b w c) f) (rule_at v b w c) l u → Worths a a' second name u
  worth_at_lem f fl second name u {l} q g = go (look name 0 (ad_of a a' second)) l q u g
    where
      go : Looked name 0 (ad_of a a' second) → (l : List ℕ) → l ≡ map (numbered second) (definition_at 0 name (ad_of a a' second)) → (u : Value) →
          Worth (needs (pair_graph v b w c) f) (rule_at v b w c) l u → Worths a a' second name u
      go (nowhere x y) l q u g = nothing (subst (λ (l : List ℕ). Worth (needs (pair_graph v b w c) f) (rule_at v b w c) l u) (q ∙ ap (map (numbered second)) x) g)
        where
          nothing : {u : Value} → Worth (needs (pair_graph v b w c) f) (rule_at v b w c) [] u → Worths a a' second name u
          nothing absent = has_none y
      go (somewhere m e x d) l q u g = something (subst (λ (l : List ℕ). Worth (needs (pair_graph v b w c) f) (rule_at v b w c) l u) (q ∙ ap (map (numbered second)) x) g)
        where
          something : {u : Value} → Worth (needs (pair_graph v b w c) f) (rule_at v b w c) (numbered second (last_of m e) ∷ []) u → Worths a a' second name u
          something {u} (present y) = has_one d (value_is f fl second m e (whole (finds_defines d)) u y)

  -- ---- a match

  module _ {budget : ℕ} {table list : List ℕ} {r : Outcome} (m : Match v b w c budget table list r) where
    -- WHAT A MATCH PUTS INTO A SLOT IS THE VALUE OF THE SLOT'S EXPRESSION ON THE TREES: 'Every node of each side has its own slot'
    pub slot_is : (second : Bool) (n : ℕ) (e : Expr) → Part (ad_of a a' second) n e → numbered second (last_of n e) ∈ take budget m.order →
        (u : Value) × Means a a' second n e u × (slot_at table (numbered second (last_of n e)) ≡ Held u)
    slot_is second n e p k =
        let g = m.ran.holds (numbered second (last_of n e)) k in
        (g.0, value_is m.circular m.flagged second n e p g.0 g.1, g.2)

    -- the expression and the value of an entry of the list: 'a list of 2,048 entries, each a side and a node'
    pub record Entry (x : ℕ) : Type 0 where
      pub second : Bool
      pub from : ℕ
      pub expression : Expr
      pub part : Part (ad_of a a' second) from expression
      pub is : x ≡ numbered second (last_of from expression)
      pub value : Value
      pub means : Means a a' second from expression value
      pub slot : slot_at table x ≡ Held value

    -- an entry is a node
    entry_node : (x : ℕ) → x ∈ take budget m.order → Node (pair_graph v b w c) x
    entry_node x k =
        let sound = stored_sound (stored_of h) (stored_of h') in
        entered_part (λ y n z q. sound.links_in y z (needs_links (pair_graph v b w c) sound m.circular m.flagged y z q)) m.entered (λ y q. absurd (mem_nil q)) sound.roots_in x
        (subst (λ (l : List ℕ). x ∈ l) (take-append-drop budget m.order) (mem_left (drop budget m.order) k))

    -- EVERY ENTRY WORKED OUT HOLDS THE VALUE OF AN EXPRESSION OF THE TREES: 'A node's value is what the rules make of the values of its needs'
    pub entry_is : (x : ℕ) → x ∈ take budget m.order → Entry x
    entry_is x k = go (node_sides v b w c (stored_formed (stored_of h)) (stored_formed (stored_of h')) x (entry_node x k))
      where
        at : (second : Bool) (n : ℕ) (e : Expr) → Part (ad_of a a' second) n e → x ≡ numbered second (last_of n e) → Entry x
        at second n e p q =
            let g = slot_is second n e p (subst (λ (y : ℕ). y ∈ take budget m.order) q k) in
            record { second = second; from = n; expression = e; part = p; is = q; value = g.0; means = g.1; slot = ap (slot_at table) q ∙ g.2 }

        go : Sides (node_count v) max_nodes (node_count w) x → Entry x
        go (inl l) =
            let o = owned a x (let q = counted (stored_of h) (stored_of h') in omega arith) in
            at false o.from o.expression o.part o.is
        go (inr (l, l')) =
            let o = owned a' (x - max_nodes) (let q = counted (stored_of h') (stored_of h) in omega arith) in
            at true o.from o.expression o.part (let q : x - max_nodes ≡ last_of o.from o.expression = o.is in let r : x ≡ max_nodes + last_of o.from o.expression = omega arith in r)

    -- WHAT A FINISHED MATCH ANSWERS, ON THE TREES: 'Matched: both Requirements are true, nothing else. A rank is the Integer if it is 0 or
    -- more, otherwise 0'
    pub answer_is : length m.order ≤ budget →
        (p q i j : Value) × Worths a a' false requirements p × Worths a a' true requirements q × Worths a a' false rank i × Worths a a' true rank j ×
        (r ≡ Finished (is_true p && is_true q) (rank_of i) (rank_of j) (length m.order) m.count)
    answer_is k =
        let d = m.finished k in
        let s = stored_of h in
        let s' = stored_of h' in (
          d.first_requirement,
          d.second_requirement,
          d.first_rank,
          d.second_rank,
          worth_at_lem m.circular m.flagged false requirements d.first_requirement (ap (map (numbered false)) (find_tree s requirements)) d.first_required,
          worth_at_lem m.circular m.flagged true requirements d.second_requirement (ap (map (numbered true)) (find_tree s' requirements)) d.second_required,
          worth_at_lem m.circular m.flagged false rank d.first_rank (ap (map (numbered false)) (find_tree s rank)) d.first_ranked,
          worth_at_lem m.circular m.flagged true rank d.second_rank (ap (map (numbered true)) (find_tree s' rank)) d.second_ranked,
          d.answers,
        )
