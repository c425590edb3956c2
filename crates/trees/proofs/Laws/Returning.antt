-- A reference is circular in the graph of two trees exactly if it leads back to itself on the trees. Assumes nothing.
use Rattle.std.specs.Prelude.{ℕ, ◌+◌, ◌<◌, ◌≡◌, refl, ◌⊎◌, Bool, true, false}
use Rattle.std.proofs.Common.{arith, ap₂, ◌∙◌, inl, inr}
use Rattle.std.proofs.Math.Path.{sym, ap, subst}
use mathlib.Core.List.{List, [], ◌∷◌, map}
use Rattle.syntax.specs.Bounds.{max_nodes}
use Rattle.syntax.specs.Tree.{Scope, Expr, literal, reference, unary, binary, conditional, Ad, size}
use Rattle.ad.specs.Layout.{stored_words, stored_bytes}
use Rattle.graph.specs.Members.{◌∈◌, here, there}
use Rattle.graph.proofs.Laws.Members.{mem_nil, mem_cons}
use Rattle.graph.specs.Graph.{Path⁺, one, more, Circular}
use Rattle.links.specs.Pair.{numbered, definition_at}
use Rattle.well_formed.specs.WellFormed.{Holds}
use Rattle.trees.specs.Nodes.{refers, last_of, nth_node}
use Rattle.trees.specs.Links.{leads, is_reference, tree_graph}
use Rattle.trees.specs.Values.{ad_of, side_of, Finds, found_first, found_later, Leads, to_operand, to_left, to_right, to_test, to_second, to_third, to_definition, LeadsOn, at_once, and_on, Returns, Part, whole, under, left, right, test, taken, otherwise}
use Rattle.trees.proofs.Laws.Parts.{top_of, top}
use Rattle.trees.proofs.Laws.Own.{Looked, nowhere, somewhere, look, finds_defines, own_leaf, links_own, ref_own, leads_name, low}

-- ---- numbers

apart : (s t : Bool) (i j : ℕ) → i < max_nodes → j < max_nodes → numbered s i ≡ numbered t j → (s ≡ t) × (i ≡ j)
apart true true i j h k e = (refl, let q : max_nodes + i ≡ max_nodes + j = e in let r : i ≡ j = omega arith in r)
apart true false i j h k e = absurd (let q : max_nodes + i ≡ j = e in let r : ⊥ = omega arith in r)
apart false true i j h k e = absurd (let q : i ≡ max_nodes + j = e in let r : ⊥ = omega arith in r)
apart false false i j h k e = (refl, e)

-- the definition that a name finds is the one that it leads to
finds_at : {name : List ℕ} {k m : ℕ} {a : Ad} {e : Expr} → Finds name k a m e → definition_at k name a ≡ last_of m e ∷ []
unfolding definition_at
finds_at (found_first h) = rw h refl
finds_at (found_later h f) = rw h (finds_at f)

-- an expression whose own node is a reference is that reference
refers_only : (m : ℕ) (f : Expr) (c : Scope) (name : List ℕ) → top_of m f ≡ refers c name → f ≡ reference c name
unfolding top_of
refers_only m (literal l) c name e = absurd (let z : ◌≡◌ {A = ℕ} 0 1 = cc in let r : ⊥ = omega arith in r)
refers_only m (reference s w) c name e = let p : s ≡ c = cc in let q : w ≡ name = cc in ap₂ reference p q
refers_only m (unary u f) c name e = absurd (let z : ◌≡◌ {A = ℕ} 0 1 = cc in let r : ⊥ = omega arith in r)
refers_only m (binary j f g) c name e = absurd (let z : ◌≡◌ {A = ℕ} 0 1 = cc in let r : ⊥ = omega arith in r)
refers_only m (conditional f g k) c name e = absurd (let z : ◌≡◌ {A = ℕ} 0 1 = cc in let r : ⊥ = omega arith in r)

module _ {a a' : Ad} (h : Holds (stored_words a) (stored_bytes a) a) (h' : Holds (stored_words a') (stored_bytes a') a') where
  -- ---- a step on the trees is a link

  pub record Linked (x : ℕ) (t : Bool) (m : ℕ) (f : Expr) : Type 0 where
    pub link : numbered t (last_of m f) ∈ (tree_graph a a').links x
    pub part : Part (ad_of a a' t) m f

  by_links : (x : ℕ) (l : List ℕ) {y : ℕ} → (tree_graph a a').links x ≡ l → y ∈ l → y ∈ (tree_graph a a').links x
  by_links x l {y} e k = subst (λ (z : List ℕ). y ∈ z) (sym e) k

  leads_link : {s t : Bool} {n m : ℕ} {e f : Expr} → Part (ad_of a a' s) n e → Leads a a' s n e t m f → Linked (numbered s (last_of n e)) t m f
  unfolding top_of leads
  leads_link p (to_operand {s = s} {u = u}) = record { link = by_links _ _ (links_own h h' s p) (here refl); part = under u p }
  leads_link p (to_left {s = s} {j = j} {f = f}) = record { link = by_links _ _ (links_own h h' s p) (here refl); part = left j f p }
  leads_link p (to_right {s = s} {j = j} {e = e}) = record { link = by_links _ _ (links_own h h' s p) (there (here refl)); part = right j e p }
  leads_link p (to_test {s = s} {f = f} {g = g}) = record { link = by_links _ _ (links_own h h' s p) (here refl); part = test f g p }
  leads_link p (to_second {s = s} {e = e} {g = g}) = record { link = by_links _ _ (links_own h h' s p) (there (here refl)); part = taken e g p }
  leads_link p (to_third {s = s} {e = e} {f = f}) = record { link = by_links _ _ (links_own h h' s p) (there (there (here refl))); part = otherwise e f p }
  leads_link p (to_definition {s = s} {m = m} {c = c} {name = name} {e = e} d) = record {
    link = by_links _ _ (links_own h h' s p ∙ leads_name h h' s c name ∙ ap (map (numbered (side_of s c))) (finds_at d)) (here refl);
    part = whole (finds_defines d);
  }

  leads_path : {s t : Bool} {n m : ℕ} {e f : Expr} → Part (ad_of a a' s) n e → LeadsOn a a' s n e t m f → Path⁺ (tree_graph a a').links (numbered s (last_of n e)) (numbered t (last_of m f))
  leads_path p (at_once l) = one (leads_link p l).link
  leads_path p (and_on l k) = more (leads_link p l).link (leads_path (leads_link p l).part k)

  -- ---- a link is a step on the trees

  record Onward (s : Bool) (n : ℕ) (e : Expr) (y : ℕ) : Type 0 where
    side : Bool
    from : ℕ
    to : Expr
    is : y ≡ numbered side (last_of from to)
    leads_to : Leads a a' s n e side from to
    part : Part (ad_of a a' side) from to

  none_on : {s : Bool} {n : ℕ} {e : Expr} {y : ℕ} → y ∈ [] → Onward s n e y
  none_on k = absurd (mem_nil k)

  link_leads : (s : Bool) (n : ℕ) (e : Expr) {y : ℕ} → Part (ad_of a a' s) n e → y ∈ (tree_graph a a').links (numbered s (last_of n e)) → Onward s n e y
  unfolding top_of leads
  link_leads s n (literal l) {y} p k = none_on (subst (λ (z : List ℕ). y ∈ z) (links_own h h' s p) k)
  link_leads s n (reference c name) {y} p k = go (look name 0 (ad_of a a' (side_of s c)))
    where
      found : {m : ℕ} {f : Expr} → Finds name 0 (ad_of a a' (side_of s c)) m f → (y ≡ numbered (side_of s c) (last_of m f)) ⊎ (y ∈ []) → Onward s n (reference c name) y
      found {m} {f} d (inl e) = record { side = side_of s c; from = m; to = f; is = e; leads_to = to_definition d; part = whole (finds_defines d) }
      found d (inr z) = none_on z

      go : Looked name 0 (ad_of a a' (side_of s c)) → Onward s n (reference c name) y
      go (nowhere x z) = none_on (subst (λ (l : List ℕ). y ∈ l) (links_own h h' s p ∙ leads_name h h' s c name ∙ ap (map (numbered (side_of s c))) x) k)
      go (somewhere m f x d) = found d (mem_cons (subst (λ (l : List ℕ). y ∈ l) (links_own h h' s p ∙ leads_name h h' s c name ∙ ap (map (numbered (side_of s c))) x) k))
  link_leads s n (unary u e) {y} p k = go (mem_cons (subst (λ (z : List ℕ). y ∈ z) (links_own h h' s p) k))
    where
      go : (y ≡ numbered s (last_of n e)) ⊎ (y ∈ []) → Onward s n (unary u e) y
      go (inl q) = record { side = s; from = n; to = e; is = q; leads_to = to_operand; part = under u p }
      go (inr z) = none_on z
  link_leads s n (binary j e f) {y} p k = go (mem_cons (subst (λ (z : List ℕ). y ∈ z) (links_own h h' s p) k))
    where
      last : (y ≡ numbered s (last_of (n + size e) f)) ⊎ (y ∈ []) → Onward s n (binary j e f) y
      last (inl q) = record { side = s; from = n + size e; to = f; is = q; leads_to = to_right; part = right j e p }
      last (inr z) = none_on z

      go : (y ≡ numbered s (last_of n e)) ⊎ (y ∈ (numbered s (last_of (n + size e) f) ∷ [])) → Onward s n (binary j e f) y
      go (inl q) = record { side = s; from = n; to = e; is = q; leads_to = to_left; part = left j f p }
      go (inr z) = last (mem_cons z)
  link_leads s n (conditional e f g) {y} p k = go (mem_cons (subst (λ (z : List ℕ). y ∈ z) (links_own h h' s p) k))
    where
      last : (y ≡ numbered s (last_of (n + size e + size f) g)) ⊎ (y ∈ []) → Onward s n (conditional e f g) y
      last (inl q) = record { side = s; from = n + size e + size f; to = g; is = q; leads_to = to_third; part = otherwise e f p }
      last (inr z) = none_on z

      next : (y ≡ numbered s (last_of (n + size e) f)) ⊎ (y ∈ (numbered s (last_of (n + size e + size f) g) ∷ [])) → Onward s n (conditional e f g) y
      next (inl q) = record { side = s; from = n + size e; to = f; is = q; leads_to = to_second; part = taken e g p }
      next (inr z) = last (mem_cons z)

      go : (y ≡ numbered s (last_of n e)) ⊎ (y ∈ (numbered s (last_of (n + size e) f) ∷ numbered s (last_of (n + size e + size f) g) ∷ [])) → Onward s n (conditional e f g) y
      go (inl q) = record { side = s; from = n; to = e; is = q; leads_to = to_test; part = test f g p }
      go (inr z) = next (mem_cons z)

  record Reached (s : Bool) (n : ℕ) (e : Expr) (y : ℕ) : Type 0 where
    side : Bool
    from : ℕ
    to : Expr
    is : y ≡ numbered side (last_of from to)
    leads_to : LeadsOn a a' s n e side from to
    part : Part (ad_of a a' side) from to

  path_leads : {x y : ℕ} → Path⁺ (tree_graph a a').links x y → (s : Bool) (n : ℕ) (e : Expr) → Part (ad_of a a' s) n e → x ≡ numbered s (last_of n e) → Reached s n e y
  path_leads {x} {y} (one k) s n e p q =
      let o = link_leads s n e p (subst (λ (z : ℕ). y ∈ (tree_graph a a').links z) q k) in
      record { side = o.side; from = o.from; to = o.to; is = o.is; leads_to = at_once o.leads_to; part = o.part }
  path_leads (more {y = y} k r) s n e p q =
      let o = link_leads s n e p (subst (λ (u : ℕ). y ∈ (tree_graph a a').links u) q k) in
      let d = path_leads r o.side o.from o.to o.part o.is in
      record { side = d.side; from = d.from; to = d.to; is = d.is; leads_to = and_on o.leads_to d.leads_to; part = d.part }

  -- ---- THE THEOREM

  module _ (second : Bool) {n : ℕ} {c : Scope} {name : List ℕ} (p : Part (ad_of a a' second) n (reference c name)) where
    number : numbered second (last_of n (reference c name)) ≡ numbered second n
    number = ap (numbered second) (own_leaf n c name)

    -- a reference that leads back to itself is circular in the graph
    pub returns_circular : Returns a a' second n c name → Circular (tree_graph a a') (numbered second n)
    unfolding top_of is_reference
    returns_circular r = subst (Circular (tree_graph a a')) number (ref_own h h' second p, leads_path p r)

    -- and no other is
    pub circular_returns : Circular (tree_graph a a') (numbered second n) → Returns a a' second n c name
    unfolding top_of
    circular_returns k = go (path_leads k.1 second n (reference c name) p (sym number))
      where
        back : (t : Bool) (m : ℕ) (f : Expr) → second ≡ t → last_of n (reference c name) ≡ last_of m f → Part (ad_of a a' t) m f → LeadsOn a a' second n (reference c name) t m f → Returns a a' second n c name
        back t m f q r d l =
            let d₁ : Part (ad_of a a' second) m f = subst (λ (z : Bool). Part (ad_of a a' z) m f) (sym q) d in
            let l₁ : LeadsOn a a' second n (reference c name) second m f = subst (λ (z : Bool). LeadsOn a a' second n (reference c name) z m f) (sym q) l in
            let e : top_of m f ≡ refers c name = sym (top d₁).is ∙ ap (nth_node (ad_of a a' second)) (sym r) ∙ (top p).is in
            let g : f ≡ reference c name = refers_only m f c name e in
            let v : m ≡ n = sym (own_leaf m c name) ∙ ap (last_of m) (sym g) ∙ sym r ∙ own_leaf n c name in
            subst (λ (z : ℕ). LeadsOn a a' second n (reference c name) second z (reference c name)) v
            (subst (λ (z : Expr). LeadsOn a a' second n (reference c name) second m z) g l₁)

        go : Reached second n (reference c name) (numbered second n) → Returns a a' second n c name
        go o =
            let q = apart second o.side (last_of n (reference c name)) (last_of o.from o.to) (low h h' second p) (low h h' o.side o.part) (number ∙ o.is) in
            back o.side o.from o.to q.0 q.1 o.part o.leads_to
