-- From a place whose numbers are in range a transition leads to one again, whatever the marks hold: a mark that is wrong leads to a
-- place that still has a next transition, or to the end. Assumes nothing.
use Rattle.std.specs.Prelude.{◌≡◌, ◌⊎◌, Bool, eqb}
use Rattle.std.proofs.Math.Path.{refl}
use Rattle.std.proofs.Common.{sym, ap, ◌∙◌, inl, inr}
use Rattle.std.proofs.Math.Bool.{true, false, cond}
use mathlib.Core.List.{List, [], ◌∷◌}
use Prim.Native.Nat.{ℕ, zero, suc, ◌-◌, ◌≤◌, ◌<◌, min}
use Rattle.std.proofs.Math.Decide.{ℕ_discrete}
use native.Mathlib.Omega.{arith}
use Rattle.std.proofs.Math.Dec.{ltb}
use borrow.Author.Tests.{ltb-true}
use Rattle.graph.specs.Members.{◌∈◌, here, Each}
use Rattle.graph.proofs.Laws.Members.{mem_nil, mem_cons, mem_drop, at_mem, put_same, put_other}
use Rattle.graph.specs.Graph.{Graph, Sound}
use Rattle.graph.specs.declared.Place.{Place}
use Rattle.graph.specs.declared.Place.TheVariants.{Resolving, Starting, Searching, Closing, Between, Inside}
use Rattle.graph.specs.Transition.{State, start, searches, named, led, marked, needed, searched_to, resolved_to, back_open, back_closed, next_open, back, moved, resolve, discover, pass, pass_open, close, enter, seek, advance, shut, begin, follow, transition_at, transition, transitions, first}

-- the nodes, links and roots of a graph are slots
pub record Slotted (G : Graph) : Type 0 where
  pub nth_in : (i : ℕ) → i < G.size → G.nth i < G.slots
  pub links_in : (x : ℕ) → Each (λ y. y < G.slots) (G.links x)
  pub roots_in : Each (λ y. y < G.slots) G.roots

pub slotted : {G : Graph} → Sound G → Slotted G
slotted w = record {
  nth_in = λ i h. w.in_slots _ (w.nth_in i h);
  links_in = λ x y m. w.in_slots y (w.links_in x y m);
  roots_in = λ y m. w.in_slots y (w.roots_in y m);
}

-- the nodes that a place names are slots, and its search is one of those that there are, or the list searches are over
abbrev pub InRange : Graph → Place → Type 0
InRange G (Resolving i) = i < G.size
InRange G (Starting k) = k < G.size
InRange G (Searching k x top high low) = (x < G.slots) × (top < G.slots) × (k < G.size)
InRange G (Closing k x top high) = (x < G.slots) × (top < G.slots) × (k < G.size)
InRange G (Between k) = k ≤ searches G
InRange G (Inside k x) = (x < G.slots) × (k < searches G)

-- each recorded target is a slot
abbrev pub Targets : Graph → State → Type 0
Targets G s = (y p : ℕ) → s.target y ≡ suc p → p < G.slots

module _ (G : Graph) (w : Slotted G) where
  abbrev Slots : List ℕ → Type 0
  Slots = Each (λ y. y < G.slots)

  -- ---- what is named, led to and needed

  named_in : (m : ℕ) → Slots (named G m)
  unfolding named
  named_in zero y n = absurd (mem_nil n)
  named_in (suc x) y n = go (ltb x G.slots) refl n
    where
      only : x < G.slots → (y ≡ x) ⊎ (y ∈ []) → y < G.slots
      only h (inl e) = rw e h
      only h (inr k) = absurd (mem_nil k)

      go : (b : Bool) → ltb x G.slots ≡ b → y ∈ cond b (x ∷ []) [] → y < G.slots
      go true e k = only (ltb-true _ _ e) (mem_cons k)
      go false e k = absurd (mem_nil k)

  pub led_in : (target : ℕ → ℕ) (x : ℕ) → Slots (led G target x)
  unfolding led
  led_in target x y n = go (G.ref x) n
    where
      go : (b : Bool) → y ∈ cond b (named G (target x)) (G.links x) → y < G.slots
      go true k = named_in (target x) y k
      go false k = w.links_in x y k

  needed_in : (target : ℕ → ℕ) (flag : ℕ → Bool) (x : ℕ) → Slots (needed G target flag x)
  unfolding needed
  needed_in target flag x y n = go (flag x) n
    where
      go : (b : Bool) → y ∈ cond b [] (led G target x) → y < G.slots
      go true k = absurd (mem_nil k)
      go false k = led_in target x y k

  start_in : (k : ℕ) → k < searches G → start G k < G.slots
  unfolding start searches
  start_in k h = w.roots_in _ (at_mem G.roots k h)

  -- ---- where it goes on

  searched_in : (k : ℕ) → InRange G (searched_to G k)
  unfolding searched_to
  searched_in k = go (ltb k G.size) refl
    where
      go : (b : Bool) → ltb k G.size ≡ b → InRange G (cond b (Starting k) (Between 0))
      go true e = ltb-true _ _ e
      go false e = omega arith

  resolved_in : (i : ℕ) → InRange G (resolved_to G i)
  unfolding resolved_to
  resolved_in i = go (ltb i G.size) refl
    where
      go : (b : Bool) → ltb i G.size ≡ b → InRange G (cond b (Resolving i) (searched_to G 0))
      go true e = ltb-true _ _ e
      go false e = searched_in 0

  back_open_in : (k : ℕ) (u : List ℕ) (top high low : ℕ) → Slots u → top < G.slots → k < G.size → InRange G (back_open G k u top high low)
  back_open_in k [] top high low f t h = searched_in (suc k)
  back_open_in k (p ∷ ps) top high low f t h = (f p (here refl), t, h)

  back_closed_in : (k : ℕ) (u v : List ℕ) (high low : ℕ) → Slots u → Slots v → k < G.size → InRange G (back_closed G k u v high low)
  back_closed_in k [] v high low f g h = searched_in (suc k)
  back_closed_in k (p ∷ ps) [] high low f g h = searched_in (suc k)
  back_closed_in k (p ∷ ps) (b ∷ bs) high low f g h = (f p (here refl), g b (here refl), h)

  next_open_in : (k x : ℕ) (u : List ℕ) (high : ℕ) → Slots u → x < G.slots → k < G.size → InRange G (next_open G k x u high)
  next_open_in k x [] high f a h = searched_in (suc k)
  next_open_in k x (b ∷ bs) high f a h = (a, f b (here refl), h)

  back_in : (k : ℕ) (u : List ℕ) → Slots u → k < searches G → InRange G (back k u)
  back_in k [] f h = omega arith
  back_in k (p ∷ ps) f h = (f p (here refl), h)

  -- ---- the transitions, over any marks

  module _ (s : State) where
    -- a place in range, and the targets as they were
    record Leads (s' : State) : Type 0 where
      place_in : InRange G s'.place
      target_same : s'.target ≡ s.target

    seek_in : (k : ℕ) → k < G.size → Leads (seek G s k (G.nth k))
    unfolding seek
    seek_in k h = go (eqb (s.stamp (G.nth k)) 1)
      where
        go : (b : Bool) → Leads (cond b (moved s (searched_to G (suc k))) (discover s k (G.nth k) 0 0 0 0))
        go true = record { place_in = searched_in (suc k); target_same = refl }
        go false = record { place_in = (w.nth_in k h, w.nth_in k h, h); target_same = refl }

    advance_in : (k x top high low : ℕ) (ys : List ℕ) → s.place ≡ Searching k x top high low → InRange G (Searching k x top high low) → Slots ys → Leads (advance G s k x top high low ys)
    unfolding advance
    advance_in k x top high low [] e o f = go (ltb low (s.height x))
      where
        go : (b : Bool) → Leads (cond b (moved s (back_open G k (named G (s.from x)) top high (min low (s.saved x)))) (moved s (Closing k x top high)))
        go true = record { place_in = back_open_in k (named G (s.from x)) top high _ (named_in (s.from x)) o.1 o.2; target_same = refl }
        go false = record { place_in = o; target_same = refl }
    advance_in k x top high low (y ∷ ys) e o f = go (eqb (s.stamp y) 1) (eqb (s.height y) 0)
      where
        go : (b d : Bool) → Leads (cond b (cond d (pass s x) (pass_open G s x (Searching k x top high (min low (s.height y))))) (discover s k y (suc x) (suc top) high low))
        go true true = record { place_in = rw e o; target_same = refl }
        go true false = record { place_in = o; target_same = refl }
        go false d = record { place_in = (f y (here refl), f y (here refl), o.2); target_same = refl }

    shut_in : (k x top high : ℕ) → InRange G (Closing k x top high) → Leads (shut G s k x top high)
    unfolding shut
    shut_in k x top high o = go (eqb top x)
      where
        go : (b : Bool) → Leads (cond b (close s x (back_closed G k (named G (s.from x)) (named G (s.below x)) (high - 1) (s.saved x))) (close s top (next_open G k x (named G (s.below top)) (high - 1))))
        go true = record { place_in = back_closed_in k (named G (s.from x)) (named G (s.below x)) _ _ (named_in (s.from x)) (named_in (s.below x)) o.2; target_same = refl }
        go false = record { place_in = next_open_in k x (named G (s.below top)) _ (named_in (s.below top)) o.0 o.2; target_same = refl }

    begin_in : (k : ℕ) → s.place ≡ Between k → InRange G (Between k) → Leads (begin G s k)
    unfolding begin
    begin_in k e o = go (ltb k (searches G)) refl (eqb (s.stamp (start G k)) 2)
      where
        go : (b : Bool) → ltb k (searches G) ≡ b → (d : Bool) → Leads (cond b (cond d (moved s (Between (suc k))) (enter s k (start G k) 0)) s)
        go false q d = record { place_in = rw e o; target_same = refl }
        go true q true = record { place_in = ltb-true _ _ q; target_same = refl }
        go true q false = record { place_in = (start_in k (ltb-true _ _ q), ltb-true _ _ q); target_same = refl }

    follow_in : (k x : ℕ) (ys : List ℕ) → s.place ≡ Inside k x → InRange G (Inside k x) → Slots ys → Leads (follow G s k x ys)
    unfolding follow
    follow_in k x [] e o f = record { place_in = back_in k (named G (s.from x)) (named_in (s.from x)) o.1; target_same = refl }
    follow_in k x (y ∷ ys) e o f = go (eqb (s.stamp y) 2)
      where
        go : (b : Bool) → Leads (cond b (pass s x) (enter s k y (suc x)))
        go true = record { place_in = rw e o; target_same = refl }
        go false = record { place_in = (f y (here refl), o.1); target_same = refl }

    search_in : (k x top high low : ℕ) → s.place ≡ Searching k x top high low → InRange G (Searching k x top high low) → Leads (transition_at G s (Searching k x top high low))
    unfolding transition_at
    search_in k x top high low e o = advance_in k x top high low _ e o (λ y m. led_in s.target x y (mem_drop (s.followed x) _ y m))

    list_in : (k x : ℕ) → s.place ≡ Inside k x → InRange G (Inside k x) → Leads (transition_at G s (Inside k x))
    unfolding transition_at
    list_in k x e o = follow_in k x _ e o (λ y m. needed_in s.target s.flag x y (mem_drop (s.followed x) _ y m))

    range_at : (p : Place) → s.place ≡ p → InRange G p → InRange G (transition_at G s p).place
    unfolding transition_at
    range_at (Resolving i) e o = resolved_in (suc i)
    range_at (Starting k) e o = (seek_in k o).place_in
    range_at (Searching k x top high low) e o = (search_in k x top high low e o).place_in
    range_at (Closing k x top high) e o = (shut_in k x top high o).place_in
    range_at (Between k) e o = (begin_in k e o).place_in
    range_at (Inside k x) e o = (list_in k x e o).place_in

    -- A TRANSITION LEADS FROM A PLACE IN RANGE TO A PLACE IN RANGE, whatever the marks hold: 'over any marks, right or wrong'
    pub range_kept : InRange G s.place → InRange G (transition G s).place
    unfolding transition
    range_kept o = range_at s.place refl o

    -- ---- targets

    -- what is recorded of a node is a slot
    recorded_in : (x p : ℕ) → cond (G.ref x) (marked (G.links x)) 0 ≡ suc p → p < G.slots
    recorded_in x p e = go (G.ref x) (G.links x) (w.links_in x) e
      where
        none : 0 ≡ suc p → p < G.slots
        none z = absurd (let a : ⊥ = omega arith in a)

        go : (b : Bool) (l : List ℕ) → Slots l → cond b (marked l) 0 ≡ suc p → p < G.slots
        go false l f q = none q
        go true [] f q = none q
        go true (y ∷ ys) f q = f p (here (let z : suc y ≡ suc p = q in let a : p ≡ y = omega arith in a))

    resolve_targets : (i x : ℕ) → Targets G s → Targets G (resolve G s i x)
    resolve_targets i x v y p e = go (ℕ_discrete x y)
      where
        go : Dec (x ≡ y) → p < G.slots
        go (yes d) = recorded_in x p (sym (put_same s.target x _ d) ∙ e)
        go (no d) = v y p (sym (put_other s.target x _ d) ∙ e)

    same_targets : {s' : State} → Leads s' → Targets G s → Targets G s'
    same_targets l v y p e = v y p (sym (ap (λ (f : ℕ → ℕ). f y) l.target_same) ∙ e)

    targets_at : (p : Place) → s.place ≡ p → InRange G p → Targets G s → Targets G (transition_at G s p)
    unfolding transition_at
    targets_at (Resolving i) e o v = resolve_targets i (G.nth i) v
    targets_at (Starting k) e o v = same_targets (seek_in k o) v
    targets_at (Searching k x top high low) e o v = same_targets (search_in k x top high low e o) v
    targets_at (Closing k x top high) e o v = same_targets (shut_in k x top high o) v
    targets_at (Between k) e o v = same_targets (begin_in k e o) v
    targets_at (Inside k x) e o v = same_targets (list_in k x e o) v

    pub targets_kept : InRange G s.place → Targets G s → Targets G (transition G s)
    unfolding transition
    targets_kept o v = targets_at s.place refl o v

  -- ---- from the first place

  pub record Ranged (s : State) : Type 0 where
    pub place_in : InRange G s.place
    pub targets_in : Targets G s

  pub ranged_transitions : (c : ℕ) (s : State) → Ranged s → Ranged (transitions G c s)
  unfolding transitions
  ranged_transitions zero s v = v
  ranged_transitions (suc c) s v =
      ranged_transitions c (transition G s) (record { place_in = range_kept s v.place_in; targets_in = targets_kept s v.place_in v.targets_in })

  pub ranged_first : Ranged (first G)
  unfolding first
  ranged_first = record { place_in = resolved_in 0; targets_in = λ y p e. absurd (let a : ⊥ = omega arith in a) }
