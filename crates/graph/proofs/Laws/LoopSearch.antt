-- The transitions of a loop search do what Tarjan's search says. Assumes nothing.
use Rattle.std.specs.Prelude.{◌≡◌, ◌≢◌, ◌⊎◌, Bool, true, false, ◌||◌, drop}
use Rattle.std.proofs.Math.Path.{refl, sym, ap, subst}
use Rattle.std.proofs.Common.{◌∙◌, inl, inr, le_refl}
use mathlib.Core.List.{List, [], ◌∷◌}
use Prim.Native.Nat.{ℕ, zero, suc, ◌+◌, ◌-◌, ◌≤◌, ◌<◌, min}
use Rattle.std.proofs.Math.Decide.{ℕ_discrete}
use native.Mathlib.Omega.{arith}
use Rattle.std.proofs.Math.ListN.{length}
use Rattle.graph.specs.Members.{◌∈◌, here, there, Each, Distinct, dcons, put}
use Rattle.graph.proofs.Laws.Members.{mem_nil, mem_cons, mem_cast, put_same, put_other, drop_tail}
use Rattle.graph.specs.Graph.{Graph}
use Rattle.graph.proofs.Laws.Components.{tall, tall_none, tall_here, tall_there, tall_some, Over, level, newer, over_in, over_long, over_tall, Tarjan, finished, crossed, tied, left, closed, tarjan_grows, tarjan_over}
use Rattle.graph.proofs.Laws.Cycles.{Shut, Before, After, before_tail, before_enter, before_root, before_left, before_closed, after, root_low}
use Rattle.graph.specs.declared.Place.{Place}
use Rattle.graph.specs.declared.Place.TheVariants.{Starting, Searching, Closing}
use Rattle.graph.specs.Transition.{State, marked, named, led, searched_to, back_open, back_closed, next_open, moved, discover, pass, pass_open, close, transition, transitions}
use Rattle.graph.proofs.Laws.Transitions.{named_of, named_none, transitions_add, transition_seek, transition_discover, transition_cross, transition_tie, transition_leave_open, transition_collect, transition_close, transition_complete}

-- ---- what the marks say

-- the seen nodes have the stamp 1
pub record Stamped (stamp : ℕ → ℕ) (v : List ℕ) : Type 0 where
  pub seen_in : (z : ℕ) → z ∈ v → stamp z ≡ 1
  pub seen_out : (z : ℕ) → stamp z ≡ 1 → z ∈ v
  pub small : (z : ℕ) → stamp z ≤ 1

stamped_put : {stamp : ℕ → ℕ} {v : List ℕ} (y : ℕ) → Stamped stamp v → Stamped (put stamp y 1) (y ∷ v)
stamped_put {stamp} {v} y r = record {
  seen_in = λ z m. inside z (ℕ_discrete y z) (mem_cons m);
  seen_out = λ z h. outside z h (ℕ_discrete y z);
  small = λ z. low z (ℕ_discrete y z);
}
  where
    inside : (z : ℕ) → Dec (y ≡ z) → (z ≡ y) ⊎ (z ∈ v) → put stamp y 1 z ≡ 1
    inside z (yes e) m = put_same stamp y 1 e
    inside z (no ne) (inl e) = absurd (ne (sym e))
    inside z (no ne) (inr m) = put_other stamp y 1 ne ∙ r.seen_in z m

    outside : (z : ℕ) → put stamp y 1 z ≡ 1 → Dec (y ≡ z) → z ∈ (y ∷ v)
    outside z h (yes e) = here (sym e)
    outside z h (no ne) = there (r.seen_out z (sym (put_other stamp y 1 ne) ∙ h))

    low : (z : ℕ) → Dec (y ≡ z) → put stamp y 1 z ≤ 1
    low z (yes e) = rw (put_same stamp y 1 e) (le_refl 1)
    low z (no ne) = rw (put_other stamp y 1 ne) (r.small z)

-- below each open node is the next older one
pub data Chain (below : ℕ → ℕ) : List ℕ → Type 0 where
  bottom : Chain below []
  above : {y : ℕ} {o : List ℕ} → below y ≡ marked o → Chain below o → Chain below (y ∷ o)

chain_put : {below : ℕ → ℕ} {o : List ℕ} (y a : ℕ) → ¬ (y ∈ o) → Chain below o → Chain (put below y a) o
chain_put y a f bottom = bottom
chain_put {below} y a f (above {y = z} e c) = above (put_other below y a (λ q. f (here q)) ∙ e) (chain_put y a (λ m. f (there m)) c)

chain_top : {below : ℕ → ℕ} {y : ℕ} {o : List ℕ} → Chain below (y ∷ o) → below y ≡ marked o
chain_top (above e c) = e

chain_rest : {below : ℕ → ℕ} {y : ℕ} {o : List ℕ} → Chain below (y ∷ o) → Chain below o
chain_rest (above e c) = c

-- the open nodes, newest first
pub record Stack (height below : ℕ → ℕ) (o : List ℕ) : Type 0 where
  pub heights : (z : ℕ) → height z ≡ tall o z
  pub chain : Chain below o

stack_push : {height below : ℕ → ℕ} {o : List ℕ} (y : ℕ) → ¬ (y ∈ o) → Stack height below o → Stack (put height y (suc (length o))) (put below y (marked o)) (y ∷ o)
stack_push {height} {below} {o} y f r = record {
  heights = λ z. same z (ℕ_discrete y z);
  chain = above (put_same below y (marked o) refl) (chain_put y (marked o) f r.chain);
}
  where
    same : (z : ℕ) → Dec (y ≡ z) → put height y (suc (length o)) z ≡ tall (y ∷ o) z
    same z (yes e) = put_same height y _ e ∙ sym (tall_here y o) ∙ ap (tall (y ∷ o)) e
    same z (no ne) = put_other height y _ ne ∙ r.heights z ∙ sym (tall_there y o z ne)

stack_pop : {height below : ℕ → ℕ} {y : ℕ} {o : List ℕ} → ¬ (y ∈ o) → Stack height below (y ∷ o) → Stack (put height y 0) below o
stack_pop {height} {below} {y} {o} f r = record { heights = λ z. same z (ℕ_discrete y z); chain = chain_rest r.chain }
  where
    same : (z : ℕ) → Dec (y ≡ z) → put height y 0 z ≡ tall o z
    same z (yes e) = put_same height y 0 e ∙ sym (tall_none o z (λ m. f (mem_cast e m)))
    same z (no ne) = put_other height y 0 ne ∙ r.heights z ∙ tall_there y o z ne

-- the flagged nodes are the references among t
pub record Flagged (ref flag : ℕ → Bool) (t : List ℕ) : Type 0 where
  pub flag_in : (z : ℕ) → z ∈ t → ref z ≡ true → flag z ≡ true
  pub flag_out : (z : ℕ) → flag z ≡ true → (z ∈ t) × (ref z ≡ true)

flagged_put : {ref flag : ℕ → Bool} {t : List ℕ} (x : ℕ) → Flagged ref flag t → Flagged ref (put flag x (flag x || ref x)) (x ∷ t)
flagged_put {ref} {flag} {t} x r = record {
  flag_in = λ z m e. inside z e (ℕ_discrete x z) (mem_cons m);
  flag_out = λ z h. outside z h (ℕ_discrete x z);
}
  where
    or_right : (a b : Bool) → b ≡ true → (a || b) ≡ true
    or_right true b e = refl
    or_right false b e = e

    or_split : (a b : Bool) → (a || b) ≡ true → (a ≡ true) ⊎ (b ≡ true)
    or_split true b e = inl refl
    or_split false b e = inr e

    inside : (z : ℕ) → ref z ≡ true → Dec (x ≡ z) → (z ≡ x) ⊎ (z ∈ t) → put flag x (flag x || ref x) z ≡ true
    inside z e (yes q) m = put_same flag x _ q ∙ or_right (flag x) (ref x) (ap ref q ∙ e)
    inside z e (no ne) (inl q) = absurd (ne (sym q))
    inside z e (no ne) (inr m) = put_other flag x _ ne ∙ r.flag_in z m e

    set : (z : ℕ) → x ≡ z → (flag x ≡ true) ⊎ (ref x ≡ true) → (z ∈ (x ∷ t)) × (ref z ≡ true)
    set z e (inl h) = (here (sym e), ap ref (sym e) ∙ (r.flag_out x h).1)
    set z e (inr h) = (here (sym e), ap ref (sym e) ∙ h)

    outside : (z : ℕ) → put flag x (flag x || ref x) z ≡ true → Dec (x ≡ z) → (z ∈ (x ∷ t)) × (ref z ≡ true)
    outside z h (yes e) = set z e (or_split (flag x) (ref x) (sym (put_same flag x _ e) ∙ h))
    outside z h (no ne) = let q = r.flag_out z (sym (put_other flag x _ ne) ∙ h) in (there q.0, q.1)

-- ---- the state in the middle of a search

-- with v seen, o open and t tied
pub record Marks (G : Graph) (target stamp height below : ℕ → ℕ) (flag : ℕ → Bool) (list v o t : List ℕ) : Type 0 where
  pub resolved : (z : ℕ) → led G target z ≡ G.links z
  pub stamped : Stamped stamp v
  pub stack : Stack height below o
  pub flagged : Flagged G.ref flag t
  pub empty : list ≡ []
  pub in_slots : Each (λ z. z < G.slots) v

abbrev pub MarksOf : Graph → State → List ℕ → List ℕ → List ℕ → Type 0
MarksOf G s v o t = Marks G s.target s.stamp s.height s.below s.flag s.list v o t

-- the newest of the open nodes
abbrev newest : List ℕ → ℕ
newest [] = 0
newest (y ∷ o) = y

newest_marked : {x : ℕ} {o : List ℕ} → x ∈ o → suc (newest o) ≡ marked o
newest_marked (here e) = refl
newest_marked (there m) = refl

newest_in : {x : ℕ} {o : List ℕ} → x ∈ o → newest o ∈ o
newest_in (here e) = here refl
newest_in (there m) = here refl

-- Search k stands at x, and xs are the links of x that are left to follow.
record At (G : Graph) (k : ℕ) (s : State) (x : ℕ) (v o : List ℕ) (low : ℕ) (t xs : List ℕ) : Type 0 where
  place : s.place ≡ Searching k x (newest o) (length o) low
  rest : drop (s.followed x) (G.links x) ≡ xs
  marks : MarksOf G s v o t

-- the marks of what was seen before stand, but for how many links of x are done
record Did (s s' : State) (x : ℕ) (v : List ℕ) : Type 0 where
  from_kept : (z : ℕ) → z ∈ v → s'.from z ≡ s.from z
  saved_kept : (z : ℕ) → z ∈ v → s'.saved z ≡ s.saved z
  followed_kept : (z : ℕ) → z ∈ v → x ≢ z → s'.followed z ≡ s.followed z

-- another place, and other heights
abbrev lowered : State → Place → (ℕ → ℕ) → State
lowered s p h = record {
  place = p;
  target = s.target;
  stamp = s.stamp;
  from = s.from;
  followed = s.followed;
  flag = s.flag;
  height = h;
  below = s.below;
  saved = s.saved;
  list = s.list;
}

-- links lead to slots
module _ (G : Graph) (k : ℕ) (slot : (x : ℕ) → Each (λ y. y < G.slots) (G.links x)) where
  record Post (s s' : State) (x : ℕ) (v v' o' : List ℕ) (low' : ℕ) (t' : List ℕ) : Type 0 where
    at : At G k s' x v' o' low' t' []
    did : Did s s' x v

  -- what is left to follow, by the marks
  left_to : {s : State} {x low : ℕ} {v o t xs : List ℕ} → At G k s x v o low t xs → drop (s.followed x) (led G s.target x) ≡ xs
  left_to {s} {x} p = ap (drop (s.followed x)) (p.marks.resolved x) ∙ p.rest

  at_discover : (s : State) (y p q : ℕ) {b h : ℕ} {v o t : List ℕ} → y < G.slots → ¬ (y ∈ o) → b ≡ marked o → h ≡ length o → MarksOf G s v o t →
      At G k (discover s k y p b h q) y (y ∷ v) (y ∷ o) (suc (length o)) t (G.links y)
  at_discover s y p q {v = v} l f eb eh m = record {
    place = rw eh refl;
    rest = ap (λ (i : ℕ). drop i (G.links y)) (put_same s.followed y 0 refl);
    marks = record {
      resolved = m.resolved;
      stamped = stamped_put y m.stamped;
      stack = rw (eb, eh) (stack_push y f m.stack);
      flagged = m.flagged;
      empty = m.empty;
      in_slots = λ z n. case z (mem_cons n);
    };
  }
    where
      case : (z : ℕ) → (z ≡ y) ⊎ (z ∈ v) → z < G.slots
      case z (inl e) = rw e l
      case z (inr n) = m.in_slots z n

  -- ---- closing: the newer nodes, one after another

  closing : {y : ℕ} {o o₁ : List ℕ} → Over (y ∷ o) o₁ → Distinct o₁ → Each (λ z. z < G.slots) o₁ → (j : ℕ) → length o₁ ≡ j + suc (length o) → (s : State) → s.place ≡ Closing k y (newest o₁) (length o₁) →
      Stack s.height s.below o₁ → (h : ℕ → ℕ) × (transitions G j s ≡ lowered s (Closing k y y (suc (length o))) h) × Stack h s.below (y ∷ o)
  unfolding transitions
  closing level d l zero e s p r = (s.height, ap (λ (i : Place). lowered s i s.height) p, r)
  closing level d l (suc j) e s p r = absurd (let z : ⊥ = omega arith in z)
  closing (newer w) d l zero e s p r = absurd (let h = over_long w in let z : ⊥ = omega arith in z)
  closing {y} {o} (newer {y = z} {o' = o₂} w) (dcons f d) l (suc j) e s p r =
      let in_y : y ∈ o₂ = over_in w y (here refl) in
      let top : suc (newest o₂) ≡ marked o₂ = newest_marked in_y in
      let s₁ : State = close s z (Closing k y (newest o₂) (length o₂)) in
      let one_less : suc (length o₂) - 1 ≡ length o₂ = omega arith in
      let b : s.below z ≡ suc (newest o₂) = chain_top r.chain ∙ sym top in
      let e₁ : transition G s ≡ s₁ =
      transition_close G s k y z (suc (length o₂)) p (λ q. f (mem_cast q in_y)) ∙
      ap (λ (u : List ℕ). close s z (next_open G k y u (suc (length o₂) - 1))) (named_of G b (l (newest o₂) (there (newest_in in_y)))) ∙
      ap (λ (i : ℕ). close s z (Closing k y (newest o₂) i)) one_less in
      let (h, q, r') = closing w d (λ u m. l u (there m)) j (omega arith) s₁ refl (stack_pop f r) in
      (h, ap (transitions G j) e₁ ∙ q, r')

  -- x and all that is newer are closed: x, at which no link is left and which leads to nothing lower
  collected : {s : State} {x low : ℕ} {v o o₁ t : List ℕ} → At G k s x v o₁ low t [] → Over (x ∷ o) o₁ → Distinct o₁ → Each (λ z. z < G.slots) o₁ → suc (length o) ≤ low → (j : ℕ) → length o₁ ≡ j + suc (length o) →
      (h : ℕ → ℕ) × (transitions G (suc (suc j)) s ≡ lowered s (back_closed G k (named G (s.from x)) (named G (marked o)) (length o) (s.saved x)) h) × Stack h s.below o
  unfolding transitions
  collected {s} {x} {low} {v} {o} {o₁} p w d l g j e =
      let s₁ : State = moved s (Closing k x (newest o₁) (length o₁)) in
      let tall_x : s.height x ≡ suc (length o) = p.marks.stack.heights x ∙ over_tall w d x (here refl) ∙ tall_here x o in
      let e₁ : transition G s ≡ s₁ = transition_collect G s k x (newest o₁) (length o₁) low p.place (left_to p) (let z : s.height x ≤ low = omega arith in z) in
      let (h, q, r) = closing w d l j e s₁ refl p.marks.stack in
      let s₂ : State = lowered s₁ (Closing k x x (suc (length o))) h in
      let one_less : suc (length o) - 1 ≡ length o = omega arith in
      let e₂ : transition G s₂ ≡ close s₂ x (back_closed G k (named G (s.from x)) (named G (marked o)) (length o) (s.saved x)) =
      transition_complete G s₂ k x x (suc (length o)) refl refl ∙
      ap (λ (i : ℕ). close s₂ x (back_closed G k (named G (s.from x)) (named G i) (suc (length o) - 1) (s.saved x))) (chain_top r.chain) ∙
      ap (λ (i : ℕ). close s₂ x (back_closed G k (named G (s.from x)) (named G (marked o)) i (s.saved x))) one_less in (
        put h x 0,
        ap (λ (i : ℕ). transitions G i (transition G s)) (let z : suc j ≡ j + 1 = omega arith in z) ∙ ap (transitions G (j + 1)) e₁ ∙ transitions_add G j 1 s₁ ∙ ap (transition G) q ∙ e₂,
        stack_pop (below_not w d) r,
      )
    where
      below_not : {y : ℕ} {a b : List ℕ} → Over (y ∷ a) b → Distinct b → ¬ (y ∈ a)
      below_not level (dcons f c) = f
      below_not (newer u) (dcons f c) = below_not u c

  -- ---- the parts of a search

  at_cross : {s : State} {x y low : ℕ} {v o t ys : List ℕ} → At G k s x v o low t (y ∷ ys) → At G k (pass s x) x v o low t ys
  at_cross {s} {x} p = record {
    place = p.place;
    rest = ap (λ (i : ℕ). drop i (G.links x)) (put_same s.followed x _ refl) ∙ drop_tail (s.followed x) (G.links x) p.rest;
    marks = p.marks;
  }

  at_tie : {s : State} {x y low : ℕ} {v o t ys : List ℕ} → At G k s x v o low t (y ∷ ys) →
      At G k (pass_open G s x (Searching k x (newest o) (length o) (min low (s.height y)))) x v o (min low (tall o y)) (x ∷ t) ys
  at_tie {s} {x} {y} {low} {v} {o} p = record {
    place = ap (λ (i : ℕ). Searching k x (newest o) (length o) (min low i)) (p.marks.stack.heights y);
    rest = ap (λ (i : ℕ). drop i (G.links x)) (put_same s.followed x _ refl) ∙ drop_tail (s.followed x) (G.links x) p.rest;
    marks = record {
      resolved = p.marks.resolved;
      stamped = p.marks.stamped;
      stack = p.marks.stack;
      flagged = flagged_put x p.marks.flagged;
      empty = p.marks.empty;
      in_slots = p.marks.in_slots;
    };
  }

  did_none : {s : State} {x : ℕ} {v : List ℕ} → Did s s x v
  did_none = record { from_kept = λ z m. refl; saved_kept = λ z m. refl; followed_kept = λ z m ne. refl }

  did_cross : {s s' : State} {x : ℕ} {v : List ℕ} → Did (pass s x) s' x v → Did s s' x v
  did_cross {s} {s'} {x} d = record { from_kept = d.from_kept; saved_kept = d.saved_kept; followed_kept = λ z m ne. d.followed_kept z m ne ∙ put_other s.followed x _ ne }

  did_tie : {s s' : State} {x : ℕ} {v : List ℕ} {p : Place} → Did (pass_open G s x p) s' x v → Did s s' x v
  did_tie {s} {s'} {x} d = record { from_kept = d.from_kept; saved_kept = d.saved_kept; followed_kept = λ z m ne. d.followed_kept z m ne ∙ put_other s.followed x _ ne }

  -- y is entered from x and searched, and then the rest, from a state with other heights
  did_new : (b q : ℕ) {s s₂ s' : State} {x y n : ℕ} {v v₁ : List ℕ} {p : Place} {h : ℕ → ℕ} → ¬ (y ∈ v) → ((z : ℕ) → z ∈ (y ∷ v) → z ∈ v₁) →
      Did (discover s k y (suc x) b n q) s₂ y (y ∷ v) → Did (lowered s₂ p h) s' x v₁ → Did s s' x v
  did_new b q {s} {s₂} {s'} {x} {y} {v = v} f g d d' = record {
    from_kept = λ z m. d'.from_kept z (g z (there m)) ∙ d.from_kept z (there m) ∙ put_other s.from y _ (off z m);
    saved_kept = λ z m. d'.saved_kept z (g z (there m)) ∙ d.saved_kept z (there m) ∙ put_other s.saved y _ (off z m);
    followed_kept = λ z m ne. d'.followed_kept z (g z (there m)) ne ∙ d.followed_kept z (there m) (off z m) ∙ put_other s.followed y _ (off z m);
  }
    where
      off : (z : ℕ) → z ∈ v → y ≢ z
      off z m e = f (mem_cast e m)

  -- what is left of x when y, entered from x, was searched
  record Kept (s s₂ : State) (x y low : ℕ) (xs : List ℕ) : Type 0 where
    rest_kept : drop (s₂.followed x) (G.links x) ≡ xs
    from_x : s₂.from y ≡ suc x
    saved_low : s₂.saved y ≡ low

  kept : {s s₂ : State} {x y low low₁ : ℕ} (b n : ℕ) {v o t xs v₁ o₁ t₁ : List ℕ} → At G k s x v o low t xs → x ∈ v → ¬ (y ∈ v) → Post (discover s k y (suc x) b n low) s₂ y (y ∷ v) v₁ o₁ low₁ t₁ → Kept s s₂ x y low xs
  kept {s} {s₂} {x} {y} b n p m f q = record {
    rest_kept = ap (λ (i : ℕ). drop i (G.links x)) (q.did.followed_kept x (there m) off ∙ put_other s.followed y 0 off) ∙ p.rest;
    from_x = q.did.from_kept y (here refl) ∙ put_same s.from y (suc x) refl;
    saved_low = q.did.saved_kept y (here refl) ∙ put_same s.saved y _ refl;
  }
    where
      off : y ≢ x
      off e = f (mem_cast e m)

  -- ---- the whole search

  sim : {x low low' c : ℕ} {v o t xs v' o' t' : List ℕ} → Tarjan G.links x v o low t xs v' o' low' t' c → Before G.links x v o xs → (s : State) →
      At G k s x v o low t xs → Post s (transitions G c s) x v v' o' low' t'
  unfolding transitions
  sim finished b s p = record { at = p; did = did_none }
  sim (crossed {v = v} {o = o} {v' = v'} {o' = o'} {t' = t'} {x = x} {low = low} {low' = low'} {y = y} {c = c} m n d) b s p =
      let q : Post (pass s x) (transitions G c (pass s x)) x v v' o' low' t' = sim d (before_tail G.links b) (pass s x) (at_cross p) in
      let e : transition G s ≡ pass s x = transition_cross G s k x (newest o) (length o) low p.place (left_to p) (p.marks.stamped.seen_in y m) (p.marks.stack.heights y ∙ tall_none o y n) in
      subst (λ (u : State). Post s (transitions G c u) x v v' o' low' t') (sym e) (record { at = q.at; did = did_cross q.did })
  sim (tied {v = v} {o = o} {v' = v'} {o' = o'} {t' = t'} {x = x} {low = low} {low' = low'} {y = y} {c = c} m d) b s p =
      let s₁ : State = pass_open G s x (Searching k x (newest o) (length o) (min low (s.height y))) in
      let q : Post s₁ (transitions G c s₁) x v v' o' low' t' = sim d (before_tail G.links b) s₁ (at_tie p) in
      let e : transition G s ≡ s₁ = transition_tie G s k x (newest o) (length o) low p.place (left_to p) (p.marks.stamped.seen_in y (b.seen y m)) (high (p.marks.stack.heights y) (tall_some o y m)) in
      subst (λ (u : State). Post s (transitions G c u) x v v' o' low' t') (sym e) (record { at = q.at; did = did_tie q.did })
    where
      high : s.height y ≡ tall o y → 1 ≤ tall o y → s.height y ≢ 0
      high a r z = omega arith
  sim (left {v = v} {o = o} {t = t} {xs = xs} {v₁ = v₁} {o₁ = o₁} {t₁ = t₁} {v' = v'} {o' = o'} {t' = t'} {x = x} {low = low} {low₁ = low₁} {low' = low'} {y = y} {c = c} {c' = c'} f d h d') b s p =
      let s₁ : State = discover s k y (suc x) (suc (newest o)) (length o) low in
      let b₁ = before_enter G.links b f in
      let a₁ = after G.links d b₁ in
      let q₁ : Post s₁ (transitions G c s₁) y (y ∷ v) v₁ o₁ low₁ t₁ =
      sim d b₁ s₁ (at_discover s y (suc x) low (slot x y (b.ours y (here refl))) (λ m. f (b.seen y m)) (newest_marked b.mine) refl p.marks) in
      let s₂ : State = transitions G c s₁ in
      let kp : Kept s s₂ x y low (y ∷ xs) = kept (suc (newest o)) (length o) p (b.seen x b.mine) f q₁ in
      let tall_y : s₂.height y ≡ suc (length o) = q₁.at.marks.stack.heights y ∙ over_tall (tarjan_over d) a₁.before.once y (here refl) ∙ tall_here y o in
      let s₃ : State = moved s₂ (back_open G k (named G (s₂.from y)) (newest o₁) (length o₁) (min low₁ (s₂.saved y))) in
      let at₃ : At G k s₃ x v₁ o₁ (min low₁ low) t₁ (y ∷ xs) = record {
        place = ap (λ (u : List ℕ). back_open G k u (newest o₁) (length o₁) (min low₁ (s₂.saved y))) (named_of G kp.from_x (p.marks.in_slots x (b.seen x b.mine))) ∙ ap (λ (i : ℕ). Searching k x (newest o₁) (length o₁) (min low₁ i)) kp.saved_low;
        rest = kp.rest_kept;
        marks = q₁.at.marks;
      } in
      let q₃ : Post s₃ (transitions G c' s₃) x v₁ v' o' low' t' = sim d' (before_left G.links b (tarjan_over d) h a₁) s₃ at₃ in
      let e₁ : transition G s ≡ s₁ = transition_discover G s k x (newest o) (length o) low p.place (left_to p) (λ e. f (p.marks.stamped.seen_out y e)) in
      let e₃ : transition G s₂ ≡ s₃ = transition_leave_open G s₂ k y (newest o₁) (length o₁) low₁ q₁.at.place (left_to q₁.at) (let z : low₁ < s₂.height y = omega arith in z) in
      let e : transitions G (c + suc c') (transition G s) ≡ transitions G c' s₃ =
      ap (transitions G (c + suc c')) e₁ ∙ transitions_add G c (suc c') s₁ ∙ ap (transitions G c') e₃ in
      subst (λ (u : State). Post s u x v v' o' low' t') (sym e) (record { at = q₃.at; did = did_new (suc (newest o)) low f (tarjan_grows d) q₁.did q₃.did })
  sim (closed {v = v} {o = o} {t = t} {xs = xs} {v₁ = v₁} {o₁ = o₁} {t₁ = t₁} {v' = v'} {o' = o'} {t' = t'} {x = x} {low = low} {low₁ = low₁} {low' = low'} {y = y} {c = c} {c' = c'} f d g j n d') b s p =
      let s₁ : State = discover s k y (suc x) (suc (newest o)) (length o) low in
      let b₁ = before_enter G.links b f in
      let a₁ = after G.links d b₁ in
      let q₁ : Post s₁ (transitions G c s₁) y (y ∷ v) v₁ o₁ low₁ t₁ =
      sim d b₁ s₁ (at_discover s y (suc x) low (slot x y (b.ours y (here refl))) (λ m. f (b.seen y m)) (newest_marked b.mine) refl p.marks) in
      let s₂ : State = transitions G c s₁ in
      let kp : Kept s s₂ x y low (y ∷ xs) = kept (suc (newest o)) (length o) p (b.seen x b.mine) f q₁ in
      let (h, e₂, r) = collected q₁.at (tarjan_over d) a₁.before.once (λ z m. q₁.at.marks.in_slots z (a₁.before.seen z m)) g j n in
      let s₃ : State = lowered s₂ (back_closed G k (named G (s₂.from y)) (named G (marked o)) (length o) (s₂.saved y)) h in
      let at₃ : At G k s₃ x v₁ o low t₁ (y ∷ xs) = record {
        place =
            ap (λ (u : List ℕ). back_closed G k u (named G (marked o)) (length o) (s₂.saved y)) (named_of G kp.from_x (p.marks.in_slots x (b.seen x b.mine))) ∙
            ap (λ (u : List ℕ). back_closed G k (x ∷ []) u (length o) (s₂.saved y)) (named_of G (sym (newest_marked b.mine)) (p.marks.in_slots (newest o) (b.seen (newest o) (newest_in b.mine)))) ∙
            ap (λ (i : ℕ). Searching k x (newest o) (length o) i) kp.saved_low;
        rest = kp.rest_kept;
        marks = record {
          resolved = q₁.at.marks.resolved;
          stamped = q₁.at.marks.stamped;
          stack = r;
          flagged = q₁.at.marks.flagged;
          empty = q₁.at.marks.empty;
          in_slots = q₁.at.marks.in_slots;
        };
      } in
      let q₃ : Post s₃ (transitions G c' s₃) x v₁ v' o' low' t' = sim d' (before_closed G.links b (tarjan_over d) (tarjan_grows d) g a₁) s₃ at₃ in
      let e₁ : transition G s ≡ s₁ = transition_discover G s k x (newest o) (length o) low p.place (left_to p) (λ e. f (p.marks.stamped.seen_out y e)) in
      let many : suc (suc j + c') ≡ suc (suc j) + c' = omega arith in
      let e : transitions G (c + suc (suc j + c')) (transition G s) ≡ transitions G c' s₃ =
      ap (transitions G (c + suc (suc j + c'))) e₁ ∙ transitions_add G c (suc (suc j + c')) s₁ ∙ ap (λ (i : ℕ). transitions G i s₂) many ∙ transitions_add G (suc (suc j)) c' s₂ ∙ ap (transitions G c') e₂ in
      subst (λ (u : State). Post s u x v v' o' low' t') (sym e) (record { at = q₃.at; did = did_new (suc (newest o)) low f (tarjan_grows d) q₁.did q₃.did })

  -- LOOP SEARCH k, from its beginning to the next one's: the node at which it starts was not seen
  pub one_loop : {low' c : ℕ} {v t v' o' t' : List ℕ} → Tarjan G.links (G.nth k) (G.nth k ∷ v) (G.nth k ∷ []) 1 t (G.links (G.nth k)) v' o' low' t' c →
      Shut G.links v [] → ¬ (G.nth k ∈ v) → G.nth k < G.slots → (s : State) → s.place ≡ Starting k → MarksOf G s v [] t →
      (s' : State) × (transitions G (c + suc (suc (length o'))) s ≡ s') × (s'.place ≡ searched_to G (suc k)) × MarksOf G s' v' [] t'
  unfolding transitions
  one_loop {low'} {c} {v} {t} {v'} {o'} {t'} d w f l s p m =
      let y : ℕ = G.nth k in
      let s₁ : State = discover s k y 0 0 0 0 in
      let b : Before G.links y (y ∷ v) (y ∷ []) (G.links y) = before_root G.links w f in
      let a : After G.links y (y ∷ v) (y ∷ []) 1 t (G.links y) v' o' low' t' = after G.links d b in
      let q : Post s₁ (transitions G c s₁) y (y ∷ v) v' o' low' t' = sim d b s₁ (at_discover s y 0 0 l mem_nil refl refl m) in
      let s₂ : State = transitions G c s₁ in
      let long : 1 ≤ length o' = over_long (tarjan_over d) in
      let j : ℕ = length o' - 1 in
      let (h, e₂, r) = collected q.at (tarjan_over d) a.before.once (λ z n. q.at.marks.in_slots z (a.before.seen z n)) (root_low G.links a) j (let z : length o' ≡ j + 1 = omega arith in z) in
      let from₂ : s₂.from y ≡ 0 = q.did.from_kept y (here refl) ∙ put_same s.from y 0 refl in
      let s₃ : State = lowered s₂ (back_closed G k (named G (s₂.from y)) (named G 0) 0 (s₂.saved y)) h in
      let e₁ : transition G s ≡ s₁ = transition_seek G s k p (λ e. f (m.stamped.seen_out y e)) in
      let many : c + suc (suc (length o')) ≡ suc (c + suc (suc j)) = omega arith in
      let e : transitions G (c + suc (suc (length o'))) s ≡ s₃ =
      ap (λ (i : ℕ). transitions G i s) many ∙ ap (transitions G (c + suc (suc j))) e₁ ∙ transitions_add G c (suc (suc j)) s₁ ∙ e₂ in (
        s₃,
        e,
        ap (λ (u : List ℕ). back_closed G k u (named G 0) 0 (s₂.saved y)) (named_none G from₂),
        record {
          resolved = q.at.marks.resolved;
          stamped = q.at.marks.stamped;
          stack = r;
          flagged = q.at.marks.flagged;
          empty = q.at.marks.empty;
          in_slots = q.at.marks.in_slots;
        },
      )
