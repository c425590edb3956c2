-- The traversal as a whole: from clear marks it ends with the circular references and the list, after at most 16 n transitions.
-- Assumes nothing.
use Rattle.std.specs.Prelude.{◌≡◌, ◌⊎◌, ltb}
use Rattle.std.proofs.Math.Path.{refl, sym, ap, subst, fun_ext}
use Rattle.std.proofs.Common.{◌∙◌, mul-le-mul_right, add-one, le-ltb, lt-ltb}
use Rattle.std.proofs.Math.Logic.{inl, inr}
use Rattle.std.proofs.Math.Bool.{Bool, true, false, cond}
use Rattle.std.proofs.lemmas.Bool.{false≢true}
use mathlib.Core.List.{List, [], ◌∷◌, ◌++◌, map}
use Prim.Native.Nat.{ℕ, zero, suc, ◌+◌, ◌-◌, ◌*◌, ◌≤◌, ◌<◌}
use Rattle.std.proofs.Math.Decide.{ℕ_discrete}
use Rattle.std.proofs.Math.Nat.{le_refl}
use native.Mathlib.Omega.{arith}
use Rattle.std.proofs.Math.ListN.{length, get_or, drop}
use Rattle.graph.specs.Members.{◌∈◌, here, there, Each, Distinct, dnil, dcons, put}
use Rattle.graph.proofs.Laws.Members.{mem_nil, mem_cons, mem_cast, mem_dec, drop_tail, mem_drop, put_same, put_other}
use Rattle.graph.specs.Graph.{Graph, Sound, Node, Path⁺, one, more, Path⋆, Circular, Flags, needs, Entered, IsList}
use Rattle.graph.proofs.Laws.Order.{entered_unique}
use Rattle.graph.proofs.Laws.DepthFirst.{Dfs, stop, seen, new, apart, below, cost, Found, found, found_on, below_cons, ordered, as_many, entered_distinct, path_join}
use Rattle.graph.proofs.Laws.Components.{tall_none, Run, run, tarjan_grows, tarjan_over, tarjan_cost}
use Rattle.graph.proofs.Laws.Cycles.{Shut, After, before_root, after, shut_closed, entered_tied, root_low}
use Rattle.graph.specs.declared.Place.TheVariants.{Resolving, Starting, Between}
use Rattle.graph.specs.Transition.{State, Ended, start, searches, led, named, marked, needed, searched_to, resolved_to, resolve, moved, transition, transitions, first}
use Rattle.graph.proofs.Laws.Transitions.{transitions_add, transition_resolve, transition_skip, transition_omit, transition_end}
use Rattle.graph.proofs.Laws.LoopSearch.{bottom, MarksOf, one_loop}
use Rattle.graph.proofs.Laws.ListSearch.{ListedOf, Worked, one_search}

-- ---- small facts

bool_ext : (a b : Bool) → (a ≡ true → b ≡ true) → (b ≡ true → a ≡ true) → a ≡ b
bool_ext true true f g = refl
bool_ext true false f g = sym (f refl)
bool_ext false true f g = g refl
bool_ext false false f g = refl

module _ (G : Graph) (w : Sound G) where
  none_below : (j : ℕ) → j < 0 → ⊥
  none_below j h = omega arith

  -- ---- the names are looked up

  -- what a node's target becomes
  recorded : ℕ → ℕ
  recorded x = cond (G.ref x) (marked (G.links x)) 0

  -- i nodes are resolved, and no search has begun
  record Looked (i : ℕ) (s : State) : Type 0 where
    place : s.place ≡ resolved_to G i
    clear : (y : ℕ) → s.stamp y ≡ 0
    plain : (y : ℕ) → s.flag y ≡ false
    flat : (y : ℕ) → s.height y ≡ 0
    empty : s.list ≡ []
    done : (j : ℕ) → j < i → s.target (G.nth j) ≡ recorded (G.nth j)

  looked_next : (i : ℕ) (s : State) → Looked i s → Looked (suc i) (resolve G s i (G.nth i))
  unfolding recorded
  looked_next i s r = record {
    place = refl;
    clear = r.clear;
    plain = r.plain;
    flat = r.flat;
    empty = r.empty;
    done = λ j h. case j h (ℕ_discrete (G.nth i) (G.nth j));
  }
    where
      case : (j : ℕ) → j < suc i → Dec (G.nth i ≡ G.nth j) → put s.target (G.nth i) (recorded (G.nth i)) (G.nth j) ≡ recorded (G.nth j)
      case j h (yes e) = put_same s.target (G.nth i) _ e ∙ ap recorded e
      case j h (no ne) = put_other s.target (G.nth i) _ ne ∙ r.done j (below_it (ℕ_discrete j i))
        where
          below_it : Dec (j ≡ i) → j < i
          below_it (yes e) = absurd (ne (ap G.nth (sym e)))
          below_it (no d) = omega arith

  looked_first : Looked 0 (first G)
  unfolding first
  looked_first = record {
    place = refl;
    clear = λ y. refl;
    plain = λ y. refl;
    flat = λ y. refl;
    empty = refl;
    done = λ j h. absurd (none_below j h);
  }

  looked_step : (i : ℕ) → i < G.size → (s : State) → Looked i s → Looked (suc i) (transition G s)
  unfolding resolved_to
  looked_step i h s r =
      let p : s.place ≡ Resolving i = r.place ∙ rw (lt-ltb _ _ h) refl in
      subst (λ (u : State). Looked (suc i) u) (sym (transition_resolve G s i p)) (looked_next i s r)

  looked : (i : ℕ) → i ≤ G.size → Looked i (transitions G i (first G))
  unfolding transitions
  looked zero h = looked_first
  looked (suc i) h =
      let e : transitions G (suc i) (first G) ≡ transition G (transitions G i (first G)) =
      ap (λ (c : ℕ). transitions G c (first G)) (sym (add-one i)) ∙ transitions_add G i 1 (first G) in
      subst (λ (u : State). Looked (suc i) u) (sym e) (looked_step i (omega arith) (transitions G i (first G)) (looked i (omega arith)))

  -- what is recorded of a link is that link
  pub marks_back : (l : List ℕ) → Each (Node G) l → length l ≤ 1 → named G (marked l) ≡ l
  unfolding named
  marks_back [] m h = refl
  marks_back (y ∷ []) m h = rw (lt-ltb _ _ (w.in_slots y (m y (here refl)))) refl
  marks_back (y ∷ z ∷ zs) m h = absurd (let k : suc (suc (length zs)) ≤ 1 = h in let q : ⊥ = omega arith in q)

  looked_resolved : (s : State) → Looked G.size s → (y : ℕ) → led G s.target y ≡ G.links y
  unfolding led recorded
  looked_resolved s r y = go (G.ref y) refl
    where
      at_index : G.ref y ≡ true → (i : ℕ) × (i < G.size) × (G.nth i ≡ y) → s.target y ≡ marked (G.links y)
      at_index e (i, h, q) =
          let a : s.target y ≡ recorded y = subst (λ (u : ℕ). s.target u ≡ recorded u) q (r.done i h) in
          a ∙ rw e refl

      go : (b : Bool) → G.ref y ≡ b → cond b (named G (s.target y)) (G.links y) ≡ G.links y
      go false e = refl
      go true e = ap (named G) (at_index e (w.nth_all y (w.refs_in y e))) ∙ marks_back (G.links y) (w.links_in y) (w.single y e)

  -- ---- the searches for cycles

  -- k loop searches are done: they have seen v, all that v leads to is in v, and t are those of v that lead back to themselves
  record Searched (k : ℕ) (s : State) (v t : List ℕ) : Type 0 where
    place : s.place ≡ searched_to G k
    marks : MarksOf G s v [] t
    once : Distinct v
    nodes : Each (Node G) v
    shut : Shut G.links v []
    covered : (j : ℕ) → j < k → G.nth j ∈ v
    sound : (z : ℕ) → z ∈ t → Path⁺ G.links z z
    complete : (z : ℕ) → z ∈ v → Path⁺ G.links z z → z ∈ t

  searched_first : (s : State) → Looked G.size s → Searched 0 s [] []
  unfolding resolved_to
  searched_first s r = record {
    place = r.place ∙ rw (le-ltb _ _ (le_refl G.size)) refl;
    marks = record {
      resolved = looked_resolved s r;
      stamped = record {
        seen_in = λ z m. absurd (mem_nil m);
        seen_out = λ z e. absurd (let a = r.clear z in let q : ⊥ = omega arith in q);
        small = λ z. let a = r.clear z in omega arith;
      };
      stack = record { heights = λ z. r.flat z ∙ sym (tall_none [] z mem_nil); chain = bottom };
      flagged = record { flag_in = λ z m. absurd (mem_nil m); flag_out = λ z e. absurd (false≢true (sym (r.plain z) ∙ e)) };
      empty = r.empty;
      in_slots = λ z m. absurd (mem_nil m);
    };
    once = dnil;
    nodes = λ z m. absurd (mem_nil m);
    shut = λ z m. absurd (mem_nil m);
    covered = λ j h. absurd (none_below j h);
    sound = λ z m. absurd (mem_nil m);
    complete = λ z m. absurd (mem_nil m);
  }

  -- one more is done: the next node, and what was seen and tied with it
  covered_next : {k : ℕ} {v v' : List ℕ} → ((j : ℕ) → j < k → G.nth j ∈ v) → ((z : ℕ) → z ∈ v → z ∈ v') → G.nth k ∈ v' → (j : ℕ) → j < suc k → G.nth j ∈ v'
  covered_next {k} {v} {v'} c g m j h = case (ℕ_discrete j k)
    where
      case : Dec (j ≡ k) → G.nth j ∈ v'
      case (yes e) = mem_cast (ap G.nth e) m
      case (no ne) = g (G.nth j) (c j (omega arith))

  loop_skip : (k : ℕ) (s : State) {v t : List ℕ} → s.place ≡ Starting k → Searched k s v t → G.nth k ∈ v → Searched (suc k) (transition G s) v t
  loop_skip k s {v} {t} p r m = subst (λ (u : State). Searched (suc k) u v t) (sym (transition_skip G s k p (r.marks.stamped.seen_in (G.nth k) m))) (record {
    place = refl;
    marks = r.marks;
    once = r.once;
    nodes = r.nodes;
    shut = r.shut;
    covered = covered_next r.covered (λ z i. i) m;
    sound = r.sound;
    complete = r.complete;
  })

  -- what a loop search that enters a node comes to
  record Looped (k : ℕ) (s : State) (v : List ℕ) : Type 0 where
    seen' : List ℕ
    tied' : List ℕ
    count : ℕ
    holds : Searched (suc k) (transitions G count s) seen' tied'
    small : count + 6 * length v ≤ 6 * length seen'

  links_slots : (x : ℕ) → Each (λ y. y < G.slots) (G.links x)
  links_slots x y m = w.in_slots y (w.links_in x y m)

  loop_new : (k : ℕ) (s : State) (v t : List ℕ) → k < G.size → s.place ≡ Starting k → Searched k s v t → ¬ (G.nth k ∈ v) → Looped k s v
  loop_new k s v t h p r f =
      let y : ℕ = G.nth k in
      let d : Found G.links (y ∷ v) [] (G.links y) = found_on G.links (Node G) G.size w.room w.links_in y v [] (w.nth_in k h) f r.once r.nodes in
      let q : Run G.links y (y ∷ v) (y ∷ []) 1 t (G.links y) d.v' = run d.dfs y (y ∷ []) 1 t in
      let g : (z : ℕ) → z ∈ (y ∷ v) → z ∈ d.v' = tarjan_grows q.tarjan in
      let a : After G.links y (y ∷ v) (y ∷ []) 1 t (G.links y) d.v' q.o' q.low' q.t' = after G.links q.tarjan (before_root G.links r.shut f) in
      let (s', e, pl, mk) = one_loop G k links_slots q.tarjan r.shut f (w.in_slots y (w.nth_in k h)) s p r.marks in
      let c : q.c + 6 * suc (length v) + length q.o' ≤ length (G.links y) + 6 * length d.v' + 1 = tarjan_cost w.few q.tarjan in
      let few = w.few y in
      record {
        seen' = d.v';
        tied' = q.t';
        count = q.c + suc (suc (length q.o'));
        holds = subst (λ (u : State). Searched (suc k) u d.v' q.t') (sym e) (record {
          place = pl;
          marks = mk;
          once = apart d.dfs (dcons f r.once);
          nodes = below (Node G) w.links_in d.dfs (below_cons G.links (Node G) G.size w.room w.links_in y v (w.nth_in k h) r.nodes) (w.links_in y);
          shut = shut_closed G.links (tarjan_over q.tarjan) (root_low G.links a) a;
          covered = covered_next r.covered (λ z m. g z (there m)) (g y (here refl));
          sound = λ z m. sound z (a.tied_round z m);
          complete = λ z m c. complete a.tied_kept z c (entered_tied G.links a z m);
        });
        small = omega arith;
      }
    where
      sound : (z : ℕ) → (z ∈ t) ⊎ Path⁺ G.links z z → Path⁺ G.links z z
      sound z (inl m) = r.sound z m
      sound z (inr c) = c

      complete : {t' : List ℕ} → ((z : ℕ) → z ∈ t → z ∈ t') → (z : ℕ) → Path⁺ G.links z z → (z ∈ v) ⊎ (Path⁺ G.links z z → z ∈ t') → z ∈ t'
      complete up z c (inl m) = up z (r.complete z m c)
      complete up z c (inr q) = q c

  -- k loop searches, from the first state, in at most n + b + 6 |v| transitions
  record Loops (k b : ℕ) : Type 0 where
    seen' : List ℕ
    tied' : List ℕ
    count : ℕ
    holds : Searched k (transitions G count (first G)) seen' tied'
    small : count ≤ G.size + b + 6 * length seen'

  starting : (k : ℕ) → k < G.size → searched_to G k ≡ Starting k
  unfolding searched_to
  starting k h = rw (lt-ltb _ _ h) refl

  no_loops : Loops 0 0
  no_loops = record { seen' = []; tied' = []; count = G.size; holds = searched_first _ (looked G.size (le_refl G.size)); small = omega arith }

  loops_new : (k b : ℕ) → k < G.size → (r : Loops k b) → ¬ (G.nth k ∈ r.seen') → Loops (suc k) b
  loops_new k b h r f =
      let q = loop_new k (transitions G r.count (first G)) r.seen' r.tied' h (r.holds.place ∙ starting k h) r.holds f in
      let a = r.small in
      let c = q.small in
      record {
        seen' = q.seen';
        tied' = q.tied';
        count = r.count + q.count;
        holds = rw (transitions_add G r.count q.count (first G)) q.holds;
        small = omega arith;
      }

  loops_skip : (k b : ℕ) → k < G.size → (r : Loops k b) → G.nth k ∈ r.seen' → Loops (suc k) (suc b)
  unfolding transitions
  loops_skip k b h r m =
      let a = r.small in
      record {
        seen' = r.seen';
        tied' = r.tied';
        count = r.count + 1;
        holds = rw (transitions_add G r.count 1 (first G)) (loop_skip k (transitions G r.count (first G)) (r.holds.place ∙ starting k h) r.holds m);
        small = omega arith;
      }

  loops_more : (k b : ℕ) → Loops k b → Loops k (suc b)
  loops_more k b r = let a = r.small in record { seen' = r.seen'; tied' = r.tied'; count = r.count; holds = r.holds; small = omega arith }

  -- the first node is always new
  loops : (k : ℕ) → k < G.size → Loops (suc k) k
  unfolding no_loops
  loops zero h = loops_new 0 0 h no_loops mem_nil
  loops (suc k) h = let r : Loops (suc k) k = loops k (omega arith) in case r (mem_dec (G.nth (suc k)) r.seen')
    where
      case : (r : Loops (suc k) k) → Dec (G.nth (suc k) ∈ r.seen') → Loops (suc (suc k)) (suc k)
      case r (yes m) = loops_skip (suc k) k h r m
      case r (no f) = loops_more (suc (suc k)) k (loops_new (suc k) k h r f)

  all_loops : Loops G.size (G.size - 1)
  all_loops = go G.size refl
    where
      go : (n : ℕ) → G.size ≡ n → Loops n (n - 1)
      go zero e = no_loops
      go (suc n) e = subst (λ (b : ℕ). Loops (suc n) b) (let z : n ≡ suc n - 1 = omega arith in z) (loops n (omega arith))

  -- the flags are then exactly the circular references
  searched_flags : {s : State} {v t : List ℕ} → Searched G.size s v t → Flags G s.flag
  searched_flags {s} {v} {t} r y = (λ e. sound (r.marks.flagged.flag_out y e), λ c. r.marks.flagged.flag_in y (complete c.0 c.1) c.0)
    where
      sound : (y ∈ t) × (G.ref y ≡ true) → Circular G y
      sound q = (q.1, r.sound y q.0)

      seen_at : (i : ℕ) × (i < G.size) × (G.nth i ≡ y) → y ∈ v
      seen_at (i, h, e) = mem_cast (sym e) (r.covered i h)

      complete : G.ref y ≡ true → Path⁺ G.links y y → y ∈ t
      complete e p = r.complete y (seen_at (w.nth_all y (w.refs_in y e))) p

  -- ---- needs have no loops

  module _ (c : ℕ → Bool) (fl : Flags G c) where
    pub needs_links : (x y : ℕ) → y ∈ needs G c x → y ∈ G.links x
    unfolding needs
    needs_links x y m = go (c x) m
      where
        go : (b : Bool) → y ∈ cond b [] (G.links x) → y ∈ G.links x
        go true k = absurd (mem_nil k)
        go false k = k

    needs_plain : (x y : ℕ) → y ∈ needs G c x → c x ≡ true → ⊥
    unfolding needs
    needs_plain x y m e = mem_nil (rw e at m)

    path_links : {x y : ℕ} → Path⁺ (needs G c) x y → Path⁺ G.links x y
    path_links {x} {y} (one m) = one (needs_links x y m)
    path_links {x} (more {y = z} m p) = more (needs_links x z m) (path_links p)

    path_plain : {x y : ℕ} → Path⁺ (needs G c) x y → c x ≡ true → ⊥
    path_plain {x} {y} (one m) e = needs_plain x y m e
    path_plain {x} (more {y = z} m p) e = needs_plain x z m e

    Falls : ℕ → ℕ → Type 0
    Falls x y = (w.rank y < w.rank x) ⊎ ((r : ℕ) × (G.ref r ≡ true) × Path⋆ (needs G c) x r × Path⁺ (needs G c) r y)

    falls : {x y : ℕ} → Path⁺ (needs G c) x y → Falls x y
    unfolding Falls
    falls {x} {y} (one m) = go (G.ref x) refl
      where
        go : (b : Bool) → G.ref x ≡ b → Falls x y
        go true e = inr (x, e, inl refl, one m)
        go false e = inl (w.falls x y e (needs_links x y m))
    falls {x} {y} (more {y = z} m p) = go (G.ref x) refl (falls p)
      where
        go : (b : Bool) → G.ref x ≡ b → Falls z y → Falls x y
        go true e q = inr (x, e, inl refl, more m p)
        go false e (inl q) = let k : w.rank z < w.rank x = w.falls x z e (needs_links x z m) in inl (omega arith)
        go false e (inr (r, f, a, b)) = inr (r, f, inr (path_join (one m) a), b)

    pub needs_acyclic : (x : ℕ) → ¬ (Path⁺ (needs G c) x x)
    unfolding Falls
    needs_acyclic x p = go (falls p)
      where
        go : Falls x x → ⊥
        go (inl h) = omega arith
        go (inr (r, f, a, b)) = let q : Path⁺ (needs G c) r r = path_join b a in path_plain q ((fl r).1 (f, path_links q))

  -- ---- the searches that make the list

  needs_in : (c : ℕ → Bool) (x : ℕ) → Each (Node G) (needs G c x)
  unfolding needs
  needs_in c x y m = go (c x) m
    where
      go : (b : Bool) → y ∈ cond b [] (G.links x) → Node G y
      go true k = absurd (mem_nil k)
      go false k = w.links_in x y k

  needs_slots : (c : ℕ → Bool) (x : ℕ) → Each (λ y. y < G.slots) (needs G c x)
  needs_slots c x y m = w.in_slots y (needs_in c x y m)

  record Listing (c : ℕ → Bool) (k : ℕ) (s : State) (v l : List ℕ) : Type 0 where
    place : s.place ≡ Between k
    same : s.flag ≡ c
    resolved : (y : ℕ) → led G s.target y ≡ G.links y
    marks : ListedOf G (needs G c) s v l

  listing_next : {c : ℕ → Bool} {k : ℕ} {s s' : State} {v l v' l' : List ℕ} → Listing c k s v l → Worked G k (needs G c) (needs_slots c) s s' v' l' → Listing c (suc k) s' v' l'
  listing_next r q = record {
    place = q.place;
    same = q.flag_kept ∙ r.same;
    resolved = λ y. ap (λ (t : ℕ → ℕ). led G t y) q.target_kept ∙ r.resolved y;
    marks = q.marks;
  }

  record Ran (c : ℕ → Bool) (s : State) (v' l' : List ℕ) (b : ℕ) : Type 0 where
    count : ℕ
    ends : Listing c (searches G) (transitions G count s) v' l'
    small : count ≤ b

  drop_start : (k : ℕ) {x : ℕ} {xs : List ℕ} → drop k G.roots ≡ x ∷ xs → start G k ≡ x
  unfolding start
  drop_start k e = go k G.roots e
    where
      go : (i : ℕ) (l : List ℕ) {y : ℕ} {ys : List ℕ} → drop i l ≡ y ∷ ys → get_or l i 0 ≡ y
      go zero [] e = cc
      go zero (x ∷ xs) e = cc
      go (suc i) [] e = cc
      go (suc i) (x ∷ xs) e = go i xs e

  root_slot : (k : ℕ) {x : ℕ} {xs : List ℕ} → drop k G.roots ≡ x ∷ xs → x < G.slots
  root_slot k {x} e = w.in_slots x (w.roots_in x (mem_drop k G.roots x (subst (λ (u : List ℕ). x ∈ u) (sym e) (here refl))))

  left_search : (k a : ℕ) → k + suc a ≡ searches G → ltb k (searches G) ≡ true
  left_search k a e = let h : k < searches G = omega arith in lt-ltb _ _ h

  search_at : {c : ℕ → Bool} {k x m : ℕ} {s : State} {v l v₁ l₁ : List ℕ} → start G k ≡ x → x < G.slots → Dfs (needs G c) (x ∷ v) l (needs G c x) v₁ l₁ m → ¬ (x ∈ v) →
      ltb k (searches G) ≡ true → Listing c k s v l → Listing c (suc k) (transitions G (suc (m + 1)) s) v₁ (l₁ ++ x ∷ [])
  search_at {c} {k} {x} {m} {s} {v} {l} {v₁} {l₁} e j d f h r =
      let g : Dfs (needs G c) (start G k ∷ v) l (needs G c (start G k)) v₁ l₁ m → ¬ (start G k ∈ v) → Listing c (suc k) (transitions G (suc (m + 1)) s) v₁ (l₁ ++ start G k ∷ []) =
      λ d' f'. listing_next r (one_search G k (needs G c) (needs_slots c) d' s r.place h (rw e j) f' r.marks) in
      (subst (λ (u : ℕ). Dfs (needs G c) (u ∷ v) l (needs G c u) v₁ l₁ m → ¬ (u ∈ v) → Listing c (suc k) (transitions G (suc (m + 1)) s) v₁ (l₁ ++ u ∷ [])) e g) d f

  list_searches : {c : ℕ → Bool} {v l xs v' l' : List ℕ} {b : ℕ} → Dfs (needs G c) v l xs v' l' b → (k : ℕ) (s : State) → Listing c k s v l →
      drop k G.roots ≡ xs → k + length xs ≡ searches G → Ran c s v' l' b
  unfolding transitions
  list_searches {c} (stop {v = v} {l = l}) k s r e n =
      record { count = 0; ends = subst (λ (u : ℕ). Listing c u s v l) (let q : k + 0 ≡ searches G = n in omega arith) r; small = le_refl 0 }
  list_searches {c} (seen {v = v} {l = l} {xs = xs} {v' = v'} {l' = l'} {x = x} {c = b} m d) k s r e n =
      let s₁ : State = moved s (Between (suc k)) in
      let q : Ran c s₁ v' l' b = list_searches d (suc k) s₁ (record { place = refl; same = r.same; resolved = r.resolved; marks = r.marks }) (drop_tail k G.roots e) (omega arith) in
      let p : transition G s ≡ s₁ = transition_omit G s k r.place (left_search k (length xs) n) (r.marks.seen_in (start G k) (mem_cast (drop_start k e) m)) in
      let a : q.count ≤ b = q.small in
      record { count = suc q.count; ends = subst (λ (u : State). Listing c (searches G) (transitions G q.count u) v' l') (sym p) q.ends; small = omega arith }
  list_searches {c} (new {v = v} {l = l} {xs = xs} {v₁ = v₁} {l₁ = l₁} {v' = v'} {l' = l'} {x = x} {c = a} {c' = b} f d d') k s r e n =
      let r' : Listing c (suc k) (transitions G (suc (a + 1)) s) v₁ (l₁ ++ x ∷ []) = search_at (drop_start k e) (root_slot k e) d f (left_search k (length xs) n) r in
      let q : Ran c (transitions G (suc (a + 1)) s) v' l' b = list_searches d' (suc k) (transitions G (suc (a + 1)) s) r' (drop_tail k G.roots e) (omega arith) in
      let h : q.count ≤ b = q.small in
      record {
        count = suc (a + 1) + q.count;
        ends = subst (λ (u : State). Listing c (searches G) u v' l') (sym (transitions_add G (suc (a + 1)) q.count s)) q.ends;
        small = omega arith;
      }

  -- ---- the whole

  needs_few : (c : ℕ → Bool) (x : ℕ) → length (needs G c x) ≤ 3
  unfolding needs
  needs_few c x = go (c x)
    where
      go : (b : Bool) → length (cond b [] (G.links x)) ≤ 3
      go true = omega arith
      go false = w.few x

  few_roots : length G.roots ≤ 4 * G.size
  few_roots = go G.roots w.roots_in w.roots_few
    where
      go : (l : List ℕ) → Each (Node G) l → length l ≤ 4 → length l ≤ 4 * G.size
      go [] b h = omega arith
      go (x ∷ xs) b h =
          let q : 1 ≤ G.size = w.room (x ∷ []) (dcons mem_nil dnil) (λ y m. only x (b x (here refl)) y (mem_cons m)) in
          omega arith
        where
          only : (x : ℕ) → Node G x → (y : ℕ) → (y ≡ x) ⊎ (y ∈ []) → Node G y
          only x lt y (inl e) = rw e lt
          only x lt y (inr f) = absurd (mem_nil f)

  listing_first : {s : State} {v t : List ℕ} → Searched G.size s v t → Listing s.flag 0 s [] []
  unfolding needed needs searched_to
  listing_first {s} r = record {
    place = r.place ∙ rw (le-ltb _ _ (le_refl G.size)) refl;
    same = refl;
    resolved = r.marks.resolved;
    marks = record {
      agree = λ z. ap (λ (u : List ℕ). cond (s.flag z) [] u) (r.marks.resolved z);
      seen_in = λ y m. absurd (mem_nil m);
      seen_out = λ y e. absurd (let a = r.marks.stamped.small y in let q : ⊥ = omega arith in q);
      listed = r.marks.empty;
    };
  }

  -- What the traversal comes to.
  pub record Ends (s : State) : Type 0 where
    pub ended : Ended G s
    pub resolved : (y : ℕ) → led G s.target y ≡ G.links y
    pub flagged : Flags G s.flag
    pub order : List ℕ
    pub written : s.list ≡ map suc order
    pub is_list : IsList G order
    pub once : Distinct order
    pub short : length order ≤ G.size

  pub record Traverses : Type 0 where
    pub count : ℕ
    pub ends : Ends (transitions G count (first G))
    pub small : count ≤ 16 * G.size

  bound : (n a b r v u : ℕ) → a ≤ n + (n - 1) + 6 * v → b + 5 * 0 ≤ r + 5 * u → r ≤ 4 → r ≤ 4 * n → v ≤ n → u ≤ n → a + b ≤ 16 * n
  bound n a b r v u ha hb h₁ h₂ hv hu = omega arith

  -- THE TRAVERSAL ENDS, with exactly the circular references flagged and with exactly the list
  pub traverse : Traverses
  unfolding searches
  traverse =
      let r : Loops G.size (G.size - 1) = all_loops in
      let s : State = transitions G r.count (first G) in
      let c : ℕ → Bool = s.flag in
      let fl : Flags G c = searched_flags r.holds in
      let d : Found (needs G c) [] [] G.roots = found (needs G c) (Node G) G.size w.room (needs_in c) G.roots [] w.roots_in in
      let q : Ran c s d.v' d.l' d.c = list_searches d.dfs 0 s (listing_first r.holds) refl (omega arith) in
      let e : transitions G (r.count + q.count) (first G) ≡ transitions G q.count s = transitions_add G r.count q.count (first G) in
      let en : Entered (needs G c) [] G.roots d.l' = ordered (needs G c) (needs_acyclic c fl) d.dfs in
      let full : length d.v' ≤ G.size =
      w.room d.v' (apart d.dfs dnil) (below (Node G) (needs_in c) d.dfs (λ y k. absurd (mem_nil k)) w.roots_in) in
      let many : length d.v' + 0 ≡ 0 + length d.l' = as_many d.dfs in
      let short : length d.l' ≤ G.size = omega arith in
      let ends : Ends (transitions G q.count s) = record {
        ended = q.ends.place;
        resolved = q.ends.resolved;
        flagged = subst (Flags G) (sym q.ends.same) fl;
        order = d.l';
        written = q.ends.marks.listed;
        is_list = (c, fl, en);
        once = entered_distinct (needs G c) (needs_acyclic c fl) en dnil;
        short = short;
      } in
      let mv : q.count ≤ d.c = q.small in
      let cb : d.c + 5 * 0 ≤ length G.roots + 5 * length d.v' = cost (needs_few c) d.dfs in
      record {
        count = r.count + q.count;
        ends = subst Ends (sym e) ends;
        small = bound G.size r.count q.count (length G.roots) (length r.seen') (length d.v') r.small (omega arith) w.roots_few few_roots (w.room r.seen' r.holds.once r.holds.nodes) full;
      }

  -- which is within the square: 'a count of at most sixteen times the square of the nodes of both ads'
  pub within_square : (c : ℕ) → c ≤ 16 * G.size → c ≤ 16 * (G.size * G.size)
  within_square c h = go G.size h
    where
      go : (n : ℕ) → c ≤ 16 * n → c ≤ 16 * (n * n)
      go zero b = omega arith
      go (suc n) b = omega (arith, mul-le-mul_right (suc n) (one_least n))
        where
          one_least : (a : ℕ) → 1 ≤ suc a
          one_least a = omega arith

  -- at the end nothing changes any more
  pub end_stays : (s : State) → s.place ≡ Between (searches G) → transition G s ≡ s
  end_stays s p = transition_end G s (searches G) p (le-ltb _ _ (le_refl (searches G)))

-- ---- the list is one

pub list_unique : (G : Graph) (a b : List ℕ) → IsList G a → IsList G b → a ≡ b
unfolding needs
list_unique G a b (c, f, e) (c', f', e') = entered_unique e (subst (λ (u : ℕ → Bool). Entered (needs G u) [] G.roots b) same e')
  where
    same : c' ≡ c
    same = fun_ext (λ y. bool_ext (c' y) (c y) (λ h. (f y).1 ((f' y).0 h)) (λ h. (f' y).1 ((f y).0 h)))

-- ---- THE LIST: it exists, is one, has every node at most once, and is no longer than the nodes

pub record TheList (G : Graph) : Type 0 where
  pub list : List ℕ
  pub is_list : IsList G list
  pub only : (l : List ℕ) → IsList G l → l ≡ list
  pub once : Distinct list
  pub short : length list ≤ G.size

pub the_list : (G : Graph) → Sound G → TheList G
the_list G w =
    let r = (traverse G w).ends in
    record {
      list = r.order;
      is_list = r.is_list;
      only = λ l i. list_unique G l r.order i r.is_list;
      once = r.once;
      short = r.short;
    }
