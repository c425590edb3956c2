-- What holds at every transition, for the loop of the code: the list has room, and before the end there is a transition left.
-- Assumes nothing.
use Rattle.std.specs.Prelude.{◌≡◌, ◌≢◌, Bool, cond, eqb, ltb}
use Rattle.std.proofs.Math.Path.{refl, ap}
use Rattle.std.proofs.Common.{◌∙◌, subst, length-append}
use Rattle.std.proofs.Math.Bool.{true, false}
use mathlib.Core.List.{List, [], ◌∷◌}
use Prim.Native.Nat.{ℕ, zero, suc, ◌+◌, ◌-◌, ◌*◌, ◌≤◌, ◌<◌, min}
use Rattle.std.proofs.Math.Decide.{ℕ_discrete, dec_lt}
use Rattle.std.proofs.Math.Nat.{le_refl}
use native.Mathlib.Omega.{arith}
use Rattle.std.proofs.Math.ListN.{length, length-map}
use Rattle.graph.specs.Graph.{Graph, Sound}
use Rattle.graph.specs.declared.Place.{Place}
use Rattle.graph.specs.declared.Place.TheVariants.{Resolving, Starting, Searching, Closing, Between, Inside}
use Rattle.graph.specs.Transition.{State, start, searches, named, searched_to, back_open, back_closed, next_open, moved, discover, pass, pass_open, close, enter, seek, advance, shut, begin, follow, transition_at, transition, transitions, first}
use Rattle.graph.proofs.Laws.Transitions.{transitions_add}
use Rattle.graph.proofs.Laws.Traversal.{traverse, Ends, end_stays}

-- the traversal is not over before its c-th transition
abbrev pub Awake : Graph → ℕ → Type 0
Awake G c = (j : ℕ) → j < c → (transitions G j (first G)).place ≢ Between (searches G)

module _ (G : Graph) (w : Sound G) where
  pub awake_next : (c : ℕ) → Awake G c → (transitions G c (first G)).place ≢ Between (searches G) → Awake G (c + 1)
  awake_next c a n j h = go (ℕ_discrete j c)
    where
      go : Dec (j ≡ c) → (transitions G j (first G)).place ≢ Between (searches G)
      go (yes e) = rw e n
      go (no e) = a j (omega arith)

  -- ---- the list only grows, and a node that the list waits for has its place in it

  unfoldable pub pending : Place → ℕ
  pending (Resolving i) = 0
  pending (Starting k) = 0
  pending (Searching k x top high low) = 0
  pending (Closing k x top high) = 0
  pending (Between k) = 0
  pending (Inside k x) = 1

  unfoldable pub taken : State → ℕ
  taken s = length s.list + pending s.place

  module _ (s : State) where
    -- where the list is as it was, and nothing waited
    grow_same : (s' : State) → s'.list ≡ s.list → length s.list + 0 ≤ taken s'
    unfolding taken
    grow_same s' e = let h = ap length e in omega arith

    grow_seek : (k y : ℕ) → length s.list + 0 ≤ taken (seek G s k y)
    unfolding seek
    grow_seek k y = go (eqb (s.stamp y) 1)
      where
        go : (b : Bool) → length s.list + 0 ≤ taken (cond b (moved s (searched_to G (suc k))) (discover s k y 0 0 0 0))
        go true = grow_same _ refl
        go false = grow_same _ refl

    grow_advance : (k x top high low : ℕ) (ys : List ℕ) → length s.list + 0 ≤ taken (advance G s k x top high low ys)
    unfolding advance
    grow_advance k x top high low [] = go (ltb low (s.height x))
      where
        go : (b : Bool) → length s.list + 0 ≤ taken (cond b (moved s (back_open G k (named G (s.from x)) top high (min low (s.saved x)))) (moved s (Closing k x top high)))
        go true = grow_same _ refl
        go false = grow_same _ refl
    grow_advance k x top high low (y ∷ ys) = go (eqb (s.stamp y) 1) (eqb (s.height y) 0)
      where
        go : (b d : Bool) → length s.list + 0 ≤ taken (cond b (cond d (pass s x) (pass_open G s x (Searching k x top high (min low (s.height y))))) (discover s k y (suc x) (suc top) high low))
        go true true = grow_same _ refl
        go true false = grow_same _ refl
        go false d = grow_same _ refl

    grow_shut : (k x top high : ℕ) → length s.list + 0 ≤ taken (shut G s k x top high)
    unfolding shut
    grow_shut k x top high = go (eqb top x)
      where
        go : (b : Bool) → length s.list + 0 ≤ taken (cond b (close s x (back_closed G k (named G (s.from x)) (named G (s.below x)) (high - 1) (s.saved x))) (close s top (next_open G k x (named G (s.below top)) (high - 1))))
        go true = grow_same _ refl
        go false = grow_same _ refl

    grow_begin : (k : ℕ) → length s.list + 0 ≤ taken (begin G s k)
    unfolding begin
    grow_begin k = go (ltb k (searches G)) (eqb (s.stamp (start G k)) 2)
      where
        go : (b d : Bool) → length s.list + 0 ≤ taken (cond b (cond d (moved s (Between (suc k))) (enter s k (start G k) 0)) s)
        go false d = grow_same _ refl
        go true true = grow_same _ refl
        go true false = grow_same _ refl

    grow_follow : (k x : ℕ) (ys : List ℕ) → s.place ≡ Inside k x → length s.list + 1 ≤ taken (follow G s k x ys)
    unfolding follow taken pending
    grow_follow k x [] e = rw (length-append s.list (suc x ∷ [])) (omega arith)
    grow_follow k x (y ∷ ys) e = go (eqb (s.stamp y) 2)
      where
        go : (b : Bool) → length s.list + 1 ≤ taken (cond b (pass s x) (enter s k y (suc x)))
        go true = let h : pending s.place ≡ 1 = ap pending e in omega arith
        go false = le_refl _

    grow_at : (p : Place) → s.place ≡ p → length s.list + pending p ≤ taken (transition_at G s p)
    unfolding transition_at pending
    grow_at (Resolving i) e = grow_same _ refl
    grow_at (Starting k) e = grow_seek k (G.nth k)
    grow_at (Searching k x top high low) e = grow_advance k x top high low _
    grow_at (Closing k x top high) e = grow_shut k x top high
    grow_at (Between k) e = grow_begin k
    grow_at (Inside k x) e = grow_follow k x _ e

    pub grow_transition : taken s ≤ taken (transition G s)
    unfolding transition taken
    grow_transition = grow_at s.place refl

  pub grow_transitions : (c : ℕ) (s : State) → taken s ≤ taken (transitions G c s)
  unfolding transitions
  grow_transitions zero s = le_refl _
  grow_transitions (suc c) s = let a = grow_transition s in let b = grow_transitions c (transition G s) in omega arith

  -- ---- before the end

  pub transitions_suc : (c : ℕ) (s : State) → transitions G (c + 1) s ≡ transition G (transitions G c s)
  unfolding transitions
  transitions_suc c s = transitions_add G c 1 s

  stay_transitions : (d : ℕ) (s : State) → s.place ≡ Between (searches G) → transitions G d s ≡ s
  unfolding transitions
  stay_transitions zero s e = refl
  stay_transitions (suc d) s e = ap (transitions G d) (end_stays G w s e) ∙ stay_transitions d s e

  abbrev pub total : ℕ
  total = (traverse G w).count

  -- a transitions that goes on past the end is at the end
  past : (c : ℕ) → total ≤ c → transitions G c (first G) ≡ transitions G total (first G)
  past c h =
      let e : c ≡ total + (c - total) = omega arith in
      ap (λ (u : ℕ). transitions G u (first G)) e ∙ transitions_add G total (c - total) (first G) ∙ stay_transitions (c - total) (transitions G total (first G)) (traverse G w).ends.ended

  pub before_end : (c : ℕ) → (transitions G c (first G)).place ≢ Between (searches G) → c < total
  before_end c f = go (dec_lt c total)
    where
      go : Dec (c < total) → c < total
      go (yes h) = h
      go (no n) = absurd (f (ap (λ (s : State). s.place) (past c (let q : ¬ (c < total) = n in omega arith)) ∙ (traverse G w).ends.ended))

  pub over_at : (c : ℕ) → c ≤ total → (transitions G c (first G)).place ≡ Between (searches G) → Ends G w (transitions G c (first G))
  over_at c h e =
      let d : total ≡ c + (total - c) = omega arith in
      subst (λ (s : State). Ends G w s) (ap (λ (u : ℕ). transitions G u (first G)) d ∙ transitions_add G c (total - c) (first G) ∙ stay_transitions (total - c) (transitions G c (first G)) e) (traverse G w).ends

  -- with the node that it waits for, the list is never longer than the graph
  pub room_at : (c : ℕ) → c ≤ total → taken (transitions G c (first G)) ≤ G.size
  unfolding taken pending
  room_at c h =
      let d : total ≡ c + (total - c) = omega arith in
      let e : transitions G total (first G) ≡ transitions G (total - c) (transitions G c (first G)) = ap (λ (u : ℕ). transitions G u (first G)) d ∙ transitions_add G c (total - c) (first G) in
      let a : taken (transitions G c (first G)) ≤ taken (transitions G total (first G)) = rw e (grow_transitions (total - c) (transitions G c (first G))) in
      let z = (traverse G w).ends in
      let l : length (transitions G total (first G)).list ≡ length z.order = ap length z.written ∙ length-map z.order suc in
      let b : length (transitions G total (first G)).list ≤ G.size = let y = z.short in omega arith in
      let p : pending (transitions G total (first G)).place ≡ 0 = ap pending (traverse G w).ends.ended in
      omega arith

  -- ---- the theorem: it is over after exactly so many transitions

  pub record Exactly : Type 0 where
    pub count : ℕ
    pub awake : Awake G count
    pub ends : Ends G w (transitions G count (first G))
    pub small : count ≤ 16 * G.size

  over_dec : (p : Place) → Dec (p ≡ Between (searches G))
  over_dec (Between k) = go (ℕ_discrete k (searches G))
    where
      go : Dec (k ≡ searches G) → Dec (Between k ≡ Between (searches G))
      go (yes e) = yes (ap Between e)
      go (no n) = no (λ q. n (let z : k ≡ searches G = cc in z))
  over_dec (Resolving i) = no (λ q. let z : ◌≡◌ {A = ℕ} 0 1 = cc in let y : ⊥ = omega arith in y)
  over_dec (Starting k) = no (λ q. let z : ◌≡◌ {A = ℕ} 0 1 = cc in let y : ⊥ = omega arith in y)
  over_dec (Searching k x top high low) = no (λ q. let z : ◌≡◌ {A = ℕ} 0 1 = cc in let y : ⊥ = omega arith in y)
  over_dec (Closing k x top high) = no (λ q. let z : ◌≡◌ {A = ℕ} 0 1 = cc in let y : ⊥ = omega arith in y)
  over_dec (Inside k x) = no (λ q. let z : ◌≡◌ {A = ℕ} 0 1 = cc in let y : ⊥ = omega arith in y)

  here_over : (d c : ℕ) → c + d ≡ total → Awake G c → (transitions G c (first G)).place ≡ Between (searches G) → Exactly
  here_over d c e a q = record { count = c; awake = a; ends = over_at c (omega arith) q; small = let b = (traverse G w).small in omega arith }

  least : (d c : ℕ) → c + d ≡ total → Awake G c → Exactly
  least zero c e a = here_over 0 c e a (ap (λ (u : ℕ). (transitions G u (first G)).place) (let z : c ≡ total = omega arith in z) ∙ (traverse G w).ends.ended)
  least (suc d) c e a = go (over_dec (transitions G c (first G)).place) (λ a'. least d (c + 1) (omega arith) a')
    where
      go : Dec ((transitions G c (first G)).place ≡ Between (searches G)) → (Awake G (c + 1) → Exactly) → Exactly
      go (yes q) k = here_over (suc d) c e a q
      go (no n) k = k (awake_next c a n)

  pub traverse_exactly : Exactly
  traverse_exactly = least total 0 (omega arith) (λ j h. absurd (none j h))
    where
      none : (j : ℕ) → j < 0 → ⊥
      none j h = omega arith
