-- The heights that the rule makes are small, for marks of few bits: a search opens no more nodes than there are slots that it has not
-- seen, whatever the marks hold. Assumes nothing.
use Rattle.std.specs.Prelude.{◌≡◌, ◌≢◌, Bool, ltb}
use Rattle.std.proofs.Math.Path.{refl}
use Rattle.std.proofs.Math.Bool.{true, false, cond}
use mathlib.Core.List.{List, [], ◌∷◌}
use Prim.Native.Nat.{ℕ, zero, suc, ◌+◌, ◌-◌, ◌≤◌, ◌<◌, min}
use Rattle.std.proofs.Math.Decide.{ℕ_discrete}
use Rattle.std.proofs.Math.Nat.{le_refl}
use native.Mathlib.Omega.{arith}
use Rattle.std.proofs.Math.Dec.{eqb}
use Rattle.std.proofs.Common.{eq-eqb}
use Rattle.graph.specs.Members.{◌∈◌, here, put}
use Rattle.graph.proofs.Laws.Members.{mem_drop, put_same, put_other}
use Rattle.graph.specs.Graph.{Graph}
use Rattle.graph.specs.declared.Place.{Place}
use Rattle.graph.specs.declared.Place.TheVariants.{Resolving, Starting, Searching, Closing, Between, Inside}
use Rattle.graph.specs.Transition.{State, start, searches, named, searched_to, resolved_to, back_open, back_closed, next_open, back, moved, discover, pass, pass_open, close, enter, seek, advance, shut, begin, follow, transition_at, transition, transitions, first}
use Rattle.graph.proofs.Laws.Range.{Slotted, InRange, led_in, range_kept}

-- how many of the first n slots no loop search has seen
unfoldable pub unseen : (ℕ → ℕ) → ℕ → ℕ
unseen stamp zero = 0
unseen stamp (suc n) = cond (eqb (stamp n) 1) 0 1 + unseen stamp n

-- u slots being unseen: the height of a place, and that of each node that its search may yet open, is at most b, and the least height
-- that it has at most one more
abbrev pub PlaceSmall : (b u : ℕ) → Place → Type 0
PlaceSmall b u (Resolving i) = 0 ≤ b
PlaceSmall b u (Starting k) = 0 ≤ b
PlaceSmall b u (Searching k x top high low) = (high + u ≤ b) × (low ≤ suc b)
PlaceSmall b u (Closing k x top high) = high + u ≤ b
PlaceSmall b u (Between k) = 0 ≤ b
PlaceSmall b u (Inside k x) = 0 ≤ b

-- so is a state: its marks of heights are any numbers that are at most one more than b
pub record Small (G : Graph) (b : ℕ) (s : State) : Type 0 where
  pub place_small : PlaceSmall b (unseen s.stamp G.slots) s.place
  pub heights : (z : ℕ) → s.height z ≤ suc b
  pub saves : (z : ℕ) → s.saved z ≤ suc b

-- ---- a slot is seen

unseen_most : (stamp : ℕ → ℕ) (n : ℕ) → unseen stamp n ≤ n
unfolding unseen
unseen_most stamp zero = le_refl 0
unseen_most stamp (suc n) = go (eqb (stamp n) 1) (unseen_most stamp n)
  where
    go : (d : Bool) → unseen stamp n ≤ n → cond d 0 1 + unseen stamp n ≤ suc n
    go true h = omega arith
    go false h = omega arith

module _ (stamp : ℕ → ℕ) (y : ℕ) where
  seen_here : (n : ℕ) → y ≡ n → eqb (put stamp y 1 n) 1 ≡ true
  seen_here n e = eq-eqb _ _ (put_same stamp y 1 e)

  seen_other : (n : ℕ) → y ≢ n → eqb (put stamp y 1 n) 1 ≡ eqb (stamp n) 1
  seen_other n e = rw (put_other stamp y 1 e) refl

  unseen_less : (n : ℕ) → unseen (put stamp y 1) n ≤ unseen stamp n
  unfolding unseen
  unseen_less zero = le_refl 0
  unseen_less (suc n) = go (ℕ_discrete y n) (unseen_less n)
    where
      go : Dec (y ≡ n) → unseen (put stamp y 1) n ≤ unseen stamp n → cond (eqb (put stamp y 1 n) 1) 0 1 + unseen (put stamp y 1) n ≤ cond (eqb (stamp n) 1) 0 1 + unseen stamp n
      go (yes e) h = rw (seen_here n e) (omega arith)
      go (no e) h = rw (seen_other n e) (omega arith)

  unseen_one : (n : ℕ) → y < n → eqb (stamp y) 1 ≡ false → suc (unseen (put stamp y 1) n) ≤ unseen stamp n
  unfolding unseen
  unseen_one zero l f = absurd (let q : ⊥ = omega arith in q)
  unseen_one (suc n) l f = go (ℕ_discrete y n) (λ k. unseen_one n k f)
    where
      go : Dec (y ≡ n) → (y < n → suc (unseen (put stamp y 1) n) ≤ unseen stamp n) → suc (cond (eqb (put stamp y 1 n) 1) 0 1 + unseen (put stamp y 1) n) ≤ cond (eqb (stamp n) 1) 0 1 + unseen stamp n
      go (yes e) ih =
          let g : eqb (stamp n) 1 ≡ false = rw e at f in
          let h = unseen_less n in
          rw (seen_here n e, g) (omega arith)
      go (no e) ih = let h = ih (omega arith) in rw (seen_other n e) (omega arith)

-- ---- the transitions

put_small : {f : ℕ → ℕ} {b : ℕ} (y a : ℕ) → a ≤ b → ((z : ℕ) → f z ≤ b) → (z : ℕ) → put f y a z ≤ b
put_small {f} {b} y a h v z = go (ℕ_discrete y z)
  where
    go : Dec (y ≡ z) → put f y a z ≤ b
    go (yes e) = rw (put_same f y a e) h
    go (no ne) = rw (put_other f y a ne) (v z)

module _ (G : Graph) (w : Slotted G) (b : ℕ) (room : G.slots ≤ b) where
  searched_small : (u k : ℕ) → PlaceSmall b u (searched_to G k)
  unfolding searched_to
  searched_small u k = go (ltb k G.size)
    where
      go : (d : Bool) → PlaceSmall b u (cond d (Starting k) (Between 0))
      go true = omega arith
      go false = omega arith

  resolved_small : (u i : ℕ) → PlaceSmall b u (resolved_to G i)
  unfolding resolved_to
  resolved_small u i = go (ltb i G.size)
    where
      go : (d : Bool) → PlaceSmall b u (cond d (Resolving i) (searched_to G 0))
      go true = omega arith
      go false = searched_small u 0

  module _ (s : State) (v : Small G b s) where
    abbrev left : ℕ
    left = unseen s.stamp G.slots

    -- where marks of heights and stamps do not change
    same_small : (p : Place) → PlaceSmall b left p → (s' : State) → s'.place ≡ p → s'.stamp ≡ s.stamp → s'.height ≡ s.height → s'.saved ≡ s.saved → Small G b s'
    same_small p h s' e₁ e₂ e₃ e₄ = record { place_small = rw (e₁, e₂) h; heights = λ z. rw e₃ (v.heights z); saves = λ z. rw e₄ (v.saves z) }

    close_small : (x : ℕ) (p : Place) → PlaceSmall b left p → Small G b (close s x p)
    close_small x p h = record { place_small = h; heights = put_small x 0 (omega arith) v.heights; saves = v.saves }

    discover_small : (k y p q high low : ℕ) → y < G.slots → eqb (s.stamp y) 1 ≡ false → high + left ≤ b → low ≤ suc b → Small G b (discover s k y p q high low)
    discover_small k y p q high low l f h g =
        let a = unseen_one s.stamp y G.slots l f in
        record { place_small = (omega arith, omega arith); heights = put_small y (suc high) (omega arith) v.heights; saves = put_small y low g v.saves }

    back_open_small : (k : ℕ) (f : List ℕ) (top high low : ℕ) → high + left ≤ b → low ≤ suc b → PlaceSmall b left (back_open G k f top high low)
    back_open_small k [] top high low h l = searched_small left (suc k)
    back_open_small k (p ∷ ps) top high low h l = (h, l)

    back_closed_small : (k : ℕ) (f u : List ℕ) (high low : ℕ) → high + left ≤ b → low ≤ suc b → PlaceSmall b left (back_closed G k f u high low)
    back_closed_small k [] u high low h l = searched_small left (suc k)
    back_closed_small k (p ∷ ps) [] high low h l = searched_small left (suc k)
    back_closed_small k (p ∷ ps) (u ∷ us) high low h l = (h, l)

    next_open_small : (k x : ℕ) (u : List ℕ) (high : ℕ) → high + left ≤ b → PlaceSmall b left (next_open G k x u high)
    next_open_small k x [] high h = searched_small left (suc k)
    next_open_small k x (u ∷ us) high h = h

    seek_small : (k : ℕ) → k < G.size → Small G b (seek G s k (G.nth k))
    unfolding seek
    seek_small k h = go (eqb (s.stamp (G.nth k)) 1) refl
      where
        go : (d : Bool) → eqb (s.stamp (G.nth k)) 1 ≡ d → Small G b (cond d (moved s (searched_to G (suc k))) (discover s k (G.nth k) 0 0 0 0))
        go true e = same_small (searched_to G (suc k)) (searched_small left (suc k)) _ refl refl refl refl
        go false e = discover_small k (G.nth k) 0 0 0 0 (w.nth_in k h) e (let a = unseen_most s.stamp G.slots in omega arith) (omega arith)

    advance_small : (k x top high low : ℕ) (ys : List ℕ) → s.place ≡ Searching k x top high low → high + left ≤ b → low ≤ suc b → ((y : ℕ) → y ∈ ys → y < G.slots) → Small G b (advance G s k x top high low ys)
    unfolding advance
    advance_small k x top high low [] e h l f = go (ltb low (s.height x))
      where
        go : (d : Bool) → Small G b (cond d (moved s (back_open G k (named G (s.from x)) top high (min low (s.saved x)))) (moved s (Closing k x top high)))
        go true = same_small (back_open G k (named G (s.from x)) top high (min low (s.saved x))) (back_open_small k (named G (s.from x)) top high (min low (s.saved x)) h (omega arith)) _ refl refl refl refl
        go false = same_small (Closing k x top high) h _ refl refl refl refl
    advance_small k x top high low (y ∷ ys) e h l f = go (eqb (s.stamp y) 1) refl (eqb (s.height y) 0)
      where
        go : (d : Bool) → eqb (s.stamp y) 1 ≡ d → (f : Bool) → Small G b (cond d (cond f (pass s x) (pass_open G s x (Searching k x top high (min low (s.height y))))) (discover s k y (suc x) (suc top) high low))
        go true q true = same_small (Searching k x top high low) (h, l) _ e refl refl refl
        go true q false = same_small (Searching k x top high (min low (s.height y))) (h, omega arith) _ refl refl refl refl
        go false q d = discover_small k y (suc x) (suc top) high low (f y (here refl)) q h l

    shut_small : (k x top high : ℕ) → high + left ≤ b → Small G b (shut G s k x top high)
    unfolding shut
    shut_small k x top high h = go (eqb top x)
      where
        go : (d : Bool) → Small G b (cond d (close s x (back_closed G k (named G (s.from x)) (named G (s.below x)) (high - 1) (s.saved x))) (close s top (next_open G k x (named G (s.below top)) (high - 1))))
        go true = close_small x _ (back_closed_small k (named G (s.from x)) (named G (s.below x)) (high - 1) (s.saved x) (omega arith) (v.saves x))
        go false = close_small top _ (next_open_small k x (named G (s.below top)) (high - 1) (omega arith))

    -- a place of the list searches has no height
    flat_small : (s' : State) → ((u : ℕ) → PlaceSmall b u s'.place) → s'.height ≡ s.height → s'.saved ≡ s.saved → Small G b s'
    flat_small s' h e₃ e₄ = record { place_small = h _; heights = λ z. rw e₃ (v.heights z); saves = λ z. rw e₄ (v.saves z) }

    begin_small : (k : ℕ) → s.place ≡ Between k → Small G b (begin G s k)
    unfolding begin
    begin_small k e = go (ltb k (searches G)) (eqb (s.stamp (start G k)) 2)
      where
        go : (d f : Bool) → Small G b (cond d (cond f (moved s (Between (suc k))) (enter s k (start G k) 0)) s)
        go false f = v
        go true true = flat_small _ (λ u. omega arith) refl refl
        go true false = flat_small _ (λ u. omega arith) refl refl

    back_small : (k : ℕ) (f : List ℕ) (u : ℕ) → PlaceSmall b u (back k f)
    back_small k [] u = omega arith
    back_small k (p ∷ ps) u = omega arith

    follow_small : (k x : ℕ) (ys : List ℕ) → s.place ≡ Inside k x → Small G b (follow G s k x ys)
    unfolding follow
    follow_small k x [] e = flat_small _ (back_small k (named G (s.from x))) refl refl
    follow_small k x (y ∷ ys) e = go (eqb (s.stamp y) 2)
      where
        go : (d : Bool) → Small G b (cond d (pass s x) (enter s k y (suc x)))
        go true = flat_small _ (λ u. rw e (let z : 0 ≤ b = omega arith in z)) refl refl
        go false = flat_small _ (λ u. omega arith) refl refl

    small_at : (p : Place) → s.place ≡ p → InRange G p → PlaceSmall b left p → Small G b (transition_at G s p)
    unfolding transition_at
    small_at (Resolving i) e r o = flat_small _ (λ u. resolved_small u (suc i)) refl refl
    small_at (Starting k) e r o = seek_small k r
    small_at (Searching k x top high low) e r o = advance_small k x top high low _ e o.0 o.1 (λ y m. led_in G w s.target x y (mem_drop (s.followed x) _ y m))
    small_at (Closing k x top high) e r o = shut_small k x top high o
    small_at (Between k) e r o = begin_small k e
    small_at (Inside k x) e r o = follow_small k x _ e

    -- A TRANSITION KEEPS HEIGHTS SMALL, whatever the marks hold within the bound
    pub small_kept : InRange G s.place → Small G b (transition G s)
    unfolding transition
    small_kept r = small_at s.place refl r v.place_small

  pub small_transitions : (c : ℕ) (s : State) → InRange G s.place → Small G b s → Small G b (transitions G c s)
  unfolding transitions
  small_transitions zero s r v = v
  small_transitions (suc c) s r v = small_transitions c (transition G s) (range_kept G w s r) (small_kept s v r)

  pub small_first : Small G b (first G)
  unfolding first
  small_first = record { place_small = resolved_small _ 0; heights = λ z. omega arith; saves = λ z. omega arith }
