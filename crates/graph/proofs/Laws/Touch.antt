-- A transition changes, besides its place, only one node's marks or one entry of the list.
use Rattle.std.specs.Prelude.{◌≡◌, ◌≢◌, Bool, cond, ℕ, suc, ◌-◌, min, drop, ltb}
use Rattle.std.proofs.Math.Path.{refl}
use Rattle.std.proofs.Common.{subst, eqb-true}
use Rattle.std.proofs.Math.Bool.{true, false}
use mathlib.Core.List.{List, [], ◌∷◌, ◌++◌}
use Rattle.std.proofs.Math.Dec.{eqb}
use Rattle.graph.proofs.Laws.Members.{put_other}
use Rattle.graph.specs.Graph.{Graph}
use Rattle.graph.specs.declared.Place.{Place}
use Rattle.graph.specs.declared.Place.TheVariants.{Resolving, Starting, Searching, Closing, Between, Inside}
use Rattle.graph.specs.Transition.{State, start, searches, named, led, needed, searched_to, back_open, back_closed, next_open, moved, resolve, discover, pass, pass_open, close, enter, seek, advance, shut, begin, follow, transition_at, transition}

-- y's marks are the same
pub record Same (s s' : State) (y : ℕ) : Type 0 where
  pub target : s'.target y ≡ s.target y
  pub stamp : s'.stamp y ≡ s.stamp y
  pub from : s'.from y ≡ s.from y
  pub followed : s'.followed y ≡ s.followed y
  pub flag : s'.flag y ≡ s.flag y
  pub height : s'.height y ≡ s.height y
  pub below : s'.below y ≡ s.below y
  pub saved : s'.saved y ≡ s.saved y

-- 'the one node or link at hand': the node to be resolved, the root of the search to begin, the node at which a search is, the node
-- to which its next link goes, or the newest open node, to be closed
pub data AtHand (G : Graph) (s : State) : ℕ → Type 0 where
  to_resolve : (i : ℕ) → s.place ≡ Resolving i → AtHand G s (G.nth i)
  to_start : (k : ℕ) → s.place ≡ Starting k → AtHand G s (G.nth k)
  searching : (k x top high low : ℕ) → s.place ≡ Searching k x top high low → AtHand G s x
  loop_link : (k x top high low y : ℕ) (ys : List ℕ) → s.place ≡ Searching k x top high low → drop (s.followed x) (led G s.target x) ≡ y ∷ ys → AtHand G s y
  to_close : (k x top high : ℕ) → s.place ≡ Closing k x top high → AtHand G s top
  to_begin : (k : ℕ) → s.place ≡ Between k → AtHand G s (start G k)
  standing : (k x : ℕ) → s.place ≡ Inside k x → AtHand G s x
  next_link : (k x y : ℕ) (ys : List ℕ) → s.place ≡ Inside k x → drop (s.followed x) (needed G s.target s.flag x) ≡ y ∷ ys → AtHand G s y

-- 'changes, besides its own place, only that node's marks or one entry of the list': one of the two, never both
pub data Touch (G : Graph) (s s' : State) : Type 0 where
  marks : (x : ℕ) → AtHand G s x → ((y : ℕ) → x ≢ y → Same s s' y) → s'.list ≡ s.list → Touch G s s'
  entry : (x : ℕ) → AtHand G s x → ((y : ℕ) → Same s s' y) → s'.list ≡ s.list ++ suc x ∷ [] → Touch G s s'

module _ (G : Graph) (s : State) where
  all_same : (y : ℕ) → Same s s y
  all_same y = record { target = refl; stamp = refl; from = refl; followed = refl; flag = refl; height = refl; below = refl; saved = refl }

  touch_none : (p : Place) (x : ℕ) → AtHand G s x → Touch G s (moved s p)
  touch_none p x h = marks x h (λ z ne. record { target = refl; stamp = refl; from = refl; followed = refl; flag = refl; height = refl; below = refl; saved = refl }) refl

  touch_discover : (k y p b high low : ℕ) → AtHand G s y → Touch G s (discover s k y p b high low)
  touch_discover k y p b high low h = marks y h (λ z ne. record { target = refl; stamp = put_other _ y _ ne; from = put_other _ y _ ne; followed = put_other _ y _ ne; flag = refl; height = put_other _ y _ ne; below = put_other _ y _ ne; saved = put_other _ y _ ne }) refl

  touch_pass : (x : ℕ) → AtHand G s x → Touch G s (pass s x)
  touch_pass x h = marks x h (λ z ne. record { target = refl; stamp = refl; from = refl; followed = put_other _ x _ ne; flag = refl; height = refl; below = refl; saved = refl }) refl

  touch_open : (x : ℕ) (p : Place) → AtHand G s x → Touch G s (pass_open G s x p)
  touch_open x p h = marks x h (λ z ne. record { target = refl; stamp = refl; from = refl; followed = put_other _ x _ ne; flag = put_other _ x _ ne; height = refl; below = refl; saved = refl }) refl

  touch_close : (x : ℕ) (p : Place) → AtHand G s x → Touch G s (close s x p)
  touch_close x p h = marks x h (λ z ne. record { target = refl; stamp = refl; from = refl; followed = refl; flag = refl; height = put_other _ x _ ne; below = refl; saved = refl }) refl

  touch_enter : (k y p : ℕ) → AtHand G s y → Touch G s (enter s k y p)
  touch_enter k y p h = marks y h (λ z ne. record { target = refl; stamp = put_other _ y _ ne; from = put_other _ y _ ne; followed = put_other _ y _ ne; flag = refl; height = refl; below = refl; saved = refl }) refl

  touch_resolve : (i : ℕ) → s.place ≡ Resolving i → Touch G s (resolve G s i (G.nth i))
  touch_resolve i pe = marks (G.nth i) (to_resolve i pe) (λ z ne. record { target = put_other _ (G.nth i) _ ne; stamp = refl; from = refl; followed = refl; flag = refl; height = refl; below = refl; saved = refl }) refl

  touch_seek : (k : ℕ) → s.place ≡ Starting k → Touch G s (seek G s k (G.nth k))
  unfolding seek
  touch_seek k pe = go (eqb (s.stamp (G.nth k)) 1)
    where
      go : (b : Bool) → Touch G s (cond b (moved s (searched_to G (suc k))) (discover s k (G.nth k) 0 0 0 0))
      go true = touch_none _ (G.nth k) (to_start k pe)
      go false = touch_discover k (G.nth k) 0 0 0 0 (to_start k pe)

  touch_advance : (k x top high low : ℕ) (ys : List ℕ) → s.place ≡ Searching k x top high low → drop (s.followed x) (led G s.target x) ≡ ys → Touch G s (advance G s k x top high low ys)
  unfolding advance
  touch_advance k x top high low [] pe e = go (ltb low (s.height x))
    where
      go : (b : Bool) → Touch G s (cond b (moved s (back_open G k (named G (s.from x)) top high (min low (s.saved x)))) (moved s (Closing k x top high)))
      go true = touch_none _ x (searching k x top high low pe)
      go false = touch_none _ x (searching k x top high low pe)
  touch_advance k x top high low (y ∷ ys) pe e = go (eqb (s.stamp y) 1) (eqb (s.height y) 0)
    where
      go : (b d : Bool) → Touch G s (cond b (cond d (pass s x) (pass_open G s x (Searching k x top high (min low (s.height y))))) (discover s k y (suc x) (suc top) high low))
      go true true = touch_pass x (searching k x top high low pe)
      go true false = touch_open x _ (searching k x top high low pe)
      go false d = touch_discover k y (suc x) (suc top) high low (loop_link k x top high low y ys pe e)

  -- where x itself is closed, it is the newest
  touch_shut : (k x top high : ℕ) → s.place ≡ Closing k x top high → Touch G s (shut G s k x top high)
  unfolding shut
  touch_shut k x top high pe = go (eqb top x) refl
    where
      go : (b : Bool) → eqb top x ≡ b → Touch G s (cond b (close s x (back_closed G k (named G (s.from x)) (named G (s.below x)) (high - 1) (s.saved x))) (close s top (next_open G k x (named G (s.below top)) (high - 1))))
      go true e = touch_close x _ (subst (AtHand G s) (eqb-true _ _ e) (to_close k x top high pe))
      go false e = touch_close top _ (to_close k x top high pe)

  touch_begin : (k : ℕ) → s.place ≡ Between k → Touch G s (begin G s k)
  unfolding begin
  touch_begin k pe = go (ltb k (searches G)) (eqb (s.stamp (start G k)) 2)
    where
      go : (b d : Bool) → Touch G s (cond b (cond d (moved s (Between (suc k))) (enter s k (start G k) 0)) s)
      go false d = marks (start G k) (to_begin k pe) (λ z ne. all_same z) refl
      go true true = touch_none _ (start G k) (to_begin k pe)
      go true false = touch_enter k (start G k) 0 (to_begin k pe)

  touch_follow : (k x : ℕ) (ys : List ℕ) → s.place ≡ Inside k x → drop (s.followed x) (needed G s.target s.flag x) ≡ ys → Touch G s (follow G s k x ys)
  unfolding follow
  touch_follow k x [] pe e = entry x (standing k x pe) (λ z. record { target = refl; stamp = refl; from = refl; followed = refl; flag = refl; height = refl; below = refl; saved = refl }) refl
  touch_follow k x (y ∷ ys) pe e = go (eqb (s.stamp y) 2)
    where
      go : (b : Bool) → Touch G s (cond b (pass s x) (enter s k y (suc x)))
      go true = touch_pass x (standing k x pe)
      go false = touch_enter k y (suc x) (next_link k x y ys pe e)

  touch_from : (p : Place) → s.place ≡ p → Touch G s (transition_at G s p)
  unfolding transition_at
  touch_from (Resolving i) pe = touch_resolve i pe
  touch_from (Starting k) pe = touch_seek k pe
  touch_from (Searching k x top high low) pe = touch_advance k x top high low _ pe refl
  touch_from (Closing k x top high) pe = touch_shut k x top high pe
  touch_from (Between k) pe = touch_begin k pe
  touch_from (Inside k x) pe = touch_follow k x _ pe refl

  -- ONE TRANSITION CHANGES, BESIDES ITS PLACE, ONLY THE MARKS OF THE NODE AT HAND OR ITS ENTRY OF THE LIST, whatever the marks hold
  pub one_touch : Touch G s (transition G s)
  unfolding transition
  one_touch = touch_from s.place refl
