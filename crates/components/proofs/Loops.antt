-- Each way through a transition of a loop search that goes on: what it leaves is what the rule says. Assumes nothing.
use mathlib.Core.Path.{◌≡◌, refl, sym, ap, ◌∙◌}
use mathlib.Core.Logic.{◌≢◌}
use mathlib.Core.Bool.{Bool, ◌||◌}
use mathlib.Core.List.{List, [], ◌∷◌}
use Prim.Native.Nat.{ℕ, suc, ◌+◌, ◌*◌, ◌≤◌, ◌<◌, min}
use native.Mathlib.Numerals.{add-one}
use native.Mathlib.Omega.{arith}
use lib.ListN.{length, set, drop}
use lib.Seq.{drop-cons}
use Rattle.graph.specs.Members.{put, numbers, raised}
use Rattle.graph.specs.Graph.{Graph}
use Rattle.graph.specs.Transition.{led, searched_to, discover, transition}
use Rattle.graph.proofs.Laws.Transitions.{state_eq, transition_seek, transition_skip, transition_discover, transition_cross, transition_tie}
use Rattle.graph.specs.declared.Place.{Place}
use Rattle.graph.specs.declared.Place.TheVariants.{Starting, Searching}
use Rattle.marks.specs.Inner.Memory.{view, mark_at, mark_words, fill, flagged_at, AtSeek, AtLoopLink}
use Rattle.marks.proofs.Slices.{mark_set, mark_keep, raised_flagged, length_fill, fill_at, fill_before, fill_behind}

-- ---- places

-- the search after k
pub next_search : (G : Graph) (k : ℕ) {p : Place} → p ≡ searched_to G (k + 1) → p ≡ searched_to G (suc k)
next_search G k e = e ∙ ap (searched_to G) (add-one k)

-- ---- marks

-- a node is entered, and open
module _ (ma : List ℕ) (y p h b low : ℕ) (yl : y < 2048) (r : mark_words ≤ length ma) where
  abbrev first : List ℕ
  first = fill ma y 0 (1 ∷ p ∷ 0 ∷ [])

  room : mark_words ≤ length (fill ma y 0 (1 ∷ p ∷ 0 ∷ []))
  room = rw (length_fill ma y 0 (1 ∷ p ∷ 0 ∷ [])) r

  pub discovered : (k len high : ℕ) (ta fl ls : List ℕ) → h ≡ suc high →
      view (Searching k y y h h) len ta (fill (fill ma y 0 (1 ∷ p ∷ 0 ∷ [])) y 3 (h ∷ b ∷ low ∷ [])) fl ls ≡
      discover (view (Searching k y y h h) len ta ma fl ls) k y p b high low
  unfolding view
  discovered k len high ta fl ls e =
      state_eq (ap (λ (u : ℕ). Searching k y y u u) e) refl
      (fill_before (h ∷ b ∷ low ∷ []) (fill ma y 0 (1 ∷ p ∷ 0 ∷ [])) y 3 0 (omega arith) (omega arith) ∙ fill_at (1 ∷ p ∷ 0 ∷ []) ma y 0 0 (omega arith) yl r (omega arith))
      (fill_before (h ∷ b ∷ low ∷ []) (fill ma y 0 (1 ∷ p ∷ 0 ∷ [])) y 3 1 (omega arith) (omega arith) ∙ fill_at (1 ∷ p ∷ 0 ∷ []) ma y 0 1 (omega arith) yl r (omega arith))
      (fill_before (h ∷ b ∷ low ∷ []) (fill ma y 0 (1 ∷ p ∷ 0 ∷ [])) y 3 2 (omega arith) (omega arith) ∙ fill_at (1 ∷ p ∷ 0 ∷ []) ma y 0 2 (omega arith) yl r (omega arith))
      refl
      (fill_at (h ∷ b ∷ low ∷ []) (fill ma y 0 (1 ∷ p ∷ 0 ∷ [])) y 3 0 (omega arith) yl room (omega arith) ∙ ap (λ (f : ℕ → ℕ). put f y h) (fill_behind (1 ∷ p ∷ 0 ∷ []) ma y 0 3 (omega arith) (omega arith)) ∙ ap (put (mark_at ma 3) y) e)
      (fill_at (h ∷ b ∷ low ∷ []) (fill ma y 0 (1 ∷ p ∷ 0 ∷ [])) y 3 1 (omega arith) yl room (omega arith) ∙ ap (λ (f : ℕ → ℕ). put f y b) (fill_behind (1 ∷ p ∷ 0 ∷ []) ma y 0 4 (omega arith) (omega arith)))
      (fill_at (h ∷ b ∷ low ∷ []) (fill ma y 0 (1 ∷ p ∷ 0 ∷ [])) y 3 2 (omega arith) yl room (omega arith) ∙ ap (λ (f : ℕ → ℕ). put f y low) (fill_behind (1 ∷ p ∷ 0 ∷ []) ma y 0 5 (omega arith) (omega arith)))
      refl

-- ---- a loop search begins

module _ {G : Graph} {k n y : ℕ} (a : AtSeek G k n y) (len : ℕ) (ta ma fl ls : List ℕ) where
  pub seek_skip : {p : Place} → p ≡ searched_to G (k + 1) → mark_at ma 0 y ≡ 1 → view p len ta ma fl ls ≡ transition G (view (Starting k) len ta ma fl ls)
  unfolding view
  seek_skip q e =
      sym
      (transition_skip G (view (Starting k) len ta ma fl ls) k refl (ap (mark_at ma 0) (sym a.node_is) ∙ e)
      ∙ state_eq (sym (next_search G k q)) refl refl refl refl refl refl refl refl refl)

  pub seek_enter : y < 2048 → mark_words ≤ length ma → mark_at ma 0 y ≢ 1 →
      view (Searching k y y 1 1) len ta (fill (fill ma y 0 (1 ∷ 0 ∷ 0 ∷ [])) y 3 (1 ∷ 0 ∷ 0 ∷ [])) fl ls ≡ transition G (view (Starting k) len ta ma fl ls)
  unfolding view
  seek_enter b r e =
      discovered ma y 0 1 0 0 b r k len 0 ta fl ls refl
      ∙ ap (λ (u : ℕ). discover (view (Starting k) len ta ma fl ls) k u 0 0 0 0) a.node_is
      ∙ sym (transition_seek G (view (Starting k) len ta ma fl ls) k refl (λ q. e (ap (mark_at ma 0) a.node_is ∙ q)))

-- ---- a link is followed

module _ {G : Graph} {x y i : ℕ} {refers : Bool} {ta ma : List ℕ} (a : AtLoopLink G x y i refers ta ma) (k top high low len : ℕ) (fl ls : List ℕ) where
  left : drop (mark_at ma 2 x) (led G (numbers ta) x) ≡ y ∷ drop (suc i) (led G (numbers ta) x)
  left =
      ap (λ (u : ℕ). drop u (led G (numbers ta) x)) (sym a.index_is)
      ∙ drop-cons (led G (numbers ta) x) i 0 a.more
      ∙ ap (λ (u : ℕ). u ∷ drop (suc i) (led G (numbers ta) x)) (sym a.next_is)

  module _ (xl : x < 2048) (r : mark_words ≤ length ma) where
    followed : mark_at (set ma (x * 6 + 2) (i + 1)) 2 ≡ put (mark_at ma 2) x (suc (mark_at ma 2 x))
    followed = mark_set ma x 2 (i + 1) (omega arith) xl r ∙ ap (put (mark_at ma 2) x) (add-one i ∙ ap suc a.index_is)

    kept : (j : ℕ) → j < 6 → 2 ≢ j → mark_at (set ma (x * 6 + 2) (i + 1)) j ≡ mark_at ma j
    kept j h n = mark_keep ma x 2 j (i + 1) (omega arith) h n

    pub explore_cross : {h : ℕ} → mark_at ma 0 y ≡ 1 → h ≡ mark_at ma 3 y → h ≡ 0 →
        view (Searching k x top high low) len ta (set ma (x * 6 + 2) (i + 1)) fl ls ≡ transition G (view (Searching k x top high low) len ta ma fl ls)
    unfolding view
    explore_cross e he h =
        state_eq refl refl (kept 0 (omega arith) (λ q. omega arith)) (kept 1 (omega arith) (λ q. omega arith)) followed refl (kept 3 (omega arith) (λ q. omega arith))
        (kept 4 (omega arith) (λ q. omega arith)) (kept 5 (omega arith) (λ q. omega arith)) refl
        ∙ sym (transition_cross G (view (Searching k x top high low) len ta ma fl ls) k x top high low refl left e (sym he ∙ h))

    pub explore_tie : x < length fl → {h l : ℕ} → mark_at ma 0 y ≡ 1 → h ≡ mark_at ma 3 y → h ≢ 0 → l ≡ min low h →
        view (Searching k x top high l) len ta (set ma (x * 6 + 2) (i + 1)) (flagged_at fl x refers) ls ≡ transition G (view (Searching k x top high low) len ta ma fl ls)
    unfolding view
    explore_tie fh e he n q =
        state_eq (ap (Searching k x top high) (q ∙ ap (min low) he)) refl (kept 0 (omega arith) (λ q. omega arith)) (kept 1 (omega arith) (λ q. omega arith)) followed
        (raised_flagged fl x refers fh ∙ ap (λ (u : Bool). put (raised fl) x (raised fl x || u)) a.refers_is)
        (kept 3 (omega arith) (λ q. omega arith)) (kept 4 (omega arith) (λ q. omega arith)) (kept 5 (omega arith) (λ q. omega arith)) refl
        ∙ sym (transition_tie G (view (Searching k x top high low) len ta ma fl ls) k x top high low refl left e (λ z. n (he ∙ z)))

  pub explore_enter : y < 2048 → mark_words ≤ length ma → mark_at ma 0 y ≢ 1 →
      view (Searching k y y (high + 1) (high + 1)) len ta (fill (fill ma y 0 (1 ∷ (x + 1) ∷ 0 ∷ [])) y 3 ((high + 1) ∷ (top + 1) ∷ low ∷ [])) fl ls ≡
      transition G (view (Searching k x top high low) len ta ma fl ls)
  unfolding view
  explore_enter b r e =
      discovered ma y (x + 1) (high + 1) (top + 1) low b r k len high ta fl ls (add-one high)
      ∙ ap (λ (u : ℕ). discover (view (Searching k x top high low) len ta ma fl ls) k y u (top + 1) high low) (add-one x)
      ∙ ap (λ (u : ℕ). discover (view (Searching k x top high low) len ta ma fl ls) k y (suc x) u high low) (add-one top)
      ∙ sym (transition_discover G (view (Searching k x top high low) len ta ma fl ls) k x top high low refl left e)
