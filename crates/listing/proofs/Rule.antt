-- Each way through a transition that resolves a node or makes the list: what it leaves is what the rule says. Assumes nothing.
use mathlib.Core.Path.{◌≡◌, refl, sym, ap, ◌∙◌}
use mathlib.Core.Logic.{◌≢◌}
use mathlib.Core.Bool.{cond}
use mathlib.Core.List.{List, [], ◌∷◌, ◌++◌}
use Prim.Native.Nat.{ℕ, suc, ◌+◌, ◌*◌, ◌≤◌, ◌<◌}
use native.Mathlib.Numerals.{add-one}
use native.Mathlib.Omega.{arith}
use lib.ListN.{length, set, take, drop, drop_of_length-le}
use lib.Seq.{drop-cons, get_or-set_other, take-suc-set}
use borrow.Author.Tests.{le-ltb, lt-ltb}
use Rattle.graph.specs.Members.{put, numbers, raised}
use Rattle.graph.specs.Graph.{Graph}
use Rattle.graph.specs.Transition.{needed, back, marked, searched_to, resolved_to, transition}
use Rattle.graph.proofs.Laws.Transitions.{state_eq, transition_resolve, transition_begin, transition_omit, transition_pass, transition_enter, transition_leave}
use Rattle.graph.specs.declared.Place.{Place}
use Rattle.graph.specs.declared.Place.TheVariants.{Resolving, Starting, Between, Inside}
use Rattle.marks.specs.Inner.Memory.{view, mark_at, mark_words, fill, AtNode, AtStart, AtLink, AtLast, Grows}
use Rattle.marks.proofs.Slices.{numbers_set, mark_set, mark_keep, fill_at, fill_behind}

-- ---- a node is resolved

module _ {G : Graph} {i n x found : ℕ} (a : AtNode G i n x found) (len : ℕ) (ta ma fl ls : List ℕ) (h : x < length ta) where
  resolve_to : (p : Place) → p ≡ resolved_to G (suc i) → view p len (set ta x found) ma fl ls ≡ transition G (view (Resolving i) len ta ma fl ls)
  unfolding view
  resolve_to p e =
      sym
      (transition_resolve G (view (Resolving i) len ta ma fl ls) i refl
      ∙ state_eq (sym e)
      (sym
      (numbers_set ta x found h ∙ ap (put (numbers ta) x) a.found_is
      ∙ ap (λ (u : ℕ). put (numbers ta) u (cond (G.ref u) (marked (G.links u)) 0)) a.node_is))
      refl refl refl refl refl refl refl refl)

  pub resolve_more : {j : ℕ} → j ≡ i + 1 → j < n → view (Resolving j) len (set ta x found) ma fl ls ≡ transition G (view (Resolving i) len ta ma fl ls)
  unfolding resolved_to
  resolve_more {j} e lt =
      let q : suc i < G.size = let s = a.size_is in omega arith in
      resolve_to (Resolving j) (ap Resolving (e ∙ add-one i) ∙ rw (lt-ltb _ _ q) refl)

  pub resolve_last : {j : ℕ} → j ≡ i + 1 → i < n → n ≤ j → view (Starting 0) len (set ta x found) ma fl ls ≡ transition G (view (Resolving i) len ta ma fl ls)
  unfolding resolved_to searched_to
  resolve_last {j} e lt le =
      let q : G.size ≤ suc i = let s = a.size_is in omega arith in
      let p : 0 < G.size = let s = a.size_is in omega arith in
      resolve_to (Starting 0) (rw (le-ltb _ _ q, lt-ltb _ _ p) refl)

-- ---- a list search begins

module _ {G : Graph} {k y : ℕ} (a : AtStart G k y) (len : ℕ) (ta ma fl ls : List ℕ) where
  pub begin_omit : mark_at ma 0 y ≡ 2 → view (Between (k + 1)) len ta ma fl ls ≡ transition G (view (Between k) len ta ma fl ls)
  unfolding view
  begin_omit e =
      sym
      (transition_omit G (view (Between k) len ta ma fl ls) k refl (lt-ltb _ _ a.search_in) (ap (mark_at ma 0) (sym a.start_is) ∙ e)
      ∙ state_eq (ap Between (sym (add-one k))) refl refl refl refl refl refl refl refl refl)

  pub begin_enter : y < 2048 → mark_words ≤ length ma → mark_at ma 0 y ≢ 2 →
      view (Inside k y) len ta (fill ma y 0 (2 ∷ 0 ∷ 0 ∷ [])) fl ls ≡ transition G (view (Between k) len ta ma fl ls)
  unfolding view
  begin_enter b r e =
      let vs : List ℕ = 2 ∷ 0 ∷ 0 ∷ [] in
      let s = a.start_is in
      sym
      (transition_begin G (view (Between k) len ta ma fl ls) k refl (lt-ltb _ _ a.search_in) (λ q. e (ap (mark_at ma 0) a.start_is ∙ q))
      ∙ state_eq (ap (Inside k) (sym a.start_is)) refl
      (sym (fill_at (2 ∷ 0 ∷ 0 ∷ []) ma y 0 0 (omega arith) b r (omega arith) ∙ ap (λ (u : ℕ). put (mark_at ma 0) u 2) s))
      (sym (fill_at (2 ∷ 0 ∷ 0 ∷ []) ma y 0 1 (omega arith) b r (omega arith) ∙ ap (λ (u : ℕ). put (mark_at ma 1) u 0) s))
      (sym (fill_at (2 ∷ 0 ∷ 0 ∷ []) ma y 0 2 (omega arith) b r (omega arith) ∙ ap (λ (u : ℕ). put (mark_at ma 2) u 0) s))
      refl
      (sym (fill_behind (2 ∷ 0 ∷ 0 ∷ []) ma y 0 3 (omega arith) (omega arith)))
      (sym (fill_behind (2 ∷ 0 ∷ 0 ∷ []) ma y 0 4 (omega arith) (omega arith)))
      (sym (fill_behind (2 ∷ 0 ∷ 0 ∷ []) ma y 0 5 (omega arith) (omega arith)))
      refl)

-- ---- a need is followed

module _ {G : Graph} {x y i : ℕ} {ta ma fl : List ℕ} (a : AtLink G x y i ta ma fl) (k len : ℕ) (ls : List ℕ) where
  left : drop (mark_at ma 2 x) (needed G (numbers ta) (raised fl) x) ≡ y ∷ drop (suc i) (needed G (numbers ta) (raised fl) x)
  left =
      ap (λ (u : ℕ). drop u (needed G (numbers ta) (raised fl) x)) (sym a.index_is)
      ∙ drop-cons (needed G (numbers ta) (raised fl) x) i 0 a.more
      ∙ ap (λ (u : ℕ). u ∷ drop (suc i) (needed G (numbers ta) (raised fl) x)) (sym a.next_is)

  pub follow_pass : x < 2048 → mark_words ≤ length ma → mark_at ma 0 y ≡ 2 →
      view (Inside k x) len ta (set ma (x * 6 + 2) (i + 1)) fl ls ≡ transition G (view (Inside k x) len ta ma fl ls)
  unfolding view
  follow_pass b r e =
      sym
      (transition_pass G (view (Inside k x) len ta ma fl ls) k x refl left e
      ∙ state_eq refl refl
      (sym (mark_keep ma x 2 0 (i + 1) (omega arith) (omega arith) (λ q. omega arith)))
      (sym (mark_keep ma x 2 1 (i + 1) (omega arith) (omega arith) (λ q. omega arith)))
      (sym (mark_set ma x 2 (i + 1) (omega arith) b r ∙ ap (put (mark_at ma 2) x) (add-one i ∙ ap suc a.index_is)))
      refl
      (sym (mark_keep ma x 2 3 (i + 1) (omega arith) (omega arith) (λ q. omega arith)))
      (sym (mark_keep ma x 2 4 (i + 1) (omega arith) (omega arith) (λ q. omega arith)))
      (sym (mark_keep ma x 2 5 (i + 1) (omega arith) (omega arith) (λ q. omega arith)))
      refl)

  pub follow_enter : y < 2048 → mark_words ≤ length ma → mark_at ma 0 y ≢ 2 →
      view (Inside k y) len ta (fill ma y 0 (2 ∷ (x + 1) ∷ 0 ∷ [])) fl ls ≡ transition G (view (Inside k x) len ta ma fl ls)
  unfolding view
  follow_enter b r e =
      sym
      (transition_enter G (view (Inside k x) len ta ma fl ls) k x refl left e
      ∙ state_eq refl refl
      (sym (fill_at (2 ∷ (x + 1) ∷ 0 ∷ []) ma y 0 0 (omega arith) b r (omega arith)))
      (sym (fill_at (2 ∷ (x + 1) ∷ 0 ∷ []) ma y 0 1 (omega arith) b r (omega arith) ∙ ap (put (mark_at ma 1) y) (add-one x)))
      (sym (fill_at (2 ∷ (x + 1) ∷ 0 ∷ []) ma y 0 2 (omega arith) b r (omega arith)))
      refl
      (sym (fill_behind (2 ∷ (x + 1) ∷ 0 ∷ []) ma y 0 3 (omega arith) (omega arith)))
      (sym (fill_behind (2 ∷ (x + 1) ∷ 0 ∷ []) ma y 0 4 (omega arith) (omega arith)))
      (sym (fill_behind (2 ∷ (x + 1) ∷ 0 ∷ []) ma y 0 5 (omega arith) (omega arith)))
      refl)

-- ---- a node is left

pub leave_lists : {G : Graph} {x : ℕ} {from ta ma fl : List ℕ} → AtLast G x from ta ma fl → (k len : ℕ) (ls : List ℕ) {p : Place} → p ≡ back k from → len < length ls →
    view p (len + 1) ta ma fl (set ls len (x + 1)) ≡ transition G (view (Inside k x) len ta ma fl ls)
unfolding view
leave_lists {G} {x} {ta = ta} {ma} {fl} a k len ls e lt =
    let w : take (len + 1) (set ls len (x + 1)) ≡ take len ls ++ suc x ∷ [] = rw (add-one len) (take-suc-set ls len (x + 1) lt ∙ ap (λ (u : ℕ). take len ls ++ u ∷ []) (add-one x)) in
    sym
    (transition_leave G (view (Inside k x) len ta ma fl ls) k x refl (drop_of_length-le (needed G (numbers ta) (raised fl) x) a.over)
    ∙ state_eq (sym (e ∙ ap (back k) a.from_is)) refl refl refl refl refl refl refl refl (sym w))

pub grows_one : (len v : ℕ) (ls : List ℕ) → len < length ls → Grows len (len + 1) ls (set ls len v)
grows_one len v ls h = record {
  longer = omega arith;
  fits = λ k. omega arith;
  behind = λ i k. get_or-set_other ls len i v 0 (λ e. omega arith);
}
