-- Each way through a transition of a loop search that leaves or closes a node: what it leaves is what the rule says. Assumes nothing.
use mathlib.Core.Path.{◌≡◌, refl, sym, ap, ◌∙◌}
use mathlib.Core.Logic.{◌≢◌}
use mathlib.Core.List.{List, []}
use Prim.Native.Nat.{ℕ, ◌+◌, ◌-◌, ◌*◌, ◌≤◌, ◌<◌, min}
use native.Mathlib.Omega.{arith}
use lib.ListN.{length, set, drop, drop_of_length-le}
use Rattle.graph.specs.Members.{numbers}
use Rattle.graph.specs.Graph.{Graph}
use Rattle.graph.specs.Transition.{named, led, back_open, back_closed, next_open, close, transition}
use Rattle.graph.proofs.Laws.Transitions.{state_eq, transition_leave_open, transition_collect, transition_close, transition_complete}
use Rattle.graph.specs.declared.Place.{Place}
use Rattle.graph.specs.declared.Place.TheVariants.{Searching, Closing}
use Rattle.marks.specs.Inner.Memory.{view, mark_at, mark_words, AtLoopLast}
use Rattle.marks.proofs.Slices.{mark_set, mark_keep}

-- ---- marks

-- a node is closed
pub closed : (ma : List ℕ) (x : ℕ) → x < 2048 → mark_words ≤ length ma → (q p : Place) (len : ℕ) (ta fl ls : List ℕ) →
    view p len ta (set ma (x * 6 + 3) 0) fl ls ≡ close (view q len ta ma fl ls) x p
unfolding view
closed ma x h r q p len ta fl ls =
    state_eq refl refl
    (mark_keep ma x 3 0 0 (omega arith) (omega arith) (λ e. omega arith))
    (mark_keep ma x 3 1 0 (omega arith) (omega arith) (λ e. omega arith))
    (mark_keep ma x 3 2 0 (omega arith) (omega arith) (λ e. omega arith))
    refl
    (mark_set ma x 3 0 (omega arith) h r)
    (mark_keep ma x 3 4 0 (omega arith) (omega arith) (λ e. omega arith))
    (mark_keep ma x 3 5 0 (omega arith) (omega arith) (λ e. omega arith))
    refl

-- ---- a node is left

module _ {G : Graph} {n x : ℕ} {ta ma : List ℕ} (a : AtLoopLast G n x ta ma) (k top high low len : ℕ) (fl ls : List ℕ) where
  none : drop (mark_at ma 2 x) (led G (numbers ta) x) ≡ []
  none = drop_of_length-le (led G (numbers ta) x) a.over

  pub retreat_open : {p : Place} {h b l : ℕ} {from : List ℕ} → h ≡ mark_at ma 3 x → low < h → from ≡ named G (mark_at ma 1 x) → b ≡ mark_at ma 5 x → l ≡ min low b → p ≡ back_open G k from top high l →
      view p len ta ma fl ls ≡ transition G (view (Searching k x top high low) len ta ma fl ls)
  unfolding view
  retreat_open {l = l} he lt fe be le q =
      let q' : l ≡ min low (mark_at ma 5 x) = le ∙ ap (min low) be in
      state_eq (q ∙ ap (λ (u : List ℕ). back_open G k u top high l) fe ∙ ap (back_open G k (named G (mark_at ma 1 x)) top high) q') refl refl refl refl refl refl refl refl refl
      ∙ sym (transition_leave_open G (view (Searching k x top high low) len ta ma fl ls) k x top high low refl none (let g : low < mark_at ma 3 x = omega arith in g))

  pub retreat_close : {h : ℕ} → h ≡ mark_at ma 3 x → h ≤ low → view (Closing k x top high) len ta ma fl ls ≡ transition G (view (Searching k x top high low) len ta ma fl ls)
  unfolding view
  retreat_close he le =
      sym (transition_collect G (view (Searching k x top high low) len ta ma fl ls) k x top high low refl none (let g : mark_at ma 3 x ≤ low = omega arith in g))

-- ---- a node is closed

module _ (G : Graph) (k x top high len : ℕ) (ta ma fl ls : List ℕ) (r : mark_words ≤ length ma) where
  pub close_last : {p : Place} {l rest : ℕ} {from below : List ℕ} → x < 2048 → top ≡ x → rest ≡ high - 1 → below ≡ named G (mark_at ma 4 top) → from ≡ named G (mark_at ma 1 x) → l ≡ mark_at ma 5 x → p ≡ back_closed G k from below rest l →
      view p len ta (set ma (x * 6 + 3) 0) fl ls ≡ transition G (view (Closing k x top high) len ta ma fl ls)
  unfolding view
  close_last {p} {l} {rest} {from} {below} h e re be fe le q =
      closed ma x h r (Closing k x top high) p len ta fl ls
      ∙ ap (close (view (Closing k x top high) len ta ma fl ls) x)
      (q ∙ ap (λ (u : List ℕ). back_closed G k u below rest l) fe ∙ ap (λ (u : List ℕ). back_closed G k (named G (mark_at ma 1 x)) u rest l) (be ∙ ap (λ (u : ℕ). named G (mark_at ma 4 u)) e)
      ∙ ap (λ (u : ℕ). back_closed G k (named G (mark_at ma 1 x)) (named G (mark_at ma 4 x)) u l) re ∙ ap (back_closed G k (named G (mark_at ma 1 x)) (named G (mark_at ma 4 x)) (high - 1)) le)
      ∙ sym (transition_complete G (view (Closing k x top high) len ta ma fl ls) k x top high refl e)

  pub close_newer : {p : Place} {rest : ℕ} {below : List ℕ} → top < 2048 → top ≢ x → rest ≡ high - 1 → below ≡ named G (mark_at ma 4 top) → p ≡ next_open G k x below rest →
      view p len ta (set ma (top * 6 + 3) 0) fl ls ≡ transition G (view (Closing k x top high) len ta ma fl ls)
  unfolding view
  close_newer {p} {rest} {below} h e re be q =
      closed ma top h r (Closing k x top high) p len ta fl ls
      ∙ ap (close (view (Closing k x top high) len ta ma fl ls) top)
      (q ∙ ap (λ (u : List ℕ). next_open G k x u rest) be ∙ ap (next_open G k x (named G (mark_at ma 4 top))) re)
      ∙ sym (transition_close G (view (Closing k x top high) len ta ma fl ls) k x top high refl e)
