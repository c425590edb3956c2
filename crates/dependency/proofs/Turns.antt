-- The loop of the traversal: what holds before each transition, and what is then asked and had. Assumes nothing.
use mathlib.Core.Path.{◌≡◌, refl, sym, ap, ◌∙◌, subst, fun_ext}
use mathlib.Core.Logic.{◌≢◌, ◌⊎◌, inl, inr}
use mathlib.Core.Bool.{Bool, true, false, cond, false≢true}
use mathlib.Core.List.{List, [], ◌∷◌, ◌++◌, map}
use Prim.Native.Nat.{ℕ, zero, suc, ◌+◌, ◌-◌, ◌*◌, ◌≤◌, ◌<◌}
use native.Mathlib.Omega.{arith}
use lib.ListN.{length, get_or, set, take, drop, replicate, length-drop, length-map, length-replicate, take-append-drop}
use lib.Seq.{length-take-le, get_or-drop, ext_get_or}
use lib.Dec.{eqb, ltb, leb}
use borrow.Author.Tests.{leb-true, leb-false, lt-ltb}
use Rattle.graph.specs.Graph.{Graph, Sound}
use Rattle.graph.specs.Transition.{State, searches, led, named, marked, searched_to, resolved_to, transition, transitions, first}
use Rattle.graph.proofs.Laws.Traversal.{Ends, traverse, within_square}
use Rattle.graph.proofs.Laws.Progress.{transitions_suc, total, before_end, over_at, room_at, taken, pending, Awake, awake_next}
use Rattle.graph.proofs.Laws.Range.{InRange, Ranged, slotted, ranged_transitions, ranged_first}
use Rattle.graph.proofs.Laws.Numbers.{Small, small_transitions, small_first}
use Rattle.graph.proofs.Laws.Transitions.{state_eq}
use Rattle.graph.specs.declared.Place.{Place}
use Rattle.graph.specs.declared.Place.TheVariants.{Resolving, Starting, Searching, Closing, Between, Inside}
use Rattle.links.specs.Graphs.{graph_of}
use Rattle.links.specs.declared.pair.AdPair.{AdPair}
use Rattle.marks.specs.Inner.Memory.{view, marks_room, mark_words, Clear, Roomy, Grows}
use Rattle.dependency.specs.Traversal.{Traversed}
use Rattle.dependency.specs.Inner.Asked.{ended_at, Ready}
use Rattle.transitions.specs.Inner.Asked.{PlaceFits, FlaggedFrom}
use Rattle.dependency.specs.Laws.Use.{clear_zeros}
use Rattle.transitions.specs.Laws.Next.{slots_fit, place_fits}
use Rattle.transitions.proofs.Steps.{sound, size_few}

-- a mark within the slots is what it records
recorded_is :
    (H : Graph) (t : ℕ) (l : List ℕ) → ((y : ℕ) → t ≡ suc y → y < H.slots) → named H t ≡ l → t
    ≡ marked l
unfolding named
recorded_is H zero l h e = ap marked e
recorded_is H (suc y) l h e = ap marked (rw (lt-ltb _ _ (h y refl)) at e)

set_bit : (l : List ℕ) (i j : ℕ) → get_or l j 0 ≤ 1 → get_or (set l i 1) j 0 ≤ 1
set_bit [] i j k = k
set_bit (a ∷ l) zero zero k = omega arith
set_bit (a ∷ l) zero (suc j) k = k
set_bit (a ∷ l) (suc i) zero k = k
set_bit (a ∷ l) (suc i) (suc j) k = set_bit l i j k

-- a transition keeps flags of 0 and 1
flagged_bits :
    (pl : Place) (fl fl' : List ℕ) → ((x : ℕ) → get_or fl x 0 ≤ 1) → FlaggedFrom pl fl fl' → (x : ℕ) →
    get_or fl' x 0 ≤ 1
flagged_bits (Resolving i) fl fl' h e x = rw e (h x)
flagged_bits (Starting k) fl fl' h e x = rw e (h x)
flagged_bits (Searching k y top high low) fl fl' h (inl e) x = rw e (h x)
flagged_bits (Searching k y top high low) fl fl' h (inr e) x = rw e (set_bit fl y x (h x))
flagged_bits (Closing k y top high) fl fl' h e x = rw e (h x)
flagged_bits (Between k) fl fl' h e x = rw e (h x)
flagged_bits (Inside k y) fl fl' h e x = rw e (h x)

-- ---- any graph

-- what holds before each transition
pub record Going (G : Graph) (S : Sound G) (count : ℕ) (pl : Place) (len : ℕ) (ta ma fl ls : List ℕ) : Type 0 where
  pub roomy : Roomy ta ma fl ls
  pub is : view pl len ta ma fl ls ≡ transitions G count (first G)
  pub most : count ≤ total G S
  pub awake : Awake G count
  pub zeros : (i : ℕ) → len ≤ i → get_or ls i 0 ≡ 0
  pub fits : len ≤ length ls
  pub bits : (x : ℕ) → get_or fl x 0 ≤ 1

module _ (G : Graph) (S : Sound G) where
  first_place : cond (ltb 0 G.size) (Resolving 0) (Between 0) ≡ resolved_to G 0
  unfolding resolved_to searched_to
  first_place = go (ltb 0 G.size)
    where
      go : (b : Bool) → cond b (Resolving 0) (Between 0) ≡ cond b (Resolving 0) (cond b (Starting 0) (Between 0))
      go true = refl
      go false = refl

  first_view : (ta ma fl ls : List ℕ) → Clear ta → Clear ma → Clear fl → view (cond (ltb 0 G.size) (Resolving 0) (Between 0)) 0 ta ma fl ls ≡ first G
  unfolding view first
  first_view ta ma fl ls a m f =
      state_eq first_place (fun_ext a) (fun_ext (λ x. m _)) (fun_ext (λ x. m _)) (fun_ext (λ x. m _)) (fun_ext (λ i. ap (λ (u : ℕ). eqb u 1) (f i)))
      (fun_ext (λ x. m _)) (fun_ext (λ x. m _)) (fun_ext (λ x. m _)) refl

  pub going_first : {pl : Place} {len : ℕ} {ta ma fl ls : List ℕ} → pl ≡ cond (ltb 0 G.size) (Resolving 0) (Between 0) → len ≡ 0 →
      Roomy ta ma fl ls → Clear ta → Clear ma → Clear fl → Clear ls → Going G S 0 pl len ta ma fl ls
  unfolding transitions
  going_first {pl} {len} {ta} {ma} {fl} {ls} e z r a m f l = record {
    roomy = r;
    is = ap (λ (u : Place). view u len ta ma fl ls) e ∙ ap (λ (u : ℕ). view (cond (ltb 0 G.size) (Resolving 0) (Between 0)) u ta ma fl ls) z ∙ first_view ta ma fl ls a m f;
    most = omega arith;
    awake = λ j h. absurd (none j h);
    zeros = λ i h. l i;
    fits = omega arith;
    bits = λ x. let h = f x in omega arith;
  }
    where
      none : (j : ℕ) → j < 0 → ⊥
      none j h = omega arith

  module _ {count : ℕ} {pl : Place} {len : ℕ} {ta ma fl ls : List ℕ} (t : Going G S count pl len ta ma fl ls) where
    place_is : pl ≡ (transitions G count (first G)).place
    unfolding view
    place_is = ap (λ (s : State). s.place) t.is

    ranged : Ranged G (slotted S) (view pl len ta ma fl ls)
    ranged = subst (λ (s : State). Ranged G (slotted S) s) (sym t.is) (ranged_transitions G (slotted S) count (first G) (ranged_first G (slotted S)))

    pub in_range : InRange G pl
    unfolding view
    in_range = ranged.place_in

    pub small : G.slots ≤ 65534 → Small G 65534 (view pl len ta ma fl ls)
    small m =
        let o = slotted S in
        subst (λ (s : State). Small G 65534 s) (sym t.is) (small_transitions G o 65534 m count (first G) (ranged_first G o).place_in (small_first G o 65534 m))

    -- the list has room for the node that it waits for
    pub room_in : (k x : ℕ) → pl ≡ Inside k x → G.size ≤ marks_room → len < length ls
    unfolding view taken pending
    room_in k x e m =
        let z : pending G S pl ≡ 1 = ap (pending G S) e in
        let r : taken G S (view pl len ta ma fl ls) ≤ G.size = subst (λ (s : State). taken G S s ≤ G.size) (sym t.is) (room_at G S count t.most) in
        let r' : length (take len ls) + pending G S pl ≤ G.size = r in
        let l : length (take len ls) ≡ len = length-take-le len ls t.fits in
        let o = t.roomy.list_room_lem in
        omega arith

    module _ {n : ℕ} (ne : n ≡ searches G) where
      -- a list search is left
      not_ended : ended_at pl n ≡ false → (transitions G count (first G)).place ≢ Between (searches G)
      not_ended e z =
          let a : leb n (searches G) ≡ false = ap (λ (u : Place). ended_at u n) (sym (place_is ∙ z)) ∙ e in
          let h : searches G < n = leb-false _ _ a in
          omega arith

      before : ended_at pl n ≡ false → count < total G S
      before e = before_end G S count (not_ended e)

      pub count_small : ended_at pl n ≡ false → count < 16 * G.size
      count_small h = let a = before h in let z = (traverse G S).small in omega arith

      -- the next turn
      pub going_next : {pl' : Place} {len' : ℕ} {ta' ma' fl' ls' : List ℕ} → ended_at pl n ≡ false → view pl' len' ta' ma' fl' ls' ≡ transition G (view pl len ta ma fl ls) →
          Grows len len' ls ls' → FlaggedFrom pl fl fl' → length ta' ≡ length ta → length ma' ≡ length ma → length fl' ≡ length fl → length ls' ≡ length ls →
          Going G S (count + 1) pl' len' ta' ma' fl' ls'
      going_next {fl' = fl'} h e gr fe e₁ e₂ e₃ e₄ =
          let r = t.roomy in
          record {
            roomy = record {
              target_room = let z = r.target_room in omega arith;
              marks_room_lem = let z = r.marks_room_lem in omega arith;
              flag_room = let z = r.flag_room in omega arith;
              list_room_lem = let z = r.list_room_lem in omega arith;
            };
            is = e ∙ ap (transition G) t.is ∙ sym (transitions_suc G S count (first G));
            most = let z = before h in omega arith;
            awake = awake_next G S count t.awake (not_ended h);
            zeros = λ i k. gr.behind i k ∙ t.zeros i (let z = gr.longer in omega arith);
            fits = let z = gr.fits t.fits in omega arith;
            bits = flagged_bits pl fl fl' t.bits fe;
          }

      ended_place : (u : Place) → InRange G u → ended_at u n ≡ true → u ≡ Between (searches G)
      ended_place (Resolving i) o h = absurd (false≢true h)
      ended_place (Starting k) o h = absurd (false≢true h)
      ended_place (Searching k x top high low) o h = absurd (false≢true h)
      ended_place (Closing k x top high) o h = absurd (false≢true h)
      ended_place (Between k) o h =
          let a : n ≤ k = leb-true _ _ h in
          let z : k ≤ searches G = o in
          ap Between (let x : k ≡ searches G = omega arith in x)
      ended_place (Inside k x) o h = absurd (false≢true h)

      written_is : (l : List ℕ) → take len ls ≡ map suc l → ls ≡ map suc l ++ replicate (length ls - length l) 0
      written_is l e =
          let a : length (take len ls) ≡ len = length-take-le len ls t.fits in
          let k : len ≡ length l = sym a ∙ ap length e ∙ length-map l suc in
          sym (take-append-drop len ls) ∙ ap (λ (u : List ℕ). u ++ drop len ls) e ∙ ap (λ (u : List ℕ). map suc l ++ u) (rest k)
        where
          rest : len ≡ length l → drop len ls ≡ replicate (length ls - length l) 0
          rest k =
              ext_get_or 0 (drop len ls) (replicate (length ls - length l) 0)
              (let x = length-drop len ls in let y = length-replicate {A = ℕ} (length ls - length l) 0 in omega arith)
              (λ i h. get_or-drop len ls i 0 ∙ t.zeros (len + i) (omega arith) ∙ sym (clear_zeros (length ls - length l) i))

      pub going_end : ended_at pl n ≡ true → Traversed G count len ta fl ls
      unfolding view led
      going_end h =
          let pe : pl ≡ Between (searches G) = ended_place pl in_range h in
          let en : Ends G S (view pl len ta ma fl ls) = subst (λ (s : State). Ends G S s) (sym t.is) (over_at G S count t.most (sym place_is ∙ pe)) in
          let li : count ≤ 16 * G.size = let a = t.most in let z = (traverse G S).small in omega arith in
          record {
            marks = ma;
            ends = state_eq (sym pe) refl refl refl refl refl refl refl refl refl ∙ t.is;
            exact = t.awake;
            linear = li;
            small = within_square G S count li;
            resolved = λ x r. recorded_is G (get_or ta x 0) (G.links x) (ranged.targets_in x) (sym (rw r refl) ∙ en.resolved x);
            circular = en.flagged;
            bits = t.bits;
            order = en.order;
            is_list = en.is_list;
            length_is = sym (length-take-le len ls t.fits) ∙ ap length en.written ∙ length-map en.order suc;
            written = written_is en.order en.written;
          }

-- ---- two stored ads

-- what holds at each turn of the loop: n list searches
pub record Turn (p : AdPair) (roots : List ℕ) (n count : ℕ) (pl : Place) (len : ℕ) (ta ma fl ls : List ℕ) : Type 0 where
  pub roots_are : roots ≡ (graph_of p).roots
  pub searches_are : n ≡ length roots
  pub going : Going (graph_of p) (sound p) count pl len ta ma fl ls

pub turn_first : (p : AdPair) {roots : List ℕ} {m n : ℕ} {pl : Place} {ta ma fl ls : List ℕ} →
    roots ≡ (graph_of p).roots → Ready ta fl ls → ma ≡ replicate mark_words 0 → n ≡ length roots → m ≡ (graph_of p).size → pl ≡ cond (ltb 0 m) (Resolving 0) (Between 0) →
    Turn p roots n 0 pl 0 ta ma fl ls
turn_first p re r me ne se e = record {
  roots_are = re;
  searches_are = ne;
  going = going_first (graph_of p) (sound p) (e ∙ ap (λ (u : ℕ). cond (ltb 0 u) (Resolving 0) (Between 0)) se) refl
      (record { target_room = r.target_room; marks_room_lem = let h = ap length me in let k = length-replicate {A = ℕ} mark_words 0 in omega arith; flag_room = r.flag_room; list_room_lem = r.list_room_lem })
      r.target_clear (subst Clear (sym me) (clear_zeros mark_words)) r.flag_clear r.list_clear;
}

module _ {p : AdPair} {roots : List ℕ} {n count : ℕ} {pl : Place} {len : ℕ} {ta ma fl ls : List ℕ}
    (t : Turn p roots n count pl len ta ma fl ls) {r : Bool} (e : r ≡ ended_at pl n) where
  all_searches : n ≡ searches (graph_of p)
  unfolding searches
  all_searches = t.searches_are ∙ ap length t.roots_are

  pub turn_end : r ≡ true → Traversed (graph_of p) count len ta fl ls
  turn_end h = going_end (graph_of p) (sound p) t.going all_searches (sym e ∙ h)

  pub turn_small : r ≡ false → count < 16 * (graph_of p).size
  turn_small h = count_small (graph_of p) (sound p) t.going all_searches (sym e ∙ h)

  pub turn_count : r ≡ false → count < 32768
  turn_count h = let a = turn_small h in let s = size_few p in omega arith

  pub turn_fits : r ≡ false → PlaceFits p.first.ad.words.now p.second.ad.words.now (length roots) len ls pl
  unfolding view
  turn_fits h =
      go
      (place_fits p.first.ad.words.now p.first.ad.bytes.now p.second.ad.words.now p.second.ad.bytes.now _ len ls pl (in_range (graph_of p) (sound p) t.going)
      (small (graph_of p) (sound p) t.going (slots_fit p.first.ad.words.now p.first.ad.bytes.now p.second.ad.words.now p.second.ad.bytes.now)).place_small
      (λ k x q. room_in (graph_of p) (sound p) t.going k x q (size_few p)))
    where
      go : (pl ≡ Between (searches (graph_of p))) ⊎ PlaceFits p.first.ad.words.now p.second.ad.words.now (searches (graph_of p)) len ls pl →
          PlaceFits p.first.ad.words.now p.second.ad.words.now (length roots) len ls pl
      go (inl q) =
          let a : leb n (searches (graph_of p)) ≡ false = ap (λ (u : Place). ended_at u n) (sym q) ∙ sym e ∙ h in
          let k : searches (graph_of p) < n = leb-false _ _ a in
          let d = all_searches in
          absurd (let z : ⊥ = omega arith in z)
      go (inr f) = subst (λ (m : ℕ). PlaceFits p.first.ad.words.now p.second.ad.words.now m len ls pl) (sym all_searches ∙ t.searches_are) f

  pub turn_next : {pl' : Place} {len' : ℕ} {ta' ma' fl' ls' : List ℕ} → r ≡ false →
      view pl' len' ta' ma' fl' ls' ≡ transition (graph_of p) (view pl len ta ma fl ls) → Grows len len' ls ls' → FlaggedFrom pl fl fl' →
      length ta' ≡ length ta → length ma' ≡ length ma → length fl' ≡ length fl → length ls' ≡ length ls → Turn p roots n (count + 1) pl' len' ta' ma' fl' ls'
  turn_next h s g fe e₁ e₂ e₃ e₄ = record {
    roots_are = t.roots_are;
    searches_are = t.searches_are;
    going = going_next (graph_of p) (sound p) t.going all_searches (sym e ∙ h) s g fe e₁ e₂ e₃ e₄;
  }
