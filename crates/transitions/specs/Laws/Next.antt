-- A transition of two ads leads to a place from which there is a transition, or to the end, whatever the marks hold. Assumes nothing.
use Rattle.std.specs.Prelude.{◌≡◌, refl, ◌⊎◌, List, ℕ, ◌≤◌, ◌<◌, length}
use Rattle.std.proofs.Common.{ap}
use Rattle.std.proofs.Math.Logic.{inl, inr}
use Rattle.std.proofs.Math.Decide.{ℕ_discrete}
use native.Mathlib.Omega.{arith}
use Rattle.graph.specs.Transition.{State, searches, transition}
use Rattle.graph.proofs.Laws.Range.{InRange, slotted, range_kept}
use Rattle.graph.proofs.Laws.Numbers.{PlaceSmall, Small, small_kept}
use Rattle.graph.specs.declared.Place.{Place}
use Rattle.graph.specs.declared.Place.TheVariants.{Resolving, Starting, Searching, Closing, Between, Inside}
use Rattle.links.specs.Pair.{pair_graph}
use Rattle.links.specs.Inner.Asked.{Formed}
use Rattle.links.specs.Laws.Soundness.{pair_sound}
use Rattle.transitions.specs.Inner.Asked.{PlaceFits}

module _ (v b w c : List ℕ) where
  pub slots_fit : (pair_graph v b w c).slots ≤ 65534
  unfolding pair_graph
  slots_fit = omega arith

  -- a place of the rule is the end or one that a transition takes, if its heights are of 16 bits and the list has room for its node
  pub place_fits : (u len : ℕ) (ls : List ℕ) (p : Place) → InRange (pair_graph v b w c) p → PlaceSmall 65534 u p → ((k x : ℕ) → p ≡ Inside k x → len < length ls) →
      (p ≡ Between (searches (pair_graph v b w c))) ⊎ PlaceFits v w (searches (pair_graph v b w c)) len ls p
  unfolding pair_graph
  place_fits u len ls (Resolving i) r s l = inr r
  place_fits u len ls (Starting k) r s l = inr r
  place_fits u len ls (Searching k x top high low) r s l = let a = s.0 in let d = s.1 in inr (r.0, r.1, r.2, omega arith, omega arith)
  place_fits u len ls (Closing k x top high) r s l = inr r
  place_fits u len ls (Between k) r s l = go (ℕ_discrete k (searches (pair_graph v b w c)))
    where
      go : Dec (k ≡ searches (pair_graph v b w c)) → (Between k ≡ Between (searches (pair_graph v b w c))) ⊎ PlaceFits v w (searches (pair_graph v b w c)) len ls (Between k)
      go (yes e) = inl (ap Between e)
      go (no n) = inr (let a : k ≤ searches (pair_graph v b w c) = r in let q : k < searches (pair_graph v b w c) = omega arith in q)
  place_fits u len ls (Inside k x) r s l = inr (r.0, r.1, l k x refl)

  -- THE NEXT TRANSITION: whatever the marks hold in 16 bits, a transition from a place in range leads to one that the next takes, or to
  -- the end, as long as the list has room: 'each with a contract of its own over any marks, right or wrong'
  pub next_fits : Formed v → Formed w → (s : State) → InRange (pair_graph v b w c) s.place → Small (pair_graph v b w c) 65534 s → (len : ℕ) (ls : List ℕ) → len < length ls →
      ((transition (pair_graph v b w c) s).place ≡ Between (searches (pair_graph v b w c))) ⊎ PlaceFits v w (searches (pair_graph v b w c)) len ls (transition (pair_graph v b w c) s).place
  next_fits f g s r m len ls l =
      let o = slotted (pair_sound v b w c f g) in
      place_fits _ len ls _ (range_kept (pair_graph v b w c) o s r) (small_kept (pair_graph v b w c) o 65534 slots_fit s m r).place_small (λ k x e. l)
