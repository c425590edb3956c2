-- The facts of a transition's place. Assumes nothing.
use mathlib.Core.Path.{◌≡◌, subst}
use mathlib.Core.List.{List}
use Prim.Native.Nat.{ℕ}
use Rattle.graph.specs.declared.Place.{Place}
use Rattle.transitions.specs.Inner.Asked.{PlaceFits}

module _ (v w : List ℕ) (n len : ℕ) (ls : List ℕ) (pl : Place) (f : PlaceFits v w n len ls pl) where
  -- the facts of a place that is known
  pub fits_at : {q : Place} → pl ≡ q → PlaceFits v w n len ls q
  fits_at e = subst (λ (u : Place). PlaceFits v w n len ls u) e f
