-- The loop over a name's bytes. Assumes nothing.
use mathlib.Core.Path.{◌≡◌, refl, sym, ap, ◌∙◌}
use mathlib.Core.List.{List}
use Prim.Native.Nat.{ℕ, ◌+◌, ◌≤◌, ◌<◌}
use native.Mathlib.Numerals.{add-one}
use native.Mathlib.Omega.{arith}
use lib.ListN.{length, get_or, drop, drop_of_length-le}
use lib.Seq.{drop-cons}
use Rattle.names.specs.Inner.Fingerprint.{mixed, folded, fingerprint_of}

-- what holds before byte i: the bytes from there on are still to be mixed in
pub record Folding (name : List ℕ) (h i : ℕ) : Type 0 where
  pub left : folded h (drop i name) ≡ fingerprint_of name
  pub within : i ≤ length name
  pub small : h < 65536

pub folding_first : (name : List ℕ) → Folding name 0 0
folding_first name = record { left = refl; within = omega arith; small = omega arith }

module _ {name : List ℕ} {h i : ℕ} (f : Folding name h i) where
  pub folding_next : {k : ℕ} → i < length name → k ≡ mixed h (get_or name i 0) → k < 65536 → Folding name k (i + 1)
  unfolding folded
  folding_next {k} lt e s = record {
    left = ap (λ (u : ℕ). folded u (drop (i + 1) name)) e ∙ step ∙ f.left;
    within = omega arith;
    small = s;
  }
    where
      step : folded (mixed h (get_or name i 0)) (drop (i + 1) name) ≡ folded h (drop i name)
      step = ap (λ (u : ℕ). folded (mixed h (get_or name i 0)) (drop u name)) (add-one i) ∙ sym (ap (folded h) (drop-cons name i 0 lt))

  pub folding_end : length name ≤ i → h ≡ fingerprint_of name
  unfolding folded
  folding_end le = sym (ap (folded h) (drop_of_length-le name le)) ∙ f.left
