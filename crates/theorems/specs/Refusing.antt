-- HOW A CALL IS REFUSED, by the number and the place of document 01. Assumes nothing.
use Rattle.std.specs.Prelude.{ℕ, ◌≡◌, Result, Err}
use Rattle.syntax.specs.Refusals.{number_of}
use Rattle.syntax.specs.declared.Refusal.{Refusal}

-- the call answers a refusal with this number and place: 'A refusal carries its number and a place'
pub record RefusedWith {A : Type 0} (r : Result A Refusal) (k p : ℕ) : Type 0 where
  pub told : Refusal
  pub answers : r ≡ Err told
  pub number : number_of told.reason ≡ k
  pub at : told.place ≡ p
