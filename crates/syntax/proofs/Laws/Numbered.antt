-- A refusal is the one with its number and place. Assumes nothing.
use mathlib.Core.Path.{◌≡◌, refl}
use Prim.Native.Nat.{ℕ}
use Rattle.syntax.specs.Refusals.{number_of, refusal}
use Rattle.syntax.specs.declared.Reason.{Reason}
use Rattle.syntax.specs.declared.Reason.TheVariants.{MemoryTooSmall, TextTooLong, NoToken, Misfit, NumberTooLarge, NestedTooDeep, TokenTooLong, DefinedTwice, TooMany, NotWellFormed, PrintTooLong, TooManyLines}
use Rattle.syntax.specs.declared.Refusal.{Refusal}

numbered : (x : Reason) (p : ℕ) → record { reason = x; place = p } ≡ refusal (number_of x) p
numbered MemoryTooSmall p = refl
numbered TextTooLong p = refl
numbered NoToken p = refl
numbered Misfit p = refl
numbered NumberTooLarge p = refl
numbered NestedTooDeep p = refl
numbered TokenTooLong p = refl
numbered DefinedTwice p = refl
numbered TooMany p = refl
numbered NotWellFormed p = refl
numbered PrintTooLong p = refl
numbered TooManyLines p = refl

pub refusal_numbered : (r : Refusal) → r ≡ refusal (number_of r.reason) r.place
refusal_numbered r = numbered r.reason r.place
