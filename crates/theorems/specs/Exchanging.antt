-- THE TWO ADS EXCHANGED, in terms of what callers hold: two matches in any memory are refused alike, or the verdict is kept and the ranks
-- change places; also with two budgets, where both finish; and of two texts. Assumes nothing.
use Rattle.std.specs.Prelude.{ℕ, ◌≡◌, Bool, ◌||◌, Result, Ok, List, length, ltb}
use Rattle.links.specs.Pair.{pair_slots}
use Rattle.matching.specs.Matching.{table_words}
use Rattle.matching.proofs.Laws.Exchange.{Exchanged}
use Rattle.matching.specs.declared.Outcome.{Outcome}
use Rattle.matching.specs.declared.Outcome.TheVariants.{Finished}
use Rattle.syntax.specs.declared.Refusal.{Refusal}
use Rattle.theorems.specs.Refusing.{RefusedWith}

-- the answers of a match and of that with the two ads exchanged: refused alike, or `Exchanged`, that is finished with the verdict kept
-- and the ranks exchanged, or not finished, with the same steps
pub data Turns : Result Outcome Refusal → Result Outcome Refusal → Type 0 where
  refused : {r r' : Result Outcome Refusal} {k p : ℕ} → RefusedWith r k p → RefusedWith r' k p → Turns r r'
  answered : {r r' : Result Outcome Refusal} {o o' : Outcome} → r ≡ Ok o → r' ≡ Ok o' → Exchanged o o' → Turns r r'

-- the answer is finished, with this verdict, these ranks and steps: 'the match is then finished and answers verdict, both ranks and steps'
abbrev pub FinishedAs : Bool → ℕ → ℕ → ℕ → Outcome → Type 0
FinishedAs verdict i j steps r = (count : ℕ) × (r ≡ Finished verdict i j steps count)

-- a finished answer, and that with the two ads exchanged: the verdict is kept, the ranks change places, and the steps are as many
pub record Swapped (verdict verdict' : Bool) (p q n p' q' n' : ℕ) : Type 0 where
  pub kept : verdict' ≡ verdict
  pub first : p' ≡ q
  pub second : q' ≡ p
  pub as_many : n' ≡ n

-- the room of a table and a list is 'lent room smaller than above'
abbrev pub short : (table list : List ℕ) → Bool
short table list = ltb (length table) table_words || ltb (length list) pair_slots
