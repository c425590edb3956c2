-- What inner functions are given and ensure. Assumes nothing.
use Rattle.std.specs.Prelude.{ℕ, Option, Some, None, List}
use Rattle.values.specs.declared.Value.{Value}
use Rattle.values.specs.declared.Value.TheVariants.{Undefined}
use Rattle.slots.specs.Packed.{slot_at}
use Rattle.evaluation.specs.Evaluation.{seen}

-- the value that a table holds for a root, if there is one; 'no Rank at all' is Undefined
abbrev pub worth_at : List ℕ → Option ℕ → Value
worth_at table None = Undefined
worth_at table (Some y) = seen (slot_at table y)
