-- What inner functions are given and ensure. Assumes nothing.
use Rattle.std.specs.Prelude.{ℕ, ◌-◌, ◌≤◌, ◌<◌, List, length, get_or}
use Rattle.links.specs.Inner.Asked.{Stands}

-- what a step is given, besides two well-formed ads: a node of theirs, and its marks, whatever they hold
pub record AtStep (v w target flag : List ℕ) (x : ℕ) : Type 0 where
  pub node : Stands v w x
  pub target_room : x < length target
  pub flag_room : x < length flag

-- what a run is given, besides two well-formed ads: marks and a table with a slot for each node ('1,024 a side'), whatever they hold,
-- and a list of nodes
pub record AtRun (v w target flag list table : List ℕ) : Type 0 where
  pub target_room : 2048 ≤ length target
  pub flag_room : 2048 ≤ length flag
  pub table_room_lem : 4096 ≤ length table
  pub listed : (i : ℕ) → i < length list → (1 ≤ get_or list i 0) × Stands v w (get_or list i 0 - 1)
