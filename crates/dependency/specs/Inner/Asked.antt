-- What inner functions are given and ensure. Assumes nothing.
use Rattle.std.specs.Prelude.{Bool, false, List, ℕ, ◌≤◌, length, leb}
use Rattle.graph.specs.declared.Place.{Place}
use Rattle.graph.specs.declared.Place.TheVariants.{Resolving, Starting, Searching, Closing, Between, Inside}
use Rattle.marks.specs.Inner.Memory.{marks_room, Clear}

-- 'clear marks and an empty list'; the other marks are the traversal's own
pub record Ready (target flag list : List ℕ) : Type 0 where
  pub target_room : marks_room ≤ length target
  pub flag_room : marks_room ≤ length flag
  pub list_room_lem : marks_room ≤ length list
  pub target_clear : Clear target
  pub flag_clear : Clear flag
  pub list_clear : Clear list

-- whether there is no list search left, of n
abbrev pub ended_at : Place → ℕ → Bool
ended_at (Resolving i) n = false
ended_at (Starting k) n = false
ended_at (Searching k x top high low) n = false
ended_at (Closing k x top high) n = false
ended_at (Between k) n = leb n k
ended_at (Inside k x) n = false
