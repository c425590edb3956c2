-- What inner functions are given and ensure. Assumes nothing.
use Rattle.std.specs.Prelude.{◌≡◌, List, ℕ, ◌+◌, ◌<◌, length}
use Rattle.graph.specs.declared.Place.{Place}
use Rattle.graph.specs.declared.Place.TheVariants.{Resolving, Starting, Searching, Closing, Between, Inside}
use Rattle.ad.specs.Stored.{node_count}
use Rattle.marks.specs.Inner.Memory.{marks_room, Flagged}

-- What one transition of a pair asks of its place, of n list searches in all: that its nodes are slots, whether a node stands there
-- or not, and that the list is not full where an entry may be written. It asks nothing of what the marks hold: 'each with a contract
-- of its own over any marks, right or wrong'
abbrev pub PlaceFits : (v w : List ℕ) → (n len : ℕ) → (list : List ℕ) → Place → Type 0
PlaceFits v w n len list (Resolving i) = i < node_count v + node_count w
PlaceFits v w n len list (Starting k) = k < node_count v + node_count w
PlaceFits v w n len list (Searching k x top high low) = (x < marks_room) × (top < marks_room) × (k < node_count v + node_count w) × (high < 65535) × (low < 65536)
PlaceFits v w n len list (Closing k x top high) = (x < marks_room) × (top < marks_room) × (k < node_count v + node_count w)
PlaceFits v w n len list (Between k) = k < n
PlaceFits v w n len list (Inside k x) = (x < marks_room) × (k < n) × (len < length list)

-- what one transition does to the flags: 'only that node's marks'
abbrev pub FlaggedFrom : Place → List ℕ → List ℕ → Type 0
FlaggedFrom (Resolving i) before after = after ≡ before
FlaggedFrom (Starting k) before after = after ≡ before
FlaggedFrom (Searching k x top high low) before after = Flagged x before after
FlaggedFrom (Closing k x top high) before after = after ≡ before
FlaggedFrom (Between k) before after = after ≡ before
FlaggedFrom (Inside k x) before after = after ≡ before
