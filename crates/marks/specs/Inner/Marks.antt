-- The marks by their numbers. Assumes nothing.
use Rattle.std.specs.Prelude.{ℕ}
use Rattle.marks.specs.declared.Mark.{Mark}
use Rattle.marks.specs.declared.Mark.TheVariants.{Stamp, From, Followed, Height, Below, Saved}

-- which of a node's marks a mark is
abbrev pub index_of : Mark → ℕ
index_of Stamp = 0
index_of From = 1
index_of Followed = 2
index_of Height = 3
index_of Below = 4
index_of Saved = 5
