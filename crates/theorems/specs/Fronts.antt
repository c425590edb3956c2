-- OF LENT MEMORY ONLY THE ROOM'S FRONT PART COUNTS: memory with the same front parts has the same matches. So an ad that is printed and
-- read back, into any memory, matches as before. Assumes nothing.
use Rattle.std.specs.Prelude.{ℕ, ◌≡◌, List, take}
use Rattle.ad.specs.Layout.{ad_words, ad_bytes_room}

-- the room of an ad holds the same: 'Lent memory for an ad has room for 1,024 nodes, 256 definitions and 16,384 bytes of names and strings'
pub record SameFront (w b w₁ b₁ : List ℕ) : Type 0 where
  pub words : take ad_words w ≡ take ad_words w₁
  pub bytes : take ad_bytes_room b ≡ take ad_bytes_room b₁
