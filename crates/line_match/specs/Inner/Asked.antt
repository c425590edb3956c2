-- What inner functions are given. Assumes nothing.
use Rattle.std.specs.Prelude.{ℕ, ◌≡◌, List, length}
use Rattle.ad.specs.Layout.{ad_words, ad_bytes_room}
use Rattle.links.specs.Pair.{pair_slots}
use Rattle.matching.specs.Matching.{table_words}

-- exactly the room of an ad and of a match
pub record LineRoom (w c table list : List ℕ) : Type 0 where
  pub words : length w ≡ ad_words
  pub bytes : length c ≡ ad_bytes_room
  pub values : length table ≡ table_words
  pub entries : length list ≡ pair_slots
