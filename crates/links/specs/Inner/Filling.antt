-- What filling in the fingerprints of one ad leaves. Assumes nothing.
use Rattle.std.specs.Prelude.{◌≡◌, ◌≢◌, Bool, List, ℕ, ◌<◌, get_or}
use Rattle.names.specs.Inner.Fingerprint.{fingerprint_of}
use Rattle.ad.specs.Stored.{offset_at, length_at, bytes_at}
use Rattle.links.specs.Inner.Asked.{print_at}

-- the first d definitions of an ad, the second or the first, have their fingerprints, and nothing else changed
pub record Filled (second : Bool) (w b : List ℕ) (d : ℕ) (before after : List ℕ) : Type 0 where
  pub filled : (j : ℕ) → j < d → get_or after (print_at second j) 0 ≡ fingerprint_of (bytes_at b (offset_at w j) (length_at w j))
  pub kept : (i : ℕ) → ((j : ℕ) → j < d → i ≢ print_at second j) → get_or after i 0 ≡ get_or before i 0
