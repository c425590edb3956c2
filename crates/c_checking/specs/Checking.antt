-- What `classad_check` gives: the contract of the check, and its answer as four numbers. Assumes nothing.
use Rattle.std.specs.Prelude.{ℕ, ◌≡◌, true, false, List, [], ◌∷◌, length, take}
use Rattle.syntax.specs.Tree.{Ad, nodes}
use Rattle.syntax.specs.Print.{printed_ad}
use Rattle.ad.specs.Layout.{ad_words, ad_bytes_room, small_ad}
use Rattle.well_formed.specs.WellFormed.{Holds}

-- THE CONTRACT OF `classad_check`: n are the four numbers after it. 1 where there is no room, 10 where 'stored numbers are no well-formed
-- tree within the bounds above'; else 0, the definitions, the nodes and the length of the print
pub data CheckReported (w b n : List ℕ) : Type 0 where
  no_room : small_ad w b ≡ true → n ≡ 1 ∷ 0 ∷ 0 ∷ 0 ∷ [] → CheckReported w b n
  malformed : small_ad w b ≡ false → ((a : Ad) → ¬ (Holds (take ad_words w) (take ad_bytes_room b) a)) → n ≡ 10 ∷ 0 ∷ 0 ∷ 0 ∷ [] → CheckReported w b n
  well_formed : small_ad w b ≡ false → (a : Ad) → Holds (take ad_words w) (take ad_bytes_room b) a → n ≡ 0 ∷ length a ∷ nodes a ∷ length (printed_ad a) ∷ [] → CheckReported w b n
