-- Which two stored ads a call admits. v and b are the words and bytes of the first ad, w and c those of the second. Assumes nothing.
use Rattle.std.specs.Prelude.{ℕ, ◌≡◌, Bool, true, false, ◌||◌, List, length, take, ltb}
use Rattle.links.specs.Pair.{pair_slots}
use Rattle.syntax.specs.Tree.{Ad}
use Rattle.ad.specs.Layout.{ad_words, ad_bytes_room}
use Rattle.well_formed.specs.WellFormed.{Holds}

-- 'lent room smaller than above': of two ads, of so many numbers besides, of which some are lent, and of a list
abbrev pub small_pair : (v b w c : List ℕ) (lent room entries : ℕ) → Bool
small_pair v b w c lent room entries =
    ltb (length v) ad_words || (ltb (length b) ad_bytes_room || (ltb (length w) ad_words || (ltb (length c) ad_bytes_room || (ltb lent room || ltb entries pair_slots))))

-- the words w and the bytes b hold a well-formed ad, of whose room only the front counts: 'stored numbers are no well-formed tree within
-- the bounds above' does not hold of them
abbrev pub Well : List ℕ → List ℕ → Type 0
Well w b = (a : Ad) × Holds (take ad_words w) (take ad_bytes_room b) a

-- the number of a refusal: 'Matching checks 1, then 10 for the first ad, then 10 for the second'
pub data Refuses (v b w c : List ℕ) (lent room entries : ℕ) : ℕ → Type 0 where
  no_room : small_pair v b w c lent room entries ≡ true → Refuses v b w c lent room entries 1
  first_malformed : small_pair v b w c lent room entries ≡ false → ¬ (Well v b) → Refuses v b w c lent room entries 10
  second_malformed : small_pair v b w c lent room entries ≡ false → Well v b → ¬ (Well w c) → Refuses v b w c lent room entries 10

-- 'two ads are accepted where their match is given neither'
pub record Admits (v b w c : List ℕ) (lent room entries : ℕ) : Type 0 where
  pub roomy : small_pair v b w c lent room entries ≡ false
  pub first_well : Well v b
  pub second_well : Well w c
