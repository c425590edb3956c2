-- What inner functions ensure. Assumes nothing.
use Rattle.std.specs.Prelude.{ℕ, ◌≡◌, Result, Ok, Err, List, take}
use Rattle.syntax.specs.Refusals.{number_of}
use Rattle.syntax.specs.declared.Reason.{Reason}
use Rattle.ad.specs.Layout.{ad_words, ad_bytes_room}
use Rattle.links.specs.declared.pair.FormedAd.{FormedAd}
use Rattle.links.specs.declared.pair.AdPair.{AdPair}
use Rattle.admission.specs.Admission.{Well, Refuses, Admits}

-- an ad stands in the front of some memory
pub record Fronts (w b : List ℕ) (p : FormedAd) : Type 0 where
  pub words_are : p.ad.words.now ≡ take ad_words w
  pub bytes_are : p.ad.bytes.now ≡ take ad_bytes_room b

-- the well-formed ad in some memory, if there is one
abbrev pub Forming : (w b : List ℕ) → Result FormedAd Reason → Type 0
Forming w b (Ok p) = Well w b × Fronts w b p
Forming w b (Err k) = ¬ (Well w b) × (number_of k ≡ 10)

-- two ads that are admitted, each in the front of its memory
pub record AdmitsWith (v b w c : List ℕ) (lent room entries : ℕ) (p : AdPair) : Type 0 where
  pub admits : Admits v b w c lent room entries
  pub first_fronts : Fronts v b p.first
  pub second_fronts : Fronts w c p.second

-- an answer that is right
abbrev pub Admitting : (v b w c : List ℕ) (lent room entries : ℕ) → Result AdPair Reason → Type 0
Admitting v b w c lent room entries (Err k) = Refuses v b w c lent room entries (number_of k)
Admitting v b w c lent room entries (Ok p) = AdmitsWith v b w c lent room entries p
