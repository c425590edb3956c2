-- Which stored ads are well formed. Assumes nothing.
use Rattle.std.specs.Prelude.{ℕ, ◌≤◌, ◌≡◌, Option, Some, None, List, length, take}
use Rattle.syntax.specs.Tree.{Ad, nodes}
use Rattle.syntax.specs.Reader.{accepted, parse}
use Rattle.syntax.specs.Print.{printed_ad}
use Rattle.ad.specs.Layout.{ad_bytes, ad_words, ad_bytes_room, stored_words, stored_bytes}
use Rattle.well_formed.specs.declared.Checked.{Checked}

-- 'reading some text, were its length not bounded, would leave exactly this content, zeros included': that text reads as the ad a, and
-- the content is the words w and the bytes b
pub record Holds (w b : List ℕ) (a : Ad) : Type 0 where
  pub text : List ℕ
  pub reads : parse text ≡ accepted a
  -- '16,384 bytes of names and strings'
  pub fits : length (ad_bytes a) ≤ ad_bytes_room
  pub words : w ≡ stored_words a
  pub bytes : b ≡ stored_bytes a

-- a well-formed ad comes with how many definitions and nodes it has, and how long it prints; else 'stored numbers are no
-- well-formed tree within the bounds above'
abbrev pub AnswersRoom : List ℕ → List ℕ → Option Checked → Type 0
AnswersRoom w b (Some c) =
    (a : Ad) × Holds w b a × (c.counts.definitions ≡ length a) × (c.counts.nodes ≡ nodes a) × (c.print_length ≡ length (printed_ad a))
AnswersRoom w b None = (a : Ad) → ¬ (Holds w b a)

-- THE CONTRACT OF `check`, over any memory: of longer memory the room's front part counts, and shorter memory holds no ad. Its
-- refusal is where 'stored numbers are no well-formed tree within the bounds above'
abbrev pub Answers : List ℕ → List ℕ → Option Checked → Type 0
Answers w b r = AnswersRoom (take ad_words w) (take ad_bytes_room b) r
