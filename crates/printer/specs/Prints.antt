-- What `print` answers and leaves, whatever memory and output it is lent. w and b are the words and bytes of an ad, o is the output.
-- Assumes nothing.
use Rattle.std.specs.Prelude.{ℕ, Result, Ok, Err, ◌≤◌, ◌≡◌, ◌⊎◌, List, [], ◌++◌, length, take, drop}
use Rattle.syntax.specs.Bounds.{text_bytes}
use Rattle.syntax.specs.Tree.{Ad}
use Rattle.syntax.specs.Print.{printed_ad}
use Rattle.ad.specs.Layout.{ad_words, ad_bytes_room}
use Rattle.well_formed.specs.WellFormed.{Holds}
use Rattle.syntax.specs.Refusals.{number_of}
use Rattle.syntax.specs.declared.Refusal.{Refusal}

-- the memory of an ad is as large as it must be, and no 'lent room smaller than above'
pub record Roomy (w b : List ℕ) : Type 0 where
  pub words : ad_words ≤ length w
  pub bytes : ad_bytes_room ≤ length b

-- the room's front part of the memory holds the ad a: 'exactly this content, zeros included'
abbrev pub Stored : List ℕ → List ℕ → Ad → Type 0
Stored w b a = Holds (take ad_words w) (take ad_bytes_room b) a

-- the text t fits: it is not 'longer than the lent output or than 16,384'
pub record Fitting (o t : List ℕ) : Type 0 where
  pub lent : length t ≤ length o
  pub bounded : length t ≤ text_bytes

-- 'Printing checks 1, 10, then 11.' t gives the text that is to be written of an ad
pub data Refuses (t : Ad → List ℕ) (w b o : List ℕ) : ℕ → Type 0 where
  -- 'lent room smaller than above'
  small : ¬ (Roomy w b) → Refuses t w b o 1
  -- 'stored numbers are no well-formed tree within the bounds above'
  malformed : Roomy w b → ((a : Ad) → ¬ (Stored w b a)) → Refuses t w b o 10
  -- 'printed text longer than the lent output or than 16,384'
  long : Roomy w b → {a : Ad} → Stored w b a → ¬ (Fitting o (t a)) → Refuses t w b o 11

-- What a printer of the text t leaves: o' is the output after it. The text stands in front and 'the bytes after it stay'; a refusal
-- has the place '0 for 1, 2, 10 and 11' and leaves 'all unchanged'.
abbrev pub PrintsText : (Ad → List ℕ) → List ℕ → List ℕ → List ℕ → List ℕ → Result ℕ Refusal → Type 0
PrintsText t w b o o' (Ok n) = (a : Ad) × Stored w b a × Fitting o (t a) × (n ≡ length (t a)) × (o' ≡ t a ++ drop n o)
PrintsText t w b o o' (Err r) = Refuses t w b o (number_of r.reason) × (r.place ≡ 0) × (o' ≡ o)

-- THE CONTRACT OF `print`: the whole ad, '`[`, definitions as `name = expression` joined by `; `, `]`'
abbrev pub Prints : List ℕ → List ℕ → List ℕ → List ℕ → Result ℕ Refusal → Type 0
Prints = PrintsText printed_ad

-- THE CONTRACT OF `text`: 'The text is handed back as the front part of the caller's output'; nothing of it where it is refused
abbrev pub HandsBack : List ℕ → List ℕ → List ℕ → List ℕ → Type 0
HandsBack w b o t = ((a : Ad) × Stored w b a × Fitting o (printed_ad a) × (t ≡ printed_ad a)) ⊎ ((k : ℕ) × Refuses printed_ad w b o k × (t ≡ []))
