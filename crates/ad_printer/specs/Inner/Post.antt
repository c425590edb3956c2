-- What the writers of definitions are given and ensure. w and b are the words and bytes of an ad. Assumes nothing.
use Rattle.std.specs.Prelude.{ℕ, ◌+◌, ◌≤◌, ◌<◌, ◌≡◌, List, ◌∷◌, length}
use Rattle.std.proofs.lemmas.List.Edits.{sets}
use Rattle.syntax.specs.Tree.{Definition, Ad}
use Rattle.syntax.specs.Print.{definition_text, definitions_text, printed_ad}
use Rattle.writer.specs.Inner.Put.{Puts, Near}
use Rattle.well_formed.specs.Laws.Definitions.{Table}

-- what the writer of a definition is given: it has the number j, and its text is near `at`
pub record RowFits (w b : List ℕ) (j at : ℕ) : Type 0 where
  pub words : 4864 ≤ length w
  pub few : j < 256
  pub first : Definition
  pub others : Ad
  pub node : ℕ
  pub byte : ℕ
  pub table : Table w b j node byte (first ∷ others)
  pub near : Near at (definition_text first)

-- what it ensures: the text of definition j is written
abbrev pub RowWritten : List ℕ → List ℕ → ℕ → ℕ → List ℕ → List ℕ → ℕ → Type 0
RowWritten w b j at o o' r = (d : Definition) (a : Ad) (n k : ℕ) → Table w b j n k (d ∷ a) → Puts (definition_text d) o at o' r

-- what the writer of the definitions from j up to d is given
pub record TableFits (w b : List ℕ) (j d at : ℕ) : Type 0 where
  pub words : 4864 ≤ length w
  pub few : d ≤ 256
  pub ad : Ad
  pub node : ℕ
  pub byte : ℕ
  pub table : Table w b j node byte ad
  pub count : d ≡ j + length ad
  pub near : Near at (definitions_text ad)

-- what it ensures: their text is written
abbrev pub TableWritten : List ℕ → List ℕ → ℕ → ℕ → ℕ → List ℕ → List ℕ → ℕ → Type 0
TableWritten w b j d at o o' r = (a : Ad) (n k : ℕ) → Table w b j n k a → d ≡ j + length a → Puts (definitions_text a) o at o' r

-- the whole ad is written at the front
abbrev pub AdWritten : List ℕ → List ℕ → ℕ → List ℕ → List ℕ → Type 0
AdWritten w b d o o' = (a : Ad) → Table w b 0 0 0 a → d ≡ length a → o' ≡ sets o 0 (printed_ad a)
