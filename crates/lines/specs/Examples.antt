-- Lines and their ads, by computation. Assumes nothing.
use Rattle.std.specs.Prelude.{ℕ, ◌≡◌, refl, List, [], ◌∷◌, map}
use Rattle.text.specs.Bytes.{bytes}
use Rattle.lines.specs.Lines.{lines_of, untabbed, ad, entry_of}

-- texts: no byte; a line without LF and with it; LF alone; empty lines in front, between and last; CR before LF
abbrev pub texts : List (List ℕ)
texts = bytes "" ∷ bytes "a" ∷ bytes "a\n" ∷ bytes "\n" ∷ bytes "\n\na" ∷ bytes "a\n\nb\n" ∷ bytes "a\n\n" ∷ bytes "a\r\nb" ∷ []

-- 'LF ends a line; the last may lack it': an LF at the end starts no further line, and CR is a byte as any other
pub lines_are : map lines_of texts ≡
    [] ∷ (bytes "a" ∷ []) ∷ (bytes "a" ∷ []) ∷ ([] ∷ []) ∷ ([] ∷ [] ∷ bytes "a" ∷ []) ∷ (bytes "a" ∷ [] ∷ bytes "b" ∷ []) ∷ (bytes "a" ∷ [] ∷ []) ∷ (bytes "a\r" ∷ bytes "b" ∷ []) ∷ []
unfolding lines_of bytes
lines_are = refl

-- lines: none of a tab; no name; a name; a second tab, which is a blank of the ad; nothing behind the tab
abbrev pub lines : List (List ℕ)
lines = bytes "" ∷ bytes "bench []" ∷ bytes "\t[]" ∷ bytes "bench\t[]" ∷ bytes "bench\t\t[]" ∷ bytes "bench\t" ∷ []

-- 'bench name, tab, printed ad'
pub ads_are : map entry_of lines ≡ untabbed ∷ untabbed ∷ ad (bytes "[]") ∷ ad (bytes "[]") ∷ ad (bytes "\t[]") ∷ ad [] ∷ []
unfolding entry_of bytes
ads_are = refl
