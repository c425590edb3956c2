-- What the readers of definitions ensure. s is the text. Assumes nothing.
use Rattle.std.specs.Prelude.{ℕ, ◌≤◌, ◌<◌, ◌≡◌, Result, Ok, Err, List, length}
use Rattle.syntax.specs.Tree.{Ad, nodes}
use Rattle.syntax.specs.Token.{end}
use Rattle.syntax.specs.Reader as R
use Rattle.syntax.specs.Reader.{limits, end_a, definitions_at, behind_at}
use Rattle.tokens.specs.Inner.Meaning.{tokens_at}
use Rattle.syntax.specs.Refusals.{number_of}
use Rattle.syntax.specs.declared.Refusal.{Refusal}
use Rattle.ad.specs.Layout.{ad_bytes}
use Rattle.ad.specs.declared.Counts.{Counts}
use Rattle.leaves.specs.Inner.Marks.{Mark, Memory, left}
use Rattle.definition_reader.specs.Inner.Post.{stored_in, Holds}

-- r is p, and where that is an ad, v with the ad in it is w': 'accepted with its counts, or refused with number and byte place'
abbrev pub AgreesAd : Memory → Memory → R.Answer → Result Counts Refusal → Type 0
AgreesAd v w' p (Ok c) = (a : Ad) × (p ≡ R.accepted a) × (c.definitions ≡ length a) × (c.nodes ≡ nodes a) × (w' ≡ stored_in v a) × (length (ad_bytes a) ≤ length v.bytes)
AgreesAd v w' p (Err r) = p ≡ R.denied (number_of r.reason) r.place

-- 'definitions `name = expression` parted by `;`', from `]` or a Name on: the answer of `definitions_at`
abbrev pub DefinitionsOk : List ℕ → ℕ → ℕ → Mark → Memory → Memory → Result Counts Refusal → Type 0
DefinitionsOk s at d m w w' r = (f : ℕ) → left s at < f → (a : Ad) (v : Memory) → Holds d m w v a → AgreesAd v w' (definitions_at limits f (tokens_at s at) a m.nodes) r

-- from `;` or `]` on, behind a definition, the answer of `behind_at`: 'one further `;` allowed after the last, then `]`'
abbrev pub BehindOk : List ℕ → ℕ → ℕ → Mark → Memory → Memory → Result Counts Refusal → Type 0
BehindOk s at d m w w' r = (f : ℕ) → left s at < f → (a : Ad) (v : Memory) → Holds d m w v a → AgreesAd v w' (behind_at limits f (tokens_at s at) a m.nodes) r

-- behind `]`: '`[`, then definitions .., then `]`', and no further token
abbrev pub EndOk : List ℕ → ℕ → ℕ → ℕ → Result Counts Refusal → Type 0
EndOk s at d n (Ok c) = (c.definitions ≡ d) × (c.nodes ≡ n) × ((m : ℕ) × (tokens_at s at ≡ end m))
EndOk s at d n (Err r) = (a : Ad) → end_a (tokens_at s at) a ≡ R.denied (number_of r.reason) r.place
