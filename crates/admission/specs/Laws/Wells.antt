-- What a well-formed ad in some memory gives. Assumes nothing.
use Rattle.std.specs.Prelude.{ℕ, ◌≡◌, Option, Some, None, List, take}
use Rattle.std.proofs.Common.{subst}
use Rattle.syntax.specs.Tree.{Ad}
use Rattle.ad.specs.Layout.{ad_words}
use Rattle.links.specs.Pair.{StoredAd}
use Rattle.links.specs.Inner.Asked.{Formed, Measured}
use Rattle.links.specs.Laws.Layout.{stored_formed, stored_measured}
use Rattle.well_formed.specs.WellFormed.{Holds, Answers}
use Rattle.well_formed.specs.Laws.Bounds.{bounded}
use Rattle.well_formed.specs.Laws.Named.{bounded_named}
use Rattle.well_formed.specs.declared.Checked.{Checked}
use Rattle.admission.specs.Admission.{Well}

-- an ad in its memory
pub stored_of : {w b : List ℕ} {a : Ad} → Holds w b a → StoredAd w b a
stored_of {w} {b} {a} h =
    let k = bounded h in
    record { words = h.words; bytes_are = h.bytes; few_nodes = k.within.few_nodes; few_definitions = k.within.few_definitions; named = bounded_named a k }

pub formed_of : (w b : List ℕ) → Well w b → Formed (take ad_words w)
formed_of w b (a, h) = stored_formed (stored_of h)

-- what the check answers of a well-formed ad are its counts
pub well_measured : (w b : List ℕ) {k : Checked} {r : Option Checked} → Answers w b r → r ≡ Some k → Well w b × Measured (take ad_words w) k.counts.nodes k.counts.definitions
well_measured w b {k} h e = go (subst (λ (x : Option Checked). Answers w b x) e h)
  where
    go : Answers w b (Some k) → Well w b × Measured (take ad_words w) k.counts.nodes k.counts.definitions
    go (a, x, i, j, _) = ((a, x), stored_measured (stored_of x) j i)

pub malformed : (w b : List ℕ) {r : Option Checked} → Answers w b r → r ≡ None → ¬ (Well w b)
malformed w b h e = go (subst (λ (x : Option Checked). Answers w b x) e h)
  where
    go : Answers w b None → ¬ (Well w b)
    go f (a, x) = f a x
