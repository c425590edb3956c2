-- What reading left of two texts, a match accepts. Assumes nothing.
use Rattle.std.specs.Prelude.{ℕ, ◌≤◌, ◌≡◌, Result, Ok, Err, List, length}
use Rattle.links.specs.Pair.{pair_slots}
use Rattle.ad.specs.declared.Counts.{Counts}
use Rattle.syntax.specs.declared.Refusal.{Refusal}
use Rattle.reader.specs.Content.{Answered}
use Rattle.matching.specs.Matching.{Matched, table_words}
use Rattle.matching.specs.declared.Outcome.{Outcome}
use Rattle.acceptance.specs.Acceptance.{accepted_ready, ready_matches}

-- TWO TEXTS s AND t THAT ARE READ ARE NEVER REFUSED BY A MATCH of what reading left, whatever memory they were read into and whatever the
-- budget, where it has room for its table and list
pub read_matches : {s t v₀ b₀ w₀ c₀ v b w c : List ℕ} {counts counts' : Counts} {budget : ℕ} {table list table' list' : List ℕ} {r : Result Outcome Refusal} →
    Answered s v₀ b₀ v b (Ok counts) → Answered t w₀ c₀ w c (Ok counts') → table_words ≤ length table → pair_slots ≤ length list →
    Matched v b w c budget table list table' list' r → (e : Refusal) → r ≡ Err e → ⊥
read_matches x y h l m e is = ready_matches (accepted_ready _ _ _ _ _ _ x) (accepted_ready _ _ _ _ _ _ y) h l m e is
