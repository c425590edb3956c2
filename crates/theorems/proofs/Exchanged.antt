-- The same of finished matches, and of texts.
use Rattle.std.specs.Prelude.{ℕ, ◌+◌, ◌≤◌, ◌≡◌, Bool, Result, Ok, List, [], length, take}
use Rattle.std.proofs.Common.{arith, subst}
use Rattle.links.specs.Pair.{pair_slots}
use Rattle.ad.specs.Layout.{ad_words, ad_bytes_room, stored_words, stored_bytes}
use Rattle.links.specs.Inner.Asked.{Formed}
use Rattle.ad.specs.declared.Counts.{Counts}
use Rattle.syntax.specs.declared.Refusal.{Refusal}
use Rattle.reader.specs.Content.{Answered}
use Rattle.matching.specs.Matching as M
use Rattle.matching.specs.Matching.{Match, Matched, matches, table_words}
use Rattle.admission.specs.Laws.Wells.{formed_of}
use Rattle.matching.proofs.Laws.Exchange.{Exchanged, exchange}
use Rattle.matching.proofs.Laws.OneAnswer.{match_one}
use Rattle.matching.specs.declared.Outcome.{Outcome}
use Rattle.theorems.specs.Texts.{TextsMatch, TextsAnswer}
use Rattle.theorems.proofs.Texts.{texts_match, of_trees}
use Rattle.text_theorems.specs.Reading.{read_formed}
use Rattle.theorems.proofs.Laws.Budgets.{match_budget}
use Rattle.theorems.specs.Exchanging.{FinishedAs, Swapped}
use Rattle.theorems.proofs.Exchanging.{at_most, covers, exchange_finished}

-- a finished match in any memory is one of two well-formed ads
record Inner (v b w c : List ℕ) (budget : ℕ) (r : Outcome) : Type 0 where
  pub values : List ℕ
  pub entries : List ℕ
  pub first_formed : Formed (take ad_words v)
  pub second_formed : Formed (take ad_words w)
  pub is_match : Match (take ad_words v) (take ad_bytes_room b) (take ad_words w) (take ad_bytes_room c) budget values entries r

inner : {v b w c : List ℕ} {budget : ℕ} {table list table' list' : List ℕ} {r : Outcome} → Matched v b w c budget table list table' list' (Ok r) → Inner v b w c budget r
inner (M.refused e a t l) = let z : ◌≡◌ {A = ℕ} 0 1 = cc in absurd (omega arith)
inner {v} {b} {w} {c} {budget} {r = r} (matches {o} e f values entries m t l) =
    let same : o ≡ r = cc in
    subst (λ (x : Outcome). Inner v b w c budget x) same (record { values = values; entries = entries; first_formed = formed_of v b e.first_well; second_formed = formed_of w c e.second_well; is_match = m })

-- IN ANY MEMORY, with two budgets that both finish, and whatever is lent for table and list
pub matched_exchange_finished : {v b w c : List ℕ} {i j : ℕ} {table list table' list' table₂ list₂ table₂' list₂' : List ℕ} {verdict verdict' : Bool} {p q n p' q' n' : ℕ} {r s : Outcome} →
    Matched v b w c i table list table' list' (Ok r) → Matched w c v b j table₂ list₂ table₂' list₂' (Ok s) → FinishedAs verdict p q n r → FinishedAs verdict' p' q' n' s →
    Swapped verdict verdict' p q n p' q' n'
matched_exchange_finished m m' x y = let k = inner m in let k' = inner m' in exchange_finished k.first_formed k.second_formed k.is_match k'.is_match x y

-- and not exchanged: two finished matches of the same memory answer the same, whatever the budgets and what is lent for table and list
pub matched_finished : {v b w c : List ℕ} {i j : ℕ} {table list table' list' table₂ list₂ table₂' list₂' : List ℕ} {verdict verdict' : Bool} {p q n p' q' n' : ℕ} {r s : Outcome} →
    Matched v b w c i table list table' list' (Ok r) → Matched v b w c j table₂ list₂ table₂' list₂' (Ok s) → FinishedAs verdict p q n r → FinishedAs verdict' p' q' n' s → r ≡ s
matched_finished {v} {b} {w} {c} {i} {j} m m' x y =
    let k = inner m in
    let k' = inner m' in
    (match_one (take ad_words v) (take ad_bytes_room b) (take ad_words w) (take ad_bytes_room c) (i + j)
    (match_budget (i + j) k.is_match (covers k.is_match x) (let h = covers k.is_match x in omega arith))
    (match_budget (i + j) k'.is_match (covers k'.is_match y) (let h = covers k'.is_match y in omega arith))).answers

-- ---- two texts

-- OF TWO TEXTS, with one budget: `texts_match` gives what it asks
pub texts_exchange : {s t : List ℕ} {budget : ℕ} {table list table' list' table₂ list₂ table₂' list₂' : List ℕ} {r r' : Outcome} →
    TextsMatch s t budget table list table' list' r → TextsMatch t s budget table₂ list₂ table₂' list₂' r' → Exchanged r r'
texts_exchange {s} {t} m m' =
    exchange (stored_words m.first) (stored_bytes m.first) (stored_words m.second) (stored_bytes m.second) (read_formed s m.first m.first_read) (read_formed t m.second m.second_read)
    m.trees.is_match (of_trees m.second_read m.first_read m').is_match

-- and with two that both finish
pub texts_exchange_finished : {s t : List ℕ} {i j : ℕ} {table list table' list' table₂ list₂ table₂' list₂' : List ℕ} {verdict verdict' : Bool} {p q n p' q' n' : ℕ} {r r' : Outcome} →
    TextsMatch s t i table list table' list' r → TextsMatch t s j table₂ list₂ table₂' list₂' r' → FinishedAs verdict p q n r → FinishedAs verdict' p' q' n' r' →
    Swapped verdict verdict' p q n p' q' n'
texts_exchange_finished {s} {t} m m' x y =
    exchange_finished (read_formed s m.first m.first_read) (read_formed t m.second m.second_read) m.trees.is_match (of_trees m.second_read m.first_read m').is_match x y

-- the answers of two texts, as functions of them
pub texts_answer_exchange : {s t : List ℕ} (x : TextsAnswer s t) (y : TextsAnswer t s) →
    Swapped x.verdict y.verdict x.first_rank x.second_rank x.steps y.first_rank y.second_rank y.steps
texts_answer_exchange x y =
    let n = x.steps + y.steps in
    texts_exchange_finished (x.has_match n [] []).2 (y.has_match n [] []).2 (at_most x.verdict x.first_rank x.second_rank x.steps x.count n (omega arith))
    (at_most y.verdict y.first_rank y.second_rank y.steps y.count n (omega arith))

-- OF TWO ACCEPTED TEXTS, read and matched both ways, in any memory with room
pub accepted_exchange : {s t v₀ b₀ w₀ c₀ v b w c : List ℕ} {counts counts' : Counts} {budget : ℕ} {table list table' list' table₂ list₂ table₂' list₂' : List ℕ} {r r' : Result Outcome Refusal} →
    Answered s v₀ b₀ v b (Ok counts) → Answered t w₀ c₀ w c (Ok counts') → table_words ≤ length table → pair_slots ≤ length list → table_words ≤ length table₂ → pair_slots ≤ length list₂ →
    Matched v b w c budget table list table' list' r → Matched w c v b budget table₂ list₂ table₂' list₂' r' → (o o' : Outcome) × (r ≡ Ok o) × (r' ≡ Ok o') × Exchanged o o'
accepted_exchange x y h l h' l' m m' =
    let p = texts_match x y h l m in
    let q = texts_match y x h' l' m' in
    (p.0, q.0, p.1, q.1, texts_exchange p.2 q.2)
