-- The match of two stored ads: verdict, ranks, steps, and what is left in the table and in the list's room. v and b are the words and
-- bytes of the first ad, w and c those of the second. Assumes nothing.
use Rattle.std.specs.Prelude.{ℕ, suc, ◌-◌, ◌*◌, ◌≤◌, ◌<◌, ◌≡◌, Bool, true, false, ◌&&◌, Result, Ok, Err, List, [], ◌∷◌, ◌++◌, map, length, take, drop, replicate}
use Rattle.syntax.specs.Refusals.{refusal}
use Rattle.syntax.specs.declared.Refusal.{Refusal}
use Rattle.ad.specs.Layout.{ad_words, ad_bytes_room}
use Rattle.admission.specs.Admission.{small_pair, Refuses, Admits}
use Rattle.values.specs.declared.Value.{Value}
use Rattle.values.specs.declared.Value.TheVariants.{Undefined}
use Rattle.verdict.specs.Verdict.{is_true, rank_of}
use Rattle.slots.specs.declared.Slot.TheVariants.{Blank, Held}
use Rattle.slots.specs.Packed.{slot_at}
use Rattle.graph.specs.Graph.{Graph, Flags, needs, Entered}
use Rattle.graph.specs.Transition.{transitions, first, Ended}
use Rattle.links.specs.Pair.{roots_of, requirements, rank, pair_graph, pair_slots}
use Rattle.valuation.specs.Gives.{Gives}
use Rattle.valuation.specs.Run.{Ran}
use Rattle.evaluation.specs.Evaluation.{rule_at, seen, steps_words}
use Rattle.matching.specs.declared.Outcome.{Outcome}
use Rattle.matching.specs.declared.Outcome.TheVariants.{Finished, Unfinished}

-- Worth xs v: v is the value of the definition whose root is in xs, or Undefined where there is none: 'those that exist'; 'or no Rank
-- at all'
pub data Worth (need : ℕ → List ℕ) (rule : ℕ → List Value → Value) : List ℕ → Value → Type 0 where
  absent : Worth need rule [] Undefined
  present : {x : ℕ} {xs : List ℕ} {v : Value} → Gives need rule x v → Worth need rule (x ∷ xs) v

-- What a match answers when the list is covered: 'the match is then finished and answers verdict, both ranks and steps'. A rank
-- 'stands unmatched too'.
pub record Concluded (need : ℕ → List ℕ) (v b w c : List ℕ) (steps count : ℕ) (r : Outcome) : Type 0 where
  pub first_requirement : Value
  pub second_requirement : Value
  pub first_rank : Value
  pub second_rank : Value
  pub first_required : Worth need (rule_at v b w c) (roots_of false v b requirements) first_requirement
  pub second_required : Worth need (rule_at v b w c) (roots_of true w c requirements) second_requirement
  pub first_ranked : Worth need (rule_at v b w c) (roots_of false v b rank) first_rank
  pub second_ranked : Worth need (rule_at v b w c) (roots_of true w c rank) second_rank
  pub answers : r ≡ Finished (is_true first_requirement && is_true second_requirement) (rank_of first_rank) (rank_of second_rank) steps count

-- What the hunt of document 01 counted: 'its end is what these moves, exactly as many as it counts, make one after another of its first
-- place, clear marks and an empty list'; 'a count of at most sixteen times the square of the nodes of both ads', and of sixteen times the
-- nodes, whatever the loops
pub record Counted (G : Graph) (count : ℕ) : Type 0 where
  pub ends : Ended G (transitions G count (first G))
  pub exact : (j : ℕ) → j < count → ¬ (Ended G (transitions G j (first G)))
  pub linear : count ≤ 16 * G.size
  pub small : count ≤ 16 * (G.size * G.size)

-- THE MATCH OF TWO WELL-FORMED ADS within their rooms: 'A match is this run at k = 0 from a blank table, its count being the
-- steps, and no value is worked out elsewhere.' table and list are its 4,096 words of values and 2,048 entries after it.
pub record Match (v b w c : List ℕ) (budget : ℕ) (table list : List ℕ) (r : Outcome) : Type 0 where
  -- 'exactly the circular references and the list'
  pub circular : ℕ → Bool
  pub flagged : Flags (pair_graph v b w c) circular
  pub order : List ℕ
  pub entered : Entered (needs (pair_graph v b w c) circular) [] (pair_graph v b w c).roots order
  -- 'After a match the list's room holds the whole list, whatever the budget, then zeros'
  pub listed : list ≡ map suc order ++ replicate (2048 - length order) 0
  -- 'A match is this run at k = 0 from a blank table': its words, and its slots
  pub words : table ≡ steps_words (needs (pair_graph v b w c) circular) (rule_at v b w c) (take budget order) (replicate 4096 0)
  pub ran : Ran Held seen (needs (pair_graph v b w c) circular) (rule_at v b w c) Blank order budget (slot_at table)
  -- 'its result carrying a count'
  pub count : ℕ
  pub counted : Counted (pair_graph v b w c) count
  -- 'A budget not below the list's length covers it; the match is then finished .., otherwise the steps done.'
  pub finished : length order ≤ budget → Concluded (needs (pair_graph v b w c) circular) v b w c (length order) count r
  pub unfinished : budget < length order → r ≡ Unfinished budget count

-- ---- any memory

-- the words of the table: 'for a match, 2,048 values', of two words each (docs/LAYOUT.md)
abbrev pub table_words : ℕ
table_words = 4096

-- 'lent room smaller than above'
abbrev pub small : (v b w c table list : List ℕ) → Bool
small v b w c table list = small_pair v b w c (length table) table_words (length list)

-- THE CONTRACT OF `match_ads`, over any memory: table' and list' are what is lent of them after it. A refused call leaves 'all
-- unchanged'; otherwise 'Memory lent beyond these sizes is never changed.'
pub data Matched (v b w c : List ℕ) (budget : ℕ) (table list table' list' : List ℕ) (r : Result Outcome Refusal) : Type 0 where
  refused : {k : ℕ} → Refuses v b w c (length table) table_words (length list) k → r ≡ Err (refusal k 0) → table' ≡ table → list' ≡ list → Matched v b w c budget table list table' list' r
  matches : {o : Outcome} → Admits v b w c (length table) table_words (length list) → r ≡ Ok o → (values entries : List ℕ) →
      Match (take ad_words v) (take ad_bytes_room b) (take ad_words w) (take ad_bytes_room c) budget values entries o →
      table' ≡ values ++ drop table_words table → list' ≡ entries ++ drop pair_slots list → Matched v b w c budget table list table' list' r
