-- What the memory shows of the worked examples. Assumes nothing.
use Rattle.std.specs.Prelude.{ℕ, suc, ◌-◌, ◌≤◌, ◌≡◌, Result, Ok, List, [], ◌∷◌, ◌++◌, map, length, drop, replicate}
use Rattle.links.specs.Pair.{pair_slots}
use Rattle.syntax.specs.Tree.{Ad}
use Rattle.ad.specs.Layout.{stored_words, stored_bytes}
use Rattle.printer.specs.Prints.{Roomy}
use Rattle.ad.specs.declared.Counts.{Counts}
use Rattle.syntax.specs.declared.Refusal.{Refusal}
use Rattle.reader.specs.Content.{Answered}
use Rattle.matching.specs.Matching.{Matched, table_words}
use Rattle.matching.specs.declared.Outcome.{Outcome}
use Rattle.worked.specs.Table.{Row, Comes}
use Rattle.theorems.specs.Texts.{TreesMatch}

-- what the memory shows of a row of the table: values, list, verdict, ranks and steps
pub record Shown (row : Row) (budget : ℕ) (table list table' list' : List ℕ) (r : Outcome) : Type 0 where
  pub first : Ad
  pub second : Ad
  pub trees : TreesMatch first second budget table list table' list' r
  pub comes : Comes row (stored_words first) (stored_bytes first) (stored_words second) (stored_bytes second) trees.is_match
  -- 'After a match the list's room holds the whole list, whatever the budget, then zeros'
  pub listed : list' ≡ (map suc row.order ++ replicate (2048 - length row.order) 0) ++ drop pair_slots list

-- the row's texts are read into any memory that is large enough, and what is left is matched, with any budget
pub record Shows (row : Row) : Type 0 where
  pub shows : {v₀ b₀ w₀ c₀ v b w c : List ℕ} {x y : Result Counts Refusal} {budget : ℕ} {table list table' list' : List ℕ} {r : Result Outcome Refusal} → Roomy v₀ b₀ → Roomy w₀ c₀ →
      Answered row.first v₀ b₀ v b x → Answered row.second w₀ c₀ w c y → table_words ≤ length table → pair_slots ≤ length list →
      Matched v b w c budget table list table' list' r → (o : Outcome) × (r ≡ Ok o) × Shown row budget table list table' list' o

-- 'W1 to W12 stand as one statement over one table'
unfoldable pub AllShow : List Row → Type 0
AllShow [] = Unit {0}
AllShow (r ∷ rs) = Shows r × AllShow rs
