-- The circular references and the list of two stored ads, whatever is lent. v and b are the words and bytes of the first ad, w and c
-- those of the second. Assumes nothing.
use Rattle.std.specs.Prelude.{ℕ, suc, ◌-◌, ◌≤◌, ◌≡◌, Result, Ok, Err, List, [], ◌++◌, map, length, get_or, take, drop, replicate}
use Rattle.syntax.specs.Refusals.{refusal}
use Rattle.syntax.specs.declared.Refusal.{Refusal}
use Rattle.ad.specs.Layout.{ad_words, ad_bytes_room}
use Rattle.graph.specs.Members.{raised}
use Rattle.graph.specs.Graph.{Flags, needs, Entered}
use Rattle.links.specs.Pair.{pair_graph, pair_slots}
use Rattle.matching.specs.Matching.{Counted}
use Rattle.admission.specs.Admission.{Refuses, Admits}
use Rattle.ordering.specs.declared.Order.{Order}

-- of two well-formed ads within their rooms: 'it ends with exactly the circular references and the list, its result carrying a count'.
-- flags and list are what is lent of them after it, and a flag is 1 for a circular reference.
pub record Orders (v b w c flags list : List ℕ) (count len : ℕ) : Type 0 where
  pub flagged : Flags (pair_graph v b w c) (raised flags)
  -- every other flag is 0
  pub bits : (x : ℕ) → get_or flags x 0 ≤ 1
  pub order : List ℕ
  pub entered : Entered (needs (pair_graph v b w c) (raised flags)) [] (pair_graph v b w c).roots order
  pub long : len ≡ length order
  -- 'the list's room holds the whole list .. then zeros'
  pub listed : list ≡ map suc order ++ replicate (2048 - length order) 0
  pub counted : Counted (pair_graph v b w c) count

-- THE CONTRACT OF `order_ads`, over any memory, with 2,048 flags and 2,048 entries. It refuses as a match does, with 'all unchanged'; and
-- 'Memory lent beyond these sizes is never changed.'
pub data Ordered (v b w c flags list flags' list' : List ℕ) (r : Result Order Refusal) : Type 0 where
  refused : {k : ℕ} → Refuses v b w c (length flags) pair_slots (length list) k → r ≡ Err (refusal k 0) → flags' ≡ flags → list' ≡ list → Ordered v b w c flags list flags' list' r
  orders : {o : Order} → Admits v b w c (length flags) pair_slots (length list) → r ≡ Ok o → (marks entries : List ℕ) →
      Orders (take ad_words v) (take ad_bytes_room b) (take ad_words w) (take ad_bytes_room c) marks entries o.transitions o.length →
      flags' ≡ marks ++ drop pair_slots flags → list' ≡ entries ++ drop pair_slots list → Ordered v b w c flags list flags' list' r
