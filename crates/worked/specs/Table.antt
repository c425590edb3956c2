-- The examples of document 01 that are marked W, as one table: two texts, and what their match comes to. Assumes nothing.
use Rattle.std.specs.Prelude.{ℕ, ◌≤◌, ◌<◌, ◌≡◌, Bool, true, false, List, [], ◌∷◌, length, ℤ, negsuc}
use Rattle.text.specs.Bytes.{bytes}
use Rattle.syntax.specs.Tree.{Ad}
use Rattle.syntax.specs.Reader.{read, accepted}
use Rattle.ad.specs.Layout.{stored_words, stored_bytes}
use Rattle.graph.specs.Graph.{needs}
use Rattle.links.specs.Pair.{roots_of, pair_graph}
use Rattle.integers.specs.Integers.{width, wrap}
use Rattle.values.specs.declared.Value.{Value}
use Rattle.values.specs.declared.Value.TheVariants.{Undefined, Error, Boolean, Integer}
use Rattle.slots.specs.declared.Slot.TheVariants.{Held}
use Rattle.slots.specs.Packed.{slot_at}
use Rattle.evaluation.specs.Evaluation.{rule_at}
use Rattle.matching.specs.Matching.{Worth, Match}
use Rattle.matching.specs.declared.Outcome.{Outcome}
use Rattle.matching.specs.declared.Outcome.TheVariants.{Finished, Unfinished}

-- a definition of the first ad and its value: 'Text | Gives'
pub record Gift : Type 0 where
  pub name : List ℕ
  pub value : Value

-- two texts, the values of definitions of the first, the list ('1,024 a side': a node of the second ad has 1,024 more), the verdict and
-- the ranks: 'Examples, those marked W to be proved'
pub record Row : Type 0 where
  pub first : List ℕ
  pub second : List ℕ
  pub gives : List Gift
  pub order : List ℕ
  pub matched : Bool
  pub first_rank : ℕ
  pub second_rank : ℕ

-- each definition has its value: 'A node's value is what the rules make of the values of its needs'
unfoldable pub Given : (need : ℕ → List ℕ) → (v b w c : List ℕ) → List Gift → Type 0
Given need v b w c [] = Unit {0}
Given need v b w c (g ∷ gs) = Worth need (rule_at v b w c) (roots_of false v b g.name) g.value × Given need v b w c gs

-- each definition's slot holds its value
unfoldable pub InSlots : (v b table : List ℕ) → List Gift → Type 0
InSlots v b table [] = Unit {0}
InSlots v b table (g ∷ gs) = ((x : ℕ) × (roots_of false v b g.name ≡ x ∷ []) × (slot_at table x ≡ Held g.value)) × InSlots v b table gs

-- what a match m of the two ads comes to: values, in the slots too where the list is covered, and list; 'finished .., otherwise the steps
-- done'
pub record Comes (r : Row) (v b w c : List ℕ) {budget : ℕ} {table list : List ℕ} {o : Outcome} (m : Match v b w c budget table list o) : Type 0 where
  pub given : Given (needs (pair_graph v b w c) m.circular) v b w c r.gives
  pub shown : length r.order ≤ budget → InSlots v b table r.gives
  pub lists : m.order ≡ r.order
  pub finishes : length r.order ≤ budget → o ≡ Finished r.matched r.first_rank r.second_rank (length r.order) m.count
  pub stops : budget < length r.order → o ≡ Unfinished budget m.count

-- a row holds: both texts are accepted, and every match of their stored ads, with any budget, comes to what the row says
pub record Holds (r : Row) : Type 0 where
  pub first_ad : Ad
  pub second_ad : Ad
  pub first_read : read r.first ≡ accepted first_ad
  pub second_read : read r.second ≡ accepted second_ad
  pub comes : {budget : ℕ} {table list : List ℕ} {o : Outcome} →
      (m : Match (stored_words first_ad) (stored_bytes first_ad) (stored_words second_ad) (stored_bytes second_ad) budget table list o) →
      Comes r (stored_words first_ad) (stored_bytes first_ad) (stored_words second_ad) (stored_bytes second_ad) m

-- every row of a table holds: 'W1 to W12 stand as one statement over one table'
unfoldable pub AllHold : List Row → Type 0
AllHold [] = Unit {0}
AllHold (r ∷ rs) = Holds r × AllHold rs

-- an Integer by its whole number: negsuc n is -(n + 1), as in '-2147483648'
abbrev pub integer : ℤ → Value
integer z = Integer (wrap width z)

-- a definition `x = ..` of the first ad and its value, which the second ad asks for by its Rank: 'Text | Gives'
abbrev pub alone : List ℕ → Value → List ℕ → ℕ → Row
alone text value order rank = record {
  first = text;
  second = bytes "[Rank = other.x]";
  gives = record { name = bytes "x"; value = value } ∷ [];
  order = order;
  matched = false;
  first_rank = 0;
  second_rank = rank;
}

-- THE TABLE, W1 to W12: 'Examples, those marked W to be proved'
unfoldable pub table : List Row
table =
    alone (bytes "[x = undefined || true]") (Boolean true) (0 ∷ 1 ∷ 2 ∷ 1024 ∷ []) 0
    ∷ alone (bytes "[x = \"x\" || true]") Error (0 ∷ 1 ∷ 2 ∷ 1024 ∷ []) 0
    ∷ alone (bytes "[x = undefined && \"x\"]") Error (0 ∷ 1 ∷ 2 ∷ 1024 ∷ []) 0
    ∷ alone (bytes "[x = undefined + \"x\"]") Error (0 ∷ 1 ∷ 2 ∷ 1024 ∷ []) 0
    ∷ alone (bytes "[x = undefined + 1]") Undefined (0 ∷ 1 ∷ 2 ∷ 1024 ∷ []) 0
    ∷ alone (bytes "[x = 2147483647 + 1]") (integer (negsuc 2147483647)) (0 ∷ 1 ∷ 2 ∷ 1024 ∷ []) 0
    ∷ alone (bytes "[x = -7 % 3]") (integer (negsuc 0)) (0 ∷ 1 ∷ 2 ∷ 3 ∷ 1024 ∷ []) 0
    ∷ alone (bytes "[x = 1 / 0]") Error (0 ∷ 1 ∷ 2 ∷ 1024 ∷ []) 0
    ∷ alone (bytes "[x = 3 is 3.0]") (Boolean false) (0 ∷ 1 ∷ 2 ∷ 1024 ∷ []) 0
    ∷ alone (bytes "[x = \"One\" == \"one\"]") (Boolean true) (0 ∷ 1 ∷ 2 ∷ 1024 ∷ []) 0
    -- the second ad asks for a, which is circular, and for d
    ∷ record {
      first = bytes "[a = b; b = a is undefined; d = b]";
      second = bytes "[Requirements = other.a; Rank = other.d]";
      gives = record { name = bytes "a"; value = Undefined } ∷ record { name = bytes "b"; value = Boolean true } ∷ record { name = bytes "d"; value = Boolean true } ∷ [];
      order = 0 ∷ 1024 ∷ 1 ∷ 2 ∷ 3 ∷ 4 ∷ 1025 ∷ [];
      matched = false;
      first_rank = 0;
      second_rank = 0;
    }
    -- the list: 60, other.w, 50, `>`, true
    ∷ record {
      first = bytes "[Requirements = other.w > 50]";
      second = bytes "[w = 60; Requirements = true]";
      gives = record { name = bytes "Requirements"; value = Boolean true } ∷ [];
      order = 1024 ∷ 0 ∷ 1 ∷ 2 ∷ 1025 ∷ [];
      matched = true;
      first_rank = 0;
      second_rank = 0;
    }
    ∷ []

-- The fault of the matcher before ours: `!(other.PulseWidth > 50)` with an ad that has no PulseWidth. 'none found is Undefined', and
-- 'Matched: both Requirements are true, nothing else.'
unfoldable pub fault : Row
fault = record {
  first = bytes "[Requirements = !(other.PulseWidth > 50)]";
  second = bytes "[Requirements = true]";
  gives = record { name = bytes "Requirements"; value = Undefined } ∷ [];
  order = 0 ∷ 1 ∷ 2 ∷ 3 ∷ 1024 ∷ [];
  matched = false;
  first_rank = 0;
  second_rank = 0;
}
