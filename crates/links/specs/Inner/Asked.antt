-- What inner functions are given and ensure. Assumes nothing.
use Rattle.std.specs.Prelude.{◌≡◌, Bool, true, false, cond, Option, Some, None, List, [], ◌∷◌, ℕ, zero, suc, ◌+◌, ◌≤◌, ◌<◌, length, get_or, ltb}
use Rattle.syntax.specs.Bounds.{max_nodes, max_definitions}
use Rattle.names.specs.Inner.Fingerprint.{fingerprint_of}
use Rattle.ad.specs.Layout.{ad_words}
use Rattle.graph.specs.Members.{Each}
use Rattle.graph.specs.Transition.{marked}
use Rattle.ad.specs.Stored.{kind_at, node_count, definition_count, offset_at, length_at, bytes_at, operands, root_at}
use Rattle.links.specs.Pair.{both, roots_of, requirements, rank}

-- What a well-formed stored ad keeps to, of its room, nodes and definitions
pub record Formed (w : List ℕ) : Type 0 where
  pub words_room : ad_words ≤ length w
  pub operands_below : (i : ℕ) → i < node_count w → Each (λ y. y < i) (operands w i)
  -- a slot that no node has is clear, so that it leads nowhere
  pub unused_clear : (i : ℕ) → node_count w ≤ i → i < max_nodes → kind_at w i ≡ 0
  pub roots_in : (j : ℕ) → j < definition_count w → root_at w j < node_count w

-- a well-formed ad, and its counts
pub record Measured (w : List ℕ) (n d : ℕ) : Type 0 where
  pub formed : Formed w
  pub nodes_are : n ≡ node_count w
  pub definitions_are : d ≡ definition_count w

-- x is a node of the pair
abbrev pub Stands : (v w : List ℕ) → ℕ → Type 0
Stands v w x = both (λ i. ltb i (node_count v)) (λ i. ltb i (node_count w)) x ≡ true

-- the numbers that a mark names: none, or one
abbrev pub unmarked : ℕ → List ℕ
unmarked zero = []
unmarked (suc y) = y ∷ []

-- the mark that a node found has: one more than its number, 0 for none
abbrev pub mark_of : Option ℕ → ℕ
mark_of None = 0
mark_of (Some y) = suc y

-- the roots of the four expressions that are entered, as marks: one more than a node's number, 0 where there is none
pub record RootMarks (v b w c : List ℕ) (first_requirements second_requirements first_rank second_rank : ℕ) : Type 0 where
  pub first_required : first_requirements ≡ marked (roots_of false v b requirements)
  pub second_required : second_requirements ≡ marked (roots_of true w c requirements)
  pub first_ranked : first_rank ≡ marked (roots_of false v b rank)
  pub second_ranked : second_rank ≡ marked (roots_of true w c rank)

-- where the fingerprint of definition j of the first ad, or of the second, is kept
abbrev pub print_at : Bool → ℕ → ℕ
print_at second j = cond second (max_definitions + j) j

-- the fingerprints of the names of an ad's definitions
abbrev pub Printed : Bool → (w b prints : List ℕ) → Type 0
Printed second w b prints = (j : ℕ) → j < definition_count w → get_or prints (print_at second j) 0 ≡ fingerprint_of (bytes_at b (offset_at w j) (length_at w j))

-- the fingerprints of both ads' names, in their room
pub record Fingerprints (v b w c prints : List ℕ) : Type 0 where
  pub first_printed : Printed false v b prints
  pub second_printed : Printed true w c prints
  pub prints_room : max_definitions + max_definitions ≤ length prints
