-- The nodes of an ad one by one: which definition each belongs to. w are the words of a stored ad. Assumes nothing.
use Rattle.std.specs.Prelude.{ℕ, Option, Some, None, zero, suc, ◌-◌, cond, List, [], ◌∷◌, length, eqb, ltb, leb}
use Rattle.syntax.specs.Bounds.{max_definitions}
use Rattle.syntax.specs.Tree.{Ad, size}
use Rattle.ad.specs.Layout.{ad_words}
use Rattle.ad.specs.Stored.{offset_at, length_at, root_at, bytes_at}

-- the number of the definition, counted from j on, that node i belongs to, where i counts from the first of their nodes:
-- 'definitions `name = expression`'
unfoldable pub owner_from : ℕ → Ad → ℕ → Option ℕ
owner_from j [] i = None
owner_from j (d ∷ ds) i = cond (ltb i (size d.expression)) (Some j) (owner_from (suc j) ds (i - size d.expression))

-- the definition that node i of an ad belongs to: 'definitions `name = expression`'
abbrev pub owner : Ad → ℕ → Option ℕ
owner a i = owner_from 0 a i

-- the first of k stored definitions, from definition j on, whose root is not below node i; none behind the last, whose name has no
-- bytes (docs/LAYOUT.md)
unfoldable pub holder_from : List ℕ → ℕ → ℕ → ℕ → Option ℕ
holder_from w i j zero = None
holder_from w i j (suc k) = cond (eqb (length_at w j) 0) None (cond (leb i (root_at w j)) (Some j) (holder_from w i (suc j) k))

-- THE CONTRACT OF `definition_of`, over any words: the first definition whose root is not below the node; none where the words are
-- fewer than an ad's, 'room for 1,024 nodes, 256 definitions'. Of a stored ad it is the node's `owner` (Laws/Owners.antt)
abbrev pub holder : List ℕ → ℕ → Option ℕ
holder w i = cond (ltb (length w) ad_words) None (holder_from w i 0 max_definitions)

-- THE CONTRACT OF `definition_name`, over any words and bytes: the name of the definition that is found, empty where there is none: 'names
-- as written'
abbrev pub holder_name : List ℕ → List ℕ → Option ℕ → List ℕ
holder_name w b (Some j) = bytes_at b (offset_at w j) (length_at w j)
holder_name w b None = []
