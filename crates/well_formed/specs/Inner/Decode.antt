-- The ad that stands in some memory, or none: what the check goes by. w are the words and b the bytes of an ad. Assumes nothing.
use Rattle.std.specs.Prelude.{ℕ, zero, suc, Option, Some, None, ◌+◌, ◌-◌, ◌≤◌, ◌<◌, ◌≡◌, Bool, true, not, ◌&&◌, List, [], ◌∷◌, length, ltb, leb, eqb}
use Rattle.syntax.specs.Bounds.{max_nodes, max_level}
use Rattle.syntax.specs.Tree.{Expr, Ad, nodes}
use Rattle.syntax.specs.Token.{pick}
use Rattle.syntax.specs.Print.{definition_text, level_of}
use Rattle.syntax.specs.Inner.Lexeme.{is_name}
use Rattle.ad.specs.Layout.{expr_bytes, ad_bytes}
use Rattle.ad.specs.Stored.{offset_at, length_at, root_at, bytes_at}
use Rattle.ad.specs.Inner.Names.{defined_in}
use Rattle.well_formed.specs.declared.Rows.{Rows}
use Rattle.tree_check.specs.Inner.Decode.{Found, got, bad, stands_at, tree_at}

-- ---- the ad of the definitions from j on, k at most, whose nodes begin at n and whose bytes begin at o

-- what is found at some definitions: their ad, or none
pub data FoundAd : Type 0 where
  all : Ad → FoundAd
  none : FoundAd

-- goes on with the ad that is found, if there is one
abbrev pub chain_ad : FoundAd → (Ad → FoundAd) → FoundAd
chain_ad (all a) go = go a
chain_ad none go = none

-- goes on with the tree that is found, if there is one
abbrev pub with_tree : Found → (Expr → FoundAd) → FoundAd
with_tree (got e) go = go e
with_tree bad go = none

-- goes on where t holds, else there is no ad
abbrev pub test_ad : Bool → (Unit {0} → FoundAd) → FoundAd
test_ad t go = pick t go (λ _. none)

-- the name of definition j begins at o and is one, and its expression's nodes begin at n
abbrev pub entry_fits : List ℕ → List ℕ → ℕ → ℕ → ℕ → Bool
entry_fits w b j n o =
    (stands_at b o (offset_at w j) (length_at w j) && is_name (bytes_at b o (length_at w j)))
    && (leb n (root_at w j) && ltb (root_at w j) max_nodes)

-- what is found at these definitions, up to the first whose name has no bytes
unfoldable pub ad_at : ℕ → List ℕ → List ℕ → ℕ → ℕ → ℕ → FoundAd
ad_at zero w b j n o = all []
ad_at (suc k) w b j n o =
    pick (eqb (length_at w j) 0)
    (λ _. all [])
    (λ _. test_ad (entry_fits w b j n o) (λ _.
    with_tree (tree_at (suc (root_at w j)) w b n (root_at w j) (o + length_at w j)) (λ e.
    test_ad (leb (level_of e) max_level) (λ _.
    chain_ad (ad_at k w b (j + 1) (root_at w j + 1) (o + length_at w j + length (expr_bytes e))) (λ a.
    all (record { name = bytes_at b o (length_at w j); expression = e } ∷ a))))))

-- how long definitions print with two bytes behind each: 'joined by `; `'
unfoldable pub rows_length : Ad → ℕ
rows_length [] = 0
rows_length (d ∷ ds) = length (definition_text d) + 2 + rows_length ds

-- d definitions and m nodes, k the place behind their bytes, and t how long they print
abbrev pub rows : ℕ → ℕ → ℕ → ℕ → Option Rows
rows d m k t = Some (record { counts = record { definitions = d; nodes = m }; end = k; print = t })

-- r is what is found: how many definitions and nodes there are then, where the bytes end, and how long they print
abbrev pub SameAd : ℕ → ℕ → ℕ → FoundAd → Option Rows → Type 0
SameAd j n o x (Some r) =
    (a : Ad) × (x ≡ all a) × (r.counts.definitions ≡ j + length a) × (r.counts.nodes ≡ n + nodes a) × (r.end ≡ o + length (ad_bytes a)) × (r.print ≡ rows_length a)
SameAd j n o x None = x ≡ none

-- ---- distinct names

-- the names of k definitions, from definition j on, are new after those before: no 'name defined twice'
unfoldable pub new_from : List ℕ → List ℕ → ℕ → ℕ → Bool
new_from w b j zero = true
new_from w b j (suc k) = not (defined_in w b (bytes_at b (offset_at w j) (length_at w j)) 0 j) && new_from w b (j + 1) k

-- ---- what the walk over the definitions is given

-- the definition j, the node n and the byte o are inside an ad's memory: 'room for 1,024 nodes, 256 definitions and 16,384 bytes
-- of names and strings'
pub record RowsRoom (w b : List ℕ) (j n o : ℕ) : Type 0 where
  pub row : j ≤ 256
  pub node : n ≤ 1024
  pub words : 4864 ≤ length w
  pub byte : o ≤ 16384
  pub bytes : length b ≡ 16384

-- the answer r is what is found at the definitions from j on
abbrev pub RowsOk : List ℕ → List ℕ → ℕ → ℕ → ℕ → Option Rows → Type 0
RowsOk w b j n o r = SameAd j n o (ad_at (256 - j) w b j n o) r

-- a definition in front of others, l the length of its name and p that of its expression: 'definitions as `name = expression`
-- joined by `; `'
abbrev pub row_before : ℕ → ℕ → Option Rows → Option Rows
row_before l p (Some r) = Some (record r { print = l + p + 5 + r.print })
row_before l p None = None

-- the print is short enough to be counted without overflow
abbrev pub RowsSmall : Option Rows → Type 0
RowsSmall (Some r) = r.print < 100000
RowsSmall None = Unit {0}
