-- What each way through the writers of definitions gives. Assumes nothing.
use Prim.Native.Nat.{ℕ, ◌+◌, ◌-◌, ◌≤◌, ◌<◌}
use native.Mathlib.Nat.{add-zero, zero-add}
use native.Mathlib.Omega.{arith}
use mathlib.Core.Path.{◌≡◌, refl, sym, ◌∙◌, subst}
use mathlib.Core.List.{List, [], ◌∷◌, ◌++◌}
use lib.ListN.{length, set, length-append}
use Rattle.text.specs.Bytes.{bytes}
use Rattle.syntax.specs.Tree.{Definition, Ad, size}
use Rattle.syntax.specs.Print.{printed, definition_text, definitions_text, printed_ad}
use Rattle.ad.specs.Stored.{offset_at, length_at, root_at, bytes_at}
use Rattle.ad.specs.Laws.Content.{size_some}
use Rattle.writer.specs.Inner.Put.{Puts, Near}
use Rattle.writer.proofs.Laws.{puts_byte, puts_join, puts_as}
use Rattle.tree_check.specs.Laws.Runs.{bytes_are}
use Rattle.tree_check.specs.Laws.Leaves.{Run}
use Rattle.well_formed.specs.Laws.Definitions.{Table, table_row}
use Rattle.well_formed.specs.Laws.Prints.{length_definition}
use Rattle.tree_printer.specs.Inner.Post.{Fits, Written}
use Rattle.ad_printer.specs.Inner.Post.{RowFits, RowWritten, TableFits, TableWritten, AdWritten}

-- ---- a definition

module _ (w b : List ℕ) (j : ℕ) where
  name_is : (d : Definition) (a : Ad) (n k : ℕ) → Table w b j n k (d ∷ a) → bytes_at b (offset_at w j) (length_at w j) ≡ d.name
  name_is d a n k t = let r = table_row t in rw (r.offset, r.long) (bytes_are b d.name k r.name_stands)

  module _ (at : ℕ) (f : RowFits w b j at) where
    pub name_near : Near at (bytes_at b (offset_at w j) (length_at w j))
    name_near = rw (name_is f.first f.others f.node f.byte f.table) (omega (arith, f.near, length_definition f.first))

    module _ (m : ℕ) (e : m ≡ at + length (bytes_at b (offset_at w j) (length_at w j))) where
      here : m ≡ at + length f.first.name
      here = rw (name_is f.first f.others f.node f.byte f.table) at e

      pub equals_near : m + 3 ≤ 1000000
      equals_near = omega (arith, here, f.near, length_definition f.first)

      pub root_fits : (n : ℕ) → n ≡ m + 3 → Fits printed w b (root_at w j) n
      root_fits n g =
          let r = table_row f.table in
          let t = f.table.few in
          let e = f.first.expression in
          let s = size_some e in
          let root : root_at w j ≡ f.node + size e - 1 = r.root in
          record {
            words = f.words;
            node = omega (arith, r.rest.few);
            tree = e;
            first = f.node;
            byte = f.byte + length f.first.name;
            stands = subst (λ (x : ℕ). Run w b f.node x (f.byte + length f.first.name) e) (sym r.root) r.run;
            near = omega (arith, here, f.near, length_definition f.first);
          }

  pub row_written : (at m n r : ℕ) (o o₁ o₂ o₃ : List ℕ) → Puts (bytes_at b (offset_at w j) (length_at w j)) o at o₁ m → Puts (bytes " = ") o₁ m o₂ n → Written printed w b (root_at w j) n o₂ o₃ r → RowWritten w b j at o o₃ r
  row_written at m n r o o₁ o₂ o₃ name equals tree d a node byte t =
      let row = table_row t in
      let e = d.expression in
      puts_join (puts_as (name_is d a node byte t) name) (puts_join equals (tree e node (byte + length d.name) (subst (λ (x : ℕ). Run w b node x (byte + length d.name) e) (sym row.root) row.run)))

  -- ---- definitions

  module _ (d : ℕ) where
    pub none_written : (at : ℕ) (o : List ℕ) → d ≤ j → TableWritten w b j d at o o at
    unfolding definitions_text
    none_written at o h [] n k t e = record { behind = sym (add-zero at); written = refl }
    none_written at o h (x ∷ a) n k t e = absurd (omega arith)

    module _ (lt : j < d) where
      fits_of : (at : ℕ) (a : Ad) (n k : ℕ) → 4864 ≤ length w → d ≤ 256 → Table w b j n k a → d ≡ j + length a → Near at (definitions_text a) → RowFits w b j at
      unfolding definitions_text
      fits_of at [] n k hw hd t e near = absurd (omega arith)
      fits_of at (x ∷ []) n k hw hd t e near = record { words = hw; few = omega arith; first = x; others = []; node = n; byte = k; table = t; near = near }
      fits_of at (x ∷ y ∷ a) n k hw hd t e near = record { words = hw; few = omega arith; first = x; others = y ∷ a; node = n; byte = k; table = t; near = omega (arith, length-append (definition_text x) (bytes "; " ++ definitions_text (y ∷ a))) }

      pub row_fits : (at : ℕ) → TableFits w b j d at → RowFits w b j at
      row_fits at f = fits_of at f.ad f.node f.byte f.words f.few f.table f.count f.near

      pub one_row : (at r : ℕ) (o o₁ : List ℕ) → d ≤ j + 1 → RowWritten w b j at o o₁ r → TableWritten w b j d at o o₁ r
      unfolding definitions_text
      one_row at r o o₁ h row [] n k t e = absurd (omega arith)
      one_row at r o o₁ h row (x ∷ []) n k t e = row x [] n k t
      one_row at r o o₁ h row (x ∷ y ∷ a) n k t e = absurd (omega arith)

      module _ (more : j + 1 < d) where
        semicolon_of : (at m : ℕ) (o o₁ : List ℕ) (a : Ad) (n k : ℕ) → Table w b j n k a → d ≡ j + length a → Near at (definitions_text a) → RowWritten w b j at o o₁ m → m + 2 ≤ 1000000
        unfolding definitions_text bytes
        semicolon_of at m o o₁ [] n k t e near row = absurd (omega arith)
        semicolon_of at m o o₁ (x ∷ []) n k t e near row = absurd (omega arith)
        semicolon_of at m o o₁ (x ∷ y ∷ a) n k t e near row = omega (arith, length-append (definition_text x) (bytes "; " ++ definitions_text (y ∷ a)), (row x (y ∷ a) n k t).behind)

        pub semicolon_near : (at m : ℕ) (o o₁ : List ℕ) → TableFits w b j d at → RowWritten w b j at o o₁ m → m + 2 ≤ 1000000
        semicolon_near at m o o₁ f row = semicolon_of at m o o₁ f.ad f.node f.byte f.table f.count f.near row

        rest_of : (at m n : ℕ) (o o₁ : List ℕ) (a : Ad) (p k : ℕ) → 4864 ≤ length w → d ≤ 256 → Table w b j p k a → d ≡ j + length a → Near at (definitions_text a) → RowWritten w b j at o o₁ m → n ≡ m + 2 → TableFits w b (j + 1) d n
        unfolding definitions_text bytes
        rest_of at m n o o₁ [] p k hw hd t e near row g = absurd (omega arith)
        rest_of at m n o o₁ (x ∷ []) p k hw hd t e near row g = absurd (omega arith)
        rest_of at m n o o₁ (x ∷ y ∷ a) p k hw hd t e near row g = record {
          words = hw;
          few = hd;
          ad = y ∷ a;
          node = _;
          byte = _;
          table = (table_row t).rest;
          count = omega arith;
          near = omega (arith, length-append (definition_text x) (bytes "; " ++ definitions_text (y ∷ a)), (row x (y ∷ a) p k t).behind);
        }

        pub rest_fits : (at m n : ℕ) (o o₁ : List ℕ) → TableFits w b j d at → RowWritten w b j at o o₁ m → n ≡ m + 2 → TableFits w b (j + 1) d n
        rest_fits at m n o o₁ f row g = rest_of at m n o o₁ f.ad f.node f.byte f.words f.few f.table f.count f.near row g

        pub more_rows : (at m n r : ℕ) (o o₁ o₂ o₃ : List ℕ) → RowWritten w b j at o o₁ m → Puts (bytes "; ") o₁ m o₂ n → TableWritten w b (j + 1) d n o₂ o₃ r → TableWritten w b j d at o o₃ r
        unfolding definitions_text
        more_rows at m n r o o₁ o₂ o₃ row sep rest [] p k t e = absurd (omega arith)
        more_rows at m n r o o₁ o₂ o₃ row sep rest (x ∷ []) p k t e = absurd (omega arith)
        more_rows at m n r o o₁ o₂ o₃ row sep rest (x ∷ y ∷ a) p k t e = puts_join (row x (y ∷ a) p k t) (puts_join sep (rest (y ∷ a) _ _ (table_row t).rest (omega arith)))

-- ---- an ad

-- room for the brackets
pub opened : (w b : List ℕ) (d : ℕ) → TableFits w b 0 d 2 → TableFits w b 0 d 1
opened w b d f = record {
  words = f.words;
  few = f.few;
  ad = f.ad;
  node = f.node;
  byte = f.byte;
  table = f.table;
  count = f.count;
  near = omega (arith, f.near);
}

pub closing_near : (w b : List ℕ) (d m : ℕ) (o o₁ : List ℕ) (f : TableFits w b 0 d 2) → TableWritten w b 0 d 1 o o₁ m → Near m (93 ∷ [])
closing_near w b d m o o₁ f t = omega (arith, f.near, (t f.ad f.node f.byte f.table f.count).behind)

pub ad_written : (w b : List ℕ) (d m r : ℕ) (o o₁ o₂ o₃ : List ℕ) → o₁ ≡ set o 0 91 → TableWritten w b 0 d 1 o₁ o₂ m → Puts (93 ∷ []) o₂ m o₃ r → AdWritten w b d o o₃
unfolding printed_ad
ad_written w b d m r o o₁ o₂ o₃ e t g a x c =
    (puts_join (puts_byte 91 o o₁ 0 e) (puts_join (t a 0 0 x (c ∙ sym (zero-add (length a)))) g)).written
