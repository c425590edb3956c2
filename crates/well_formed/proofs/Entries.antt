-- What each way through the definitions gives. Assumes nothing.
use Rattle.std.proofs.Common.{Option, Some, None}
use Prim.Native.Nat.{ℕ, suc, ◌+◌, ◌-◌, ◌≤◌, ◌<◌}
use native.Mathlib.Nat.{add-zero}
use native.Mathlib.Omega.{arith}
use mathlib.Core.Path.{◌≡◌, refl, sym, subst}
use mathlib.Core.Bool.{true, false, not, ◌&&◌}
use mathlib.Core.List.{List, [], ◌∷◌, ◌++◌}
use lib.ListN.{length, get_or, length-append}
use lib.Dec.{ltb, leb}
use borrow.Author.Tests.{ltb-true, leb-true, ne_eqb, le-leb, lt-leb}
use Rattle.text.specs.Laws.Booleans.{and_left, and_right}
use Rattle.syntax.specs.Bounds.{max_nodes}
use Rattle.text.specs.Bytes.{starts_name, continues_name}
use Rattle.syntax.specs.Tree.{Definition, Ad, size, nodes}
use Rattle.syntax.specs.Token.{reserved}
use Rattle.syntax.specs.Print.{level_of}
use Rattle.syntax.specs.Inner.Lexeme.{every, is_one_of, is_name}
use Rattle.ad.specs.Layout.{expr_bytes, ad_bytes}
use Rattle.ad.specs.Stored.{offset_at, length_at, root_at, bytes_at}
use Rattle.ad.specs.Laws.Content.{size_some}
use Rattle.tree_check.specs.Inner.Decode.{tree, WalkOk, Room, stands_at}
use Rattle.well_formed.specs.Inner.Decode.{rows, all, none, entry_fits, ad_at, rows_length, SameAd, RowsRoom, RowsOk, row_before, RowsSmall}
use Rattle.well_formed.specs.Laws.Prints.{rows_one, rows_short}
use Rattle.well_formed.specs.Laws.Definitions.{Table, AllAd, ad_sound}
use Rattle.well_formed.specs.declared.Rows.{Rows}
use Rattle.tree_check.specs.declared.Tree.{Tree}
use Rattle.tree_check.proofs.Tests.{stands_room, stands_long}
use Rattle.tree_check.proofs.Ways.{inside, found_run}

few_named : (a : Ad) → length a ≤ nodes a
unfolding nodes
few_named [] = omega arith
few_named (d ∷ ds) = let h = few_named ds in let k = size_some d.expression in omega arith

pub rows_small : (w b : List ℕ) (j n o : ℕ) (r : Option Rows) → RowsRoom w b j n o → RowsOk w b j n o r → RowsSmall r
rows_small w b j n o (Some r) room h =
    let a = h.0 in
    let y : Table w b j n o a = subst (AllAd (Table w b j n o)) h.1 (ad_sound (256 - j) w b j n o room.node (omega (arith, room.row)) room.words) in
    let z = inside b (ad_bytes a) o y.bytes room.bytes room.byte in
    let s = rows_short a y.writable in
    let f = y.few in
    let l = few_named a in
    let q = h.5 in
    omega arith
rows_small w b j n o None room h = tt

module _ (w b : List ℕ) (j n o : ℕ) where
  none_more : SameAd j n o (all []) (rows j n o 0)
  unfolding nodes ad_bytes rows_length
  none_more = ([], refl, sym (add-zero j), sym (add-zero n), sym (add-zero o), refl)

  pub rows_full : 256 ≤ j → RowsOk w b j n o (rows j n o 0)
  unfolding ad_at
  rows_full h = let e : 256 - j ≡ 0 = omega arith in subst (λ (k : ℕ). SameAd j n o (ad_at k w b j n o) (rows j n o 0)) (sym e) none_more

  module _ (lt : j < 256) where
    left : 256 - j ≡ suc (256 - (j + 1))
    left = omega arith

    answers : (r : Option Rows) → SameAd j n o (ad_at (suc (256 - (j + 1))) w b j n o) r → RowsOk w b j n o r
    answers r s = subst (λ (k : ℕ). SameAd j n o (ad_at k w b j n o) r) (sym left) s

    pub rows_stop : length_at w j ≡ 0 → RowsOk w b j n o (rows j n o 0)
    unfolding ad_at
    rows_stop e = answers (rows j n o 0) (rw e none_more)

    module _ (some : length_at w j ≡ 0 → ⊥) where
      pub rows_unfit : entry_fits w b j n o ≡ false → RowsOk w b j n o None
      unfolding ad_at
      rows_unfit e = answers None (rw (ne_eqb (length_at w j) 0 some, e) refl)

      module _ (fits : entry_fits w b j n o ≡ true) where
        left_fits : (stands_at b o (offset_at w j) (length_at w j) && is_name (bytes_at b o (length_at w j))) ≡ true
        left_fits = and_left (stands_at b o (offset_at w j) (length_at w j) && is_name (bytes_at b o (length_at w j))) (leb n (root_at w j) && ltb (root_at w j) max_nodes) fits

        right_fits : (leb n (root_at w j) && ltb (root_at w j) max_nodes) ≡ true
        right_fits = and_right (stands_at b o (offset_at w j) (length_at w j) && is_name (bytes_at b o (length_at w j))) (leb n (root_at w j) && ltb (root_at w j) max_nodes) fits

        long : length (bytes_at b o (length_at w j)) ≡ length_at w j
        long = stands_long b o (offset_at w j) (length_at w j) (is_name (bytes_at b o (length_at w j))) left_fits

        pub entry_short : length_at w j ≤ 64
        unfolding is_name
        entry_short =
            let x = bytes_at b o (length_at w j) in
            let e = and_right (stands_at b o (offset_at w j) (length_at w j)) (is_name x) left_fits in
            let f = and_right (starts_name (get_or x 0 0)) (every continues_name x && (leb (length x) 64 && not (is_one_of reserved x))) e in
            let g = and_right (every continues_name x) (leb (length x) 64 && not (is_one_of reserved x)) f in
            omega (arith, long, leb-true (length x) 64 (and_left (leb (length x) 64) (not (is_one_of reserved x)) g))

        pub entry_room : RowsRoom w b j n o → Room w b n (root_at w j) (o + length_at w j)
        entry_room r = record {
          order = leb-true n (root_at w j) (and_left (leb n (root_at w j)) (ltb (root_at w j) max_nodes) right_fits);
          node = ltb-true (root_at w j) max_nodes (and_right (leb n (root_at w j)) (ltb (root_at w j) max_nodes) right_fits);
          words = r.words;
          byte = stands_room b o (offset_at w j) (length_at w j) (is_name (bytes_at b o (length_at w j))) left_fits r.bytes r.byte;
          bytes = r.bytes;
        }

        pub rows_bad : WalkOk w b n (root_at w j) (o + length_at w j) None → RowsOk w b j n o None
        unfolding ad_at
        rows_bad h = answers None (rw (ne_eqb (length_at w j) 0 some, fits, h (suc (root_at w j)) (omega arith)) refl)

        module _ (q c d p : ℕ) (h : WalkOk w b n (root_at w j) (o + length_at w j) (tree q c d p)) where
          pub rows_deep : 64 < d → RowsOk w b j n o None
          unfolding ad_at
          rows_deep g =
              let x = h (suc (root_at w j)) (omega arith) in
              let m : 64 < level_of x.0 = omega (arith, x.4) in
              answers None (rw (ne_eqb (length_at w j) 0 some, fits, x.1, lt-leb (level_of x.0) 64 m) refl)

          pub rows_more : RowsRoom w b j n o → d ≤ 64 → (r : Option Rows) → RowsOk w b (j + 1) (root_at w j + 1) q r → RowsOk w b j n o (row_before (length_at w j) p r)
          unfolding ad_at nodes ad_bytes
          rows_more room g None s =
              let x = h (suc (root_at w j)) (omega arith) in
              let m : level_of x.0 ≤ 64 = omega (arith, x.4) in
              let t : ad_at (256 - (j + 1)) w b (j + 1) (root_at w j + 1) (o + length_at w j + length (expr_bytes x.0)) ≡ none = rw (← x.2) s in
              answers None (rw (ne_eqb (length_at w j) 0 some, fits, x.1, le-leb (level_of x.0) 64 m, t) refl)
          rows_more room g (Some r) s =
              let y = found_run w b n (root_at w j) (o + length_at w j) q c d p (entry_room room) h in
              let e = y.0 in
              let a = s.0 in
              let v : level_of e ≤ 64 = omega (arith, y.4) in
              let u : ad_at (256 - (j + 1)) w b (j + 1) (root_at w j + 1) (o + length_at w j + length (expr_bytes e)) ≡ all a = rw (← y.2) s.1 in
              let D : Definition = record { name = bytes_at b o (length_at w j); expression = e } in
              let z : n + size e ≡ root_at w j + 1 = y.1.long in
              answers (Some (record r { print = length_at w j + p + 5 + r.print })) (
                D ∷ a,
                rw (ne_eqb (length_at w j) 0 some, fits, y.6, le-leb (level_of e) 64 v, u) refl,
                omega (arith, s.2),
                omega (arith, s.3),
                omega (arith, s.4, y.2, long, length-append (bytes_at b o (length_at w j)) (expr_bytes e ++ ad_bytes a), length-append (expr_bytes e) (ad_bytes a)),
                omega (arith, s.5, y.5, long, rows_one D a),
              )

-- ---- the same numbers by another name

module _ (w b : List ℕ) where
  pub walk_as : (n i j o p : ℕ) (r : Option Tree) → i ≡ j → o ≡ p → WalkOk w b n i o r → WalkOk w b n j p r
  walk_as n i j o p r e g h = subst (λ (x : ℕ). WalkOk w b n j x r) g (subst (λ (x : ℕ). WalkOk w b n x o r) e h)

  pub rows_as : (j n m o : ℕ) (r : Option Rows) → n ≡ m → RowsOk w b j n o r → RowsOk w b j m o r
  rows_as j n m o r e h = subst (λ (x : ℕ). RowsOk w b j x o r) e h

  pub rows_room : (j n o : ℕ) → j ≤ 256 → n ≤ 1024 → 4864 ≤ length w → o ≤ 16384 → length b ≡ 16384 → RowsRoom w b j n o
  rows_room j n o a c d e f = record { row = a; node = c; words = d; byte = e; bytes = f }
