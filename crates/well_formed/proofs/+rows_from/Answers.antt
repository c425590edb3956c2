use mathlib.Core.Path.{sym, ◌∙◌, ap, subst}
use Prim.Native.Nat.{ℕ, ◌+◌}
use native.Mathlib.Omega.{arith}
use Rattle.std.proofs.Common.{Some, None}
use Rattle.ad.specs.Stored.{length_at, root_at}
use Rattle.well_formed.specs.Inner.Decode.{RowsOk}
use Rattle.well_formed.proofs.Entries.{rows_small, rows_full, rows_stop, rows_unfit, entry_short, entry_room, rows_bad, rows_deep, rows_more, walk_as, rows_as, rows_room}
use Rattle.tree_check.proofs.Ways.{walk_small}
use Rattle.well_formed.proofs.+rows_from.Goals as goal

pub returns-then-j-ge-DEFINITIONS : goal.returns-then-j-ge-DEFINITIONS
returns-then-j-ge-DEFINITIONS t c = rw c.no_rows.ensures (rows_full c.args.ad.words.now c.args.ad.bytes.now c.args.j c.args.n c.args.o c.if-j-ge-DEFINITIONS.true)

pub returns-then-len-eq0 : goal.returns-then-len-eq0
returns-then-len-eq0 t c = rw c.no_rows-then-len-eq0.ensures (rows_stop c.args.ad.words.now c.args.ad.bytes.now c.args.j c.args.n c.args.o c.if-j-ge-DEFINITIONS.false (sym c.name_length-len.ensures ∙ c.if-len-eq0.true))

pub returns-then-not-entry_fits : goal.returns-then-not-entry_fits
returns-then-not-entry_fits t c = rows_unfit c.args.ad.words.now c.args.ad.bytes.now c.args.j c.args.n c.args.o c.if-j-ge-DEFINITIONS.false (λ z. c.if-len-eq0.false (c.name_length-len.ensures ∙ z)) (sym c.entry_fits.ensures ∙ c.if-not-entry_fits.true)

pub returns-in_err-tree : goal.returns-in_err-tree
returns-in_err-tree t c = rw c.from_residual.ensures (rows_bad c.args.ad.words.now c.args.ad.bytes.now c.args.j c.args.n c.args.o c.if-j-ge-DEFINITIONS.false (λ z. c.if-len-eq0.false (c.name_length-len.ensures ∙ z)) (sym c.entry_fits.ensures ∙ c.if-not-entry_fits.false)
    (walk_as c.args.ad.words.now c.args.ad.bytes.now c.args.n c.root-root.result (root_at c.args.ad.words.now c.args.j) (c.args.o + c.name_length-len.result) (c.args.o + length_at c.args.ad.words.now c.args.j) None
    c.root-root.ensures (ap (◌+◌ c.args.o) c.name_length-len.ensures) (rw c.in_err-tree.was at c.visit.ensures)))

pub returns-then-tree-gt-LEVELS : goal.returns-then-tree-gt-LEVELS
returns-then-tree-gt-LEVELS t c = rows_deep c.args.ad.words.now c.args.ad.bytes.now c.args.j c.args.n c.args.o c.if-j-ge-DEFINITIONS.false (λ z. c.if-len-eq0.false (c.name_length-len.ensures ∙ z)) (sym c.entry_fits.ensures ∙ c.if-not-entry_fits.false) c.in_ok-tree.tree.end c.in_ok-tree.tree.binds c.in_ok-tree.tree.level c.in_ok-tree.tree.print
    (walk_as c.args.ad.words.now c.args.ad.bytes.now c.args.n c.root-root.result (root_at c.args.ad.words.now c.args.j) (c.args.o + c.name_length-len.result) (c.args.o + length_at c.args.ad.words.now c.args.j) (Some c.in_ok-tree.tree)
    c.root-root.ensures (ap (◌+◌ c.args.o) c.name_length-len.ensures) (rw c.in_ok-tree.was at c.visit.ensures)) c.if-tree-gt-LEVELS.true

pub rows_from-requires : goal.rows_from-requires
rows_from-requires t c =
    let z = walk_small c.args.ad.words.now c.args.ad.bytes.now c.args.n (root_at c.args.ad.words.now c.args.j) (c.args.o + length_at c.args.ad.words.now c.args.j) c.in_ok-tree.tree.end c.in_ok-tree.tree.binds c.in_ok-tree.tree.level c.in_ok-tree.tree.print
    (entry_room c.args.ad.words.now c.args.ad.bytes.now c.args.j c.args.n c.args.o c.if-j-ge-DEFINITIONS.false (λ z. c.if-len-eq0.false (c.name_length-len.ensures ∙ z)) (sym c.entry_fits.ensures ∙ c.if-not-entry_fits.false) c.requires)
    (walk_as c.args.ad.words.now c.args.ad.bytes.now c.args.n c.root-root.result (root_at c.args.ad.words.now c.args.j) (c.args.o + c.name_length-len.result) (c.args.o + length_at c.args.ad.words.now c.args.j) (Some c.in_ok-tree.tree)
    c.root-root.ensures (ap (◌+◌ c.args.o) c.name_length-len.ensures) (rw c.in_ok-tree.was at c.visit.ensures)) in (
      omega arith,
      (rows_room c.args.ad.words.now c.args.ad.bytes.now (c.args.j + 1) (c.root-root.result + 1) c.in_ok-tree.tree.end (omega arith)
          (let m = (entry_room c.args.ad.words.now c.args.ad.bytes.now c.args.j c.args.n c.args.o c.if-j-ge-DEFINITIONS.false (λ z. c.if-len-eq0.false (c.name_length-len.ensures ∙ z)) (sym c.entry_fits.ensures ∙ c.if-not-entry_fits.false) c.requires).node in omega (arith, c.root-root.ensures)) c.requires.words z.0 c.requires.bytes),
    )

pub with_row-requires : goal.with_row-requires
with_row-requires t c =
    let z = walk_small c.args.ad.words.now c.args.ad.bytes.now c.args.n (root_at c.args.ad.words.now c.args.j) (c.args.o + length_at c.args.ad.words.now c.args.j) c.in_ok-tree.tree.end c.in_ok-tree.tree.binds c.in_ok-tree.tree.level c.in_ok-tree.tree.print
    (entry_room c.args.ad.words.now c.args.ad.bytes.now c.args.j c.args.n c.args.o c.if-j-ge-DEFINITIONS.false (λ z. c.if-len-eq0.false (c.name_length-len.ensures ∙ z)) (sym c.entry_fits.ensures ∙ c.if-not-entry_fits.false) c.requires)
    (walk_as c.args.ad.words.now c.args.ad.bytes.now c.args.n c.root-root.result (root_at c.args.ad.words.now c.args.j) (c.args.o + c.name_length-len.result) (c.args.o + length_at c.args.ad.words.now c.args.j) (Some c.in_ok-tree.tree)
    c.root-root.ensures (ap (◌+◌ c.args.o) c.name_length-len.ensures) (rw c.in_ok-tree.was at c.visit.ensures)) in
    let l = entry_short c.args.ad.words.now c.args.ad.bytes.now c.args.j c.args.n c.args.o c.if-j-ge-DEFINITIONS.false (λ z. c.if-len-eq0.false (c.name_length-len.ensures ∙ z)) (sym c.entry_fits.ensures ∙ c.if-not-entry_fits.false) in
    let r = (rows_room c.args.ad.words.now c.args.ad.bytes.now (c.args.j + 1) (c.root-root.result + 1) c.in_ok-tree.tree.end (omega arith)
    (let m = (entry_room c.args.ad.words.now c.args.ad.bytes.now c.args.j c.args.n c.args.o c.if-j-ge-DEFINITIONS.false (λ z. c.if-len-eq0.false (c.name_length-len.ensures ∙ z)) (sym c.entry_fits.ensures ∙ c.if-not-entry_fits.false) c.requires).node in omega (arith, c.root-root.ensures)) c.requires.words z.0 c.requires.bytes) in (
      omega (arith, c.name_length-len.ensures),
      z.2,
      rows_small c.args.ad.words.now c.args.ad.bytes.now (c.args.j + 1) (c.root-root.result + 1) c.in_ok-tree.tree.end (Some c.in_ok-rest.rest) r (rw c.in_ok-rest.was at c.rows_from.ensures),
    )

pub returns-in_err-rest : goal.returns-in_err-rest
returns-in_err-rest t c = rw c.from_residual-in_err-rest.ensures (rows_more c.args.ad.words.now c.args.ad.bytes.now c.args.j c.args.n c.args.o c.if-j-ge-DEFINITIONS.false (λ z. c.if-len-eq0.false (c.name_length-len.ensures ∙ z)) (sym c.entry_fits.ensures ∙ c.if-not-entry_fits.false) c.in_ok-tree.tree.end c.in_ok-tree.tree.binds c.in_ok-tree.tree.level c.in_ok-tree.tree.print
    (walk_as c.args.ad.words.now c.args.ad.bytes.now c.args.n c.root-root.result (root_at c.args.ad.words.now c.args.j) (c.args.o + c.name_length-len.result) (c.args.o + length_at c.args.ad.words.now c.args.j) (Some c.in_ok-tree.tree)
    c.root-root.ensures (ap (◌+◌ c.args.o) c.name_length-len.ensures) (rw c.in_ok-tree.was at c.visit.ensures)) c.requires c.if-tree-gt-LEVELS.false None
    (rows_as c.args.ad.words.now c.args.ad.bytes.now (c.args.j + 1) (c.root-root.result + 1) (root_at c.args.ad.words.now c.args.j + 1) c.in_ok-tree.tree.end None (ap (λ (u : ℕ). u + 1) c.root-root.ensures)
    (rw c.in_err-rest.was at c.rows_from.ensures)))

pub returns : goal.returns
returns t c =
    let e = rw c.name_length-len.ensures at c.with_row.ensures in
    subst (RowsOk c.args.ad.words.now c.args.ad.bytes.now c.args.j c.args.n c.args.o) (sym e) (rows_more c.args.ad.words.now c.args.ad.bytes.now c.args.j c.args.n c.args.o c.if-j-ge-DEFINITIONS.false (λ z. c.if-len-eq0.false (c.name_length-len.ensures ∙ z)) (sym c.entry_fits.ensures ∙ c.if-not-entry_fits.false) c.in_ok-tree.tree.end c.in_ok-tree.tree.binds c.in_ok-tree.tree.level c.in_ok-tree.tree.print
    (walk_as c.args.ad.words.now c.args.ad.bytes.now c.args.n c.root-root.result (root_at c.args.ad.words.now c.args.j) (c.args.o + c.name_length-len.result) (c.args.o + length_at c.args.ad.words.now c.args.j) (Some c.in_ok-tree.tree)
    c.root-root.ensures (ap (◌+◌ c.args.o) c.name_length-len.ensures) (rw c.in_ok-tree.was at c.visit.ensures)) c.requires c.if-tree-gt-LEVELS.false (Some c.in_ok-rest.rest)
    (rows_as c.args.ad.words.now c.args.ad.bytes.now (c.args.j + 1) (c.root-root.result + 1) (root_at c.args.ad.words.now c.args.j + 1) c.in_ok-tree.tree.end (Some c.in_ok-rest.rest) (ap (λ (u : ℕ). u + 1) c.root-root.ensures)
    (rw c.in_ok-rest.was at c.rows_from.ensures)))
