use native.Mathlib.Omega.{arith}
use Prim.Native.Nat.{ℕ, ◌*◌}
use mathlib.Core.Path.{◌≡◌, sym, ap, ◌∙◌}
use lib.ListN.{length, length-replicate}
use Rattle.roster.proofs.Laws.Lines.{line_gives, reached_none, reached_more, reached_all}
use Rattle.roster.proofs.Turning.{ends, goes_on, row_fits, report_fits, same_rooms, same_rows}
use Rattle.tally.specs.declared.Report.{Report}
use Rattle.roster.proofs.match_lines.Goals as goal

-- a report of nothing
empty : {r : Report} → (r.lines ≡ 0) × ((r.matched ≡ 0) × ((r.unmatched ≡ 0) × ((r.refused ≡ 0) × (r.rank_sum ≡ 0)))) → r ≡ record { lines = 0; matched = 0; unmatched = 0; refused = 0; rank_sum = 0 }
empty e = λ i. record { lines = e.0 i; matched = e.1.0 i; unmatched = e.1.1.0 i; refused = e.1.1.1.0 i; rank_sum = e.1.1.1.1 i }

pub loop-at-init : goal.loop-at-init
loop-at-init c = record {
  room = c.requires.room;
  reached = rw (empty {r = c.default-report.result} c.default-report.ensures) (reached_none _ _ _ _ c.requires.rows_clear);
  rows_room = ap length c.requires.rows_clear ∙ length-replicate {A = ℕ} 2048 0;
}

pub find-end-requires : goal.find-end-requires
find-end-requires c = c.loop-at.invariant.reached.inside

pub slice_bounds-line_outcome-count : goal.slice_bounds-line_outcome-count
slice_bounds-line_outcome-count c = (ends c.loop-at.invariant c.find-end.ensures).0

pub line_outcome-outcome-requires : goal.line_outcome-outcome-requires
line_outcome-outcome-requires c = c.loop-at.invariant.room

pub store_row-requires : goal.store_row-requires
store_row-requires c = row_fits c.loop-at.invariant
    c.requires.few_lines c.loop-at-test.true

pub counted-report-requires : goal.counted-report-requires
counted-report-requires c = report_fits c.loop-at.invariant
    c.requires.few_lines c.loop-at-test.true

pub behind-at-requires : goal.behind-at-requires
behind-at-requires c = (ends c.loop-at.invariant c.find-end.ensures).1

pub loop-at-smaller : goal.loop-at-smaller
loop-at-smaller c = let k = goes_on c.loop-at.invariant c.loop-at-test.true
    c.find-end.ensures c.behind-at.ensures in
    omega arith

pub loop-at-preserved : goal.loop-at-preserved
loop-at-preserved c = record {
  room = same_rooms c.loop-at.invariant.room c.line_outcome-outcome.auto.words
      c.line_outcome-outcome.auto.bytes c.line_outcome-outcome.auto.table
      c.line_outcome-outcome.auto.list;
  reached = reached_more c.loop-at.invariant.reached
      c.requires.few_lines c.loop-at-test.true c.find-end.ensures
      c.behind-at.ensures (line_gives c.line_outcome-outcome.ensures) c.store_row.ensures
      c.counted-report.ensures;
  rows_room = same_rows c.loop-at.outcomes (8 * c.loop-at.report.lines) c.line_outcome-outcome.result
      c.loop-at.invariant.rows_room c.store_row.ensures;
}

pub shape_of-words : goal.shape_of-words
shape_of-words c = c.loop-at.invariant.room.words
    ∙ sym
    c.requires.room.words

pub shape_of-bytes : goal.shape_of-bytes
shape_of-bytes c = c.loop-at.invariant.room.bytes
    ∙ sym
    c.requires.room.bytes

pub shape_of-table : goal.shape_of-table
shape_of-table c = c.loop-at.invariant.room.values
    ∙ sym
    c.requires.room.values

pub shape_of-list : goal.shape_of-list
shape_of-list c = c.loop-at.invariant.room.entries
    ∙ sym
    c.requires.room.entries

pub shape_of-outcomes : goal.shape_of-outcomes
shape_of-outcomes c = c.loop-at.invariant.rows_room
    ∙ sym (ap length
    c.requires.rows_clear
    ∙ length-replicate {A = ℕ} 2048 0)

pub returns : goal.returns
returns c = reached_all c.loop-at.invariant.reached c.loop-at-test.false

pub slice_bounds-line_outcome-end : goal.slice_bounds-line_outcome-end
slice_bounds-line_outcome-end c = (ends c.loop-at.invariant c.find-end.ensures).1
