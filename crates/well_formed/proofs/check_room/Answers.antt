use mathlib.Core.Path.{sym, ◌∙◌}
use Rattle.text.specs.Laws.Booleans.{and_both}
use Rattle.well_formed.proofs.Answer.{not_left, not_right, room_bad, rows_inside, room_not, room_good}
use Rattle.well_formed.proofs.check_room.Goals as goal
use Rattle.well_formed.proofs.check_room.Goals.{else-apart-via-then-apart+else-clear, else-apart-via-else-apart}

pub returns-in_err-rows : goal.returns-in_err-rows
returns-in_err-rows c = rw c.from_residual.ensures (room_bad c.args.ad.words.now c.args.ad.bytes.now c.requires.0 c.requires.1 (rw c.in_err-rows.was at c.rows_from.ensures))

pub distinct-apart-requires : goal.distinct-apart-requires
distinct-apart-requires c = (rows_inside c.args.ad.words.now c.args.ad.bytes.now c.requires.0 c.requires.1 c.in_ok-rows.rows.counts.definitions c.in_ok-rows.rows.counts.nodes c.in_ok-rows.rows.end c.in_ok-rows.rows.print (rw c.in_ok-rows.was at c.rows_from.ensures)).0

pub zero_behind-clear-requires : goal.zero_behind-clear-requires
zero_behind-clear-requires c = let x = rows_inside c.args.ad.words.now c.args.ad.bytes.now c.requires.0 c.requires.1 c.in_ok-rows.rows.counts.definitions c.in_ok-rows.rows.counts.nodes c.in_ok-rows.rows.end c.in_ok-rows.rows.print (rw c.in_ok-rows.was at c.rows_from.ensures) in
    (x.0, x.1, x.2, c.requires.0, c.requires.1)

pub returns-then-clear : goal.returns-then-clear
returns-then-clear c = room_good c.args.ad.words.now c.args.ad.bytes.now c.requires.0 c.requires.1 c.in_ok-rows.rows.counts.definitions c.in_ok-rows.rows.counts.nodes c.in_ok-rows.rows.end c.in_ok-rows.rows.print (rw c.in_ok-rows.was at c.rows_from.ensures)
    (and_both (sym c.distinct-apart.ensures ∙ c.if-apart.true) (sym c.zero_behind-clear.ensures ∙ c.if-clear.true)) _ c.print_length.ensures

pub returns-else-apart : goal.returns-else-apart
returns-else-apart c = room_not c.args.ad.words.now c.args.ad.bytes.now c.requires.0 c.requires.1 c.in_ok-rows.rows.counts.definitions c.in_ok-rows.rows.counts.nodes c.in_ok-rows.rows.end c.in_ok-rows.rows.print (rw c.in_ok-rows.was at c.rows_from.ensures)
    (elim c.else-apart.branch [
      | else-apart-via-then-apart+else-clear w ↦ not_right _ _ (sym c.zero_behind-clear.ensures ∙ w.if-clear.false)
      | else-apart-via-else-apart w ↦ not_left _ _ (sym c.distinct-apart.ensures ∙ w.if-apart.false)
    ])
