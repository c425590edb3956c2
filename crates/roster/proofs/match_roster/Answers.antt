use mathlib.Core.Path.{refl, ap, ◌∙◌}
use Rattle.std.proofs.Common.{ℕ, Err}
use Rattle.std.proofs.lemmas.Result.{err_from_is_err_and}
use Rattle.syntax.specs.Refusals.{refusal}
use Rattle.syntax.proofs.Laws.Numbered.{refusal_numbered}
use Rattle.roster.specs.Roster.{refused, matches}
use Rattle.roster.proofs.Rooms.{fits, refused_small, refused_job, refused_long, answered, front, lent}
use Rattle.roster.proofs.match_roster.Goals as goal

pub returns-then-too_small : goal.returns-then-too_small
returns-then-too_small c = refused (refused_small c.too_small.ensures c.if-too_small.true) (ap Err c.into.ensures) refl refl refl refl refl

pub returns-in_err-job : goal.returns-in_err-job
returns-in_err-job c =
    let r = err_from_is_err_and c.from_residual.result c.from_residual.ensures.1 in
    refused (refused_job c.too_small.ensures c.if-too_small.false c.in_err-job.ensures.0)
    (r.1 ∙ ap Err (r.2 ∙ refusal_numbered _ ∙ ap (λ (n : ℕ). refusal n 0) c.in_err-job.ensures.1)) refl refl refl refl refl

pub returns-then-count-gt-LINES : goal.returns-then-count-gt-LINES
returns-then-count-gt-LINES c = refused (refused_long c.too_small.ensures c.args.text.now
    c.if-too_small.false c.in_ok-job.ensures.0
    c.count.ensures c.if-count-gt-LINES.true) (ap Err c.into-then-count-gt-LINES.ensures) refl refl refl refl refl

pub slice_bounds-match_rooms-end : goal.slice_bounds-match_rooms-end
slice_bounds-match_rooms-end c = (fits c.too_small.ensures c.if-too_small.false).words

pub slice_bounds-match_rooms-end-2 : goal.slice_bounds-match_rooms-end-2
slice_bounds-match_rooms-end-2 c = front 4864 c.args.words.now (fits c.too_small.ensures c.if-too_small.false).words

pub slice_bounds-match_rooms-end-3 : goal.slice_bounds-match_rooms-end-3
slice_bounds-match_rooms-end-3 c = (fits c.too_small.ensures c.if-too_small.false).bytes

pub slice_bounds-match_rooms-end-4 : goal.slice_bounds-match_rooms-end-4
slice_bounds-match_rooms-end-4 c = front 16384 c.args.bytes.now (fits c.too_small.ensures c.if-too_small.false).bytes

pub slice_bounds-match_rooms-end-5 : goal.slice_bounds-match_rooms-end-5
slice_bounds-match_rooms-end-5 c = (fits c.too_small.ensures c.if-too_small.false).values

pub slice_bounds-match_rooms-end-6 : goal.slice_bounds-match_rooms-end-6
slice_bounds-match_rooms-end-6 c = front 4096 c.args.table.now (fits c.too_small.ensures c.if-too_small.false).values

pub slice_bounds-match_rooms-end-7 : goal.slice_bounds-match_rooms-end-7
slice_bounds-match_rooms-end-7 c = (fits c.too_small.ensures c.if-too_small.false).entries

pub slice_bounds-match_rooms-end-8 : goal.slice_bounds-match_rooms-end-8
slice_bounds-match_rooms-end-8 c = front 2048 c.args.list.now (fits c.too_small.ensures c.if-too_small.false).entries

pub slice_bounds-match_rooms-end-9 : goal.slice_bounds-match_rooms-end-9
slice_bounds-match_rooms-end-9 c = (fits c.too_small.ensures c.if-too_small.false).outcomes

pub slice_bounds-match_rooms-end-10 : goal.slice_bounds-match_rooms-end-10
slice_bounds-match_rooms-end-10 c = front 2048 c.args.outcomes.now (fits c.too_small.ensures c.if-too_small.false).outcomes

pub match_rooms-report-requires : goal.match_rooms-report-requires
match_rooms-report-requires c = lent (fits c.too_small.ensures c.if-too_small.false)
    (rw c.count.ensures at c.if-count-gt-LINES.false)

pub returns : goal.returns
returns c = matches (answered c.too_small.ensures c.if-too_small.false
    c.in_ok-job.ensures.0
    (rw c.count.ensures at c.if-count-gt-LINES.false)
    (rw (c.in_ok-job.ensures.1.words_are, c.in_ok-job.ensures.1.bytes_are) at c.match_rooms-report.ensures.listed)
    c.match_rooms-report.ensures.cleared)
