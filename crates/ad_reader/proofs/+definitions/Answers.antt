use Rattle.std.proofs.lemmas.Result.{err_from_is_err_and}
use Rattle.leaves.specs.Inner.Marks.{mark_at, memory}
use Rattle.ad_reader.proofs.Laws.{definitions_close, definitions_none, definitions_refused, definitions_more, behind_more, behind_close, behind_none}
use Rattle.ad_reader.proofs.+definitions.Goals as goal

pub read_behind-returns-in-Ok : goal.read_behind-returns-in-Ok
read_behind-returns-in-Ok t c =
    behind_more c.args.text.now c.args.from.place c.args.d (mark_at c.args.from) (memory c.args.words.now c.args.bytes.now) _ _ _ c.read_definitions.result c.in-Ok.ensures c.read_definitions.ensures

pub read_behind-returns-in_err-close : goal.read_behind-returns-in_err-close
read_behind-returns-in_err-close t c =
    let r = err_from_is_err_and c.from_residual.result c.from_residual.ensures.1 in
    rw (r.1, r.2) (behind_none c.args.text.now c.args.from.place c.args.d (mark_at c.args.from) (memory c.args.words.now c.args.bytes.now) c.in_default.ensures.0 (memory c.args.words.now c.args.bytes.now) _ c.in_err-close.ensures)

pub read_behind-returns : goal.read_behind-returns
read_behind-returns t c =
    behind_close c.args.text.now c.args.from.place c.args.d (mark_at c.args.from) (memory c.args.words.now c.args.bytes.now) c.in_default.ensures.0 _ _ c.end_at.result c.in_ok-close.ensures c.end_at.ensures

pub read_definitions-returns-in-Ok : goal.read_definitions-returns-in-Ok
read_definitions-returns-in-Ok t c =
    definitions_close c.args.text.now c.args.from.place c.args.d (mark_at c.args.from) (memory c.args.words.now c.args.bytes.now) _ _ c.end_at.result c.in-Ok.ensures c.end_at.ensures

pub read_definitions-returns-in_err-name : goal.read_definitions-returns-in_err-name
read_definitions-returns-in_err-name t c =
    let r = err_from_is_err_and c.from_residual.result c.from_residual.ensures.1 in
    rw (r.1, r.2) (definitions_none c.args.text.now c.args.from.place c.args.d (mark_at c.args.from) (memory c.args.words.now c.args.bytes.now) c.in_default.ensures.0 (memory c.args.words.now c.args.bytes.now) _ c.in_err-name.ensures)

pub read_definitions-returns-in_err-done : goal.read_definitions-returns-in_err-done
read_definitions-returns-in_err-done t c =
    let r = err_from_is_err_and c.from_residual-in_err-done.result c.from_residual-in_err-done.ensures.1 in
    rw (r.1, r.2) (definitions_refused c.args.text.now c.args.from.place c.args.d (mark_at c.args.from) (memory c.args.words.now c.args.bytes.now) c.in_default.ensures.0 _ _ c.in_ok-name.ensures (memory c.args.words.now c.args.bytes.now) (memory c.args.words.now c.args.bytes.now) _ c.in_err-done.ensures.exact)

pub read_definitions-returns : goal.read_definitions-returns
read_definitions-returns t c =
    definitions_more c.args.text.now c.args.from.place c.args.d (mark_at c.args.from) (memory c.args.words.now c.args.bytes.now) c.in_default.ensures.0 _ _ c.in_ok-name.ensures (memory c.read_definition.new.words c.read_definition.new.bytes) _ c.in_ok-done.done c.read_behind.result c.in_ok-done.ensures.exact c.in_ok-done.ensures.within.5 c.read_behind.ensures
