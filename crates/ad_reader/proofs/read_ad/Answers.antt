use Rattle.std.proofs.lemmas.Result.{err_from_is_err_and}
use Rattle.leaves.specs.Inner.Marks.{memory}
use Rattle.ad_reader.proofs.Laws.{ad_none, ad_read}
use Rattle.ad_reader.proofs.read_ad.Goals as goal

pub returns-in_err-open : goal.returns-in_err-open
returns-in_err-open c =
    let r = err_from_is_err_and c.from_residual.result c.from_residual.ensures.1 in
    rw (r.1, r.2) (ad_none c.args.text.now (memory c.args.words.now c.args.bytes.now) (memory c.args.words.now c.args.bytes.now) _ c.in_err-open.ensures)

pub returns : goal.returns
returns c = ad_read c.args.text.now (memory c.args.words.now c.args.bytes.now) _ _ _ c.read_definitions.result c.in_ok-open.ensures c.read_definitions.ensures
