use Rattle.std.proofs.Common.{◌∙◌, arith}
use Rattle.tokens.proofs.Laws.{name_long, name_token, run_some}
use Rattle.tokens.proofs.name.Goals as goal

pub returns-then-end-start-gt-NAME_BYTES : goal.returns-then-end-start-gt-NAME_BYTES
returns-then-end-start-gt-NAME_BYTES c = record {
  means_it = name_long c.args.text.now c.args.start c.run-end.result c.run-end.ensures c.if-end-start-gt-NAME_BYTES.true;
  lies = tt;
}

pub word-requires : goal.word-requires
word-requires c = (run_some _ c.args.text.now c.args.start c.run-end.result c.requires c.run-end.ensures, omega arith)

pub returns : goal.returns
returns c =
    let lt = run_some _ c.args.text.now c.args.start c.run-end.result c.requires c.run-end.ensures in
    record {
      means_it = name_token c.args.text.now c.args.start c.run-end.result c.run-end.ensures lt c.if-end-start-gt-NAME_BYTES.false ∙ c.word.ensures.means_it;
      lies = c.word.ensures.lies;
    }
