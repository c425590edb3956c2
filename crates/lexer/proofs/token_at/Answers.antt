use mathlib.Core.Path.{◌∙◌}
use Rattle.lexer.proofs.Laws.{lies_from}
use Rattle.lexer.proofs.token_at.Goals as goal

pub returns : goal.returns
returns c = record {
  means_it = c.skip-p.ensures.same ∙ c.token_from.ensures.means_it;
  lies = lies_from c.args.text.now
      c.args.at c.skip-p.result c.token_from.result
      c.skip-p.ensures.low c.token_from.ensures.lies;
}
