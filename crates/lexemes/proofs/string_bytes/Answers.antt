use Rattle.std.proofs.Common.{rules, tests, ◌∙◌}
use Rattle.std.proofs.lemmas.Iterator.{YieldsList-from_slice}
use Rattle.std.proofs.lemmas.Iterator.Search.{all_from_yields_List}
use Rattle.syntax.specs.Inner.Lexeme.{in_string}
use Rattle.lexemes.proofs.Laws.{every_all}
use Rattle.lexemes.proofs.string_bytes.Goals as goal

pub returns : goal.returns
returns c = all_from_yields_List in_string _ _ _ c.all.ensures.ran (YieldsList-from_slice c.args.s.now (cc)) (λ x b q k. search (rules, tests))
    ∙ every_all in_string c.args.s.now
