use Rattle.std.proofs.Common.{rules, tests, ◌∙◌}
use Rattle.std.proofs.lemmas.Iterator.{YieldsList-from_slice}
use Rattle.std.proofs.lemmas.Iterator.Search.{all_from_yields_List}
use Rattle.text.specs.Bytes.{continues_name}
use Rattle.lexemes.proofs.Laws.{every_all}
use Rattle.lexemes.proofs.go_on.Goals as goal

pub returns : goal.returns
returns c = all_from_yields_List continues_name _ _ _ c.all.ensures.ran (YieldsList-from_slice c.args.name.now (cc)) (λ x b q k. search (rules, tests))
    ∙ every_all continues_name c.args.name.now
