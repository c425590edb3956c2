use Rattle.std.proofs.Common.{refl, sym}
use Rattle.links.specs.Laws.Numbering.{ref_test}
use Rattle.links.specs.Laws.Kinds.{kind_coded, kind_none}
use Rattle.links.proofs.sides.Sides.refers.Goals as goal

pub returns-in-Some : goal.returns-in-Some
returns-in-Some c = λ b d.
    let s = c.args.self in
    ref_test s.first.words.now b s.second.words.now d c.args.x
    s.first_formed s.second_formed c.requires
    (kind_coded c.kind.ensures c.in-Some.is) c.is_reference.ensures

pub returns-in-None : goal.returns-in-None
returns-in-None c = λ b d.
    let s = c.args.self in
    let n = kind_none _ c.kind.ensures c.in-None.is in
    ref_test s.first.words.now b s.second.words.now d c.args.x
    s.first_formed s.second_formed c.requires refl (sym n.0)
