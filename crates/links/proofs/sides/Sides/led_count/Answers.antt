use Rattle.links.specs.Laws.Numbering.{count_none, count_far, count_one, count_operands, arity_fits}
use Rattle.links.specs.Laws.Kinds.{kind_coded, kind_none}
use Rattle.std.proofs.Common.{rules, sym, refl}
use Rattle.links.proofs.sides.Sides.led_count.Goals as goal

pub returns-in-1-to-2048-clause-by_index : goal.returns-in-1-to-2048-clause-by_index
returns-in-1-to-2048-clause-by_index c = λ b d.
    let s = c.args.self in
    count_one s.first.words.now b s.second.words.now d c.args.x
    s.first_formed s.second_formed c.requires.0
    (kind_coded c.kind.ensures c.in-Some.is) c.is_reference.ensures c.args.target.now
    c.if-is_reference.true (search rules) (search rules)

pub returns-in_default-clause-by_index : goal.returns-in_default-clause-by_index
returns-in_default-clause-by_index c = λ b d.
    let s = c.args.self in
    count_none s.first.words.now b s.second.words.now d c.args.x
    s.first_formed s.second_formed c.requires.0
    (kind_coded c.kind.ensures c.in-Some.is) c.is_reference.ensures c.args.target.now
    c.if-is_reference.true (search rules)

pub returns-in_default-2-clause-by_index : goal.returns-in_default-2-clause-by_index
returns-in_default-2-clause-by_index c = λ b d.
    let s = c.args.self in
    count_far s.first.words.now b s.second.words.now d c.args.x
    s.first_formed s.second_formed c.requires.0
    (kind_coded c.kind.ensures c.in-Some.is) c.is_reference.ensures c.args.target.now
    c.if-is_reference.true (search rules)

pub returns-in-Some-2-clause-by_index : goal.returns-in-Some-2-clause-by_index
returns-in-Some-2-clause-by_index c = λ b d.
    let s = c.args.self in
    count_operands s.first.words.now b s.second.words.now d c.args.x
    s.first_formed s.second_formed c.requires.0
    (kind_coded c.kind.ensures c.in-Some.is) c.is_reference.ensures c.args.target.now
    c.if-is_reference.false c.arity.ensures

pub returns-in-Some-2-clause-few : goal.returns-in-Some-2-clause-few
returns-in-Some-2-clause-few c = arity_fits _ c.arity.ensures

pub returns-in-None-clause-by_index : goal.returns-in-None-clause-by_index
returns-in-None-clause-by_index c = λ b d.
    let s = c.args.self in
    let n = kind_none _ c.kind.ensures c.in-None.is in
    count_operands s.first.words.now b s.second.words.now d c.args.x
    s.first_formed s.second_formed c.requires.0
    refl (sym n.0) c.args.target.now
    refl (sym n.1)
