use Rattle.std.proofs.lemmas.Slice.Zip.{zip_turn}
use Rattle.text.proofs.Compare.{no_match}
use Rattle.text.proofs.may_match.Goals as goal

pub returns-then-x-y : goal.returns-then-x-y
returns-then-x-y c _ =
    let t = zip_turn c.args.a.now c.args.b.now c.loop-x.yielded _ _ c.next.new.self _ (cc) (cc) c.loop-x.yielded_by _ c.in-Some.is c.next.ensures.steps in
    no_match c.args.a.now c.args.b.now _ _ _ (t.2 0) (t.3 0) c.if-x-y.true
