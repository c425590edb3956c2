use Rattle.std.proofs.Common.{refl, ◌∙◌}
use Rattle.std.proofs.lemmas.List.{length_push}
use Rattle.std.proofs.lemmas.Slice.Zip.{zip_turn, zip_end}
use Rattle.text.specs.Strings.{same_name}
use Rattle.text.proofs.Compare.{one_more, names_ended, told}
use Rattle.text.proofs.same_letters.Goals as goal

pub loop-x-init : goal.loop-x-init
unfolding same_name
loop-x-init c = ((tt, tt), tt, refl)

pub loop-x-preserved : goal.loop-x-preserved
loop-x-preserved c =
    let t = zip_turn c.args.a.now c.args.b.now c.loop-x.yielded _ _ c.next.new.self _ (cc) (cc) c.loop-x.yielded_by _ c.in-Some.is c.next.ensures.steps in
    let e = one_more c.args.a.now c.args.b.now _ _ _ c.loop-x.same t.0 t.1 (t.2 0) (t.3 0) in
    ((tt, tt), tt, rw (length_push c.loop-x.yielded (c.in-Some.x, c.in-Some.y), c.lower.ensures, c.lower-in-loop-x.ensures) (c.loop-x.invariant.2 ∙ e))

pub returns : goal.returns
returns c =
    let e = zip_end c.args.a.now c.args.b.now c.loop-x.yielded _ _ c.next.new.self _ (cc) (cc) c.loop-x.yielded_by c.in-None.is c.next.ensures.steps in
    told c.loop-x.same _ _ c.loop-x.invariant.2 (names_ended c.args.a.now c.args.b.now _ e c.requires)
