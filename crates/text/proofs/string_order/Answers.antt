use Rattle.std.proofs.Common.{refl, sym, ◌∙◌}
use Rattle.std.proofs.lemmas.List.{length_push}
use Rattle.std.proofs.lemmas.Slice.Zip.{zip_turn, zip_end}
use Rattle.text.specs.Strings.{string_order}
use Rattle.text.proofs.Compare.{decided, next, ended}
use Rattle.text.proofs.string_order.Goals as goal

pub loop-x-init : goal.loop-x-init
unfolding string_order
loop-x-init c = ((tt, tt), tt, refl)

pub returns-then-is_ne : goal.returns-then-is_ne
returns-then-is_ne c =
    let t = zip_turn c.args.a.now c.args.b.now c.loop-x.yielded _ _ c.next.new.self _ (cc) (cc) c.loop-x.yielded_by _ c.in-Some.is c.next.ensures.steps in
    sym (c.loop-x.invariant.2 ∙ decided c.args.a.now c.args.b.now _ _ _ _ t.0 t.1 (t.2 0) (t.3 0) (rw (← c.lower.ensures, ← c.lower-in-loop-x.ensures) c.cmp-order.ensures) (sym c.is_ne.ensures ∙ c.if-is_ne.true))

pub loop-x-preserved : goal.loop-x-preserved
loop-x-preserved c =
    let t = zip_turn c.args.a.now c.args.b.now c.loop-x.yielded _ _ c.next.new.self _ (cc) (cc) c.loop-x.yielded_by _ c.in-Some.is c.next.ensures.steps in
    let e = next c.args.a.now c.args.b.now _ _ _ _ t.0 t.1 (t.2 0) (t.3 0) (rw (← c.lower.ensures, ← c.lower-in-loop-x.ensures) c.cmp-order.ensures) (sym c.is_ne.ensures ∙ c.if-is_ne.false) in
    ((tt, tt), tt, rw (length_push c.loop-x.yielded (c.in-Some.x, c.in-Some.y)) (c.loop-x.invariant.2 ∙ e))

pub returns : goal.returns
returns c =
    let e = zip_end c.args.a.now c.args.b.now c.loop-x.yielded _ _ c.next.new.self _ (cc) (cc) c.loop-x.yielded_by c.in-None.is c.next.ensures.steps in
    sym (c.loop-x.invariant.2 ∙ ended c.args.a.now c.args.b.now _ _ e c.cmp.ensures)
