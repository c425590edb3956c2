-- `positions::locate` meets its contract. Assumes nothing.
use Prim.Native.Nat.{◌<◌}
use native.Mathlib.Omega.{arith}
use lib.ListN.{length-take}
use mathlib.Core.Path.{◌∙◌, ap}
use Rattle.std.proofs.lemmas.List.{get_or-take}
use Rattle.positions.specs.Positions.{line_after, column_after}
use Rattle.positions.proofs.Lines.{start, more, done}
use Rattle.positions.proofs.locate.Goals as goal

pub loop-b-init : goal.loop-b-init
loop-b-init c = start c.args.text.now c.args.place c.min-end.result c.min-end.ensures

pub loop-b-preserved : goal.loop-b-preserved
loop-b-preserved c =
    let h : c.loop-b.b-index < c.min-end.result = omega (arith, length-take c.min-end.result c.args.text.now) in
    let e = get_or-take c.min-end.result c.args.text.now c.loop-b.b-index 0 h in
    more _ _ _ _ _ _ _ h c.loop-b.invariant
    (c.behind-p.ensures.0 ∙ ap (line_after c.loop-b.p.line) e) (c.behind-p.ensures.1 ∙ ap (column_after c.loop-b.p.column) e)

pub returns : goal.returns
returns c = done c.args.text.now c.args.place c.min-end.result _ _ _ c.min-end.ensures
    (omega (arith, length-take c.min-end.result c.args.text.now, c.min-end.ensures))
    c.loop-b.invariant
