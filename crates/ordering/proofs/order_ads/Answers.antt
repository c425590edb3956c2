use Rattle.std.proofs.Common.{Err, refl, sym, ap}
use Rattle.syntax.proofs.Laws.Numbered.{refusal_numbered}
use Rattle.admission.specs.Laws.Rooms.{values_front, list_front}
use Rattle.ordering.specs.Ordering.{refused, orders}
use Rattle.ordering.proofs.order_ads.Goals as goal

pub slice_bounds-order_formed-end-in-Ok : goal.slice_bounds-order_formed-end-in-Ok
slice_bounds-order_formed-end-in-Ok c = values_front c.in-Ok.ensures c.args.flags.now refl

pub slice_bounds-order_formed-end-in-Ok-3 : goal.slice_bounds-order_formed-end-in-Ok-3
slice_bounds-order_formed-end-in-Ok-3 c = list_front c.in-Ok.ensures c.args.list.now refl

pub order_formed-requires : goal.order_formed-requires
order_formed-requires c = (sym (values_front c.in-Ok.ensures c.args.flags.now refl), sym (list_front c.in-Ok.ensures c.args.list.now refl))

pub returns-in-Ok : goal.returns-in-Ok
returns-in-Ok c =
    let a = c.in-Ok.ensures in
    orders a.admits refl _ _
    (rw (a.first_fronts.words_are, a.first_fronts.bytes_are, a.second_fronts.words_are, a.second_fronts.bytes_are) at c.order_formed.ensures) refl refl

pub returns-in-Err : goal.returns-in-Err
returns-in-Err c = refused c.in-Err.ensures (ap Err (refusal_numbered _)) refl refl
