use Rattle.std.proofs.Common.{◌<◌, length, arith}
use Rattle.graph.specs.Members.{numbers, raised}
use Rattle.graph.specs.Transition.{needed}
use Rattle.links.specs.Graphs.{graph_of}
use Rattle.links.specs.Laws.Numbering.{needed_next}
use Rattle.transitions.proofs.Steps.{need_in, slots_are}
use Rattle.transitions.proofs.inside.Goals as goal

pub led_to-y-requires : goal.led_to-y-requires
led_to-y-requires c = (
  c.requires.place.0,
  omega (arith, c.requires.place.0, c.requires.room.0.target_room),
  need_in (graph_of c.args.ads) c.args.x c.args.target.now c.args.flag.now (c.need_count.ensures.by_index c.args.ads.first.ad.bytes.now c.args.ads.second.ad.bytes.now) c.if-i-need_count.true,
)

pub returns-then-i-need_count-clause-by_index : goal.returns-then-i-need_count-clause-by_index
returns-then-i-need_count-clause-by_index c =
    let more : c.read-i.result < length (needed (graph_of c.args.ads) (numbers c.args.target.now) (raised c.args.flag.now) c.args.x) = omega (arith, c.need_count.ensures.by_index c.args.ads.first.ad.bytes.now c.args.ads.second.ad.bytes.now, c.if-i-need_count.true) in
    c.follow.ensures (graph_of c.args.ads) c.args.len _ _ _ (record {
      index_is = c.read-i.ensures;
      more = more;
      next_is = needed_next (graph_of c.args.ads) c.args.x c.read-i.result c.led_to-y.result c.args.target.now c.args.flag.now more (c.led_to-y.ensures.by_index c.args.ads.first.ad.bytes.now c.args.ads.second.ad.bytes.now);
    })

pub returns-clause-by_index : goal.returns-clause-by_index
returns-clause-by_index c = c.leave.ensures.rule (graph_of c.args.ads) _ _ _ (record {
  slots_are = slots_are c.args.ads;
  over = omega (arith, c.need_count.ensures.by_index c.args.ads.first.ad.bytes.now c.args.ads.second.ad.bytes.now, c.if-i-need_count.false, c.read-i.ensures);
  from_is = c.node.ensures (graph_of c.args.ads) (slots_are c.args.ads);
})
