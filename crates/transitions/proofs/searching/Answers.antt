use Rattle.std.proofs.Common.{arith}
use Rattle.links.specs.Graphs.{graph_of}
use Rattle.transitions.proofs.Steps.{slots_are}
use Rattle.transitions.proofs.searching.Goals as goal

pub returns-else-i-led_count-clause-by_index : goal.returns-else-i-led_count-clause-by_index
returns-else-i-led_count-clause-by_index c = λ len ls. c.retreat.ensures (graph_of c.args.ads) len _ _ ls (record {
  size_is = c.size.ensures;
  slots_are = slots_are c.args.ads;
  over = omega (arith, c.led_count.ensures.by_index c.args.ads.first.ad.bytes.now c.args.ads.second.ad.bytes.now, c.if-i-led_count.false, c.read-i.ensures);
})
