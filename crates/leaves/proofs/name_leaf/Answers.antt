use Rattle.std.proofs.Common.{arith, refl}
use Rattle.std.proofs.Math.Seq.{slice, length-slice}
use Rattle.leaves.proofs.Laws.{text_stored}
use Rattle.leaves.proofs.name_leaf.Goals as goal

pub returns : goal.returns
returns c =
    let l = length-slice c.args.name.start c.args.name.end c.args.text.now c.requires.high in (
      c.in_ok-room.ensures,
      refl,
      refl,
      omega arith,
      text_stored _ c.args.from.nodes c.args.from.bytes _ (slice c.args.name.start c.args.name.end c.args.text.now) c.args.words.now c.args.bytes.now _ _ l c.store_node.ensures c.copy.ensures,
    )
