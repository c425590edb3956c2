-- `inspection::expression_room` meets its contract. Assumes nothing.
use mathlib.Core.Path.{sym, ◌∙◌}
use Rattle.printer.proofs.Ads.{malformed_is, print_malformed}
use Rattle.inspection.specs.Inspection.{node_text}
use Rattle.inspection.proofs.Ways.{no_node, node_fits, too_long, longer, put_node}
use Rattle.inspection.proofs.expression_room.Goals as goal

pub returns-in_err-checked : goal.returns-in_err-checked
returns-in_err-checked c =
    let e = rw c.in_err-checked.was at c.ok_or.ensures.ok_part in
    let v = rw e at (sym c.in_err-checked.was ∙ c.ok_or.ensures.value) in
    rw (malformed_is c.from_residual.result _ (cc) c.from_residual.ensures.1)
    (print_malformed c.args.ad.words.now c.args.ad.bytes.now c.args.out.now c.requires.0 c.requires.1 (λ a. node_text a c.args.node) (rw e at c.check.ensures))

pub returns-then-checked-node : goal.returns-then-checked-node
returns-then-checked-node c =
    let h = rw (rw c.in_ok-checked.was at c.ok_or.ensures.ok_part) at c.check.ensures in
    no_node c.args.ad.words.now c.args.ad.bytes.now c.requires.0 c.requires.1 c.in_ok-checked.checked c.args.node h _ c.if-checked-node.true

pub put_tree-k-requires : goal.put_tree-k-requires
put_tree-k-requires c =
    let h = rw (rw c.in_ok-checked.was at c.ok_or.ensures.ok_part) at c.check.ensures in
    node_fits c.args.ad.words.now c.args.ad.bytes.now c.requires.0 c.requires.1 c.in_ok-checked.checked c.args.node h c.if-checked-node.false

pub returns-then-out-k : goal.returns-then-out-k
returns-then-out-k c =
    let h = rw (rw c.in_ok-checked.was at c.ok_or.ensures.ok_part) at c.check.ensures in
    rw c.into.ensures (too_long c.args.ad.words.now c.args.ad.bytes.now c.requires.0 c.requires.1 c.in_ok-checked.checked c.args.node h c.if-checked-node.false _ _ _ c.put_tree-k.ensures _ c.if-out-k.true)

pub returns-then-k-gt-TEXT_BYTES : goal.returns-then-k-gt-TEXT_BYTES
returns-then-k-gt-TEXT_BYTES c =
    let h = rw (rw c.in_ok-checked.was at c.ok_or.ensures.ok_part) at c.check.ensures in
    rw c.into-then-k-gt-TEXT_BYTES.ensures (longer c.args.ad.words.now c.args.ad.bytes.now c.requires.0 c.requires.1 c.in_ok-checked.checked c.args.node h c.if-checked-node.false _ _ _ c.put_tree-k.ensures _ c.if-k-gt-TEXT_BYTES.true)

pub put_tree-requires : goal.put_tree-requires
put_tree-requires c =
    let h = rw (rw c.in_ok-checked.was at c.ok_or.ensures.ok_part) at c.check.ensures in
    node_fits c.args.ad.words.now c.args.ad.bytes.now c.requires.0 c.requires.1 c.in_ok-checked.checked c.args.node h c.if-checked-node.false

pub returns : goal.returns
returns c =
    let h = rw (rw c.in_ok-checked.was at c.ok_or.ensures.ok_part) at c.check.ensures in
    put_node c.args.ad.words.now c.args.ad.bytes.now c.requires.0 c.requires.1 c.in_ok-checked.checked c.args.node h c.if-checked-node.false _ _ _ c.put_tree-k.ensures _ _ _ c.if-out-k.false c.if-k-gt-TEXT_BYTES.false c.put_tree.ensures
