use mathlib.Core.Path.{◌∙◌, ap}
use mathlib.Core.List.{List}
use Prim.Native.Nat.{ℕ, ◌+◌}
use lib.ListN.{length}
use Rattle.text.specs.Bytes.{bytes}
use Rattle.writer.proofs.Laws.{puts_as}
use Rattle.ad_printer.proofs.Definitions.{name_near, equals_near, root_fits, row_written}
use Rattle.tree_printer.proofs.Trees.{tree_fits_as, tree_written_as}
use Rattle.ad.specs.Stored.{root_at}
use Rattle.ad_printer.proofs.put_definition.Goals as goal

pub put-m-requires : goal.put-m-requires
put-m-requires c = rw c.name.ensures (name_near c.args.ad.words.now c.args.ad.bytes.now
    c.args.j c.args.at c.requires)

pub put-n-requires : goal.put-n-requires
unfolding bytes
put-n-requires c = equals_near c.args.ad.words.now c.args.ad.bytes.now c.args.j c.args.at c.requires
    c.put-m.result (c.put-m.ensures.behind
    ∙ ap (λ (l : List ℕ). c.args.at + length l) c.name.ensures)

pub put_tree-requires : goal.put_tree-requires
unfolding bytes
put_tree-requires c = tree_fits_as c.args.ad.words.now c.args.ad.bytes.now c.root.result
    (root_at c.args.ad.words.now c.args.j) c.put-n.result c.root.ensures (root_fits
    c.args.ad.words.now c.args.ad.bytes.now c.args.j c.args.at c.requires c.put-m.result
    (c.put-m.ensures.behind
    ∙ ap (λ (l : List ℕ). c.args.at + length l) c.name.ensures) c.put-n.result c.put-n.ensures.behind)

pub returns : goal.returns
unfolding bytes
returns c = row_written c.args.ad.words.now c.args.ad.bytes.now c.args.j c.args.at _ _ _ _ _ _ _ (puts_as
    c.name.ensures c.put-m.ensures) c.put-n.ensures
    (tree_written_as c.args.ad.words.now c.args.ad.bytes.now _ _ c.root.result
    (root_at c.args.ad.words.now c.args.j) _ _ c.root.ensures
    c.put_tree.ensures)
