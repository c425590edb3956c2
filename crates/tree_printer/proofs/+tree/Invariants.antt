use Prim.Native.Nat.{◌+◌, ◌*◌}
use Rattle.tree_printer.specs.Sizes.{tree_size}
use Rattle.tree_printer.proofs.+tree.Given as goal

abbrev pub decreases-put_operand : goal.decreases-put_operand
decreases-put_operand l = 2 * tree_size l.ad.now.words.now l.i + 1

abbrev pub decreases-put_node : goal.decreases-put_node
decreases-put_node l = 2 * tree_size l.ad.now.words.now l.i
