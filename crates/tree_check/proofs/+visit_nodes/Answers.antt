use native.Mathlib.Omega.{arith}
use Prim.Native.Nat.{◌+◌}
use Rattle.std.proofs.Common.{Some, sym, ◌∙◌, ap, subst}
use Rattle.tree_check.specs.Inner.Decode.{WalkOk}
use Rattle.tree_check.proofs.Ways.{walk_small, part_room, way_nothing, way_leaf, one_order, one_bad, one_done, two_order, two_kind, two_first, two_second, two_done, three_order, three_first, three_second, three_third, three_done}
use Rattle.tree_check.proofs.+visit_nodes.Goals as goal

pub returns-in_err-shape_at : goal.returns-in_err-shape_at
returns-in_err-shape_at t c =
    rw c.from_residual.ensures (way_nothing c.args.ad.now.words.now c.args.ad.now.bytes.now c.args.s c.args.i c.args.o (sym c.shape_at.ensures ∙ c.in_err-shape_at.was))

pub returns-in-Leaf : goal.returns-in-Leaf
returns-in-Leaf t c =
    way_leaf c.args.ad.now.words.now c.args.ad.now.bytes.now c.args.s c.args.i c.args.o c.leaf_walk.result c.requires.order (sym c.shape_at.ensures ∙ c.in_ok-shape_at.was ∙ ap Some c.in-Leaf.is) c.leaf_walk.ensures

pub visit_nodes-requires : goal.visit_nodes-requires
visit_nodes-requires t c =
    let q = one_order c.args.ad.now.words.now c.args.ad.now.bytes.now c.args.s c.args.i c.args.o c.in-One.x (sym c.shape_at.ensures ∙ c.in_ok-shape_at.was ∙ ap Some c.in-One.is) in
    (omega arith, part_room c.args.ad.now.words.now c.args.ad.now.bytes.now c.args.s c.args.i c.args.o c.args.s c.in-One.x c.args.o c.requires q.0 (omega arith) c.requires.byte)

pub visit_nodes-requires-in-Two : goal.visit_nodes-requires-in-Two
visit_nodes-requires-in-Two t c =
    let q = two_order c.args.ad.now.words.now c.args.ad.now.bytes.now c.args.s c.args.i c.args.o c.in-Two.x c.in-Two.y (sym c.shape_at.ensures ∙ c.in_ok-shape_at.was ∙ ap Some c.in-Two.is) in
    (omega arith, part_room c.args.ad.now.words.now c.args.ad.now.bytes.now c.args.s c.args.i c.args.o c.args.s c.in-Two.x c.args.o c.requires q.0 (omega arith) c.requires.byte)

pub visit_nodes-requires-in-Three : goal.visit_nodes-requires-in-Three
visit_nodes-requires-in-Three t c =
    let q = three_order c.args.ad.now.words.now c.args.ad.now.bytes.now c.args.s c.args.i c.args.o c.in-Three.x c.in-Three.y c.in-Three.z (sym c.shape_at.ensures ∙ c.in_ok-shape_at.was ∙ ap Some c.in-Three.is) in
    (omega arith, part_room c.args.ad.now.words.now c.args.ad.now.bytes.now c.args.s c.args.i c.args.o c.args.s c.in-Three.x c.args.o c.requires q.0 (omega arith) c.requires.byte)

pub unary_walk-requires : goal.unary_walk-requires
unary_walk-requires t c =
    let q = one_order c.args.ad.now.words.now c.args.ad.now.bytes.now c.args.s c.args.i c.args.o c.in-One.x (sym c.shape_at.ensures ∙ c.in_ok-shape_at.was ∙ ap Some c.in-One.is) in
    let z = walk_small c.args.ad.now.words.now c.args.ad.now.bytes.now c.args.s c.in-One.x c.args.o c.in_ok-a-in-One.a.end c.in_ok-a-in-One.a.binds c.in_ok-a-in-One.a.level c.in_ok-a-in-One.a.print (part_room c.args.ad.now.words.now c.args.ad.now.bytes.now c.args.s c.args.i c.args.o c.args.s c.in-One.x c.args.o c.requires q.0 (omega arith) c.requires.byte) (rw c.in_ok-a-in-One.was at c.visit_nodes.ensures) in
    (z.1, z.2)

pub overflow_add-x : goal.overflow_add-x
overflow_add-x t c =
    let q = two_order c.args.ad.now.words.now c.args.ad.now.bytes.now c.args.s c.args.i c.args.o c.in-Two.x c.in-Two.y (sym c.shape_at.ensures ∙ c.in_ok-shape_at.was ∙ ap Some c.in-Two.is) in
    omega (arith, c.requires.node)

pub visit_nodes-requires-in-Two-2 : goal.visit_nodes-requires-in-Two-2
visit_nodes-requires-in-Two-2 t c =
    let q = two_order c.args.ad.now.words.now c.args.ad.now.bytes.now c.args.s c.args.i c.args.o c.in-Two.x c.in-Two.y (sym c.shape_at.ensures ∙ c.in_ok-shape_at.was ∙ ap Some c.in-Two.is) in
    let z = walk_small c.args.ad.now.words.now c.args.ad.now.bytes.now c.args.s c.in-Two.x c.args.o c.in_ok-a-in-Two.a.end c.in_ok-a-in-Two.a.binds c.in_ok-a-in-Two.a.level c.in_ok-a-in-Two.a.print (part_room c.args.ad.now.words.now c.args.ad.now.bytes.now c.args.s c.args.i c.args.o c.args.s c.in-Two.x c.args.o c.requires q.0 (omega arith) c.requires.byte) (rw c.in_ok-a-in-Two.was at c.visit_nodes-in-Two.ensures) in
    (omega arith, part_room c.args.ad.now.words.now c.args.ad.now.bytes.now c.args.s c.args.i c.args.o (c.in-Two.x + 1) c.in-Two.y c.in_ok-a-in-Two.a.end c.requires (omega arith) (omega arith) z.0)

pub overflow_add-x-in-Three : goal.overflow_add-x-in-Three
overflow_add-x-in-Three t c =
    let q = three_order c.args.ad.now.words.now c.args.ad.now.bytes.now c.args.s c.args.i c.args.o c.in-Three.x c.in-Three.y c.in-Three.z (sym c.shape_at.ensures ∙ c.in_ok-shape_at.was ∙ ap Some c.in-Three.is) in
    omega (arith, c.requires.node)

pub visit_nodes-requires-in-Three-2 : goal.visit_nodes-requires-in-Three-2
visit_nodes-requires-in-Three-2 t c =
    let q = three_order c.args.ad.now.words.now c.args.ad.now.bytes.now c.args.s c.args.i c.args.o c.in-Three.x c.in-Three.y c.in-Three.z (sym c.shape_at.ensures ∙ c.in_ok-shape_at.was ∙ ap Some c.in-Three.is) in
    let z = walk_small c.args.ad.now.words.now c.args.ad.now.bytes.now c.args.s c.in-Three.x c.args.o c.in_ok-a-in-Three.a.end c.in_ok-a-in-Three.a.binds c.in_ok-a-in-Three.a.level c.in_ok-a-in-Three.a.print (part_room c.args.ad.now.words.now c.args.ad.now.bytes.now c.args.s c.args.i c.args.o c.args.s c.in-Three.x c.args.o c.requires q.0 (omega arith) c.requires.byte) (rw c.in_ok-a-in-Three.was at c.visit_nodes-in-Three.ensures) in
    (omega arith, part_room c.args.ad.now.words.now c.args.ad.now.bytes.now c.args.s c.args.i c.args.o (c.in-Three.x + 1) c.in-Three.y c.in_ok-a-in-Three.a.end c.requires (omega arith) (omega arith) z.0)

pub binary-requires-clause-operator : goal.binary-requires-clause-operator
binary-requires-clause-operator t c =
    two_kind c.args.ad.now.words.now c.args.ad.now.bytes.now c.args.s c.args.i c.args.o c.in-Two.x c.in-Two.y (sym c.shape_at.ensures ∙ c.in_ok-shape_at.was ∙ ap Some c.in-Two.is)

pub binary_walk-requires : goal.binary_walk-requires
binary_walk-requires t c =
    let q = two_order c.args.ad.now.words.now c.args.ad.now.bytes.now c.args.s c.args.i c.args.o c.in-Two.x c.in-Two.y (sym c.shape_at.ensures ∙ c.in_ok-shape_at.was ∙ ap Some c.in-Two.is) in
    let z = walk_small c.args.ad.now.words.now c.args.ad.now.bytes.now c.args.s c.in-Two.x c.args.o c.in_ok-a-in-Two.a.end c.in_ok-a-in-Two.a.binds c.in_ok-a-in-Two.a.level c.in_ok-a-in-Two.a.print (part_room c.args.ad.now.words.now c.args.ad.now.bytes.now c.args.s c.args.i c.args.o c.args.s c.in-Two.x c.args.o c.requires q.0 (omega arith) c.requires.byte) (rw c.in_ok-a-in-Two.was at c.visit_nodes-in-Two.ensures) in
    let y = walk_small c.args.ad.now.words.now c.args.ad.now.bytes.now (c.in-Two.x + 1) c.in-Two.y c.in_ok-a-in-Two.a.end c.in_ok-b-in-Two.b.end c.in_ok-b-in-Two.b.binds c.in_ok-b-in-Two.b.level c.in_ok-b-in-Two.b.print (part_room c.args.ad.now.words.now c.args.ad.now.bytes.now c.args.s c.args.i c.args.o (c.in-Two.x + 1) c.in-Two.y c.in_ok-a-in-Two.a.end c.requires (omega arith) (omega arith) z.0) (rw c.in_ok-b-in-Two.was at c.visit_nodes-in-Two-2.ensures) in
    (z.1, z.2, y.1, y.2)

pub overflow_add-y : goal.overflow_add-y
overflow_add-y t c =
    let q = three_order c.args.ad.now.words.now c.args.ad.now.bytes.now c.args.s c.args.i c.args.o c.in-Three.x c.in-Three.y c.in-Three.z (sym c.shape_at.ensures ∙ c.in_ok-shape_at.was ∙ ap Some c.in-Three.is) in
    omega (arith, c.requires.node)

pub visit_nodes-requires-in-Three-3 : goal.visit_nodes-requires-in-Three-3
visit_nodes-requires-in-Three-3 t c =
    let q = three_order c.args.ad.now.words.now c.args.ad.now.bytes.now c.args.s c.args.i c.args.o c.in-Three.x c.in-Three.y c.in-Three.z (sym c.shape_at.ensures ∙ c.in_ok-shape_at.was ∙ ap Some c.in-Three.is) in
    let z = walk_small c.args.ad.now.words.now c.args.ad.now.bytes.now c.args.s c.in-Three.x c.args.o c.in_ok-a-in-Three.a.end c.in_ok-a-in-Three.a.binds c.in_ok-a-in-Three.a.level c.in_ok-a-in-Three.a.print (part_room c.args.ad.now.words.now c.args.ad.now.bytes.now c.args.s c.args.i c.args.o c.args.s c.in-Three.x c.args.o c.requires q.0 (omega arith) c.requires.byte) (rw c.in_ok-a-in-Three.was at c.visit_nodes-in-Three.ensures) in
    let y = walk_small c.args.ad.now.words.now c.args.ad.now.bytes.now (c.in-Three.x + 1) c.in-Three.y c.in_ok-a-in-Three.a.end c.in_ok-b-in-Three.b.end c.in_ok-b-in-Three.b.binds c.in_ok-b-in-Three.b.level c.in_ok-b-in-Three.b.print (part_room c.args.ad.now.words.now c.args.ad.now.bytes.now c.args.s c.args.i c.args.o (c.in-Three.x + 1) c.in-Three.y c.in_ok-a-in-Three.a.end c.requires (omega arith) (omega arith) z.0) (rw c.in_ok-b-in-Three.was at c.visit_nodes-in-Three-2.ensures) in
    (omega arith, part_room c.args.ad.now.words.now c.args.ad.now.bytes.now c.args.s c.args.i c.args.o (c.in-Three.y + 1) c.in-Three.z c.in_ok-b-in-Three.b.end c.requires (omega arith) (omega arith) y.0)

pub conditional_walk-requires : goal.conditional_walk-requires
conditional_walk-requires t c =
    let q = three_order c.args.ad.now.words.now c.args.ad.now.bytes.now c.args.s c.args.i c.args.o c.in-Three.x c.in-Three.y c.in-Three.z (sym c.shape_at.ensures ∙ c.in_ok-shape_at.was ∙ ap Some c.in-Three.is) in
    let z = walk_small c.args.ad.now.words.now c.args.ad.now.bytes.now c.args.s c.in-Three.x c.args.o c.in_ok-a-in-Three.a.end c.in_ok-a-in-Three.a.binds c.in_ok-a-in-Three.a.level c.in_ok-a-in-Three.a.print (part_room c.args.ad.now.words.now c.args.ad.now.bytes.now c.args.s c.args.i c.args.o c.args.s c.in-Three.x c.args.o c.requires q.0 (omega arith) c.requires.byte) (rw c.in_ok-a-in-Three.was at c.visit_nodes-in-Three.ensures) in
    let y = walk_small c.args.ad.now.words.now c.args.ad.now.bytes.now (c.in-Three.x + 1) c.in-Three.y c.in_ok-a-in-Three.a.end c.in_ok-b-in-Three.b.end c.in_ok-b-in-Three.b.binds c.in_ok-b-in-Three.b.level c.in_ok-b-in-Three.b.print (part_room c.args.ad.now.words.now c.args.ad.now.bytes.now c.args.s c.args.i c.args.o (c.in-Three.x + 1) c.in-Three.y c.in_ok-a-in-Three.a.end c.requires (omega arith) (omega arith) z.0) (rw c.in_ok-b-in-Three.was at c.visit_nodes-in-Three-2.ensures) in
    let m = walk_small c.args.ad.now.words.now c.args.ad.now.bytes.now (c.in-Three.y + 1) c.in-Three.z c.in_ok-b-in-Three.b.end c.in_ok-c-in-Three.c.end c.in_ok-c-in-Three.c.binds c.in_ok-c-in-Three.c.level c.in_ok-c-in-Three.c.print (part_room c.args.ad.now.words.now c.args.ad.now.bytes.now c.args.s c.args.i c.args.o (c.in-Three.y + 1) c.in-Three.z c.in_ok-b-in-Three.b.end c.requires (omega arith) (omega arith) y.0) (rw c.in_ok-c-in-Three.was at c.visit_nodes-in-Three-3.ensures) in
    (z.1, z.2, y.1, y.2, m.1, m.2)

pub returns-in_err-a-in-One : goal.returns-in_err-a-in-One
returns-in_err-a-in-One t c =
    rw c.from_residual-in_err-a-in-One.ensures (one_bad c.args.ad.now.words.now c.args.ad.now.bytes.now c.args.s c.args.i c.args.o c.in-One.x (sym c.shape_at.ensures ∙ c.in_ok-shape_at.was ∙ ap Some c.in-One.is) (rw c.in_err-a-in-One.was at c.visit_nodes.ensures))

pub returns-in_ok-a-in-One : goal.returns-in_ok-a-in-One
returns-in_ok-a-in-One t c =
    subst (WalkOk c.args.ad.now.words.now c.args.ad.now.bytes.now c.args.s c.args.i c.args.o) (sym c.unary_walk.ensures) (one_done c.args.ad.now.words.now c.args.ad.now.bytes.now c.args.s c.args.i c.args.o c.in-One.x (sym c.shape_at.ensures ∙ c.in_ok-shape_at.was ∙ ap Some c.in-One.is) c.in_ok-a-in-One.a.end c.in_ok-a-in-One.a.binds c.in_ok-a-in-One.a.level c.in_ok-a-in-One.a.print (rw c.in_ok-a-in-One.was at c.visit_nodes.ensures))

pub returns-in_err-a-in-Two : goal.returns-in_err-a-in-Two
returns-in_err-a-in-Two t c =
    rw c.from_residual-in_err-a-in-Two.ensures (two_first c.args.ad.now.words.now c.args.ad.now.bytes.now c.args.s c.args.i c.args.o c.in-Two.x c.in-Two.y (sym c.shape_at.ensures ∙ c.in_ok-shape_at.was ∙ ap Some c.in-Two.is) (rw c.in_err-a-in-Two.was at c.visit_nodes-in-Two.ensures))

pub returns-in_err-b-in-Two : goal.returns-in_err-b-in-Two
returns-in_err-b-in-Two t c =
    rw c.from_residual-in_err-b-in-Two.ensures (two_second c.args.ad.now.words.now c.args.ad.now.bytes.now c.args.s c.args.i c.args.o c.in-Two.x c.in-Two.y (sym c.shape_at.ensures ∙ c.in_ok-shape_at.was ∙ ap Some c.in-Two.is) c.in_ok-a-in-Two.a.end c.in_ok-a-in-Two.a.binds c.in_ok-a-in-Two.a.level c.in_ok-a-in-Two.a.print (rw c.in_ok-a-in-Two.was at c.visit_nodes-in-Two.ensures) (rw c.in_err-b-in-Two.was at c.visit_nodes-in-Two-2.ensures))

pub returns-in_ok-b-in-Two : goal.returns-in_ok-b-in-Two
returns-in_ok-b-in-Two t c =
    subst (WalkOk c.args.ad.now.words.now c.args.ad.now.bytes.now c.args.s c.args.i c.args.o) (sym (rw c.binary.ensures at c.binary_walk.ensures)) (two_done c.args.ad.now.words.now c.args.ad.now.bytes.now c.args.s c.args.i c.args.o c.in-Two.x c.in-Two.y (sym c.shape_at.ensures ∙ c.in_ok-shape_at.was ∙ ap Some c.in-Two.is) c.in_ok-a-in-Two.a.end c.in_ok-a-in-Two.a.binds c.in_ok-a-in-Two.a.level c.in_ok-a-in-Two.a.print (rw c.in_ok-a-in-Two.was at c.visit_nodes-in-Two.ensures) c.in_ok-b-in-Two.b.end c.in_ok-b-in-Two.b.binds c.in_ok-b-in-Two.b.level c.in_ok-b-in-Two.b.print (rw c.in_ok-b-in-Two.was at c.visit_nodes-in-Two-2.ensures))

pub returns-in_err-a-in-Three : goal.returns-in_err-a-in-Three
returns-in_err-a-in-Three t c =
    rw c.from_residual-in_err-a-in-Three.ensures (three_first c.args.ad.now.words.now c.args.ad.now.bytes.now c.args.s c.args.i c.args.o c.in-Three.x c.in-Three.y c.in-Three.z (sym c.shape_at.ensures ∙ c.in_ok-shape_at.was ∙ ap Some c.in-Three.is) (rw c.in_err-a-in-Three.was at c.visit_nodes-in-Three.ensures))

pub returns-in_err-b-in-Three : goal.returns-in_err-b-in-Three
returns-in_err-b-in-Three t c =
    rw c.from_residual-in_err-b-in-Three.ensures (three_second c.args.ad.now.words.now c.args.ad.now.bytes.now c.args.s c.args.i c.args.o c.in-Three.x c.in-Three.y c.in-Three.z (sym c.shape_at.ensures ∙ c.in_ok-shape_at.was ∙ ap Some c.in-Three.is) c.in_ok-a-in-Three.a.end c.in_ok-a-in-Three.a.binds c.in_ok-a-in-Three.a.level c.in_ok-a-in-Three.a.print (rw c.in_ok-a-in-Three.was at c.visit_nodes-in-Three.ensures) (rw c.in_err-b-in-Three.was at c.visit_nodes-in-Three-2.ensures))

pub returns-in_err-c-in-Three : goal.returns-in_err-c-in-Three
returns-in_err-c-in-Three t c =
    rw c.from_residual-in_err-c-in-Three.ensures (three_third c.args.ad.now.words.now c.args.ad.now.bytes.now c.args.s c.args.i c.args.o c.in-Three.x c.in-Three.y c.in-Three.z (sym c.shape_at.ensures ∙ c.in_ok-shape_at.was ∙ ap Some c.in-Three.is) c.in_ok-a-in-Three.a.end c.in_ok-a-in-Three.a.binds c.in_ok-a-in-Three.a.level c.in_ok-a-in-Three.a.print (rw c.in_ok-a-in-Three.was at c.visit_nodes-in-Three.ensures) c.in_ok-b-in-Three.b.end c.in_ok-b-in-Three.b.binds c.in_ok-b-in-Three.b.level c.in_ok-b-in-Three.b.print (rw c.in_ok-b-in-Three.was at c.visit_nodes-in-Three-2.ensures) (rw c.in_err-c-in-Three.was at c.visit_nodes-in-Three-3.ensures))

pub returns-in_ok-c-in-Three : goal.returns-in_ok-c-in-Three
returns-in_ok-c-in-Three t c =
    subst (WalkOk c.args.ad.now.words.now c.args.ad.now.bytes.now c.args.s c.args.i c.args.o) (sym c.conditional_walk.ensures) (three_done c.args.ad.now.words.now c.args.ad.now.bytes.now c.args.s c.args.i c.args.o c.in-Three.x c.in-Three.y c.in-Three.z (sym c.shape_at.ensures ∙ c.in_ok-shape_at.was ∙ ap Some c.in-Three.is) c.in_ok-a-in-Three.a.end c.in_ok-a-in-Three.a.binds c.in_ok-a-in-Three.a.level c.in_ok-a-in-Three.a.print (rw c.in_ok-a-in-Three.was at c.visit_nodes-in-Three.ensures) c.in_ok-b-in-Three.b.end c.in_ok-b-in-Three.b.binds c.in_ok-b-in-Three.b.level c.in_ok-b-in-Three.b.print (rw c.in_ok-b-in-Three.was at c.visit_nodes-in-Three-2.ensures) c.in_ok-c-in-Three.c.end c.in_ok-c-in-Three.c.binds c.in_ok-c-in-Three.c.level c.in_ok-c-in-Three.c.print (rw c.in_ok-c-in-Three.was at c.visit_nodes-in-Three-3.ensures))
