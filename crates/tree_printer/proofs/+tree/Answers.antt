use mathlib.Core.Path.{refl, sym, ◌∙◌, ap}
use mathlib.Core.List.{[], ◌∷◌, ◌++◌}
use Prim.Native.Nat.{ℕ, ◌+◌}
use lib.ListN.{length}
use Rattle.text.specs.Bytes.{bytes}
use Rattle.writer.proofs.Laws.{puts_as}
use Rattle.tree_printer.proofs.Trees.{fits_as, tree_fits_as, written_as, tree_written_as, bare_written, closed_fits, closed_written, leaf_fits, leaf_written, one_near, one_falls, one_fits_lem, one_written, two_falls, two_fits, two_near, two_second, two_written, three_falls, three_fits_lem, three_near, three_second, three_near_2, three_third, three_written}
use Rattle.syntax.specs.Grammar.{binds_of}
use Rattle.syntax.specs.Print.{unary_text, binary_text}
use Rattle.syntax.specs.declared.Binary.{Binary}
use Rattle.syntax.specs.declared.Unary.{Unary}
use Rattle.ad.specs.Stored.{kind_at, operand_at, binary_of}
use Rattle.tree_printer.specs.Sizes.{tree_size}
use native.Mathlib.Omega.{arith}
use Rattle.std.proofs.Common.{Some}
use Rattle.ad.specs.declared.kind.Kind.TheVariants as K
use Rattle.ad.specs.Laws.Coding.{coded}
use Rattle.tree_printer.specs.Inner.Post.{binds_kind}
use Rattle.tree_printer.proofs.Trees.{run_kind, kind_low, unary_from, unary_below, unary_is, binary_above, binary_is}
use Rattle.tree_printer.proofs.+tree.Goals as goal

pub put_node-unwrap-requires : goal.put_node-unwrap-requires
put_node-unwrap-requires t c = run_kind c.args.ad.now.words.now c.args.ad.now.bytes.now c.requires.first c.args.i c.requires.byte c.requires.tree c.requires.stands c.kind.result c.kind.ensures

pub put_operand-unwrap-requires : goal.put_operand-unwrap-requires
put_operand-unwrap-requires t c = run_kind c.args.ad.now.words.now c.args.ad.now.bytes.now c.requires.first c.args.i c.requires.byte c.requires.tree c.requires.stands c.kind.result c.kind.ensures

pub put_operand-returns-then-need-binding : goal.put_operand-returns-then-need-binding
put_operand-returns-then-need-binding t c = bare_written c.args.ad.now.words.now c.args.ad.now.bytes.now c.args.i c.args.at c.args.need
    c.binding.result (c.binding.ensures ∙ ap binds_kind (sym (coded _ c.unwrap.result (sym c.kind.ensures ∙ c.unwrap.ensures)))) c.if-need-binding.true _ _ _
    c.put_node.ensures

pub put_operand-put_node-m-requires : goal.put_operand-put_node-m-requires
put_operand-put_node-m-requires t c = (
  omega arith,
  closed_fits c.args.ad.now.words.now c.args.ad.now.bytes.now c.args.i
      c.args.at c.args.need c.binding.result
      (c.binding.ensures ∙ ap binds_kind (sym (coded _ c.unwrap.result (sym c.kind.ensures ∙ c.unwrap.ensures)))) c.if-need-binding.false c.requires,
)

pub put_operand-returns : goal.put_operand-returns
put_operand-returns t c = closed_written c.args.ad.now.words.now c.args.ad.now.bytes.now c.args.i c.args.at c.args.need
    c.binding.result (c.binding.ensures ∙ ap binds_kind (sym (coded _ c.unwrap.result (sym c.kind.ensures ∙ c.unwrap.ensures)))) c.if-need-binding.false _ _ _ _ _
    c.put_byte.ensures c.put_node-m.ensures c.put_byte-2.ensures

pub put_node-put_leaf-requires : goal.put_node-put_leaf-requires
put_node-put_leaf-requires t c = leaf_fits c.args.ad.now.words.now c.args.ad.now.bytes.now c.args.i c.args.at [] (kind_low c.unwrap.result (coded _ c.unwrap.result (sym c.kind.ensures ∙ c.unwrap.ensures)) c.in_default.not-Unary c.in_default.not-Conditional c.in_default.not-Binary) c.requires

pub put_node-returns-in_default : goal.put_node-returns-in_default
put_node-returns-in_default t c = leaf_written c.args.ad.now.words.now c.args.ad.now.bytes.now c.args.i c.args.at _ (kind_low c.unwrap.result (coded _ c.unwrap.result (sym c.kind.ensures ∙ c.unwrap.ensures)) c.in_default.not-Unary c.in_default.not-Conditional c.in_default.not-Binary) _ _ c.put_leaf.ensures

pub put_node-put_unary-m-requires : goal.put_node-put_unary-m-requires
put_node-put_unary-m-requires t c = rw (unary_is c.in-Unary.u (coded _ (K.Unary c.in-Unary.u) (sym c.kind.ensures ∙ c.unwrap.ensures ∙ ap Some c.in-Unary.is))) (one_near c.args.ad.now.words.now c.args.ad.now.bytes.now c.args.i c.args.at [] (unary_from c.in-Unary.u (coded _ (K.Unary c.in-Unary.u) (sym c.kind.ensures ∙ c.unwrap.ensures ∙ ap Some c.in-Unary.is))) (unary_below c.in-Unary.u (coded _ (K.Unary c.in-Unary.u) (sym c.kind.ensures ∙ c.unwrap.ensures ∙ ap Some c.in-Unary.is))) c.requires)

pub put_node-put_operand-requires : goal.put_node-put_operand-requires
put_node-put_operand-requires t c = (
  let h = one_falls c.args.ad.now.words.now c.args.ad.now.bytes.now c.args.i c.args.at [] (unary_from c.in-Unary.u (coded _ (K.Unary c.in-Unary.u) (sym c.kind.ensures ∙ c.unwrap.ensures ∙ ap Some c.in-Unary.is))) (unary_below c.in-Unary.u (coded _ (K.Unary c.in-Unary.u) (sym c.kind.ensures ∙ c.unwrap.ensures ∙ ap Some c.in-Unary.is))) c.requires in omega (arith, ap (tree_size c.args.ad.now.words.now) c.operand.ensures, c.decreases),
  fits_as c.args.ad.now.words.now c.args.ad.now.bytes.now 7 7 c.operand.result (operand_at c.args.ad.now.words.now c.args.i 0) c.put_unary-m.result refl c.operand.ensures (one_fits_lem c.args.ad.now.words.now c.args.ad.now.bytes.now c.args.i c.args.at [] (unary_from c.in-Unary.u (coded _ (K.Unary c.in-Unary.u) (sym c.kind.ensures ∙ c.unwrap.ensures ∙ ap Some c.in-Unary.is))) (unary_below c.in-Unary.u (coded _ (K.Unary c.in-Unary.u) (sym c.kind.ensures ∙ c.unwrap.ensures ∙ ap Some c.in-Unary.is))) c.requires c.put_unary-m.result (c.put_unary-m.ensures.behind ∙ ap (λ (u : Unary). c.args.at + length (unary_text u)) (unary_is c.in-Unary.u (coded _ (K.Unary c.in-Unary.u) (sym c.kind.ensures ∙ c.unwrap.ensures ∙ ap Some c.in-Unary.is))))),
)

pub put_node-returns-in-Unary : goal.put_node-returns-in-Unary
put_node-returns-in-Unary t c = one_written c.args.ad.now.words.now c.args.ad.now.bytes.now c.args.i c.args.at _ (unary_from c.in-Unary.u (coded _ (K.Unary c.in-Unary.u) (sym c.kind.ensures ∙ c.unwrap.ensures ∙ ap Some c.in-Unary.is))) (unary_below c.in-Unary.u (coded _ (K.Unary c.in-Unary.u) (sym c.kind.ensures ∙ c.unwrap.ensures ∙ ap Some c.in-Unary.is))) _ _ _ _ (puts_as (ap unary_text (unary_is c.in-Unary.u (coded _ (K.Unary c.in-Unary.u) (sym c.kind.ensures ∙ c.unwrap.ensures ∙ ap Some c.in-Unary.is)))) c.put_unary-m.ensures) (written_as c.args.ad.now.words.now c.args.ad.now.bytes.now _ _ 7 7 c.operand.result (operand_at c.args.ad.now.words.now c.args.i 0) _ _ refl c.operand.ensures c.put_operand.ensures)

pub put_node-put_operand-m-requires : goal.put_node-put_operand-m-requires
put_node-put_operand-m-requires t c = (
  let h = three_falls c.args.ad.now.words.now c.args.ad.now.bytes.now c.args.i c.args.at c.args.out.now (coded _ K.Conditional (sym c.kind.ensures ∙ c.unwrap.ensures ∙ ap Some c.in-Conditional.is)) c.requires in omega (arith, ap (tree_size c.args.ad.now.words.now) c.operand-in-Conditional.ensures, c.decreases),
  fits_as c.args.ad.now.words.now c.args.ad.now.bytes.now 1 1 c.operand-in-Conditional.result (operand_at c.args.ad.now.words.now c.args.i 0) c.args.at refl c.operand-in-Conditional.ensures (three_fits_lem c.args.ad.now.words.now c.args.ad.now.bytes.now c.args.i c.args.at c.args.out.now (coded _ K.Conditional (sym c.kind.ensures ∙ c.unwrap.ensures ∙ ap Some c.in-Conditional.is)) c.requires),
)

pub put_node-put-n-requires : goal.put_node-put-n-requires
unfolding bytes
put_node-put-n-requires t c = three_near c.args.ad.now.words.now c.args.ad.now.bytes.now c.args.i c.args.at c.args.out.now (coded _ K.Conditional (sym c.kind.ensures ∙ c.unwrap.ensures ∙ ap Some c.in-Conditional.is)) c.requires _ _ (written_as c.args.ad.now.words.now c.args.ad.now.bytes.now _ _ 1 1 c.operand-in-Conditional.result (operand_at c.args.ad.now.words.now c.args.i 0) _ _ refl c.operand-in-Conditional.ensures c.put_operand-m.ensures)

pub put_node-put_node-p-requires : goal.put_node-put_node-p-requires
unfolding bytes
put_node-put_node-p-requires t c = (
  let h = three_falls c.args.ad.now.words.now c.args.ad.now.bytes.now c.args.i c.args.at c.args.out.now (coded _ K.Conditional (sym c.kind.ensures ∙ c.unwrap.ensures ∙ ap Some c.in-Conditional.is)) c.requires in omega (arith, ap (tree_size c.args.ad.now.words.now) c.operand-in-Conditional-2.ensures, c.decreases),
  tree_fits_as c.args.ad.now.words.now c.args.ad.now.bytes.now c.operand-in-Conditional-2.result (operand_at c.args.ad.now.words.now c.args.i 1) c.put-n.result c.operand-in-Conditional-2.ensures (three_second c.args.ad.now.words.now c.args.ad.now.bytes.now c.args.i c.args.at c.args.out.now (coded _ K.Conditional (sym c.kind.ensures ∙ c.unwrap.ensures ∙ ap Some c.in-Conditional.is)) c.requires _ _ (written_as c.args.ad.now.words.now c.args.ad.now.bytes.now _ _ 1 1 c.operand-in-Conditional.result (operand_at c.args.ad.now.words.now c.args.i 0) _ _ refl c.operand-in-Conditional.ensures c.put_operand-m.ensures) c.put-n.result c.put-n.ensures.behind),
)

pub put_node-put-q-requires : goal.put_node-put-q-requires
unfolding bytes
put_node-put-q-requires t c = three_near_2 c.args.ad.now.words.now c.args.ad.now.bytes.now c.args.i c.args.at c.args.out.now (coded _ K.Conditional (sym c.kind.ensures ∙ c.unwrap.ensures ∙ ap Some c.in-Conditional.is)) c.requires _ _ (written_as c.args.ad.now.words.now c.args.ad.now.bytes.now _ _ 1 1 c.operand-in-Conditional.result (operand_at c.args.ad.now.words.now c.args.i 0) _ _ refl c.operand-in-Conditional.ensures c.put_operand-m.ensures) _ _ c.put-n.result c.put_node-p.result c.put-n.ensures.behind (tree_written_as c.args.ad.now.words.now c.args.ad.now.bytes.now _ _ c.operand-in-Conditional-2.result (operand_at c.args.ad.now.words.now c.args.i 1) _ _ c.operand-in-Conditional-2.ensures c.put_node-p.ensures)

pub put_node-put_node-requires : goal.put_node-put_node-requires
unfolding bytes
put_node-put_node-requires t c = (
  let h = three_falls c.args.ad.now.words.now c.args.ad.now.bytes.now c.args.i c.args.at c.args.out.now (coded _ K.Conditional (sym c.kind.ensures ∙ c.unwrap.ensures ∙ ap Some c.in-Conditional.is)) c.requires in omega (arith, ap (tree_size c.args.ad.now.words.now) c.operand-in-Conditional-3.ensures, c.decreases),
  tree_fits_as c.args.ad.now.words.now c.args.ad.now.bytes.now c.operand-in-Conditional-3.result (operand_at c.args.ad.now.words.now c.args.i 2) c.put-q.result c.operand-in-Conditional-3.ensures (three_third c.args.ad.now.words.now c.args.ad.now.bytes.now c.args.i c.args.at c.args.out.now (coded _ K.Conditional (sym c.kind.ensures ∙ c.unwrap.ensures ∙ ap Some c.in-Conditional.is)) c.requires _ _ (written_as c.args.ad.now.words.now c.args.ad.now.bytes.now _ _ 1 1 c.operand-in-Conditional.result (operand_at c.args.ad.now.words.now c.args.i 0) _ _ refl c.operand-in-Conditional.ensures c.put_operand-m.ensures) _ _ c.put-n.result c.put_node-p.result c.put-n.ensures.behind (tree_written_as c.args.ad.now.words.now c.args.ad.now.bytes.now _ _ c.operand-in-Conditional-2.result (operand_at c.args.ad.now.words.now c.args.i 1) _ _ c.operand-in-Conditional-2.ensures c.put_node-p.ensures) c.put-q.result c.put-q.ensures.behind),
)

pub put_node-returns-in-Conditional : goal.put_node-returns-in-Conditional
unfolding bytes
put_node-returns-in-Conditional t c = three_written c.args.ad.now.words.now c.args.ad.now.bytes.now c.args.i c.args.at _ (coded _ K.Conditional (sym c.kind.ensures ∙ c.unwrap.ensures ∙ ap Some c.in-Conditional.is)) _ _ _ _ _ _ _ _ _ _ (written_as c.args.ad.now.words.now c.args.ad.now.bytes.now _ _ 1 1 c.operand-in-Conditional.result (operand_at c.args.ad.now.words.now c.args.i 0) _ _ refl c.operand-in-Conditional.ensures c.put_operand-m.ensures) c.put-n.ensures (tree_written_as c.args.ad.now.words.now c.args.ad.now.bytes.now _ _ c.operand-in-Conditional-2.result (operand_at c.args.ad.now.words.now c.args.i 1) _ _ c.operand-in-Conditional-2.ensures c.put_node-p.ensures) c.put-q.ensures (tree_written_as c.args.ad.now.words.now c.args.ad.now.bytes.now _ _ c.operand-in-Conditional-3.result (operand_at c.args.ad.now.words.now c.args.i 2) _ _ c.operand-in-Conditional-3.ensures c.put_node.ensures)

pub put_node-put_operand-m-requires-in-Binary : goal.put_node-put_operand-m-requires-in-Binary
put_node-put_operand-m-requires-in-Binary t c = (
  let h = two_falls c.args.ad.now.words.now c.args.ad.now.bytes.now c.args.i c.args.at c.args.out.now (binary_above c.in-Binary.j (coded _ (K.Binary c.in-Binary.j) (sym c.kind.ensures ∙ c.unwrap.ensures ∙ ap Some c.in-Binary.is))) c.requires in omega (arith, ap (tree_size c.args.ad.now.words.now) c.operand-in-Binary.ensures, c.decreases),
  fits_as c.args.ad.now.words.now c.args.ad.now.bytes.now c.binds-need.result (binds_of (binary_of (kind_at c.args.ad.now.words.now c.args.i))) c.operand-in-Binary.result (operand_at c.args.ad.now.words.now c.args.i 0) c.args.at (c.binds-need.ensures ∙ ap binds_of (binary_is c.in-Binary.j (coded _ (K.Binary c.in-Binary.j) (sym c.kind.ensures ∙ c.unwrap.ensures ∙ ap Some c.in-Binary.is)))) c.operand-in-Binary.ensures (two_fits c.args.ad.now.words.now c.args.ad.now.bytes.now c.args.i c.args.at c.args.out.now (binary_above c.in-Binary.j (coded _ (K.Binary c.in-Binary.j) (sym c.kind.ensures ∙ c.unwrap.ensures ∙ ap Some c.in-Binary.is))) c.requires),
)

pub put_node-put_binary-n-requires : goal.put_node-put_binary-n-requires
put_node-put_binary-n-requires t c = rw (binary_is c.in-Binary.j (coded _ (K.Binary c.in-Binary.j) (sym c.kind.ensures ∙ c.unwrap.ensures ∙ ap Some c.in-Binary.is))) (two_near c.args.ad.now.words.now c.args.ad.now.bytes.now c.args.i c.args.at c.args.out.now (binary_above c.in-Binary.j (coded _ (K.Binary c.in-Binary.j) (sym c.kind.ensures ∙ c.unwrap.ensures ∙ ap Some c.in-Binary.is))) c.requires _ _ (written_as c.args.ad.now.words.now c.args.ad.now.bytes.now _ _ c.binds-need.result (binds_of (binary_of (kind_at c.args.ad.now.words.now c.args.i))) c.operand-in-Binary.result (operand_at c.args.ad.now.words.now c.args.i 0) _ _ (c.binds-need.ensures ∙ ap binds_of (binary_is c.in-Binary.j (coded _ (K.Binary c.in-Binary.j) (sym c.kind.ensures ∙ c.unwrap.ensures ∙ ap Some c.in-Binary.is)))) c.operand-in-Binary.ensures c.put_operand-m-in-Binary.ensures))

pub put_node-put_operand-requires-in-Binary : goal.put_node-put_operand-requires-in-Binary
put_node-put_operand-requires-in-Binary t c = (
  let h = two_falls c.args.ad.now.words.now c.args.ad.now.bytes.now c.args.i c.args.at c.args.out.now (binary_above c.in-Binary.j (coded _ (K.Binary c.in-Binary.j) (sym c.kind.ensures ∙ c.unwrap.ensures ∙ ap Some c.in-Binary.is))) c.requires in omega (arith, ap (tree_size c.args.ad.now.words.now) c.operand-in-Binary-2.ensures, c.decreases),
  fits_as c.args.ad.now.words.now c.args.ad.now.bytes.now (c.binds-need.result + 1) (binds_of (binary_of (kind_at c.args.ad.now.words.now c.args.i)) + 1) c.operand-in-Binary-2.result (operand_at c.args.ad.now.words.now c.args.i 1) c.put_binary-n.result (ap (λ (u : ℕ). u + 1) (c.binds-need.ensures ∙ ap binds_of (binary_is c.in-Binary.j (coded _ (K.Binary c.in-Binary.j) (sym c.kind.ensures ∙ c.unwrap.ensures ∙ ap Some c.in-Binary.is))))) c.operand-in-Binary-2.ensures (two_second c.args.ad.now.words.now c.args.ad.now.bytes.now c.args.i c.args.at c.args.out.now (binary_above c.in-Binary.j (coded _ (K.Binary c.in-Binary.j) (sym c.kind.ensures ∙ c.unwrap.ensures ∙ ap Some c.in-Binary.is))) c.requires _ _ (written_as c.args.ad.now.words.now c.args.ad.now.bytes.now _ _ c.binds-need.result (binds_of (binary_of (kind_at c.args.ad.now.words.now c.args.i))) c.operand-in-Binary.result (operand_at c.args.ad.now.words.now c.args.i 0) _ _ (c.binds-need.ensures ∙ ap binds_of (binary_is c.in-Binary.j (coded _ (K.Binary c.in-Binary.j) (sym c.kind.ensures ∙ c.unwrap.ensures ∙ ap Some c.in-Binary.is)))) c.operand-in-Binary.ensures c.put_operand-m-in-Binary.ensures) c.put_binary-n.result (c.put_binary-n.ensures.behind ∙ ap (λ (u : Binary). c.put_operand-m-in-Binary.result + length (32 ∷ (binary_text u ++ 32 ∷ []))) (binary_is c.in-Binary.j (coded _ (K.Binary c.in-Binary.j) (sym c.kind.ensures ∙ c.unwrap.ensures ∙ ap Some c.in-Binary.is))))),
)

pub put_node-returns-in-Binary : goal.put_node-returns-in-Binary
put_node-returns-in-Binary t c = two_written c.args.ad.now.words.now c.args.ad.now.bytes.now c.args.i c.args.at _ (binary_above c.in-Binary.j (coded _ (K.Binary c.in-Binary.j) (sym c.kind.ensures ∙ c.unwrap.ensures ∙ ap Some c.in-Binary.is))) _ _ _ _ _ _ (written_as c.args.ad.now.words.now c.args.ad.now.bytes.now _ _ c.binds-need.result (binds_of (binary_of (kind_at c.args.ad.now.words.now c.args.i))) c.operand-in-Binary.result (operand_at c.args.ad.now.words.now c.args.i 0) _ _ (c.binds-need.ensures ∙ ap binds_of (binary_is c.in-Binary.j (coded _ (K.Binary c.in-Binary.j) (sym c.kind.ensures ∙ c.unwrap.ensures ∙ ap Some c.in-Binary.is)))) c.operand-in-Binary.ensures c.put_operand-m-in-Binary.ensures) (puts_as (ap (λ (u : Binary). 32 ∷ (binary_text u ++ 32 ∷ [])) (binary_is c.in-Binary.j (coded _ (K.Binary c.in-Binary.j) (sym c.kind.ensures ∙ c.unwrap.ensures ∙ ap Some c.in-Binary.is)))) c.put_binary-n.ensures) (written_as c.args.ad.now.words.now c.args.ad.now.bytes.now _ _ (c.binds-need.result + 1) (binds_of (binary_of (kind_at c.args.ad.now.words.now c.args.i)) + 1) c.operand-in-Binary-2.result (operand_at c.args.ad.now.words.now c.args.i 1) _ _ (ap (λ (u : ℕ). u + 1) (c.binds-need.ensures ∙ ap binds_of (binary_is c.in-Binary.j (coded _ (K.Binary c.in-Binary.j) (sym c.kind.ensures ∙ c.unwrap.ensures ∙ ap Some c.in-Binary.is))))) c.operand-in-Binary-2.ensures c.put_operand-in-Binary.ensures)
