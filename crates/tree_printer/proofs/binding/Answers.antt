use Rattle.std.proofs.Common.{refl, ◌∙◌, ap, arith}
use Rattle.syntax.specs.Grammar.{binds_of}
use Rattle.ad.specs.Layout.{code_of}
use Rattle.tree_printer.proofs.Trees.{binds_leaf, binds_unary, binds_conditional, binds_binary, kind_low, unary_from, unary_below, binary_above, binary_is}
use Rattle.tree_printer.proofs.binding.Goals as goal

pub returns-in-Unary : goal.returns-in-Unary
returns-in-Unary c =
    let e = ap code_of c.in-Unary.is in
    binds_unary _ (unary_from c.in-Unary.field-0 e) (unary_below c.in-Unary.field-0 e)

pub returns-in-Conditional : goal.returns-in-Conditional
returns-in-Conditional c = binds_conditional _ (ap code_of c.in-Conditional.is)

pub returns-in-Binary : goal.returns-in-Binary
returns-in-Binary c =
    let e = ap code_of c.in-Binary.is in
    let h = binary_above c.in-Binary.j e in
    c.binds.ensures ∙ ap binds_of (binary_is c.in-Binary.j e) ∙ binds_binary _ (omega arith) (omega arith) (λ z. omega arith)

pub returns-in_default : goal.returns-in_default
returns-in_default c = binds_leaf _ (kind_low c.args.kind refl c.in_default.not-Unary c.in_default.not-Conditional c.in_default.not-Binary)
