use Rattle.std.proofs.Common.{Some, sym, ◌∙◌, ap}
use Rattle.ad.specs.declared.kind.Kind.TheVariants as K
use Rattle.tree_check.proofs.Tests.{leaf_third, leaf_is, leaf_none, leaf_not, leaf_undefined, leaf_error, leaf_boolean, leaf_integer, leaf_real, leaf_string, leaf_own, leaf_other}
use Rattle.tree_check.proofs.leaf_walk.Goals as goal

pub returns-then-operand-ne0 : goal.returns-then-operand-ne0
returns-then-operand-ne0 c = leaf_third c.args.ad.words.now c.args.ad.bytes.now c.args.i c.args.o _ _ c.operand-x.ensures c.operand-y.ensures _ c.operand.ensures c.if-operand-ne0.true

pub returns-in-Undefined : goal.returns-in-Undefined
returns-in-Undefined c = leaf_is c.args.ad.words.now c.args.ad.bytes.now c.args.i c.args.o _ _ c.operand-x.ensures c.operand-y.ensures _ c.operand.ensures c.if-operand-ne0.false K.Undefined c.keyword_walk.result
    (sym c.kind.ensures ∙ c.in_ok-kind.was ∙ ap Some c.in-Undefined.is)
    (leaf_undefined c.args.ad.bytes.now c.args.o c.operand-x.result c.operand-y.result c.keyword_walk.result c.keyword_walk.ensures)

pub returns-in-Error : goal.returns-in-Error
returns-in-Error c = leaf_is c.args.ad.words.now c.args.ad.bytes.now c.args.i c.args.o _ _ c.operand-x.ensures c.operand-y.ensures _ c.operand.ensures c.if-operand-ne0.false K.Error c.keyword_walk-in-Error.result
    (sym c.kind.ensures ∙ c.in_ok-kind.was ∙ ap Some c.in-Error.is)
    (leaf_error c.args.ad.bytes.now c.args.o c.operand-x.result c.operand-y.result c.keyword_walk-in-Error.result c.keyword_walk-in-Error.ensures)

pub returns-in-Boolean : goal.returns-in-Boolean
returns-in-Boolean c = leaf_is c.args.ad.words.now c.args.ad.bytes.now c.args.i c.args.o _ _ c.operand-x.ensures c.operand-y.ensures _ c.operand.ensures c.if-operand-ne0.false K.Boolean c.boolean_walk.result
    (sym c.kind.ensures ∙ c.in_ok-kind.was ∙ ap Some c.in-Boolean.is)
    (leaf_boolean c.args.ad.bytes.now c.args.o c.operand-x.result c.operand-y.result c.boolean_walk.result c.boolean_walk.ensures)

pub returns-in-Integer : goal.returns-in-Integer
returns-in-Integer c = leaf_is c.args.ad.words.now c.args.ad.bytes.now c.args.i c.args.o _ _ c.operand-x.ensures c.operand-y.ensures _ c.operand.ensures c.if-operand-ne0.false K.Integer c.integer_walk.result
    (sym c.kind.ensures ∙ c.in_ok-kind.was ∙ ap Some c.in-Integer.is)
    (leaf_integer c.args.ad.bytes.now c.args.o c.operand-x.result c.operand-y.result c.integer_walk.result c.integer_walk.ensures)

pub returns-in-Real : goal.returns-in-Real
returns-in-Real c = leaf_is c.args.ad.words.now c.args.ad.bytes.now c.args.i c.args.o _ _ c.operand-x.ensures c.operand-y.ensures _ c.operand.ensures c.if-operand-ne0.false K.Real c.real_walk.result
    (sym c.kind.ensures ∙ c.in_ok-kind.was ∙ ap Some c.in-Real.is)
    (leaf_real c.args.ad.bytes.now c.args.o c.operand-x.result c.operand-y.result c.real_walk.result c.real_walk.ensures)

pub returns-in-String : goal.returns-in-String
returns-in-String c = leaf_is c.args.ad.words.now c.args.ad.bytes.now c.args.i c.args.o _ _ c.operand-x.ensures c.operand-y.ensures _ c.operand.ensures c.if-operand-ne0.false K.String c.string_walk.result
    (sym c.kind.ensures ∙ c.in_ok-kind.was ∙ ap Some c.in-String.is)
    (leaf_string c.args.ad.bytes.now c.args.o c.operand-x.result c.operand-y.result c.string_walk.result c.string_walk.ensures)

pub returns-in-Own : goal.returns-in-Own
returns-in-Own c = leaf_is c.args.ad.words.now c.args.ad.bytes.now c.args.i c.args.o _ _ c.operand-x.ensures c.operand-y.ensures _ c.operand.ensures c.if-operand-ne0.false K.Own c.name_walk.result
    (sym c.kind.ensures ∙ c.in_ok-kind.was ∙ ap Some c.in-Own.is)
    (leaf_own c.args.ad.bytes.now c.args.o c.operand-x.result c.operand-y.result c.name_walk.result c.name_walk.ensures)

pub returns-in-Other : goal.returns-in-Other
returns-in-Other c = leaf_is c.args.ad.words.now c.args.ad.bytes.now c.args.i c.args.o _ _ c.operand-x.ensures c.operand-y.ensures _ c.operand.ensures c.if-operand-ne0.false K.Other c.name_walk-in-Other.result
    (sym c.kind.ensures ∙ c.in_ok-kind.was ∙ ap Some c.in-Other.is)
    (leaf_other c.args.ad.bytes.now c.args.o c.operand-x.result c.operand-y.result c.name_walk-in-Other.result c.name_walk-in-Other.ensures)

pub returns-in_default : goal.returns-in_default
returns-in_default c = leaf_not c.args.ad.words.now c.args.ad.bytes.now c.args.i c.args.o _ _ c.operand-x.ensures c.operand-y.ensures _ c.operand.ensures c.if-operand-ne0.false c.in_ok-kind.field-0 (sym c.kind.ensures ∙ c.in_ok-kind.was)
    c.in_default.not-Undefined c.in_default.not-Error c.in_default.not-Boolean c.in_default.not-Integer c.in_default.not-Real c.in_default.not-String c.in_default.not-Own c.in_default.not-Other

pub returns-in_err-kind : goal.returns-in_err-kind
returns-in_err-kind c = rw c.from_residual.ensures (leaf_none c.args.ad.words.now c.args.ad.bytes.now c.args.i c.args.o _ _ c.operand-x.ensures c.operand-y.ensures _ c.operand.ensures c.if-operand-ne0.false (sym c.kind.ensures ∙ c.in_err-kind.was))
