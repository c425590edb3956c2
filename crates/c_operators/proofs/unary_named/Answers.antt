-- `c_operators::unary_named` meets its contract. Assumes nothing.
use Rattle.std.proofs.Common.{sym, ap, ◌∙◌, Some}
use Rattle.std.proofs.lemmas.Option.{none-some, same_Some}
use Rattle.ad.specs.declared.kind.Kind.TheVariants as K
use Rattle.c_operators.proofs.Naming.{one_named, no_one}
use Rattle.c_operators.proofs.unary_named.Goals as goal

pub returns-in_err-op : goal.returns-in_err-op
returns-in_err-op c =
    c.from_residual.ensures
    ∙ no_one c.args.kind (λ j e. none-some (K.Unary j) (sym c.in_err-op.was ∙ c.ok.ensures.value ∙ c.try_from.ensures ∙ e))

pub returns-in-Unary : goal.returns-in-Unary
returns-in-Unary c =
    one_named c.args.kind c.in-Unary.op
    (sym c.try_from.ensures ∙ sym c.ok.ensures.value ∙ c.in_ok-op.was ∙ ap Some c.in-Unary.is)

pub returns-in_default : goal.returns-in_default
returns-in_default c =
    no_one c.args.kind (λ j e. c.in_default.not-Unary j
    (same_Some c.in_ok-op.field-0 (K.Unary j) (sym c.in_ok-op.was ∙ c.ok.ensures.value ∙ c.try_from.ensures ∙ e)))
