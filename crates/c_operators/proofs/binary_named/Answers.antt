-- `c_operators::binary_named` meets its contract. Assumes nothing.
use Rattle.std.proofs.Common.{sym, ap, ◌∙◌, Some}
use Rattle.std.proofs.lemmas.Option.{none-some, same_Some}
use Rattle.ad.specs.declared.kind.Kind.TheVariants as K
use Rattle.c_operators.proofs.Naming.{two_named, no_two}
use Rattle.c_operators.proofs.binary_named.Goals as goal

pub returns-in_err-op : goal.returns-in_err-op
returns-in_err-op c =
    c.from_residual.ensures
    ∙ no_two c.args.kind (λ j e. none-some (K.Binary j) (sym c.in_err-op.was ∙ c.ok.ensures.value ∙ c.try_from.ensures ∙ e))

pub returns-in-Binary : goal.returns-in-Binary
returns-in-Binary c =
    two_named c.args.kind c.in-Binary.op
    (sym c.try_from.ensures ∙ sym c.ok.ensures.value ∙ c.in_ok-op.was ∙ ap Some c.in-Binary.is)

pub returns-in_default : goal.returns-in_default
returns-in_default c =
    no_two c.args.kind (λ j e. c.in_default.not-Binary j
    (same_Some c.in_ok-op.field-0 (K.Binary j) (sym c.in_ok-op.was ∙ c.ok.ensures.value ∙ c.try_from.ensures ∙ e)))
