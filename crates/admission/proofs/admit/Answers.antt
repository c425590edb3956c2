use Rattle.std.proofs.Common.{sym, ◌∙◌}
use Rattle.std.proofs.lemmas.Result.{err_from_is_err_and}
use Rattle.admission.specs.Admission.{no_room, first_malformed, second_malformed}
use Rattle.admission.proofs.admit.Goals as goal

pub returns-then-too_small : goal.returns-then-too_small
returns-then-too_small c = no_room (sym c.too_small.ensures ∙ c.if-too_small.true)

pub returns-in_err-first : goal.returns-in_err-first
returns-in_err-first c =
    let r = err_from_is_err_and c.from_residual.result c.from_residual.ensures.1 in
    rw (r.1, r.2, c.in_err-first.ensures.1) (first_malformed (sym c.too_small.ensures ∙ c.if-too_small.false) c.in_err-first.ensures.0)

pub returns-in_err-second : goal.returns-in_err-second
returns-in_err-second c =
    let r = err_from_is_err_and c.from_residual-in_err-second.result c.from_residual-in_err-second.ensures.1 in
    rw (r.1, r.2, c.in_err-second.ensures.1) (second_malformed (sym c.too_small.ensures ∙ c.if-too_small.false) c.in_ok-first.ensures.0 c.in_err-second.ensures.0)
