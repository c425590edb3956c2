use Rattle.std.proofs.Common.{ℕ, ap, sym, ◌∙◌}
use Rattle.std.specs.Result.{result_ok}
use Rattle.nodes.specs.Nodes.{node_of}
use Rattle.ad.specs.Laws.Coding.{coded}
use Rattle.nodes.proofs.Coding.{uncoded}
use Rattle.nodes.proofs.node_of.Goals as goal

pub returns-in-Ok : goal.returns-in-Ok
returns-in-Ok c =
    c.node_of_kind.ensures
    ∙ ap (λ (u : ℕ). node_of c.args.second u c.args.a c.args.b) (sym (coded c.args.kind _ (sym c.try_from.ensures ∙ ap result_ok c.in-Ok.is)))

pub returns-in-Err : goal.returns-in-Err
returns-in-Err c = uncoded c.args.second c.args.kind c.args.a c.args.b (sym c.try_from.ensures ∙ ap result_ok c.in-Err.is)
