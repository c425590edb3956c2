use Rattle.std.proofs.Common.{ap, sym, refl, ◌∙◌, arith}
use Rattle.std.proofs.lemmas.Option.{same_Some}
use Rattle.ad.specs.Layout.{code_of}
use Rattle.ad.specs.Stored.{kind_of}
use Rattle.links.specs.Inner.Asked.{mark_of}
use Rattle.links.specs.Laws.Kinds.{kind_coded, kind_none}
use Rattle.links.specs.Laws.Numbering.{nodes_fit, found_own, found_other, found_none}
use Rattle.lookup.proofs.found_from.Goals as goal

pub kind-requires : goal.kind-requires
kind-requires c = omega (arith, nodes_fit c.args.side.measured, c.args.side.measured.nodes_are, c.requires.node)

pub returns-in_err-kind-clause-found : goal.returns-in_err-kind-clause-found
returns-in_err-kind-clause-found c = let n = kind_none _ c.kind.ensures c.in_err-kind.was in rw n.0 (ap mark_of c.from_residual.ensures)

pub reference_name-requires : goal.reference_name-requires
reference_name-requires c = omega (arith, nodes_fit c.args.side.measured, c.args.side.measured.nodes_are, c.requires.node)

pub reference_name-requires-in-Other : goal.reference_name-requires-in-Other
reference_name-requires-in-Other c = omega (arith, nodes_fit c.args.side.measured, c.args.side.measured.nodes_are, c.requires.node)

pub returns-in-Own-clause-found : goal.returns-in-Own-clause-found
returns-in-Own-clause-found c =
    found_own c.args.side.ad.words.now c.args.side.ad.bytes.now c.args.other.ad.words.now c.args.other.ad.bytes.now c.args.second c.args.i c.requires.node
    (kind_coded c.kind.ensures c.in_ok-kind.was) (ap code_of c.in-Own.is) c.reference_name.ensures c.find_name.ensures.found

pub returns-in-Other-clause-found : goal.returns-in-Other-clause-found
returns-in-Other-clause-found c =
    found_other c.args.side.ad.words.now c.args.side.ad.bytes.now c.args.other.ad.words.now c.args.other.ad.bytes.now c.args.second c.args.i c.requires.node
    (kind_coded c.kind.ensures c.in_ok-kind.was) (ap code_of c.in-Other.is) c.reference_name-in-Other.ensures refl c.find_name-in-Other.ensures.found

pub returns-in_default-clause-found : goal.returns-in_default-clause-found
unfolding kind_of
returns-in_default-clause-found c =
    found_none c.args.side.ad.words.now c.args.side.ad.bytes.now c.args.other.ad.words.now c.args.other.ad.bytes.now c.args.second c.args.i c.requires.node refl
    (λ q. c.in_default.not-Own (same_Some _ _ (sym c.in_ok-kind.was ∙ c.kind.ensures ∙ ap kind_of q)))
    (λ q. c.in_default.not-Other (same_Some _ _ (sym c.in_ok-kind.was ∙ c.kind.ensures ∙ ap kind_of q)))
