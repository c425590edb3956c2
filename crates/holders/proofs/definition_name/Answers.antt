-- `holders::definition_name` meets its contract. Assumes nothing.
use mathlib.Core.Path.{◌∙◌, sym, ap}
use Rattle.holders.specs.Holders.{holder_name}
use Rattle.holders.proofs.Holders.{holder_inside}
use Rattle.holders.proofs.definition_name.Goals as goal

pub invariant_of-ad : goal.invariant_of-ad
invariant_of-ad c = record {
  room = (holder_inside c.args.words.now c.args.node c.in-Some.j
      (sym c.definition_of.ensures ∙ c.in-Some.is)).1;
}

pub offset-requires : goal.offset-requires
offset-requires c = (holder_inside c.args.words.now c.args.node c.in-Some.j
    (sym c.definition_of.ensures ∙ c.in-Some.is)).0

pub name_length-requires : goal.name_length-requires
name_length-requires c = (holder_inside c.args.words.now c.args.node c.in-Some.j
    (sym c.definition_of.ensures ∙ c.in-Some.is)).0

pub returns-in-None : goal.returns-in-None
returns-in-None c = ap (holder_name c.args.words.now c.args.bytes.now)
    (sym c.in-None.is ∙ c.definition_of.ensures)

pub returns-in-Some : goal.returns-in-Some
returns-in-Some c = c.cut.ensures.result_value
    ∙ (rw (c.offset.ensures, c.name_length.ensures) (ap (holder_name
    c.args.words.now c.args.bytes.now)
    (sym c.in-Some.is ∙ c.definition_of.ensures)))
