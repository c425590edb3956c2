use Rattle.std.proofs.Common.{◌≡◌, ℕ, false, get_or, ap, sym, ◌∙◌, arith}
use Rattle.text.specs.Strings.{same_name}
use Rattle.ad.specs.Stored.{bytes_at, offset_at, length_at}
use Rattle.links.specs.Laws.Numbering.{definitions_fit}
use Rattle.lookup.proofs.Reading.{named_not, sought_first, sought_next, sought_found, sought_none, root_small}
use Rattle.lookup.proofs.find_name.Goals.{else-prints-print_at-via-then-prints-print_at+else-has_name, else-prints-print_at-via-else-prints-print_at}
use Rattle.lookup.proofs.find_name.Goals as goal

pub loop-j-init : goal.loop-j-init
loop-j-init c = sought_first _ _ _ _ c.args.side.measured.definitions_are

pub print_at-requires : goal.print_at-requires
print_at-requires c = omega (arith, definitions_fit c.args.side.measured)

pub has_name-requires : goal.has_name-requires
has_name-requires c = omega (arith, definitions_fit c.args.side.measured)

pub root-requires : goal.root-requires
root-requires c = omega (arith, definitions_fit c.args.side.measured)

pub numbered-requires : goal.numbered-requires
numbered-requires c = root_small c.args.side.measured c.loop-j-test.true c.root.ensures

pub returns-then-has_name-clause-found : goal.returns-then-has_name-clause-found
returns-then-has_name-clause-found c =
    sought_found _ _ _ _ c.args.side.measured.definitions_are _ c.loop-j.invariant c.args.second c.loop-j-test.true
    (sym c.if-has_name.true ∙ c.has_name.ensures) c.root.ensures c.numbered.ensures.value

pub loop-j-preserved : goal.loop-j-preserved
loop-j-preserved c =
    let s = c.args.side in
    let other : false ≡ same_name (bytes_at s.ad.bytes.now (offset_at s.ad.words.now c.loop-j.j) (length_at s.ad.words.now c.loop-j.j)) c.args.name.now =
    elim c.else-prints-print_at.branch [
      | else-prints-print_at-via-then-prints-print_at+else-has_name w ↦ sym w.if-has_name.false ∙ w.has_name.ensures
      | else-prints-print_at-via-else-prints-print_at w ↦
          named_not _ _ (ap (λ (u : ℕ). get_or c.args.prints.now u 0) c.print_at.ensures.value ∙ c.requires.0 _ (omega (arith, s.measured.definitions_are)))
          c.fingerprint-print.ensures w.if-prints-print_at.false
    ] in
    sought_next _ _ _ _ s.measured.definitions_are _ c.loop-j.invariant c.loop-j-test.true other

pub returns-clause-found : goal.returns-clause-found
returns-clause-found c = sought_none _ _ _ _ c.args.side.measured.definitions_are _ c.loop-j.invariant c.args.second (omega arith)
