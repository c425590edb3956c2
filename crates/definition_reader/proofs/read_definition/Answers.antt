use Rattle.std.proofs.Common.{arith, sym, ◌∙◌}
use Rattle.std.proofs.lemmas.Result.{err_from_is_err_and}
use Rattle.leaves.specs.Inner.Marks.{mark_at, memory}
use Rattle.leaves.proofs.Laws.{fewer_left}
use Rattle.syntax.specs.Token.{symbol}
use Rattle.syntax.specs.declared.Symbol.TheVariants.{Assign}
use Rattle.definition_reader.proofs.Laws.{definition_twice, definition_many, definition_assign, definition_refused, definition_done}
use Rattle.definition_reader.proofs.read_definition.Goals as goal

pub returns-then-defined-clause-exact : goal.returns-then-defined-clause-exact
returns-then-defined-clause-exact c =
    definition_twice c.args.text.now c.args.name.start c.args.name.end c.args.d (mark_at c.args.from) (memory c.args.words.now c.args.bytes.now) c.requires.1.1.few c.requires.1.1.words (omega (arith, c.requires.1.1.short, c.requires.1.1.place, c.requires.1.1.bytes)) (omega (arith, c.requires.0)) (memory c.args.words.now c.args.bytes.now) (sym c.if-defined.true ∙ c.defined.ensures)

pub returns-then-d-ge-DEFINITIONS-clause-exact : goal.returns-then-d-ge-DEFINITIONS-clause-exact
returns-then-d-ge-DEFINITIONS-clause-exact c =
    definition_many c.args.text.now c.args.name.start c.args.name.end c.args.d (mark_at c.args.from) (memory c.args.words.now c.args.bytes.now) c.requires.1.1.few c.requires.1.1.words (omega (arith, c.requires.1.1.short, c.requires.1.1.place, c.requires.1.1.bytes)) (omega (arith, c.requires.0)) (sym c.if-defined.false ∙ c.defined.ensures) (memory c.args.words.now c.args.bytes.now) c.if-d-ge-DEFINITIONS.true

pub returns-in_err-assign-clause-exact : goal.returns-in_err-assign-clause-exact
returns-in_err-assign-clause-exact c =
    let r = err_from_is_err_and c.from_residual.result c.from_residual.ensures.1 in
    rw (r.1, r.2) (definition_assign c.args.text.now c.args.name.start c.args.name.end c.args.d (mark_at c.args.from) (memory c.args.words.now c.args.bytes.now) c.requires.1.1.few c.requires.1.1.words (omega (arith, c.requires.1.1.short, c.requires.1.1.place, c.requires.1.1.bytes)) (omega (arith, c.requires.0)) (sym c.if-defined.false ∙ c.defined.ensures) c.if-d-ge-DEFINITIONS.false (memory c.args.words.now c.args.bytes.now) _ c.in_err-assign.ensures)

pub returns-in_err-done-clause-exact : goal.returns-in_err-done-clause-exact
returns-in_err-done-clause-exact c =
    let r = err_from_is_err_and c.from_residual-in_err-done.result c.from_residual-in_err-done.ensures.1 in
    rw (r.1, r.2) (definition_refused c.args.text.now c.args.name.start c.args.name.end c.args.d (mark_at c.args.from) (memory c.args.words.now c.args.bytes.now) c.requires.1.1.few c.requires.1.1.words (omega (arith, c.requires.1.1.short, c.requires.1.1.place, c.requires.1.1.bytes)) (omega (arith, c.requires.0)) (sym c.if-defined.false ∙ c.defined.ensures) c.if-d-ge-DEFINITIONS.false _ _ c.in_ok-assign.ensures c.requires.1.1.place _ c.copy.ensures (memory c.args.words.now c.args.bytes.now) (memory c.args.words.now c.args.bytes.now) _ c.in_err-done.ensures.exact)

pub returns-clause-within : goal.returns-clause-within
returns-clause-within c =
    let i = c.in_ok-done.ensures.within in
    let g = c.in_ok-assign.ensures in
    let f = fewer_left c.args.text.now _ _ _ (symbol Assign) g in
    (omega arith, i.high, omega arith, c.if-d-ge-DEFINITIONS.false, i.short, omega arith)

pub returns-clause-exact : goal.returns-clause-exact
returns-clause-exact c =
    let i = c.in_ok-done.ensures.within in
    definition_done c.args.text.now c.args.name.start c.args.name.end c.args.d (mark_at c.args.from) (memory c.args.words.now c.args.bytes.now) c.requires.1.1.few c.requires.1.1.words (omega (arith, c.requires.1.1.short, c.requires.1.1.place, c.requires.1.1.bytes)) (omega (arith, c.requires.0)) (sym c.if-defined.false ∙ c.defined.ensures) c.if-d-ge-DEFINITIONS.false _ _ c.in_ok-assign.ensures c.requires.1.1.place _ c.copy.ensures (memory c.read_conditional.new.words c.read_conditional.new.bytes) _ c.in_ok-done.done c.in_ok-done.ensures.exact (omega arith) (omega arith) c.store_definition.ensures
