use Rattle.std.proofs.Common.{arith, sym, ◌∙◌, ap}
use Rattle.syntax.specs.Token.{escape_of}
use Rattle.lexer.proofs.Laws.{escaped_none, escaped_wrong, escaped_byte}
use Rattle.lexer.proofs.escaped_step.Goals as goal

pub returns-in_err-get : goal.returns-in_err-get
returns-in_err-get c = rw c.from_residual.ensures (escaped_none c.args.text.now c.args.i c.requires c.in_err-get.ensures.lookup.3)

pub returns-in_err-b : goal.returns-in_err-b
returns-in_err-b c =
    let f = c.in_ok-get.ensures.lookup.3 in
    rw c.from_residual-in_err-b.ensures (escaped_wrong c.args.text.now c.args.i c.requires f.0 (ap escape_of (sym (f.1 0)) ∙ c.in_err-b.ensures))

pub returns : goal.returns
returns c =
    let f = c.in_ok-get.ensures.lookup.3 in
    let e = c.in_ok-b.ensures in
    (omega arith, omega arith, escaped_byte c.args.text.now c.args.i c.in_ok-b.b c.requires f.0 (sym e.0 ∙ ap escape_of (f.1 0)) e.1)
