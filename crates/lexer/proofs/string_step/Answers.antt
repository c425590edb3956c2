use Rattle.std.proofs.Common.{arith, sym, ◌∙◌}
use Rattle.lexer.proofs.Laws.{string_none, string_close, string_low, string_high, string_byte}
use Rattle.lexer.proofs.string_step.Goals as goal

pub returns-in_err-b : goal.returns-in_err-b
returns-in_err-b c = rw c.from_residual.ensures (string_none c.args.text.now c.args.i c.in_err-b.ensures.lookup.3)

pub returns-in-34 : goal.returns-in-34
returns-in-34 c = let f = c.in_ok-b.ensures.lookup.3 in string_close c.args.text.now c.args.i f.0 (sym (f.1 0) ∙ c.in-34.is)

pub returns-in-32-to-126 : goal.returns-in-32-to-126
returns-in-32-to-126 c =
    let f = c.in_ok-b.ensures.lookup.3 in
    let v = f.1 0 in
    (omega arith, omega arith, rw v (string_byte c.args.text.now c.args.i f.0 (λ e. omega arith) (λ e. omega arith) (omega arith) (omega arith)))

pub returns-in_default : goal.returns-in_default
returns-in_default c =
    let f = c.in_ok-b.ensures.lookup.3 in
    let v = f.1 0 in
    string_low c.args.text.now c.args.i f.0 (λ e. omega arith) (λ e. omega arith) (omega arith)

pub returns-in_default-2 : goal.returns-in_default-2
returns-in_default-2 c =
    let f = c.in_ok-b.ensures.lookup.3 in
    let v = f.1 0 in
    string_high c.args.text.now c.args.i f.0 (λ e. omega arith) (λ e. omega arith) (omega arith) (omega arith)
