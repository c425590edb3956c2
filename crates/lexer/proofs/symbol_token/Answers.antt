use native.Mathlib.Omega.{arith}
use Rattle.lexer.proofs.Laws.{symbol_placed, symbol_bad}
use Rattle.lexer.proofs.symbol_token.Goals as goal

pub overflow_add-result : goal.overflow_add-result
overflow_add-result c = let f = (rw c.in-Some-Operator.field-0-is at c.in-Some-Operator.ensures.fits) in omega arith

pub overflow_add-result-in-Some-Symbol : goal.overflow_add-result-in-Some-Symbol
overflow_add-result-in-Some-Symbol c = let f = (rw c.in-Some-Symbol.field-0-is at c.in-Some-Symbol.ensures.fits) in omega arith

pub returns-in-Some-Operator : goal.returns-in-Some-Operator
returns-in-Some-Operator c = let f = (rw c.in-Some-Operator.field-0-is at c.in-Some-Operator.ensures.fits) in
    record {
      means_it = symbol_placed c.args.text.now c.args.start _ _ f.0 f.1
          (rw c.in-Some-Operator.field-0-is at c.in-Some-Operator.ensures.front);
      lies = (omega arith, omega arith, f.1);
    }

pub returns-in-Some-Symbol : goal.returns-in-Some-Symbol
returns-in-Some-Symbol c = let f = (rw c.in-Some-Symbol.field-0-is at c.in-Some-Symbol.ensures.fits) in
    record {
      means_it = symbol_placed c.args.text.now c.args.start _ _ f.0 f.1
          (rw c.in-Some-Symbol.field-0-is at c.in-Some-Symbol.ensures.front);
      lies = (omega arith, omega arith, f.1);
    }

pub returns-in-None : goal.returns-in-None
returns-in-None c = record {
  means_it = symbol_bad c.args.text.now c.args.start (rw c.in-None.is at c.sign_at.ensures.front);
  lies = tt;
}
