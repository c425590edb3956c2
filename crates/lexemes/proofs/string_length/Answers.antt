use lib.ListN.{length-append}
use Rattle.syntax.specs.Print.{literal_text}
use Rattle.lexemes.proofs.Laws.{escaped_more, escaped_end}
use native.Mathlib.Omega.{arith}
use Rattle.lexemes.proofs.string_length.Goals as goal

pub loop-b-preserved : goal.loop-b-preserved
loop-b-preserved c = let m = escaped_more c.args.s.now c.loop-b.b-index (omega arith) in
    (omega arith, omega (arith, c.escaped_length-n.ensures.0, c.loop-b.invariant.1))

pub returns : goal.returns
unfolding literal_text
returns c = let m = escaped_end c.args.s.now c.loop-b.b-index (omega arith) in
    (simp length-append (omega (arith, c.loop-b.invariant.1)), omega arith)
