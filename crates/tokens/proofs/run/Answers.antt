use Rattle.std.proofs.Common.{ℕ, ap, ◌∙◌, arith}
use Rattle.std.proofs.Math.Seq.{slice}
use Rattle.tokens.specs.Inner.Meaning.{class_of}
use Rattle.tokens.proofs.Laws.{run_step, run_stop, run_end}
use Rattle.tokens.proofs.run.Goals as goal

pub returns-then-not-has : goal.returns-then-not-has
returns-then-not-has c = record {
  low = omega arith;
  high = omega arith;
  run = c.loop-i.invariant ∙ run_stop (class_of c.args.class) c.args.text.now c.args.at c.loop-i.i (omega arith) cc;
}

pub loop-i-preserved : goal.loop-i-preserved
loop-i-preserved c = c.loop-i.invariant ∙ run_step (class_of c.args.class) c.args.text.now c.args.at c.loop-i.i (omega arith) (omega arith) cc

pub returns : goal.returns
returns c = record {
  low = omega arith;
  high = omega arith;
  run = c.loop-i.invariant ∙ run_end (class_of c.args.class) c.args.text.now c.args.at c.loop-i.i (omega arith) ∙ ap (λ (i : ℕ). slice c.args.at i c.args.text.now) (omega arith);
}
