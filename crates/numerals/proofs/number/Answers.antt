use Rattle.std.proofs.Common.{arith, ap, ◌∙◌, ◌+◌}
use Rattle.text.specs.Parts.{part_slice}
use Rattle.tokens.proofs.Laws.{run_some}
use Rattle.numerals.specs.Inner.Meaning.{value_to}
use Rattle.numerals.proofs.Laws.{number_large, number_integer, number_long, number_real}
use Rattle.numerals.proofs.number.Goals as goal

pub returns-then-whole-gt-LARGEST_INTEGER : goal.returns-then-whole-gt-LARGEST_INTEGER
returns-then-whole-gt-LARGEST_INTEGER c =
    let e = c.value-whole.ensures ∙ ap (value_to 0) (part_slice c.args.text.now c.args.start c.run-point.result c.run-point.ensures.low) in
    record {
      means_it = number_large c.args.text.now c.args.start c.run-point.result c.fraction-end.result c.requires c.run-point.ensures c.fraction-end.ensures c.if-end-point.true (omega arith);
      lies = tt;
    }

pub returns-then-end-point : goal.returns-then-end-point
returns-then-end-point c =
    let e = c.value-whole.ensures ∙ ap (value_to 0) (part_slice c.args.text.now c.args.start c.run-point.result c.run-point.ensures.low) in
    let lt = run_some _ c.args.text.now c.args.start c.run-point.result c.requires c.run-point.ensures in
    record {
      means_it = number_integer c.args.text.now c.args.start c.run-point.result c.fraction-end.result c.requires c.run-point.ensures c.fraction-end.ensures c.if-end-point.true c.value-whole.result e c.if-whole-gt-LARGEST_INTEGER.false;
      lies = (omega arith, lt, omega arith);
    }

pub returns-then-point-start-gt-REAL_DIGITS : goal.returns-then-point-start-gt-REAL_DIGITS
returns-then-point-start-gt-REAL_DIGITS c = record {
  means_it = number_long c.args.text.now c.args.start c.run-point.result c.fraction-end.result c.requires c.run-point.ensures c.fraction-end.ensures (c.fraction-end.ensures.some c.if-end-point.false) c.if-point-start-gt-REAL_DIGITS.true;
  lies = tt;
}

pub returns : goal.returns
returns c =
    let e = c.value-whole.ensures ∙ ap (value_to 0) (part_slice c.args.text.now c.args.start c.run-point.result c.run-point.ensures.low) in
    let g = c.value-digits.ensures ∙ ap (value_to c.value-whole.result) (part_slice c.args.text.now (c.run-point.result + 1) c.fraction-end.result (omega arith)) in
    let lt = run_some _ c.args.text.now c.args.start c.run-point.result c.requires c.run-point.ensures in
    record {
      means_it = number_real c.args.text.now c.args.start c.run-point.result c.fraction-end.result c.requires c.run-point.ensures c.fraction-end.ensures (c.fraction-end.ensures.some c.if-end-point.false) c.value-whole.result c.value-digits.result c.if-point-start-gt-REAL_DIGITS.false e g;
      lies = (omega arith, omega arith, omega arith);
    }
