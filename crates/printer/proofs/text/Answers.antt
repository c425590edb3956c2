use mathlib.Core.Path.{refl, sym}
use lib.Seq.{length-take-le}
use Rattle.printer.proofs.Ads.{text_back, none_back}
use Rattle.printer.proofs.text.Goals as goal

pub slice_bounds-result-end : goal.slice_bounds-result-end
slice_bounds-result-end c = sym (length-take-le _ _ (text_back c.args.words.now c.args.bytes.now c.args.out.now
    c.print.new.out _ (rw c.in-Ok.is at c.print.ensures)).0)

pub returns-in-Ok : goal.returns-in-Ok
returns-in-Ok c = record {
  hands_back = (text_back c.args.words.now c.args.bytes.now c.args.out.now c.print.new.out _
      (rw c.in-Ok.is at c.print.ensures)).1;
  front = refl;
}

pub returns-in-Err : goal.returns-in-Err
returns-in-Err c = record {
  hands_back = none_back c.args.words.now c.args.bytes.now c.args.out.now c.print.new.out _
      (rw c.in-Err.is at c.print.ensures);
  front = refl;
}
