use Rattle.std.proofs.Common.{sym, ◌∙◌}
use Rattle.syntax.specs.Print.{printed_ad}
use Rattle.printer.proofs.Ads.{malformed_is, print_malformed, print_long, print_longer, print_fits, print_text}
use Rattle.printer.proofs.print_room.Goals as goal

pub returns-in_err-checked : goal.returns-in_err-checked
returns-in_err-checked c =
    let e = rw c.in_err-checked.was at c.ok_or.ensures.ok_part in
    let v = rw e at (sym c.in_err-checked.was ∙ c.ok_or.ensures.value) in
    rw (malformed_is c.from_residual.result _ (cc) c.from_residual.ensures.1)
    (print_malformed c.args.ad.words.now c.args.ad.bytes.now c.args.out.now c.requires.0 c.requires.1 printed_ad (rw e at c.check.ensures))

pub returns-then-out-k : goal.returns-then-out-k
returns-then-out-k c =
    let h = rw (rw c.in_ok-checked.was at c.ok_or.ensures.ok_part) at c.check.ensures in
    rw c.into.ensures (print_long c.args.ad.words.now c.args.ad.bytes.now c.args.out.now c.requires.0 c.requires.1 printed_ad c.in_ok-checked.checked.print_length c.in_ok-checked.checked h h.4 c.if-out-k.true)

pub returns-then-k-gt-TEXT_BYTES : goal.returns-then-k-gt-TEXT_BYTES
returns-then-k-gt-TEXT_BYTES c =
    let h = rw (rw c.in_ok-checked.was at c.ok_or.ensures.ok_part) at c.check.ensures in
    rw c.into-then-k-gt-TEXT_BYTES.ensures (print_longer c.args.ad.words.now c.args.ad.bytes.now c.args.out.now c.requires.0 c.requires.1 printed_ad c.in_ok-checked.checked.print_length c.in_ok-checked.checked h h.4 c.if-k-gt-TEXT_BYTES.true)

pub put_ad-requires : goal.put_ad-requires
put_ad-requires c =
    let h = rw (rw c.in_ok-checked.was at c.ok_or.ensures.ok_part) at c.check.ensures in
    print_fits c.args.ad.words.now c.args.ad.bytes.now c.args.out.now c.requires.0 c.requires.1 c.in_ok-checked.checked h c.if-k-gt-TEXT_BYTES.false

pub returns : goal.returns
returns c =
    let h = rw (rw c.in_ok-checked.was at c.ok_or.ensures.ok_part) at c.check.ensures in
    print_text c.args.ad.words.now c.args.ad.bytes.now c.args.out.now c.requires.0 c.requires.1 c.in_ok-checked.checked h _ c.if-out-k.false c.if-k-gt-TEXT_BYTES.false c.put_ad.ensures
