use borrow.Author.Rules.{rules}
use native.Mathlib.Omega.{arith}
use Prim.Native.Nat.{suc, ◌+◌, ◌-◌}
use mathlib.Core.Path.{◌≡◌, sym, ap}
use lib.ListN.{length, take}
use Rattle.lines.specs.Inner.Feeds.{feeds_in}
use Rattle.lines.proofs.Counting.{no_feeds, first_few, block_fed, no_lines, lines_fed}
use Rattle.lines.proofs.count.Goals as goal

pub returns-then-text-eq0 : goal.returns-then-text-eq0
returns-then-text-eq0 c = sym (no_lines c.args.text.now c.if-text-eq0.true)

pub loop-i-init : goal.loop-i-init
loop-i-init c = (search rules, search rules, ap suc (sym no_feeds))

pub loop-i-preserved : goal.loop-i-preserved
loop-i-preserved c = let e = block_fed c.args.text.now c.loop-i.i (c.loop-i.i + 64) (omega arith) in
    let n : c.loop-i.n + c.feeds.result ≡ suc (feeds_in (take (c.loop-i.i + 64) c.args.text.now)) = omega (arith, c.feeds.ensures) in
    (search rules, omega (arith, first_few c.args.text.now (c.loop-i.i + 64)), n)

pub returns : goal.returns
returns c = let e = block_fed c.args.text.now c.loop-i.i (length c.args.text.now - 1) (omega arith) in
    let all = lines_fed c.args.text.now (length c.args.text.now - 1) (omega arith) in
    omega (arith, c.feeds-2.ensures)
