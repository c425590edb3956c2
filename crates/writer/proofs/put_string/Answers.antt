use mathlib.Core.Path.{refl, ◌∙◌}
use Rattle.writer.proofs.Laws.{escaped_step, string_puts, length_string}
use Rattle.lexemes.proofs.Laws.{escaped_more}
use native.Mathlib.Omega.{arith}
use Rattle.writer.proofs.put_string.Goals as goal

pub overflow_add-m : goal.overflow_add-m
overflow_add-m c = let h = length_string c.args.s.now in
    omega (arith, c.requires)

pub loop-i-init : goal.loop-i-init
loop-i-init c = (omega arith, refl, refl, refl)

pub put_escaped-m-requires : goal.put_escaped-m-requires
put_escaped-m-requires c = let h = length_string c.args.s.now in
    let k = escaped_more c.args.s.now c.loop-i.i (omega arith) in
    omega (arith, c.requires, c.loop-i.invariant.1)

pub loop-i-preserved : goal.loop-i-preserved
loop-i-preserved c = let k = escaped_more c.args.s.now c.loop-i.i (omega arith) in (
  omega arith,
  omega (arith, c.loop-i.invariant.1, c.put_escaped-m.ensures.behind),
  omega arith,
  escaped_step c.args.s.now c.loop-i.out _ c.loop-i.i c.loop-i.m _ (omega arith)
      c.put_escaped-m.ensures
      ∙ c.loop-i.invariant.3,
)

pub overflow_add-result : goal.overflow_add-result
overflow_add-result c = let h = length_string c.args.s.now in
    omega (arith, c.requires, c.loop-i.invariant.1)

pub returns : goal.returns
returns c = string_puts c.args.s.now c.args.out.now _ c.loop-i.out _ c.args.at c.loop-i.i
    c.loop-i.m c.put_byte.ensures (omega arith) c.loop-i.invariant.3
    c.loop-i.invariant.1 c.put_byte-2.ensures
