use mathlib.Core.Path.{refl, sym, ◌∙◌}
use Rattle.writer.proofs.Laws.{put_more, put_end}
use native.Mathlib.Omega.{arith}
use Rattle.writer.proofs.put.Goals as goal

pub loop-i-init : goal.loop-i-init
loop-i-init c = (omega arith, omega arith, refl, refl)

pub loop-i-preserved : goal.loop-i-preserved
loop-i-preserved c = (
  omega arith,
  omega arith,
  omega arith,
  put_more c.args.bytes.now c.loop-i.out _ c.loop-i.i c.loop-i.m (omega arith)
      c.put_byte.ensures
      ∙ c.loop-i.invariant.3,
)

pub shape_of-out : goal.shape_of-out
shape_of-out c = c.loop-i.invariant.2

pub returns : goal.returns
returns c = record {
  behind = (omega arith);
  written = sym (put_end c.args.bytes.now c.loop-i.out
      c.loop-i.i c.loop-i.m (omega arith))
      ∙ c.loop-i.invariant.3;
}
