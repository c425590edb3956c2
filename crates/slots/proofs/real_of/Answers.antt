-- `slots::real_of` meets its contract. Assumes nothing.
use mathlib.Core.Path.{sym, ◌∙◌}
use native.Mathlib.Omega.{arith}
use Rattle.slots.proofs.Nan.{no_nan_bits, of_nan_bits}
use Rattle.slots.proofs.real_of.Goals as goal

pub float_from_bits-result : goal.float_from_bits-result
float_from_bits-result c = no_nan_bits c.args.p c.if-p-le9218868437227405312.true

pub returns-else-p-le9218868437227405312 : goal.returns-else-p-le9218868437227405312
returns-else-p-le9218868437227405312 c =
    of_nan_bits 9221120237041090560 (omega arith) ∙ sym (of_nan_bits c.args.p c.if-p-le9218868437227405312.false)
