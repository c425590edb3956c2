-- `parts::cut` meets its contract. Assumes nothing.
use mathlib.Core.Path.{sym, ap}
use Prim.Native.Nat.{◌-◌}
use native.Mathlib.Nat.{add-sub_cancel_left, le_of_lt, min-eq_left, min-eq_right}
use native.Mathlib.Omega.{arith}
use lib.ListN.{length, drop, drop_of_length-le, length-drop}
use lib.Seq.{drop-length}
use Rattle.parts.proofs.Parts.{cut_none, cut_all, behind}
use Rattle.parts.proofs.cut.Goals as goal

pub returns-then-memory-offset : goal.returns-then-memory-offset
returns-then-memory-offset c = record {
  result_value = rw (drop-length c.args.memory.now, drop_of_length-le c.args.memory.now c.if-memory-offset.true)
      (cut_none (length c.args.memory.now - length c.args.memory.now) c.args.length);
  place = ap (behind c.args.memory.ref_ptr) (sym (min-eq_right c.if-memory-offset.true));
}

pub returns-then-length-memory : goal.returns-then-length-memory
returns-then-length-memory c = record {
  result_value = rw (add-sub_cancel_left c.args.offset c.args.length);
  place = ap (behind c.args.memory.ref_ptr) (sym
      (min-eq_left (le_of_lt c.if-memory-offset.false)));
}

pub returns : goal.returns
returns c = record {
  result_value = cut_all (drop c.args.offset c.args.memory.now) (length c.args.memory.now - c.args.offset) c.args.length (length-drop c.args.offset c.args.memory.now)
      (omega arith);
  place = ap (behind c.args.memory.ref_ptr) (sym
      (min-eq_left (le_of_lt c.if-memory-offset.false)));
}
