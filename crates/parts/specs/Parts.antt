-- Where a part of a slice begins. Assumes nothing.
use Rattle.std.specs.Prelude.{ℕ, ◌+◌, min, ◌≡◌, List, length}
use Rattle.std.specs.Borrow.{Bor}

-- r begins at a byte of the memory m, where .ref_ptr is a block of memory and a number of bytes there: 'a part of that ad's lent memory'. A
-- place beyond the memory is cut to its end.
abbrev pub PartFrom : Bor (List ℕ) → ℕ → Bor (List ℕ) → Type 0
PartFrom m offset r = r.ref_ptr ≡ (m.ref_ptr.0, min offset (length m.now) + m.ref_ptr.1)
