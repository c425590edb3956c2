-- A part of a memory, cut to what is there. Assumes nothing.
use mathlib.Core.Path.{◌≡◌, sym, ◌∙◌}
use mathlib.Core.List.{List, []}
use Prim.Native.Nat.{ℕ, ◌+◌, ◌≤◌}
use native.Mathlib.Nat.{le_of_eq}
use lib.ListN.{length, take}
use lib.Seq.{take-nil, take_all}

-- no bytes are left, however many are asked
pub cut_none : (n m : ℕ) → ◌≡◌ {A = List ℕ} (take n []) (take m [])
cut_none n m = take-nil n ∙ sym (take-nil m)

-- as many as there are, or more
pub cut_all : (l : List ℕ) (n m : ℕ) → length l ≡ n → n ≤ m → take n l ≡ take m l
cut_all l n m e h = take_all n l (le_of_eq e) ∙ sym (take_all m l (rw e h))

-- n bytes behind the place p, which is a block of memory and a number of bytes there
abbrev pub behind : ℕ × ℕ → ℕ → ℕ × ℕ
behind p n = (p.0, n + p.1)
