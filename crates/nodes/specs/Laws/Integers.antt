-- An Integer literal's number is an Integer, by the width alone. Assumes nothing.
use Rattle.std.specs.Prelude.{ℕ, ◌-◌, ◌^◌, ◌≤◌, ◌≡◌, refl, pos}
use Rattle.std.proofs.Common.{arith, lt-ltb}
use Rattle.syntax.specs.Bounds.{max_integer}
use Rattle.integers.specs.Integers.{width, signed}

-- 'Integer: .. 0 to 2,147,483,647': the largest literal is the largest Integer of the width
pub largest_integer : max_integer ≡ 2 ^ (width - 1) - 1
largest_integer = refl

-- a literal's code stands for its number
pub integer_literal : (n : ℕ) → n ≤ max_integer → signed width n ≡ pos n
unfolding signed
integer_literal n h = rw (lt-ltb n (2 ^ (width - 1)) (omega arith))
