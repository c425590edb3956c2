-- Worked examples of rounding once: a tenth, both ties, and each edge of binary64. Assumes nothing.
use Rattle.std.specs.Prelude.{◌≡◌, refl, Bool, true, false, ℕ, ◌+◌, ◌-◌, ◌^◌, ◌<◌, pos, negsuc, Float}
use Rattle.std.proofs.Common.{subst, lit<}
use Rattle.std.specs.Float.{inf, fin, binary64}
use Rattle.std.specs.Float.Ieee.{round}
use Rattle.rounding.specs.Nearest.{overflow, Nearest}
use Rattle.rounding.proofs.Laws.Round.{round_nearest}

-- binary64 overflows at 2 ^ 1024 - 2 ^ 970
pub edge : overflow binary64 ≡ 2 ^ 1024 - 2 ^ 970
edge = refl

-- what `round` computes is the nearest value
at : (s : Bool) (num den : ℕ) (x : Float) → 0 < den → round binary64 s num den ≡ x → Nearest binary64 s num den x
at s num den x h e = subst (λ (y : Float). Nearest binary64 s num den y) e (round_nearest binary64 s num den h)

-- 0.1
pub tenth : Nearest binary64 false 1 10 (fin false 3602879701896397 (negsuc 54))
unfolding round
tenth = at false 1 10 (fin false 3602879701896397 (negsuc 54)) (lit< tt) refl

-- 2 ^ 53 + 1 and 2 ^ 53 + 3 are ties: the first goes down and the second up, to the even significand
pub tie_down : Nearest binary64 false (2 ^ 53 + 1) 1 (fin false 1 (pos 53))
unfolding round
tie_down = at false (2 ^ 53 + 1) 1 (fin false 1 (pos 53)) (lit< tt) refl

pub tie_up : Nearest binary64 true (2 ^ 53 + 3) 1 (fin true 2251799813685249 (pos 2))
unfolding round
tie_up = at true (2 ^ 53 + 3) 1 (fin true 2251799813685249 (pos 2)) (lit< tt) refl

-- the edge itself overflows, and the whole number before it is the largest value
pub to_infinity : Nearest binary64 false (2 ^ 1024 - 2 ^ 970) 1 (inf false)
unfolding round
to_infinity = at false (2 ^ 1024 - 2 ^ 970) 1 (inf false) (lit< tt) refl

pub to_largest : Nearest binary64 false (2 ^ 1024 - 2 ^ 970 - 1) 1 (fin false 9007199254740991 (pos 971))
unfolding round
to_largest = at false (2 ^ 1024 - 2 ^ 970 - 1) 1 (fin false 9007199254740991 (pos 971)) (lit< tt) refl

-- half of the smallest value underflows to a zero that keeps its sign, and three halves are twice the smallest
pub to_zero : Nearest binary64 true 1 (2 ^ 1075) (fin true 0 (pos 0))
unfolding round
to_zero = at true 1 (2 ^ 1075) (fin true 0 (pos 0)) (lit< tt) refl

pub to_two : Nearest binary64 false 3 (2 ^ 1075) (fin false 1 (negsuc 1072))
unfolding round
to_two = at false 3 (2 ^ 1075) (fin false 1 (negsuc 1072)) (lit< tt) refl

-- 5e-324 is the smallest value
pub smallest : Nearest binary64 false 5 (10 ^ 324) (fin false 1 (negsuc 1073))
unfolding round
smallest = at false 5 (10 ^ 324) (fin false 1 (negsuc 1073)) (lit< tt) refl
