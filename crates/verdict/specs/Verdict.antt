-- When two values are a match, and the rank that a value gives. Assumes nothing.
use Rattle.std.specs.Prelude.{ℕ, ◌-◌, ◌^◌, Bool, false, cond, ltb}
use Rattle.integers.specs.Integers.{width}
use Rattle.values.specs.declared.Value.{Value}
use Rattle.values.specs.Values.{kinds}

-- 'Matched: both Requirements are true, nothing else.'
abbrev pub is_true : Value → Bool
is_true = kinds false false (λ b. b) (λ x. false) (λ x. false) (λ side offset length. false)

-- 'A rank is the Integer if it is 0 or more, otherwise 0 (also for Real, or no Rank at all)'
abbrev pub rank_of : Value → ℕ
rank_of = kinds 0 0 (λ b. 0) (λ x. cond (ltb x (2 ^ (width - 1))) x 0) (λ x. 0) (λ side offset length. 0)
