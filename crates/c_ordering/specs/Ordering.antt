-- What `classad_dependencies` gives: the contract of the order, and its answer as numbers. Assumes nothing.
use Rattle.std.specs.Prelude.{ℕ, ◌≡◌, Result, Ok, Err, List, [], ◌∷◌}
use Rattle.ordering.specs.Ordering.{Ordered}
use Rattle.ordering.specs.declared.Order.{Order}
use Rattle.syntax.specs.Refusals.{number_of}
use Rattle.syntax.specs.declared.Refusal.{Refusal}

-- the refusal's number or 0, the transitions and the length of the list: 'its result carrying a count'
abbrev pub order_numbers : Result Order Refusal → List ℕ
order_numbers (Err r) = number_of r.reason ∷ 0 ∷ 0 ∷ []
order_numbers (Ok o) = 0 ∷ o.transitions ∷ o.length ∷ []

-- THE CONTRACT OF `classad_dependencies`: n are the three numbers after it. 'Every public function says what it returns and what each
-- lent slice then holds, whatever came in, refused calls too'
pub record OrderReported (v b w c flags list flags' list' n : List ℕ) : Type 0 where
  pub answer : Result Order Refusal
  pub orders : Ordered v b w c flags list flags' list' answer
  pub tells : n ≡ order_numbers answer
