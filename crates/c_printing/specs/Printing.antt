-- What `classad_print` and `classad_expression` give: printing's own contract, and its answer as two numbers. Assumes nothing.
use Rattle.std.specs.Prelude.{ℕ, Result, Ok, Err, ◌≡◌, List, [], ◌∷◌}
use Rattle.syntax.specs.Refusals.{number_of}
use Rattle.syntax.specs.declared.Refusal.{Refusal}
use Rattle.printer.specs.Prints.{PrintsText}
use Rattle.syntax.specs.Tree.{Ad}

-- 0 and the text's length, or the refusal's number and 0 (docs/LAYOUT.md): 'A refusal carries its number and a place, 0 for 1, 2, 10
-- and 11'
abbrev pub print_numbers : Result ℕ Refusal → List ℕ
print_numbers (Ok n) = 0 ∷ n ∷ []
print_numbers (Err r) = number_of r.reason ∷ 0 ∷ []

-- THE CONTRACT OF `classad_print`, and of `classad_expression`, by the text t that is to be written of an ad: o' is the output and n are
-- the two numbers after it. 'Every public function says what it returns and what each lent slice then holds, whatever came in, refused
-- calls too'
pub record PrintReported (t : Ad → List ℕ) (w b o o' n : List ℕ) : Type 0 where
  pub answer : Result ℕ Refusal
  pub prints : PrintsText t w b o o' answer
  pub tells : n ≡ print_numbers answer
