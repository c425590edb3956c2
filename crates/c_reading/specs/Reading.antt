-- What `classad_read` gives: reading's own contract, and its answer as three numbers. s is the text, w and b are the words and
-- bytes of the ad's memory, w' and b' those after it. Assumes nothing.
use Rattle.std.specs.Prelude.{ℕ, ◌≡◌, Result, Ok, Err, List, [], ◌∷◌}
use Rattle.syntax.specs.Refusals.{number_of}
use Rattle.syntax.specs.declared.Refusal.{Refusal}
use Rattle.ad.specs.declared.Counts.{Counts}
use Rattle.reader.specs.Content.{Answered, answer}

-- 0, the definitions and the nodes; or the refusal's number, the byte's place and 0 (docs/LAYOUT.md): 'accepted with its counts, or
-- refused with number and byte place'
abbrev pub numbers_of : Result Counts Refusal → List ℕ
numbers_of (Ok c) = 0 ∷ c.definitions ∷ c.nodes ∷ []
numbers_of (Err r) = number_of r.reason ∷ r.place ∷ 0 ∷ []

-- THE CONTRACT OF `classad_read`: n are the three numbers after it. 'Every public function says what it returns and what each
-- lent slice then holds, whatever came in, refused calls too'
pub record Reported (s w b w' b' n : List ℕ) : Type 0 where
  pub reads : Answered s w b w' b' (answer s w b)
  pub tells : n ≡ numbers_of (answer s w b)
