-- The value of a node: what the rules make of the values of its needs, with no table. `need` is what each node needs, `rule` what its
-- rule makes of the values of those. Assumes nothing.
use Rattle.std.specs.Prelude.{◌≡◌, List, [], ◌∷◌, ℕ}

-- Give xs vs: the nodes xs have the values vs, one for each: 'A node's value is what the rules make of the values of its needs, no
-- table read.'
pub data Give {A : Type 0} (need : ℕ → List ℕ) (rule : ℕ → List A → A) : List ℕ → List A → Type 0 where
  nil : Give need rule [] []
  cons : {x : ℕ} {xs : List ℕ} {us vs : List A} →
      Give need rule (need x) us →
      Give need rule xs vs →
      Give need rule (x ∷ xs) (rule x us ∷ vs)

module _ {A : Type 0} (need : ℕ → List ℕ) (rule : ℕ → List A → A) where
  -- x has the value v: 'what the rules make of the values of its needs'
  abbrev pub Gives : ℕ → A → Type 0
  Gives x v = (us : List A) × Give need rule (need x) us × (v ≡ rule x us)

-- x has a value, and one only: 'A node's value is ..'
pub record One {A : Type 0} (need : ℕ → List ℕ) (rule : ℕ → List A → A) (x : ℕ) : Type 0 where
  pub value : A
  pub given : Gives need rule x value
  pub only : (v : A) → Gives need rule x v → v ≡ value
