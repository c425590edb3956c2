-- The step and the run as functions on tables. A table gives each node its slot; S are the slots, of which one is blank and the others
-- hold a value; `seen` is the value that a step reads in a slot. Assumes nothing.
use Rattle.std.specs.Prelude.{◌≡◌, ◌⊎◌, List, [], ◌∷◌, map, ℕ, take, drop}
use Rattle.graph.specs.Members.{◌∈◌, put}
use Rattle.valuation.specs.Gives.{Gives}

module _ {A S : Type 0} (held : A → S) (seen : S → A) (need : ℕ → List ℕ) (rule : ℕ → List A → A) where
  -- THE STEP: 'whatever values, right or wrong, the slots of the node's needs hold, it puts into the node's slot what the rules make of
  -- them, and changes no other slot'
  unfoldable pub step_table : (ℕ → S) → ℕ → ℕ → S
  step_table t x = put t x (held (rule x (map (λ y. seen (t y)) (need x))))

  -- a step for each entry: 'in the list's order, over the table as the step before left it'
  unfoldable pub steps : List ℕ → (ℕ → S) → ℕ → S
  steps [] t = t
  steps (x ∷ xs) t = steps xs (step_table t x)

  -- THE RUN: 'The run starts at any entry: .. it makes one step for each further entry .. until the budget or the list ends'; l is the
  -- list, and the first k entries are passed over
  abbrev pub run_from : List ℕ → ℕ → ℕ → (ℕ → S) → ℕ → S
  run_from l k budget t = steps (take budget (drop k l)) t

  -- What a run comes to, over any table: 'This is one claim about the whole run, and not one for each step.' The slot of each entry
  -- worked out holds what the rules make of what the slots of its needs then hold, and 'Nothing else writes the table meanwhile'.
  pub record Settled (l : List ℕ) (k budget : ℕ) (before after : ℕ → S) : Type 0 where
    -- an entry worked out: 'it puts into the node's slot what the rules make of them'
    pub worked : (x : ℕ) → x ∈ take budget (drop k l) → after x ≡ held (rule x (map (λ y. seen (after y)) (need x)))
    -- any other node: 'changes no other slot'
    pub others : (x : ℕ) → ¬ (x ∈ take budget (drop k l)) → after x ≡ before x
    -- what an entry needs stands before it in the list: 'To enter a node not yet in the list is to enter what it needs, .. and
    -- then at once the node itself'
    pub needed : (x y : ℕ) → x ∈ take budget (drop k l) → y ∈ need x → (y ∈ take k l) ⊎ (y ∈ take budget (drop k l))

  -- What a match's run comes to: 'A match is this run at k = 0 from a blank table'; 'slots not worked out are blank'
  pub record Ran (blank : S) (l : List ℕ) (budget : ℕ) (after : ℕ → S) : Type 0 where
    -- 'A node's value is what the rules make of the values of its needs'
    pub holds : (x : ℕ) → x ∈ take budget l → (v : A) × Gives need rule x v × (after x ≡ held v)
    -- 'slots not worked out are blank'
    pub blanks : (x : ℕ) → ¬ (x ∈ take budget l) → after x ≡ blank
