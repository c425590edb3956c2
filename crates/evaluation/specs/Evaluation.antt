-- Step and run over two stored ads, their marks, the list and a table in lent memory. v and b are the words and bytes of the first ad,
-- w and c those of the second. Assumes nothing.
use Rattle.std.specs.Prelude.{ℕ, ◌-◌, ◌*◌, ◌+◌, ◌<◌, min, ◌≡◌, Bool, true, false, cond, List, [], ◌∷◌, map, length, take, drop}
use Rattle.ad.specs.Stored.{kind_at, operand_at}
use Rattle.graph.specs.Members.{numbers, raised}
use Rattle.graph.specs.Graph.{Graph}
use Rattle.graph.specs.Transition.{led}
use Rattle.links.specs.Pair.{both}
use Rattle.values.specs.declared.Value.{Value}
use Rattle.values.specs.declared.Value.TheVariants.{Undefined}
use Rattle.slots.specs.declared.Slot.{Slot}
use Rattle.slots.specs.declared.Slot.TheVariants.{Blank, Held}
use Rattle.slots.specs.Packed.{slot_at, put_at}
use Rattle.nodes.specs.declared.Node.{Node}
use Rattle.nodes.specs.Nodes.{node_of, rule_of}
use Rattle.valuation.specs.Run.{step_table, run_from}

-- what node i of an ad, the second or the first, is: 'A node is a literal, a reference or an operator.'
abbrev pub node_from : Bool → List ℕ → ℕ → Node
node_from second w i = node_of second (kind_at w i) (operand_at w i 0) (operand_at w i 1)

-- what the node x of a pair is: 'A node is a literal, a reference or an operator.' 'The two sides are distinct'
abbrev pub node_at : (v w : List ℕ) → ℕ → Node
node_at v w = both (node_from false v) (node_from true w)

-- the rule of the node x: 'what the rules make of the values of its needs'
unfoldable pub rule_at : (v b w c : List ℕ) → ℕ → List Value → Value
rule_at v b w c x = rule_of b c (node_at v w x)

-- the value that a step reads in a slot: 'Each slot of the table is blank or holds a value', and a blank one reads as Undefined
abbrev pub seen : Slot → Value
seen Blank = Undefined
seen (Held v) = v

-- what the node x needs, by its marks: 'Needs are the same links, but a circular reference needs nothing.'
unfoldable pub needed : Graph → (target flag : List ℕ) → ℕ → List ℕ
needed G target flag x = cond (raised flag x) [] (led G (numbers target) x)

-- the entries of the list in its room, each one more than its node: 'a list of 2,048 entries, each a side and a node'
unfoldable pub entries : ℕ → List ℕ → List ℕ
entries len list = map (λ e. e - 1) (take len list)

module _ (need : ℕ → List ℕ) (rule : ℕ → List Value → Value) where
  -- the words of a table after a step: 'it puts into the node's slot what the rules make of them, and changes no other slot'
  unfoldable pub step_words : List ℕ → ℕ → List ℕ
  step_words table x = put_at table x (Held (rule x (map (λ y. seen (slot_at table y)) (need x))))

  -- after a step for each entry: 'over the table as the step before left it'
  unfoldable pub steps_words : List ℕ → List ℕ → List ℕ
  steps_words [] table = table
  steps_words (x ∷ xs) table = steps_words xs (step_words table x)

  -- THE CONTRACT OF A STEP at x, over any table: 'it puts into the node's slot what the rules make of them, and changes no other
  -- slot'. Its words, and its slots where x has one
  pub record Stepped (x : ℕ) (before after : List ℕ) : Type 0 where
    -- all words of the table
    pub words : after ≡ step_words before x
    -- all slots: 'it puts into the node's slot what the rules make of them, and changes no other slot'
    pub slots : x * 2 + 1 < length before → slot_at after ≡ step_table Held seen need rule (slot_at before) x

  -- THE CONTRACT OF A RUN over the list l from entry k on, any table and any budget: 'until the budget or the list ends, and counts each'
  pub record RunTo (l : List ℕ) (k budget : ℕ) (before after : List ℕ) (count : ℕ) : Type 0 where
    -- 'until the budget or the list ends, and counts each'
    pub counts : count ≡ min budget (length l - k)
    -- all words of the table: 'over the table as the step before left it'
    pub words : after ≡ steps_words (take budget (drop k l)) before
    -- all slots: 'it makes one step for each further entry in the list's order'
    pub slots : slot_at after ≡ run_from Held seen need rule l k budget (slot_at before)
