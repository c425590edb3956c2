-- Needs and rules of a pair of ads with its marks. Assumes nothing.
use Rattle.std.specs.Prelude.{ℕ, List}
use Rattle.values.specs.declared.Value.{Value}
use Rattle.links.specs.Graphs.{graph_of_sides}
use Rattle.evaluation.specs.Evaluation.{needed, rule_at}
use Rattle.evaluation.specs.declared.Marked.{Marked}

-- what a node needs, by the marks
abbrev pub needs_of : Marked → ℕ → List ℕ
needs_of m = needed (graph_of_sides m.sides) m.target.now m.flag.now

-- the rule of a node
abbrev pub rule_of_node : Marked → ℕ → List Value → Value
rule_of_node m = rule_at m.sides.first.words.now m.sides.first.bytes.now m.sides.second.words.now m.sides.second.bytes.now
