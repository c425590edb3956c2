-- The graph of a pair of ads that is lent. Assumes nothing.
use Rattle.std.specs.Prelude.{Option, ℕ}
use Rattle.graph.specs.Graph.{Graph}
use Rattle.links.specs.Pair.{pair_graph}
use Rattle.links.specs.Inner.Asked.{RootMarks, mark_of}
use Rattle.links.specs.declared.pair.AdPair.{AdPair}
use Rattle.links.specs.declared.sides.Sides.{Sides}

-- the graph of the two ads
abbrev pub graph_of : AdPair → Graph
graph_of p = pair_graph p.first.ad.words.now p.first.ad.bytes.now p.second.ad.words.now p.second.ad.bytes.now

-- the same without the counts of the ads
abbrev pub graph_of_sides : Sides → Graph
graph_of_sides s = pair_graph s.first.words.now s.first.bytes.now s.second.words.now s.second.bytes.now

-- these are the roots of the four expressions that are entered
abbrev pub RootsOf : AdPair → (first_requirements second_requirements first_rank second_rank : Option ℕ) → Type 0
RootsOf p i j k l = RootMarks p.first.ad.words.now p.first.ad.bytes.now p.second.ad.words.now p.second.ad.bytes.now (mark_of i) (mark_of j) (mark_of k) (mark_of l)
