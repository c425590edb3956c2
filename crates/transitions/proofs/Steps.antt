-- The facts by which a transition of two ads goes. Assumes nothing.
use mathlib.Core.Path.{◌≡◌, refl, sym, ap, subst}
use mathlib.Core.List.{List}
use Prim.Native.Nat.{ℕ, ◌+◌, ◌≤◌, ◌<◌}
use native.Mathlib.Omega.{arith}
use Rattle.std.proofs.Common.{Option, Some, None}
use lib.ListN.{length, get_or}
use Rattle.graph.specs.Graph.{Graph, Sound, Node}
use Rattle.graph.specs.Transition.{searches, start, led, needed, marked}
use Rattle.ad.specs.Stored.{node_count}
use Rattle.links.specs.Pair.{pair_graph}
use Rattle.links.specs.Graphs.{graph_of}
use Rattle.links.specs.Inner.Asked.{Stands, mark_of}
use Rattle.links.specs.declared.pair.AdPair.{AdPair}
use Rattle.links.specs.Laws.Soundness.{pair_sound}
use Rattle.graph.specs.Members.{numbers, raised}
use Rattle.marks.specs.Inner.Memory.{marks_room, nodes_of, AtStart}
use Rattle.links.specs.Laws.Numbering.{pair_size, stands_small, nodes_fit, needed_in}

-- a mark by the nodes that it names
pub mark_nodes : (o : Option ℕ) → mark_of o ≡ marked (nodes_of o)
mark_nodes None = refl
mark_nodes (Some y) = refl

module _ (p : AdPair) where
  pub sound : Sound (graph_of p)
  sound = pair_sound p.first.ad.words.now p.first.ad.bytes.now p.second.ad.words.now p.second.ad.bytes.now p.first.measured.formed p.second.measured.formed

  pub slots_are : (graph_of p).slots ≡ marks_room
  unfolding pair_graph
  slots_are = refl

  pub size_counts : (graph_of p).size ≡ node_count p.first.ad.words.now + node_count p.second.ad.words.now
  size_counts = pair_size p.first.ad.words.now p.first.ad.bytes.now p.second.ad.words.now p.second.ad.bytes.now

  -- the numbers of the nodes
  pub size_few : (graph_of p).size ≤ 2048
  size_few =
      let a = nodes_fit p.first.measured in
      let b = nodes_fit p.second.measured in
      let e = p.first.measured.nodes_are in
      let f = p.second.measured.nodes_are in
      let s = size_counts in
      omega arith

  -- a node of the pair, by its index
  pub nth_stands : {i x : ℕ} → i < (graph_of p).size → x ≡ (graph_of p).nth i → Stands p.first.ad.words.now p.second.ad.words.now x
  unfolding pair_graph
  nth_stands {i} h e = subst (λ (u : ℕ). Node (graph_of p) u) (sym e) (sound.nth_in i h)

  pub nth_small : {i x : ℕ} → i < (graph_of p).size → x ≡ (graph_of p).nth i → x < 2048
  nth_small h e = stands_small p.first.ad.words.now p.second.ad.words.now _ (nth_stands h e)

pub step_start : (G : Graph) {roots : List ℕ} (k : ℕ) → roots ≡ G.roots → k < length roots → AtStart G k (get_or roots k 0)
unfolding searches start
step_start G k e h = record { search_in = subst (λ (l : List ℕ). k < length l) e h; start_is = ap (λ (l : List ℕ). get_or l k 0) e }

pub need_in : (G : Graph) (x : ℕ) (ta fl : List ℕ) {i dd : ℕ} → dd ≡ length (needed G (numbers ta) (raised fl) x) → i < dd → i < length (led G (numbers ta) x)
need_in G x ta fl {i} de h = needed_in G x i ta fl (let q : i < length (needed G (numbers ta) (raised fl) x) = omega arith in q)
