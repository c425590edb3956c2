-- The traversal's memory: the place, the marks and the list as the rule's state. Assumes nothing.
use Rattle.std.specs.Prelude.{◌≡◌, ◌⊎◌, Bool, cond, Option, Some, None, List, [], ◌∷◌, ℕ, suc, ◌+◌, ◌*◌, ◌≤◌, ◌<◌, length, get_or, set, take}
use Rattle.graph.specs.Members.{numbers, raised}
use Rattle.graph.specs.Graph.{Graph}
use Rattle.graph.specs.Transition.{State, searches, start, led, needed, named, marked}
use Rattle.graph.specs.declared.Place.{Place}

-- ---- layout (docs/LAYOUT.md: 'Layouts are the team's, written in docs/')

-- how many nodes have marks: every node of each side, '1,024 a side'
abbrev pub marks_room : ℕ
marks_room = 2048

-- how many marks a node has in one slice, besides its target and its flag, which have slices of their own
abbrev pub per_node : ℕ
per_node = 6

-- the numbers of that slice
abbrev pub mark_words : ℕ
mark_words = 12288

-- mark j of the node x; of the slice of marks, the stamp is mark 0, from 1, followed 2, height 3, below 4, saved 5
abbrev pub mark_at : List ℕ → ℕ → ℕ → ℕ
mark_at marks j x = get_or marks (x * per_node + j) 0

-- the state that a place, a length of the list, three slices of marks and the list's room hold: 'the hunt's place, the marks, the
-- list'
unfoldable pub view : Place → ℕ → (target marks flag list : List ℕ) → State
view place len target marks flag list = record {
  place = place;
  target = numbers target;
  stamp = mark_at marks 0;
  from = mark_at marks 1;
  followed = mark_at marks 2;
  flag = raised flag;
  height = mark_at marks 3;
  below = mark_at marks 4;
  saved = mark_at marks 5;
  list = take len list;
}

-- the marks of the node x from mark j on become these numbers
unfoldable pub fill : List ℕ → ℕ → ℕ → List ℕ → List ℕ
fill marks x j [] = marks
fill marks x j (a ∷ vs) = fill (set marks (x * per_node + j) a) x (suc j) vs

-- the nodes that a mark names, where it is read: none, or one
abbrev pub nodes_of : Option ℕ → List ℕ
nodes_of None = []
nodes_of (Some y) = y ∷ []

-- the flags, one set where b holds
unfoldable pub flagged_at : List ℕ → ℕ → Bool → List ℕ
flagged_at flag x b = cond b (set flag x 1) flag

-- the flags are kept, or that of the node x is set: 'changes .. only that node's marks'
abbrev pub Flagged : ℕ → List ℕ → List ℕ → Type 0
Flagged x before after = (after ≡ before) ⊎ (after ≡ set before x 1)

-- ---- what a transition goes by: facts of the place and of the node or link at hand, and none of the other marks

-- the i-th node, x, of n is to be resolved
pub record AtNode (G : Graph) (i n x found : ℕ) : Type 0 where
  pub size_is : n ≡ G.size
  pub node_is : x ≡ G.nth i
  pub found_is : found ≡ cond (G.ref x) (marked (G.links x)) 0

-- loop search k, of n, is to begin at y
pub record AtSeek (G : Graph) (k n y : ℕ) : Type 0 where
  pub size_is : n ≡ G.size
  pub node_is : y ≡ G.nth k

-- a loop search is at x, whose next link, the i-th, goes to y
pub record AtLoopLink (G : Graph) (x y i : ℕ) (refers : Bool) (target marks : List ℕ) : Type 0 where
  pub index_is : i ≡ mark_at marks 2 x
  pub more : i < length (led G (numbers target) x)
  pub next_is : y ≡ get_or (led G (numbers target) x) i 0
  pub refers_is : refers ≡ G.ref x

-- a loop search, of n, is at x, which has no link left
pub record AtLoopLast (G : Graph) (n x : ℕ) (target marks : List ℕ) : Type 0 where
  pub size_is : n ≡ G.size
  pub slots_are : G.slots ≡ marks_room
  pub over : length (led G (numbers target) x) ≤ mark_at marks 2 x

-- a loop search, of n, is to close a node
pub record AtClose (G : Graph) (n : ℕ) : Type 0 where
  pub size_is : n ≡ G.size
  pub slots_are : G.slots ≡ marks_room

-- list search k is to begin, at y
pub record AtStart (G : Graph) (k y : ℕ) : Type 0 where
  pub search_in : k < searches G
  pub start_is : y ≡ start G k

-- a list search is at x, whose next need, the i-th, is y
pub record AtLink (G : Graph) (x y i : ℕ) (target marks flag : List ℕ) : Type 0 where
  pub index_is : i ≡ mark_at marks 2 x
  pub more : i < length (needed G (numbers target) (raised flag) x)
  pub next_is : y ≡ get_or (needed G (numbers target) (raised flag) x) i 0

-- a list search is at x, which has no need left and was entered from a node or none
pub record AtLast (G : Graph) (x : ℕ) (from : List ℕ) (target marks flag : List ℕ) : Type 0 where
  pub slots_are : G.slots ≡ marks_room
  pub over : length (needed G (numbers target) (raised flag) x) ≤ mark_at marks 2 x
  pub from_is : from ≡ named G (mark_at marks 1 x)

-- the list grows from len to len' entries, and what lies behind them stays
pub record Grows (len len' : ℕ) (list list' : List ℕ) : Type 0 where
  pub longer : len ≤ len'
  pub fits : len ≤ length list → len' ≤ length list
  pub behind : (i : ℕ) → len' ≤ i → get_or list' i 0 ≡ get_or list i 0

-- ---- the traversal

-- a slice that holds zeros: 'clear marks'
abbrev pub Clear : List ℕ → Type 0
Clear l = (i : ℕ) → get_or l i 0 ≡ 0

-- slices of marks, and of the list, long enough
pub record Roomy (target marks flag list : List ℕ) : Type 0 where
  pub target_room : marks_room ≤ length target
  pub marks_room_lem : mark_words ≤ length marks
  pub flag_room : marks_room ≤ length flag
  pub list_room_lem : marks_room ≤ length list
