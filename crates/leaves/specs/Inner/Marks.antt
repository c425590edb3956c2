-- Where the readers are in an ad's memory, and what a literal or reference leaves there. s is the text. Assumes nothing.
use Rattle.std.specs.Prelude.{ℕ, suc, ◌+◌, ◌*◌, ◌≤◌, ◌<◌, ◌≡◌, Result, Ok, Err, List, length, drop}
use Rattle.std.proofs.lemmas.List.Edits.{sets}
use Rattle.syntax.specs.Tree.{Expr, reference, other, size}
use Rattle.syntax.specs.Token.{Tokens, symbol, closed, body_of}
use Rattle.syntax.specs.Reader.{Parsed, ok, refused, after, want, on_word, misfit, level, room, limits, count, conditional_at, primary_at}
use Rattle.syntax.specs.declared.Symbol.TheVariants.{CloseParenthesis, Point}
use Rattle.syntax.specs.Refusals.{number_of, refusal}
use Rattle.syntax.specs.declared.Refusal.{Refusal}
use Rattle.tokens.specs.Inner.Meaning.{tokens_at, literal_of}
use Rattle.tokens.specs.declared.Span.{Span}
use Rattle.tokens.specs.declared.Constant.{Constant}
use Rattle.ad.specs.Layout.{node, literal_node, expr_nodes, expr_bytes}
use Rattle.leaves.specs.declared.Leaf.{Leaf}
use Rattle.leaves.specs.declared.Leaf.TheVariants.{Done, Open}
use Rattle.leaves.specs.declared.Progress.{Progress}

-- how many nodes and bytes are stored, of 'room for 1,024 nodes, 256 definitions and 16,384 bytes of names and strings'
pub record Mark : Type 0 where
  pub nodes : ℕ
  pub bytes : ℕ

-- n nodes and k bytes are stored, of 'room for 1,024 nodes, .. and 16,384 bytes of names and strings'
abbrev pub mark : ℕ → ℕ → Mark
mark n k = record { nodes = n; bytes = k }

-- the mark that a reader has reached
abbrev pub mark_at : Progress → Mark
mark_at p = mark p.nodes p.bytes

-- behind the expression e: so many nodes and bytes more
abbrev pub past : Mark → Expr → Mark
past m e = record { nodes = m.nodes + size e; bytes = m.bytes + length (expr_bytes e) }

-- an ad's memory: 'Lent memory for an ad', as the words and bytes of docs/LAYOUT.md ('Layouts are the team's, written in docs/')
pub record Memory : Type 0 where
  pub words : List ℕ
  pub bytes : List ℕ

-- the memory of the words w and the bytes b: 'Lent memory for an ad'
abbrev pub memory : List ℕ → List ℕ → Memory
memory w b = record { words = w; bytes = b }

-- the memory w with e stored from m on
abbrev pub written : Memory → Mark → Expr → Memory
written w m e = record { words = sets w.words (4 * m.nodes) (expr_nodes m.nodes m.bytes e); bytes = sets w.bytes m.bytes (expr_bytes e) }

-- how many tokens the text has from the place at on: for the depth at which 'readers call each other in a cycle'
abbrev pub left : List ℕ → ℕ → ℕ
left s at = count (tokens_at s at)

-- the place q, nodes n and bytes k behind what was read from the place at and the mark m on, with o operators begun: t is 1 where
-- something was read. For 'the falling number is bytes left with the binding level' and '1,024 nodes'
pub record Inside (s : List ℕ) (at t : ℕ) (m : Mark) (o q n k : ℕ) : Type 0 where
  pub low : at + t ≤ q
  pub high : q ≤ length s
  pub grows : m.nodes ≤ n
  pub some : 1 ≤ n
  pub fits : n + o ≤ 1024
  pub short : k ≤ q
  pub fewer : left s q + t ≤ left s at

-- what each reader is given: the text fits the bytes, so that there is always room for its names and strings: '16,384 bytes of
-- names and strings'
pub record Room (s : List ℕ) (at : ℕ) (m : Mark) (o : ℕ) (w : Memory) : Type 0 where
  pub place : at ≤ length s
  pub fits : m.nodes + o ≤ 1024
  pub words : 4096 ≤ length w.words
  pub short : m.bytes ≤ at
  pub bytes : length s ≤ length w.bytes

-- room for a node more after c nodes, or '1,025th node' at p
abbrev pub RoomFor : ℕ → ℕ → Result (Unit {0}) Refusal → Type 0
RoomFor c p (Ok x) = c < 1024
RoomFor c p (Err r) = (1024 ≤ c) × (r ≡ refusal 9 p)

-- a string of n bytes behind its opening quote, from the place i on
pub record StringFrom (s : List ℕ) (i n : ℕ) : Type 0 where
  pub place : i ≤ length s
  pub rest : List ℕ
  pub size : length rest ≡ n
  pub text : ℕ
  pub string : body_of (drop i s) ≡ closed rest text

-- a name has room
pub record NameRoom (s : List ℕ) (at : Span) (m : Mark) (o : ℕ) (w : Memory) : Type 0 where
  pub low : at.start < at.end
  pub high : at.end ≤ length s
  pub fits : m.nodes + o ≤ 1024
  pub words : 4096 ≤ length w.words
  pub short : m.bytes ≤ at.start
  pub bytes : length s ≤ length w.bytes

-- a string of n bytes, which stands with its quotes at a place, has room
pub record StringRoom (s : List ℕ) (at : Span) (n : ℕ) (m : Mark) (o : ℕ) (w : Memory) : Type 0 where
  pub low : at.start + n < at.end
  pub high : at.end ≤ length s
  pub fits : m.nodes + o ≤ 1024
  pub words : 4096 ≤ length w.words
  pub short : m.bytes ≤ at.start
  pub bytes : length s ≤ length w.bytes
  pub string : StringFrom s (at.start + 1) n

-- '1,025th node' at a constant, or a node stored, and the place behind it
abbrev pub ConstantLeaf : Span → Constant → Mark → ℕ → List ℕ → List ℕ → Result Progress Refusal → Type 0
ConstantLeaf at c m o w w' (Ok r) = (m.nodes + o < 1024) × (r.place ≡ at.end) × (r.nodes ≡ m.nodes + 1) × (r.bytes ≡ m.bytes) × (w' ≡ sets w (4 * m.nodes) (literal_node 0 (literal_of c)))
ConstantLeaf at c m o w w' (Err r) = (1024 ≤ m.nodes + o) × (r ≡ refusal 9 at.start)

-- the same for a node of a kind that has bytes xs, at p, with the place q behind it: '1,025th node', or a node stored, and its
-- 'names and strings'
abbrev pub TextLeaf : ℕ → List ℕ → ℕ → ℕ → Mark → ℕ → Memory → Memory → Result Progress Refusal → Type 0
TextLeaf kind xs p q m o w w' (Ok r) = (m.nodes + o < 1024) × (r.place ≡ q) × (r.nodes ≡ m.nodes + 1) × (r.bytes ≡ m.bytes + length xs) × (w' ≡ memory (sets w.words (4 * m.nodes) (node kind m.bytes (length xs) 0)) (sets w.bytes m.bytes xs))
TextLeaf kind xs p q m o w w' (Err r) = (1024 ≤ m.nodes + o) × (r ≡ refusal 9 p)

-- behind `other` at p, from the place at on: the reader's way behind that token: 'Reference: `name` or `other.name`, blanks
-- allowed around the point.'
abbrev pub other_at : Tokens → ℕ → ℕ → Parsed
other_at u p c = room limits c p (λ _. want (symbol Point) u (λ v. on_word v (λ q w x. ok (reference other w) x) (λ _. misfit refused v)))

-- a reference `other.name`, or the refusal, as that way gives it: 'each reference (at `other` where it has one)'
abbrev pub OtherLeaf : List ℕ → ℕ → ℕ → Mark → ℕ → Memory → Memory → Result Progress Refusal → Type 0
OtherLeaf s p at m o w w' (Ok r) = (e : Expr) × (other_at (tokens_at s at) p (m.nodes + o) ≡ ok e (tokens_at s r.place)) × (mark_at r ≡ past m e) × (w' ≡ written w m e)
OtherLeaf s p at m o w w' (Err r) = other_at (tokens_at s at) p (m.nodes + o) ≡ refused (number_of r.reason) r.place

-- where the reader is behind such a reference
abbrev pub OtherWithin : List ℕ → ℕ → Mark → ℕ → Result Progress Refusal → Type 0
OtherWithin s at m o (Ok r) = Inside s at 1 m o r.place r.nodes r.bytes
OtherWithin s at m o (Err r) = Unit {0}

-- a literal or reference, a refusal, or an opening parenthesis, whatever the level d: 'then literals, references and parentheses'
abbrev pub LeafOk : List ℕ → ℕ → Mark → ℕ → Memory → Memory → Result Leaf Refusal → Type 0
LeafOk s at m o w w' (Ok (Done r)) = (e : Expr) × ((f d : ℕ) → primary_at limits (suc f) (tokens_at s at) d (m.nodes + o) ≡ ok e (tokens_at s r.place)) × (mark_at r ≡ past m e) × (w' ≡ written w m e)
LeafOk s at m o w w' (Ok (Open x)) = (f d : ℕ) → primary_at limits (suc f) (tokens_at s at) d (m.nodes + o) ≡ level limits d x.start (λ _. after (conditional_at limits f (tokens_at s x.end) (d + 1) (m.nodes + o)) (λ e u. want (symbol CloseParenthesis) u (λ v. ok e v)))
LeafOk s at m o w w' (Err r) = (f d : ℕ) → primary_at limits (suc f) (tokens_at s at) d (m.nodes + o) ≡ refused (number_of r.reason) r.place

-- where the reader is behind a literal or reference, or behind the parenthesis
abbrev pub LeafWithin : List ℕ → ℕ → Mark → ℕ → Memory → Memory → Result Leaf Refusal → Type 0
LeafWithin s at m o w w' (Ok (Done r)) = Inside s at 1 m o r.place r.nodes r.bytes
LeafWithin s at m o w w' (Ok (Open x)) = (at < x.end) × (x.end ≤ length s) × (left s x.end + 1 ≤ left s at) × (w' ≡ w)
LeafWithin s at m o w w' (Err r) = Unit {0}
