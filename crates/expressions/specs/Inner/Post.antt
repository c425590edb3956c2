-- What each reader ensures: its answer is the definition's, and where that is a tree, it is stored. s is the text. Assumes
-- nothing.
use Rattle.std.specs.Prelude.{ℕ, ◌+◌, ◌-◌, ◌*◌, ◌≤◌, ◌<◌, ◌≡◌, Result, Ok, Err, List}
use Rattle.syntax.specs.Refusals.{number_of, refusal}
use Rattle.syntax.specs.declared.Refusal.{Refusal}
use Rattle.syntax.specs.Tree.{Expr}
use Rattle.syntax.specs.Reader.{Parsed, ok, refused, limits, conditional_at, arms_at, binary_at, rest_at, unary_at, primary_at}
use Rattle.tokens.specs.Inner.Meaning.{tokens_at}
use Rattle.leaves.specs.Inner.Marks.{Mark, mark_at, past, Memory, written, left, Inside}
use Rattle.leaves.specs.declared.Progress.{Progress}

-- an expression may be a level deeper than d, or 'level 65' at p
abbrev pub LevelFor : ℕ → ℕ → Result (Unit {0}) Refusal → Type 0
LevelFor d p (Ok x) = d < 64
LevelFor d p (Err r) = (64 ≤ d) × (r ≡ refusal 6 p)

-- r is p, and where that is a tree, w with the tree stored from m on is w'
abbrev pub Agrees : List ℕ → Mark → Memory → Memory → Parsed → Result Progress Refusal → Type 0
Agrees s m w w' p (Ok r) = (e : Expr) × (p ≡ ok e (tokens_at s r.place)) × (mark_at r ≡ past m e) × (w' ≡ written w m e)
Agrees s m w w' p (Err r) = p ≡ refused (number_of r.reason) r.place

-- where the reader is behind what it read
abbrev pub Within : List ℕ → ℕ → ℕ → Mark → ℕ → Result Progress Refusal → Type 0
Within s at t m o (Ok r) = Inside s at t m o r.place r.nodes r.bytes
Within s at t m o (Err r) = Unit {0}

-- 'A conditional is an `||`-expression, `?`, an expression, `:`, an expression.' The readers of `Reader.antt`, where m nodes are
-- stored and o operators begun: so many nodes have been counted. `f` is any depth of calls that is enough.
abbrev pub ConditionalOk : List ℕ → ℕ → ℕ → Mark → ℕ → Memory → Memory → Result Progress Refusal → Type 0
ConditionalOk s at d m o w w' r = (f : ℕ) → 16 * left s at + 10 < f → Agrees s m w w' (conditional_at limits f (tokens_at s at) d (m.nodes + o)) r

-- the same for the operands of operators that bind at b: 'Binding, loosest first: ..'
abbrev pub BinaryOk : List ℕ → ℕ → ℕ → ℕ → Mark → ℕ → Memory → Memory → Result Progress Refusal → Type 0
BinaryOk s at b d m o w w' r = (f : ℕ) → 16 * left s at + (10 - b) < f → Agrees s m w w' (binary_at limits f (tokens_at s at) b d (m.nodes + o)) r

-- the same for `! + -` before an operand
abbrev pub UnaryOk : List ℕ → ℕ → ℕ → Mark → ℕ → Memory → Memory → Result Progress Refusal → Type 0
UnaryOk s at d m o w w' r = (f : ℕ) → 16 * left s at + 2 < f → Agrees s m w w' (unary_at limits f (tokens_at s at) d (m.nodes + o)) r

-- the same for literals, references and parentheses
abbrev pub PrimaryOk : List ℕ → ℕ → ℕ → Mark → ℕ → Memory → Memory → Result Progress Refusal → Type 0
PrimaryOk s at d m o w w' r = (f : ℕ) → 16 * left s at + 1 < f → Agrees s m w w' (primary_at limits f (tokens_at s at) d (m.nodes + o)) r

-- behind an operand e that is stored from m₀ up to m: '`?`, an expression, `:`, an expression', or nothing
abbrev pub ArmsOk : List ℕ → ℕ → ℕ → Mark → ℕ → Memory → Memory → Result Progress Refusal → Type 0
ArmsOk s at d m o w w' r =
    (f : ℕ) → 16 * left s at + 11 < f → (m₀ : Mark) (e : Expr) (v : Memory) → m ≡ past m₀ e → w ≡ written v m₀ e → Agrees s m₀ v w' (arms_at limits f (tokens_at s at) d (m.nodes + o) e) r

-- behind a left operand e of operators that bind at b: 'Binary operators group to the left.'
abbrev pub RestOk : List ℕ → ℕ → ℕ → ℕ → Mark → ℕ → Memory → Memory → Result Progress Refusal → Type 0
RestOk s at b d m o w w' r =
    (f : ℕ) → 16 * left s at + 11 < f → (m₀ : Mark) (e : Expr) (v : Memory) → m ≡ past m₀ e → w ≡ written v m₀ e → Agrees s m₀ v w' (rest_at limits f (tokens_at s at) b d (m.nodes + o) e) r
