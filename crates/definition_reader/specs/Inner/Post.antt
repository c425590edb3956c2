-- What the reader of a definition is given and ensures. s is the text. Assumes nothing.
use Rattle.std.specs.Prelude.{ℕ, ◌+◌, ◌≤◌, ◌<◌, ◌≡◌, Result, Ok, Err, List, [], ◌∷◌, ◌++◌, length}
use Rattle.std.proofs.lemmas.List.Edits.{sets}
use Rattle.std.proofs.Math.Seq.{slice}
use Rattle.syntax.specs.Tree.{Expr, Ad, size, nodes}
use Rattle.syntax.specs.Token.{Tokens, symbol}
use Rattle.syntax.specs.Reader as R
use Rattle.syntax.specs.Reader.{limits, conditional_at, after_a, want_a, admit, enough}
use Rattle.syntax.specs.declared.Symbol.TheVariants.{Assign}
use Rattle.syntax.specs.Refusals.{number_of}
use Rattle.syntax.specs.declared.Refusal.{Refusal}
use Rattle.tokens.specs.Inner.Meaning.{tokens_at}
use Rattle.ad.specs.Layout.{ad_nodes, ad_definitions, ad_bytes}
use Rattle.leaves.specs.Inner.Marks.{Mark, mark, mark_at, Memory, memory, left}
use Rattle.leaves.specs.declared.Progress.{Progress}

-- behind the ad a: its nodes and bytes are stored
abbrev pub ends : Ad → Mark
ends a = mark (nodes a) (length (ad_bytes a))

-- the memory w with the ad a in it
abbrev pub stored_in : Memory → Ad → Memory
stored_in w a = memory (sets (sets w.words 0 (ad_nodes 0 0 a)) 4096 (ad_definitions 0 0 a)) (sets w.bytes 0 (ad_bytes a))

-- what each is given: 'room for 1,024 nodes, 256 definitions and 16,384 bytes of names and strings'
pub record AdRoom (s : List ℕ) (at d : ℕ) (m : Mark) (w : Memory) : Type 0 where
  pub place : at ≤ length s
  pub few : d ≤ 256
  pub fits : m.nodes ≤ 1024
  pub words : 4864 ≤ length w.words
  pub short : m.bytes ≤ at
  pub bytes : length s ≤ length w.bytes

-- the memory holds the ad a, of d definitions and m
pub record Holds (d : ℕ) (m : Mark) (w : Memory) (v : Memory) (a : Ad) : Type 0 where
  pub count : d ≡ length a
  pub mark_of : m ≡ ends a
  pub memory_of : w ≡ stored_in v a
  pub short : m.bytes ≤ length v.bytes

-- the reader's way behind a Name w at p, from the place at on
abbrev pub definition_at : Tokens → List ℕ → ℕ → Ad → ℕ → (Expr → Tokens → R.Answer) → R.Answer
definition_at u w p a c go = admit limits w p a (λ _. want_a (symbol Assign) u (λ x. after_a (conditional_at limits (enough x) x 0 c) go))

-- an ad of one definition: 'definitions `name = expression`'
abbrev pub one : List ℕ → Expr → Ad
one w e = record { name = w; expression = e } ∷ []

-- a definition whose Name stands from p up to q: 'definitions `name = expression`'; 'expression starts at level 0'
abbrev pub DefinitionOk : List ℕ → ℕ → ℕ → ℕ → Mark → Memory → Memory → Result Progress Refusal → Type 0
DefinitionOk s p q d m w w' (Ok r) =
    (a : Ad) (v : Memory) → Holds d m w v a →
    (e : Expr) × ((go : Expr → Tokens → R.Answer) → definition_at (tokens_at s q) (slice p q s) p a m.nodes go ≡ go e (tokens_at s r.place)) × (r.nodes ≡ m.nodes + size e) × Holds (d + 1) (mark_at r) w' v (a ++ one (slice p q s) e)
DefinitionOk s p q d m w w' (Err r) = (a : Ad) (v : Memory) → Holds d m w v a → (go : Expr → Tokens → R.Answer) → definition_at (tokens_at s q) (slice p q s) p a m.nodes go ≡ R.denied (number_of r.reason) r.place

-- where the reader is behind a definition
abbrev pub DefinitionWithin : List ℕ → ℕ → ℕ → Result Progress Refusal → Type 0
DefinitionWithin s q d (Ok r) = (q ≤ r.place) × (r.place ≤ length s) × (r.nodes ≤ 1024) × (d < 256) × (r.bytes ≤ r.place) × (left s r.place + 1 ≤ left s q)
DefinitionWithin s q d (Err r) = Unit {0}
