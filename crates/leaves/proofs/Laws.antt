-- Literals and references stored, over plain variables. Assumes nothing.
use Prim.Native.Nat.{ℕ, ◌+◌, ◌*◌, ◌≤◌, ◌<◌}
use native.Mathlib.Omega.{arith}
use native.Mathlib.Nat.{add-zero}
use mathlib.Core.Path.{◌≡◌, refl, sym, ◌∙◌, ap}
use mathlib.Core.List.{List, []}
use lib.ListN.{length}
use lib.Seq.{sets, slice, length-slice}
use borrow.Author.Tests.{lt-leb}
use Rattle.std.specs.Prelude.{Result, Ok, Err}
use Rattle.syntax.specs.Tree.{string, own, other, literal, reference, size}
use Rattle.syntax.specs.Token as T
use Rattle.syntax.specs.Token.{Tokens, next, end, bad}
use Rattle.syntax.specs.declared.Refusal.{Refusal}
use Rattle.syntax.specs.Reader.{on_word, on_token, misfit, count, conditional_at}
use Rattle.syntax.specs.declared.Symbol.TheVariants.{Point}
use Rattle.tokens.specs.Inner.Meaning.{tokens_at, literal_of, string_at}
use Rattle.tokens.specs.declared.Span.{Span}
use Rattle.tokens.specs.declared.Constant.{Constant}
use Rattle.tokens.specs.declared.Constant.TheVariants as C
use Rattle.lookahead.specs.Inner.Ask.{Stands, NotToken, NotWord, Misfit}
use Rattle.ad.specs.Layout.{node, literal_node, literal_bytes, scope_kind, expr_nodes, expr_bytes}
use Rattle.leaves.specs.Inner.Marks.{Mark, mark, Memory, memory, left, Inside, ConstantLeaf, TextLeaf, OtherLeaf, OtherWithin, LeafOk}
use Rattle.leaves.specs.declared.Leaf.TheVariants.{Done}
use Rattle.leaves.specs.declared.Progress.{Progress}

-- ---- a node with bytes is stored

pub stores : {w w' b b' : List ℕ} → w ≡ w' → b ≡ b' → memory w b ≡ memory w' b'
stores p q = λ i. record { words = p i; bytes = q i }

pub marks : {n n' k k' : ℕ} → n ≡ n' → k ≡ k' → mark n k ≡ mark n' k'
marks p q = λ i. record { nodes = p i; bytes = q i }

pub text_stored : (kind n k l : ℕ) (xs w b u z : List ℕ) → length xs ≡ l → u ≡ sets w (4 * n) (node kind k l 0) → z ≡ sets b k xs → memory u z ≡ memory (sets w (4 * n) (node kind k (length xs) 0)) (sets b k xs)
text_stored kind n k l xs w b u z e hu hz = stores (hu ∙ ap (λ (i : ℕ). sets w (4 * n) (node kind k i 0)) (sym e)) hz

-- ---- what stands at a place

-- a constant's node has no place of bytes, and it has no bytes
constant_node : (c : Constant) (o : ℕ) → literal_node 0 (literal_of c) ≡ literal_node o (literal_of c)
unfolding literal_node
constant_node C.Undefined o = refl
constant_node C.Error o = refl
constant_node (C.Boolean b) o = refl
constant_node (C.Integer n) o = refl
constant_node (C.Real n k) o = refl

constant_bytes : (c : Constant) → literal_bytes (literal_of c) ≡ []
unfolding literal_bytes
constant_bytes C.Undefined = refl
constant_bytes C.Error = refl
constant_bytes (C.Boolean b) = refl
constant_bytes (C.Integer n) = refl
constant_bytes (C.Real n k) = refl

pub fewer_left : (s : List ℕ) (at p q : ℕ) (t : T.Token) → Stands s at p t q → left s at ≡ left s q + 1
unfolding count
fewer_left s at p q t h = ap count h.stands

module _ (s : List ℕ) (at p q : ℕ) (m : Mark) (o : ℕ) (w w' : Memory) (r : Progress) where
  inside_one : (t : T.Token) → Stands s at p t q → m.nodes + o < 1024 → (k : ℕ) → k ≤ q → Inside s at 1 m o q (m.nodes + 1) k
  inside_one t h lt k hk = record { low = omega (arith, h.low, h.wide); high = h.high; grows = omega arith; some = omega arith; fits = omega arith; short = hk; fewer = omega (arith, fewer_left s at p q t h) }

  pub own_within : Stands s at p (T.word (slice p q s)) q → m.bytes ≤ at → TextLeaf 7 (slice p q s) p q m o w w' (Ok r) → Inside s at 1 m o r.place r.nodes r.bytes
  own_within h hb (lt, ea, ei, ej, ew) = rw (ea, ei, ej) (inside_one (T.word (slice p q s)) h lt _ (omega (arith, length-slice p q s h.high, h.low, h.wide)))

  pub own_exact : Stands s at p (T.word (slice p q s)) q → TextLeaf 7 (slice p q s) p q m o w w' (Ok r) → LeafOk s at m o w w' (Ok (Done r))
  unfolding conditional_at size expr_nodes expr_bytes scope_kind
  own_exact h (lt, ea, ei, ej, ew) = (reference own (slice p q s), (λ f d. rw (h.stands, lt-leb 1024 (m.nodes + o) lt, ea) refl), marks ei ej, ew)

  pub string_within : Stands s at p (T.constant (string (string_at s p))) q → m.bytes ≤ at → p + length (string_at s p) < q → TextLeaf 6 (string_at s p) p q m o w w' (Ok r) → Inside s at 1 m o r.place r.nodes r.bytes
  string_within h hb hl (lt, ea, ei, ej, ew) = rw (ea, ei, ej) (inside_one (T.constant (string (string_at s p))) h lt _ (omega (arith, h.low)))

  pub string_exact : Stands s at p (T.constant (string (string_at s p))) q → TextLeaf 6 (string_at s p) p q m o w w' (Ok r) → LeafOk s at m o w w' (Ok (Done r))
  unfolding conditional_at size expr_nodes expr_bytes literal_node literal_bytes
  string_exact h (lt, ea, ei, ej, ew) = (literal (string (string_at s p)), (λ f d. rw (h.stands, lt-leb 1024 (m.nodes + o) lt, ea) refl), marks ei ej, ew)

module _ (s : List ℕ) (at : ℕ) (x : Span) (m : Mark) (o : ℕ) (w w' : Memory) (r : Progress) (c : Constant) where
  pub constant_within : Stands s at x.start (T.constant (literal_of c)) x.end → m.bytes ≤ at → ConstantLeaf x c m o w.words w'.words (Ok r) → Inside s at 1 m o r.place r.nodes r.bytes
  constant_within h hb (lt, ea, ei, ej, ew) = rw (ea, ei, ej) (inside_one s at x.start x.end m o w w' r (T.constant (literal_of c)) h lt _ (omega (arith, h.low, h.wide)))

  pub constant_exact : Stands s at x.start (T.constant (literal_of c)) x.end → w'.bytes ≡ w.bytes → ConstantLeaf x c m o w.words w'.words (Ok r) → LeafOk s at m o w w' (Ok (Done r))
  unfolding conditional_at size expr_nodes expr_bytes
  constant_exact h hb (lt, ea, ei, ej, ew) = (
    literal (literal_of c),
    (λ f d. rw (h.stands, lt-leb 1024 (m.nodes + o) lt, ea) refl),
    marks ei (ej ∙ rw (constant_bytes c) (sym (add-zero m.bytes))),
    stores (ew ∙ ap (sets w.words (4 * m.nodes)) (constant_node c m.bytes)) (hb ∙ rw (constant_bytes c) refl),
  )

-- ---- behind `other`

pub misfit_of : {A : Type 0} (refuse : ℕ → ℕ → A) (k p : ℕ) (u : Tokens) → Misfit k p u → misfit refuse u ≡ refuse k p
misfit_of refuse k p (next q t u) (e, e') = rw (e, e') refl
misfit_of refuse k p (end n) (e, e') = rw (e, e') refl
misfit_of refuse k p (bad j q) (e, e') = rw (e, e') refl

pub token_off : {A : Type 0} (x : T.Token) (u : Tokens) (then : ℕ → Tokens → A) (otherwise : Unit {0} → A) → NotToken x u → on_token x u then otherwise ≡ otherwise tt
token_off x (next p t u) then otherwise h = rw h refl
token_off x (end n) then otherwise h = refl
token_off x (bad k p) then otherwise h = refl

pub word_off : {A : Type 0} (u : Tokens) (then : ℕ → List ℕ → Tokens → A) (otherwise : Unit {0} → A) → NotWord u → on_word u then otherwise ≡ otherwise tt
word_off (next p (T.word w) u) then otherwise h = absurd h
word_off (next p (T.constant l) u) then otherwise h = refl
word_off (next p (T.operator j) u) then otherwise h = refl
word_off (next p (T.symbol x) u) then otherwise h = refl
word_off (end n) then otherwise h = refl
word_off (bad k p) then otherwise h = refl

module _ (s : List ℕ) (p at : ℕ) (m : Mark) (o : ℕ) (w w' : Memory) (h : m.nodes + o < 1024) (p₁ r : ℕ) (g : Stands s at p₁ (T.symbol Point) r) (a b : ℕ) (g' : Stands s r a (T.word (slice a b s)) b) where
  pub other_exact : (x : Result Progress Refusal) → TextLeaf 8 (slice a b s) p b m o w w' x → OtherLeaf s p at m o w w' x
  unfolding size expr_nodes expr_bytes scope_kind
  other_exact (Ok x) (lt, ea, ei, ej, ew) = (reference other (slice a b s), rw (lt-leb 1024 (m.nodes + o) h, g.stands, g'.stands, ea) refl, marks ei ej, ew)
  other_exact (Err x) (le, e) = absurd (omega arith)

  pub other_within : (x : Result Progress Refusal) → m.bytes ≤ at → TextLeaf 8 (slice a b s) p b m o w w' x → OtherWithin s at m o x
  other_within (Ok x) hb (lt, ea, ei, ej, ew) =
      rw (ea, ei, ej) (record { low = omega (arith, g.low, g.wide, g'.low, g'.wide); high = g'.high; grows = omega arith; some = omega arith; fits = omega arith; short = omega (arith, length-slice a b s g'.high, g.low, g.wide, g'.low, g'.wide); fewer = omega (arith, fewer_left s at p₁ r (T.symbol Point) g, fewer_left s r a b (T.word (slice a b s)) g') })
  other_within (Err x) hb t = tt

-- behind a token at p, up to q
pub leaf_further : (s : List ℕ) (at p q : ℕ) (t : T.Token) (m : Mark) (o : ℕ) (r : Progress) → Stands s at p t q → Inside s q 1 m o r.place r.nodes r.bytes → Inside s at 1 m o r.place r.nodes r.bytes
leaf_further s at p q t m o r g i = record { low = omega (arith, g.low, g.wide, i.low); high = i.high; grows = i.grows; some = i.some; fits = i.fits; short = i.short; fewer = omega (arith, fewer_left s at p q t g, i.fewer) }

-- ---- what the lexer says, as it stands

pub stands_of : (s : List ℕ) (at p q : ℕ) (t : T.Token) → at ≤ p → p < q → q ≤ length s → tokens_at s at ≡ next p t (tokens_at s q) → Stands s at p t q
stands_of s at p q t h h' h'' e = record { low = h; wide = h'; high = h''; stands = e }
