-- What each way through the reader of a definition gives, from what its calls give. Assumes nothing.
use Prim.Native.Nat.{ℕ, ◌+◌, ◌-◌, ◌*◌, ◌≤◌, ◌<◌}
use native.Mathlib.Omega.{arith}
use mathlib.Core.Path.{◌≡◌, refl, sym, ◌∙◌, ap}
use mathlib.Core.Bool.{Bool, true, false}
use mathlib.Core.List.{List, [], ◌∷◌}
use lib.ListN.{length, take, drop}
use lib.Seq.{sets, slice, length-slice, length-sets}
use borrow.Author.Tests.{le-leb, lt-leb}
use Rattle.text.specs.Parts.{part_slice}
use Rattle.std.specs.Prelude.{Ok, Err}
use Rattle.syntax.specs.Refusals.{number_of, refusal}
use Rattle.syntax.specs.declared.Refusal.{Refusal}
use Rattle.syntax.specs.Tree.{Expr, Ad, size}
use Rattle.syntax.specs.Token as T
use Rattle.syntax.specs.Token.{Tokens}
use Rattle.syntax.specs.Grammar.{defined}
use Rattle.syntax.specs.Reader as R
use Rattle.syntax.specs.Reader.{ok, after_a, admit, limits, count, enough, conditional_at}
use Rattle.syntax.specs.declared.Symbol.TheVariants.{Assign}
use Rattle.tokens.specs.Inner.Meaning.{tokens_at}
use Rattle.lookahead.specs.Inner.Ask.{NotToken, Misfit, Stands}
use Rattle.ad.specs.Layout.{expr_nodes, expr_bytes, ad_bytes}
use Rattle.ad.specs.Inner.Names.{defined_in}
use Rattle.leaves.specs.Inner.Marks.{Mark, mark, mark_at, Memory, memory}
use Rattle.leaves.proofs.Laws.{misfit_of, token_off}
use Rattle.expressions.specs.Inner.Post.{ConditionalOk}
use Rattle.leaves.specs.declared.Progress.{Progress}
use Rattle.definition_reader.specs.Inner.Post.{Holds, definition_at, DefinitionOk}
use Rattle.definition_reader.proofs.Ads.{names_found, holds_more}

module _ (s : List ℕ) (p q d : ℕ) (m : Mark) (w : Memory) (few : d ≤ 256) (hw : 4864 ≤ length w.words) (hb : m.bytes ≤ length w.bytes) (hp : p ≤ q) where
  -- the name as it is passed on, and as the text has it
  same_defined : (t : Bool) → t ≡ defined_in w.words w.bytes (take (q - p) (drop p s)) 0 d → (a : Ad) (v : Memory) → Holds d m w v a → defined (slice p q s) a ≡ t
  same_defined t e a v H = sym (e ∙ (ap (λ (l : List ℕ). defined_in w.words w.bytes l 0 d) (part_slice s p q hp) ∙ names_found d m w v a H few hw hb (slice p q s)))

  pub definition_twice : (w' : Memory) → true ≡ defined_in w.words w.bytes (take (q - p) (drop p s)) 0 d → DefinitionOk s p q d m w w' (Err (refusal 8 p))
  definition_twice w' e a v H go = rw (same_defined true e a v H) refl

  module _ (e : false ≡ defined_in w.words w.bytes (take (q - p) (drop p s)) 0 d) where
    pub definition_many : (w' : Memory) → 256 ≤ d → DefinitionOk s p q d m w w' (Err (refusal 9 p))
    definition_many w' h a v H go = let l : 256 ≤ length a = omega (arith, H.count) in rw (same_defined false e a v H, le-leb 256 (length a) l) refl

    module _ (h : d < 256) where
      -- behind both checks of the name
      passes : (a : Ad) (v : Memory) → Holds d m w v a → (go : Unit {0} → R.Answer) → admit limits (slice p q s) p a go ≡ go tt
      passes a v H go = let l : length a < 256 = omega (arith, H.count) in rw (same_defined false e a v H, lt-leb 256 (length a) l) refl

      pub definition_assign : (w' : Memory) (why : Refusal) → NotToken (T.symbol Assign) (tokens_at s q) × Misfit (number_of why.reason) why.place (tokens_at s q) → DefinitionOk s p q d m w w' (Err why)
      definition_assign w' why (n, f) a v H go = passes a v H _ ∙ (token_off (T.symbol Assign) (tokens_at s q) _ _ n ∙ misfit_of R.denied (number_of why.reason) why.place (tokens_at s q) f)

      module _ (p₁ t : ℕ) (g : Stands s q p₁ (T.symbol Assign) t) (hq : q ≤ length s) (b₁ : List ℕ) (hc : b₁ ≡ sets w.bytes m.bytes (slice p q s)) where
        behind_assign : (a : Ad) (v : Memory) → Holds d m w v a → (go : Expr → Tokens → R.Answer) → definition_at (tokens_at s q) (slice p q s) p a m.nodes go ≡ after_a (conditional_at limits (enough (tokens_at s t)) (tokens_at s t) 0 m.nodes) go
        behind_assign a v H go = passes a v H _ ∙ rw g.stands refl

        pub definition_refused : (w' w'' : Memory) (why : Refusal) → ConditionalOk s t 0 (mark m.nodes (m.bytes + (q - p))) 0 (memory w.words b₁) w'' (Err why) → DefinitionOk s p q d m w w' (Err why)
        definition_refused w' w'' why h a v H go =
            let z : m.nodes ≡ m.nodes + 0 = omega arith in
            behind_assign a v H go ∙ rw (z, h (enough (tokens_at s t)) (omega arith)) refl

        pub definition_done : (w'' : Memory) (u : List ℕ) (r : Progress) → ConditionalOk s t 0 (mark m.nodes (m.bytes + (q - p))) 0 (memory w.words b₁) w'' (Ok r) → r.nodes ≤ 1024 → r.bytes ≤ length w.bytes → u ≡ sets w''.words (4096 + 3 * d) (m.bytes ∷ (q - p) ∷ (r.nodes - 1) ∷ []) → DefinitionOk s p q d m w (memory u w''.bytes) (Ok r)
        definition_done w'' u r h fit hk hu a v H =
            let x = h (enough (tokens_at s t)) (omega arith) in
            let l : q - p ≡ length (slice p q s) = sym (length-slice p q s hq) in
            let z : m.nodes + 0 ≡ m.nodes = omega arith in
            let c : mark_at r ≡ mark (m.nodes + size x.0) (m.bytes + length (slice p q s) + length (expr_bytes x.0)) = x.2 ∙ ap (λ (i : ℕ). mark (m.nodes + size x.0) (m.bytes + i + length (expr_bytes x.0))) l in
            let w₁ : w''.words ≡ sets w.words (4 * m.nodes) (expr_nodes m.nodes (m.bytes + length (slice p q s)) x.0) = ap (λ (y : Memory). y.words) x.3 ∙ ap (λ (i : ℕ). sets w.words (4 * m.nodes) (expr_nodes m.nodes (m.bytes + i) x.0)) l in
            let b₂ : w''.bytes ≡ sets b₁ (m.bytes + length (slice p q s)) (expr_bytes x.0) = ap (λ (y : Memory). y.bytes) x.3 ∙ ap (λ (i : ℕ). sets b₁ (m.bytes + i) (expr_bytes x.0)) l in (
              x.0,
              (λ go. behind_assign a v H go ∙ first go x.0 (rw z at x.1)),
              ap (λ (y : Mark). y.nodes) x.2,
              holds_more d m w v a H (slice p q s) x.0 r.nodes r.bytes c fit (omega (arith, ap (λ (y : Memory). length y.bytes) H.memory_of, length-sets v.bytes 0 (ad_bytes a))) w''.words u b₁ w''.bytes w₁ (hu ∙ ap (λ (i : ℕ). sets w''.words (4096 + 3 * d) (m.bytes ∷ i ∷ (r.nodes - 1) ∷ [])) l) hc b₂,
            )
          where
            first : (go : Expr → Tokens → R.Answer) (y : Expr) → conditional_at limits (enough (tokens_at s t)) (tokens_at s t) 0 m.nodes ≡ ok y (tokens_at s r.place) → after_a (conditional_at limits (enough (tokens_at s t)) (tokens_at s t) 0 m.nodes) go ≡ go y (tokens_at s r.place)
            first go y e = rw e refl
