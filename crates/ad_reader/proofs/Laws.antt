-- What each way through the readers of definitions gives, from what its calls give. Assumes nothing.
use Prim.Native.Nat.{ℕ, zero, suc, ◌+◌, ◌≤◌}
use native.Mathlib.Omega.{arith}
use mathlib.Core.Path.{◌≡◌, refl, sym, ◌∙◌, ap, subst}
use mathlib.Core.List.{List, [], ◌++◌}
use lib.ListN.{length}
use lib.Seq.{slice}
use Rattle.syntax.specs.Tree.{Ad, size, nodes}
use Rattle.syntax.specs.Token as T
use Rattle.syntax.specs.Token.{Tokens}
use Rattle.syntax.specs.Reader as R
use Rattle.syntax.specs.Reader.{misfit, end_a, limits, count, enough, definitions_at, behind_at, ad_at, parse}
use Rattle.syntax.specs.declared.Symbol.TheVariants.{OpenBracket, CloseBracket, Semicolon}
use Rattle.tokens.specs.Inner.Meaning.{tokens_at}
use Rattle.lookahead.specs.Inner.Ask.{NotToken, NotWord, Misfit, Stands}
use Rattle.std.specs.Prelude.{Result, Ok, Err}
use Rattle.syntax.specs.Refusals.{number_of}
use Rattle.syntax.specs.declared.Refusal.{Refusal}
use Rattle.ad.specs.declared.Counts.{Counts}
use Rattle.ad.specs.Layout.{ad_nodes, ad_definitions, ad_bytes}
use Rattle.leaves.specs.Inner.Marks.{Mark, mark, mark_at, Memory, left}
use Rattle.leaves.proofs.Laws.{fewer_left, misfit_of, token_off, word_off}
use Rattle.leaves.specs.declared.Progress.{Progress}
use Rattle.definition_reader.specs.Inner.Post.{Holds, definition_at, one, DefinitionOk}
use Rattle.ad_reader.specs.Inner.Post.{AgreesAd, DefinitionsOk, BehindOk, EndOk}

-- ---- definitions

misfit_all : (k p : ℕ) (u : Tokens) → Misfit k p u → misfit R.denied u ≡ R.denied k p
misfit_all k p u h = misfit_of R.denied k p u h

module _ (s : List ℕ) (at d : ℕ) (m : Mark) (w : Memory) where
  -- behind the closing bracket
  closes : (q : ℕ) (r : Result Counts Refusal) (a : Ad) (v : Memory) → Holds d m w v a → EndOk s q d m.nodes r → AgreesAd v w (end_a (tokens_at s q) a) r
  closes q (Ok c) a v H (he, hk, (n, hn)) = (a, rw hn refl, he ∙ H.count, hk ∙ ap (λ (z : Mark). z.nodes) H.mark_of, H.memory_of, fits)
    where
      fits : length (ad_bytes a) ≤ length v.bytes
      fits = let e : m.bytes ≡ length (ad_bytes a) = ap (λ (z : Mark). z.bytes) H.mark_of in omega (arith, H.short)
  closes q (Err why) a v H h = h a

  pub definitions_close : (p q : ℕ) (r : Result Counts Refusal) → Stands s at p (T.symbol CloseBracket) q → EndOk s q d m.nodes r → DefinitionsOk s at d m w w r
  unfolding definitions_at
  definitions_close p q r g h zero lt = absurd (omega arith)
  definitions_close p q r g h (suc f) lt = λ a v H. rw g.stands (closes q r a v H h)

  module _ (n : NotToken (T.symbol CloseBracket) (tokens_at s at)) where
    pub definitions_none : (w' : Memory) (why : Refusal) → NotWord (tokens_at s at) × Misfit (number_of why.reason) why.place (tokens_at s at) → DefinitionsOk s at d m w w' (Err why)
    unfolding definitions_at
    definitions_none w' why h zero lt = absurd (omega arith)
    definitions_none w' why (x, y) (suc f) lt = λ a v H. token_off (T.symbol CloseBracket) (tokens_at s at) _ _ n ∙ (word_off (tokens_at s at) _ _ x ∙ misfit_all (number_of why.reason) why.place (tokens_at s at) y)

    module _ (p q : ℕ) (g : Stands s at p (T.word (slice p q s)) q) where
      -- the reader's way through a definition
      goes : (f : ℕ) (a : Ad) → definitions_at limits (suc f) (tokens_at s at) a m.nodes ≡ definition_at (tokens_at s q) (slice p q s) p a m.nodes (λ e y. behind_at limits f y (a ++ one (slice p q s) e) (m.nodes + size e))
      unfolding definitions_at
      goes f a = token_off (T.symbol CloseBracket) (tokens_at s at) _ _ n ∙ rw g.stands refl

      pub definitions_refused : (w₁ w₂ : Memory) (why : Refusal) → DefinitionOk s p q d m w w₁ (Err why) → DefinitionsOk s at d m w w₂ (Err why)
      definitions_refused w₁ w₂ why h zero lt = absurd (omega arith)
      definitions_refused w₁ w₂ why h (suc f) lt = λ a v H. goes f a ∙ h a v H _

      pub definitions_more : (w₁ w₂ : Memory) (r : Progress) (res : Result Counts Refusal) → DefinitionOk s p q d m w w₁ (Ok r) → left s r.place + 1 ≤ left s q → BehindOk s r.place (d + 1) (mark_at r) w₁ w₂ res → DefinitionsOk s at d m w w₂ res
      definitions_more w₁ w₂ r res h lo b zero lt = absurd (omega arith)
      definitions_more w₁ w₂ r res h lo b (suc f) lt = λ a v H.
          let x = h a v H in
          let z = fewer_left s at p q (T.word (slice p q s)) g in
          let e : definitions_at limits (suc f) (tokens_at s at) a m.nodes ≡ behind_at limits f (tokens_at s r.place) (a ++ one (slice p q s) x.0) r.nodes = goes f a ∙ (x.1 _ ∙ ap (behind_at limits f (tokens_at s r.place) (a ++ one (slice p q s) x.0)) (sym x.2)) in
          subst (λ (y : R.Answer). AgreesAd v w₂ y res) (sym e) (b f (omega arith) (a ++ one (slice p q s) x.0) v x.3)

  pub behind_more : (p q : ℕ) (w₂ : Memory) (r : Result Counts Refusal) → Stands s at p (T.symbol Semicolon) q → DefinitionsOk s q d m w w₂ r → BehindOk s at d m w w₂ r
  unfolding definitions_at
  behind_more p q w₂ r g h zero lt = absurd (omega arith)
  behind_more p q w₂ r g h (suc f) lt = λ a v H. let z = fewer_left s at p q (T.symbol Semicolon) g in rw g.stands (h f (omega arith) a v H)

  module _ (n : NotToken (T.symbol Semicolon) (tokens_at s at)) where
    pub behind_close : (p q : ℕ) (r : Result Counts Refusal) → Stands s at p (T.symbol CloseBracket) q → EndOk s q d m.nodes r → BehindOk s at d m w w r
    unfolding definitions_at
    behind_close p q r g h zero lt = absurd (omega arith)
    behind_close p q r g h (suc f) lt = λ a v H. rw g.stands (closes q r a v H h)

    pub behind_none : (w' : Memory) (why : Refusal) → NotToken (T.symbol CloseBracket) (tokens_at s at) × Misfit (number_of why.reason) why.place (tokens_at s at) → BehindOk s at d m w w' (Err why)
    unfolding definitions_at
    behind_none w' why h zero lt = absurd (omega arith)
    behind_none w' why (x, y) (suc f) lt = λ a v H. token_off (T.symbol Semicolon) (tokens_at s at) _ _ n ∙ (token_off (T.symbol CloseBracket) (tokens_at s at) _ _ x ∙ misfit_all (number_of why.reason) why.place (tokens_at s at) y)

-- ---- a whole ad

module _ (s : List ℕ) (w : Memory) where
  pub ad_none : (w' : Memory) (why : Refusal) → NotToken (T.symbol OpenBracket) (tokens_at s 0) × Misfit (number_of why.reason) why.place (tokens_at s 0) → AgreesAd w w' (parse s) (Err why)
  unfolding parse ad_at
  ad_none w' why (n, f) = token_off (T.symbol OpenBracket) (tokens_at s 0) _ _ n ∙ misfit_all (number_of why.reason) why.place (tokens_at s 0) f

  -- nothing is stored yet
  holds_none : Holds 0 (mark 0 0) w w []
  unfolding nodes ad_nodes ad_definitions ad_bytes
  holds_none = record { count = refl; mark_of = refl; memory_of = refl; short = omega arith }

  pub ad_read : (w' : Memory) (p q : ℕ) (r : Result Counts Refusal) → Stands s 0 p (T.symbol OpenBracket) q → DefinitionsOk s q 0 (mark 0 0) w w' r → AgreesAd w w' (parse s) r
  unfolding parse ad_at
  ad_read w' p q r g h = rw g.stands (h (enough (tokens_at s q)) (omega arith) [] w holds_none)
