-- What each way through a reader gives, from what its calls give. Assumes nothing.
use Prim.Native.Nat.{ℕ, zero, suc, ◌+◌, ◌-◌, ◌*◌, ◌≤◌, ◌<◌}
use native.Mathlib.Omega.{arith}
use mathlib.Core.Path.{◌≡◌, refl, ◌∙◌, ap}
use mathlib.Core.List.{List}
use lib.Seq.{sets}
use borrow.Author.Tests.{eq-eqb, ne_eqb, lt-ltb, le-ltb, le-leb, lt-leb}
use Rattle.std.specs.Prelude.{Result, Ok, Err}
use Rattle.syntax.specs.Refusals.{number_of, refusal}
use Rattle.syntax.specs.declared.Refusal.{Refusal}
use Rattle.syntax.specs.Tree.{Expr, unary, binary, conditional, size}
use Rattle.syntax.specs.Token as T
use Rattle.syntax.specs.Token.{Tokens, next, end, bad}
use Rattle.syntax.specs.Grammar.{binds_of, unary_token}
use Rattle.syntax.specs.Reader.{Parsed, ok, refused, on_binary, on_unary, after, want, level, room, limits, conditional_at, arms_at, unary_at, primary_at}
use Rattle.syntax.specs.declared.Binary.{Binary}
use Rattle.syntax.specs.declared.Unary.{Unary}
use Rattle.syntax.specs.declared.Unary.TheVariants.{Not, Plus, Minus}
use Rattle.syntax.specs.declared.Symbol.TheVariants.{Question, Colon, CloseParenthesis}
use Rattle.tokens.specs.Inner.Meaning.{tokens_at}
use Rattle.lookahead.specs.Inner.Ask.{NotToken, NotBinary, Misfit, Stands}
use Rattle.ad.specs.Layout.{unary_kind, binary_kind, node}
use Rattle.leaves.specs.Inner.Marks.{Mark, Memory, written, left, LeafOk}
use Rattle.tokens.specs.declared.Span.{Span}
use Rattle.leaves.specs.declared.Leaf.TheVariants as L
use Rattle.leaves.specs.declared.Progress.{Progress}
use Rattle.leaves.proofs.Laws.{fewer_left, misfit_of, token_off}
use Rattle.expressions.specs.Inner.Post.{Within, ConditionalOk, BinaryOk, UnaryOk, PrimaryOk, ArmsOk, RestOk}
use Rattle.expressions.proofs.Words.{more, restored, nodes_of_lem, words_binary, past_binary, words_conditional, past_conditional, words_unary, past_unary}

-- ---- the token in front

binary_off :
    (b : ℕ) (u : Tokens) (then : Binary → ℕ → Tokens → Parsed) (otherwise : Unit {0} → Parsed) →
    NotBinary b u → on_binary b u then otherwise ≡ otherwise tt
binary_off b (next p (T.word w) u) then otherwise h = refl
binary_off b (next p (T.constant l) u) then otherwise h = refl
binary_off b (next p (T.operator j) u) then otherwise h = rw (ne_eqb (binds_of j) b h) refl
binary_off b (next p (T.symbol x) u) then otherwise h = refl
binary_off b (end n) then otherwise h = refl
binary_off b (bad k p) then otherwise h = refl

unary_off :
    (u : Tokens) (then : Unary → ℕ → Tokens → Parsed) (otherwise : Unit {0} → Parsed) →
    ((o : Unary) → NotToken (unary_token o) u) → on_unary u then otherwise ≡ otherwise tt
unary_off u then otherwise h =
    token_off (unary_token Not) u _ _ (h Not)
    ∙ (token_off (unary_token Plus) u _ _ (h Plus) ∙ token_off (unary_token Minus) u _ _ (h Minus))

unary_on :
    (o : Unary) (p : ℕ) (v : Tokens) (then : Unary → ℕ → Tokens → Parsed)
    (otherwise : Unit {0} → Parsed) → on_unary (next p (unary_token o) v) then otherwise ≡ then o p v
unary_on Not p v then otherwise = refl
unary_on Plus p v then otherwise = refl
unary_on Minus p v then otherwise = refl

want_off :
    (x : T.Token) (u : Tokens) (go : Tokens → Parsed) (k p : ℕ) → NotToken x u × Misfit k p u → want
    x u go ≡ refused k p
want_off x u go k p (n, f) = token_off x u _ _ n ∙ misfit_of refused k p u f

-- at the place q, where n is stored
abbrev pub progress : ℕ → Mark → Progress
progress q n = record { place = q; nodes = n.nodes; bytes = n.bytes }

-- how many nodes were counted, with one operator more begun
more_begun : (n o : ℕ) → n + o + 1 ≡ n + (o + 1)
more_begun n o = omega arith

module _ (s : List ℕ) (at d : ℕ) (m : Mark) (o : ℕ) (w : Memory) where
  pub conditional_refused : (w₁ w₂ : Memory) (why : Refusal) → BinaryOk s at 1 d m o w w₁ (Err why) → ConditionalOk s at d m o w w₂ (Err why)
  unfolding conditional_at
  conditional_refused w₁ w₂ why h zero lt = absurd (omega arith)
  conditional_refused w₁ w₂ why h (suc f) lt = rw (h f (omega arith)) refl

  pub conditional_done : (w₁ w₂ : Memory) (q : ℕ) (n : Mark) (r : Result Progress Refusal) → BinaryOk s at 1 d m o w w₁ (Ok (progress q n)) → ArmsOk s q d n o w₁ w₂ r → left s q + 1 ≤ left s at → ConditionalOk s at d m o w w₂ r
  unfolding conditional_at
  conditional_done w₁ w₂ q n r h a lo zero lt = absurd (omega arith)
  conditional_done w₁ w₂ q n r h a lo (suc f) lt =
      let x = h f (omega arith) in
      let e : m.nodes + o + size x.0 ≡ n.nodes + o = omega (arith, nodes_of_lem m x.0 x.2) in
      rw (x.1, e) (a f (omega arith) m x.0 w x.2 x.3)

  pub binary_unary : (b : ℕ) (w₁ : Memory) (r : Result Progress Refusal) → 7 ≤ b → b ≤ 7 → UnaryOk s at d m o w w₁ r → BinaryOk s at b d m o w w₁ r
  unfolding conditional_at
  binary_unary b w₁ r hl hu h zero lt = absurd (omega arith)
  binary_unary b w₁ r hl hu h (suc f) lt = rw (le-ltb b 7 hl) (h f (omega arith))

  pub binary_refused : (b : ℕ) (w₁ w₂ : Memory) (why : Refusal) → b < 7 → BinaryOk s at (b + 1) d m o w w₁ (Err why) → BinaryOk s at b d m o w w₂ (Err why)
  unfolding conditional_at
  binary_refused b w₁ w₂ why hl h zero lt = absurd (omega arith)
  binary_refused b w₁ w₂ why hl h (suc f) lt = rw (lt-ltb b 7 hl, h f (omega arith)) refl

  pub binary_done : (b : ℕ) (w₁ w₂ : Memory) (q : ℕ) (n : Mark) (r : Result Progress Refusal) → b < 7 → BinaryOk s at (b + 1) d m o w w₁ (Ok (progress q n)) → RestOk s q b d n o w₁ w₂ r → left s q + 1 ≤ left s at → BinaryOk s at b d m o w w₂ r
  unfolding conditional_at
  binary_done b w₁ w₂ q n r hl h a lo zero lt = absurd (omega arith)
  binary_done b w₁ w₂ q n r hl h a lo (suc f) lt =
      let x = h f (omega arith) in
      let e : m.nodes + o + size x.0 ≡ n.nodes + o = omega (arith, nodes_of_lem m x.0 x.2) in
      rw (lt-ltb b 7 hl, x.1, e) (a f (omega arith) m x.0 w x.2 x.3)

  pub rest_stop : (b : ℕ) → NotBinary b (tokens_at s at) → RestOk s at b d m o w w (Ok (progress at m))
  unfolding conditional_at
  rest_stop b h zero lt = absurd (omega arith)
  rest_stop b h (suc f) lt = λ m₀ e v hm hw. (e, binary_off b (tokens_at s at) _ _ h, hm, hw)

  module _ (b : ℕ) (j : Binary) (p q : ℕ) (hj : binds_of j ≡ b) (g : Stands s at p (T.operator j) q) where
    pub rest_full : (w₁ : Memory) (why : Refusal) → 1024 ≤ m.nodes + o → why ≡ refusal 9 p → RestOk s at b d m o w w₁ (Err why)
    unfolding conditional_at
    rest_full w₁ why hc e₀ zero lt = absurd (omega arith)
    rest_full w₁ why hc e₀ (suc f) lt = λ m₀ e v hm hw. rw (g.stands, eq-eqb (binds_of j) b hj, le-leb 1024 (m.nodes + o) hc, e₀) refl

    module _ (hc : m.nodes + o < 1024) where
      pub rest_refused : (w₁ w₂ : Memory) (why : Refusal) → BinaryOk s q (b + 1) d m (o + 1) w w₁ (Err why) → RestOk s at b d m o w w₂ (Err why)
      unfolding conditional_at
      rest_refused w₁ w₂ why h zero lt = absurd (omega arith)
      rest_refused w₁ w₂ why h (suc f) lt = λ m₀ e v hm hw.
          let z = fewer_left s at p q (T.operator j) g in
          rw (g.stands, eq-eqb (binds_of j) b hj, lt-leb 1024 (m.nodes + o) hc, more_begun m.nodes o, h f (omega arith)) refl

      pub rest_more : (w₁ : Memory) (u : List ℕ) (w₃ : Memory) (r : ℕ) (n : Mark) (res : Result Progress Refusal) → BinaryOk s q (b + 1) d m (o + 1) w w₁ (Ok (progress r n)) → left s r + 1 ≤ left s q → u ≡ sets w₁.words (4 * n.nodes) (node (binary_kind j) (m.nodes - 1) (n.nodes - 1) 0) → RestOk s r b d (more n) o (restored w₁ u) w₃ res → RestOk s at b d m o w w₃ res
      unfolding conditional_at
      rest_more w₁ u w₃ r n res h lo hs a zero lt = absurd (omega arith)
      rest_more w₁ u w₃ r n res h lo hs a (suc f) lt = λ m₀ e v hm hw.
          let z = fewer_left s at p q (T.operator j) g in
          let x = h f (omega arith) in
          let c : m.nodes + (o + 1) + size x.0 ≡ n.nodes + 1 + o = omega (arith, nodes_of_lem m x.0 x.2) in
          rw (g.stands, eq-eqb (binds_of j) b hj, lt-leb 1024 (m.nodes + o) hc, more_begun m.nodes o, x.1, c)
          (a f (omega arith) m₀ (binary j e x.0) v (past_binary v w w₁ m₀ m n e x.0 hm x.2 hw x.3 j) (words_binary v w w₁ m₀ m n e x.0 hm x.2 hw x.3 j u hs))

  pub arms_stop : NotToken (T.symbol Question) (tokens_at s at) → ArmsOk s at d m o w w (Ok (progress at m))
  unfolding conditional_at
  arms_stop h zero lt = absurd (omega arith)
  arms_stop h (suc f) lt = λ m₀ e v hm hw. (e, token_off (T.symbol Question) (tokens_at s at) _ _ h, hm, hw)

  module _ (p q : ℕ) (g : Stands s at p (T.symbol Question) q) where
    pub arms_deep : (w₁ : Memory) (why : Refusal) → 64 ≤ d → why ≡ refusal 6 p → ArmsOk s at d m o w w₁ (Err why)
    unfolding conditional_at
    arms_deep w₁ why hd e₀ zero lt = absurd (omega arith)
    arms_deep w₁ why hd e₀ (suc f) lt = λ m₀ e v hm hw. rw (g.stands, le-leb 64 d hd, e₀) refl

    pub arms_full : (w₁ : Memory) (why : Refusal) → d < 64 → 1024 ≤ m.nodes + o → why ≡ refusal 9 p → ArmsOk s at d m o w w₁ (Err why)
    unfolding conditional_at
    arms_full w₁ why hd hc e₀ zero lt = absurd (omega arith)
    arms_full w₁ why hd hc e₀ (suc f) lt = λ m₀ e v hm hw. rw (g.stands, lt-leb 64 d hd, le-leb 1024 (m.nodes + o) hc, e₀) refl

    module _ (hd : d < 64) (hc : m.nodes + o < 1024) where
      pub arms_first : (w₁ w₂ : Memory) (why : Refusal) → ConditionalOk s q (d + 1) m (o + 1) w w₁ (Err why) → ArmsOk s at d m o w w₂ (Err why)
      unfolding conditional_at
      arms_first w₁ w₂ why h zero lt = absurd (omega arith)
      arms_first w₁ w₂ why h (suc f) lt = λ m₀ e v hm hw.
          let z = fewer_left s at p q (T.symbol Question) g in
          rw (g.stands, lt-leb 64 d hd, lt-leb 1024 (m.nodes + o) hc, more_begun m.nodes o, h f (omega arith)) refl

      module _ (w₁ : Memory) (r : ℕ) (n : Mark) (h : ConditionalOk s q (d + 1) m (o + 1) w w₁ (Ok (progress r n))) where
        pub arms_colon : (w₂ : Memory) (why : Refusal) → NotToken (T.symbol Colon) (tokens_at s r) × Misfit (number_of why.reason) why.place (tokens_at s r) → ArmsOk s at d m o w w₂ (Err why)
        unfolding conditional_at
        arms_colon w₂ why a zero lt = absurd (omega arith)
        arms_colon w₂ why a (suc f) lt = λ m₀ e v hm hw.
            let z = fewer_left s at p q (T.symbol Question) g in
            let x = h f (omega arith) in
            rw (g.stands, lt-leb 64 d hd, lt-leb 1024 (m.nodes + o) hc, more_begun m.nodes o, x.1) (want_off (T.symbol Colon) (tokens_at s r) _ _ _ a)

        module _ (p₁ t : ℕ) (g₁ : Stands s r p₁ (T.symbol Colon) t) (lo : left s r + 1 ≤ left s q) where
          -- the reader behind both arms, the second of which reads as R
          through : (f : ℕ) (e a : Expr) (R : Parsed) → conditional_at limits f (tokens_at s q) (d + 1) (m.nodes + (o + 1)) ≡ ok a (tokens_at s r) → conditional_at limits f (tokens_at s t) (d + 1) (m.nodes + (o + 1) + size a) ≡ R → arms_at limits (suc f) (tokens_at s at) d (m.nodes + o) e ≡ after R (λ b y. ok (conditional e a b) y)
          unfolding conditional_at
          through f e a R ha hb = rw (g.stands, lt-leb 64 d hd, lt-leb 1024 (m.nodes + o) hc, more_begun m.nodes o, ha, g₁.stands, hb) refl

          pub arms_second : (w₂ w₃ : Memory) (why : Refusal) → ConditionalOk s t (d + 1) n (o + 1) w₁ w₂ (Err why) → ArmsOk s at d m o w w₃ (Err why)
          arms_second w₂ w₃ why h₂ zero lt = absurd (omega arith)
          arms_second w₂ w₃ why h₂ (suc f) lt = λ m₀ e v hm hw.
              let z = fewer_left s at p q (T.symbol Question) g in
              let z₁ = fewer_left s r p₁ t (T.symbol Colon) g₁ in
              let x = h f (omega arith) in
              let c : m.nodes + (o + 1) + size x.0 ≡ n.nodes + (o + 1) = omega (arith, nodes_of_lem m x.0 x.2) in
              through f e x.0 (refused (number_of why.reason) why.place) x.1 (rw c (h₂ f (omega arith)))

          pub arms_done : (w₂ : Memory) (u' : List ℕ) (u : ℕ) (i : Mark) → ConditionalOk s t (d + 1) n (o + 1) w₁ w₂ (Ok (progress u i)) → u' ≡ sets w₂.words (4 * i.nodes) (node 12 (m.nodes - 1) (n.nodes - 1) (i.nodes - 1)) → ArmsOk s at d m o w (restored w₂ u') (Ok (progress u (more i)))
          arms_done w₂ u' u i h₂ hs zero lt = absurd (omega arith)
          arms_done w₂ u' u i h₂ hs (suc f) lt = λ m₀ e v hm hw.
              let z = fewer_left s at p q (T.symbol Question) g in
              let z₁ = fewer_left s r p₁ t (T.symbol Colon) g₁ in
              let x = h f (omega arith) in
              let y = h₂ f (omega arith) in
              let c : m.nodes + (o + 1) + size x.0 ≡ n.nodes + (o + 1) = omega (arith, nodes_of_lem m x.0 x.2) in (
                conditional e x.0 y.0,
                through f e x.0 (ok y.0 (tokens_at s u)) x.1 (rw c y.1),
                past_conditional v w w₁ m₀ m n e x.0 hm x.2 hw x.3 w₂ i y.0 y.2,
                words_conditional v w w₁ m₀ m n e x.0 hm x.2 hw x.3 w₂ i y.0 y.2 u' y.3 hs,
              )

  pub unary_primary : (w₁ : Memory) (r : Result Progress Refusal) → ((x : Unary) → NotToken (unary_token x) (tokens_at s at)) → PrimaryOk s at d m o w w₁ r → UnaryOk s at d m o w w₁ r
  unfolding conditional_at
  unary_primary w₁ r h a zero lt = absurd (omega arith)
  unary_primary w₁ r h a (suc f) lt = rw (unary_off (tokens_at s at) (λ x p v. level limits d p (λ _. room limits (m.nodes + o) p (λ _. after (unary_at limits f v (d + 1) (m.nodes + o + 1)) (λ a u. ok (unary x a) u)))) (λ _. primary_at limits f (tokens_at s at) d (m.nodes + o)) h) (a f (omega arith))

  module _ (x : Unary) (p q : ℕ) (g : Stands s at p (unary_token x) q) where
    -- the reader behind the operator
    enters : (f : ℕ) → unary_at limits (suc f) (tokens_at s at) d (m.nodes + o) ≡ level limits d p (λ _. room limits (m.nodes + o) p (λ _. after (unary_at limits f (tokens_at s q) (d + 1) (m.nodes + o + 1)) (λ a u. ok (unary x a) u)))
    unfolding conditional_at
    enters f = rw g.stands (unary_on x p (tokens_at s q) (λ y p v. level limits d p (λ _. room limits (m.nodes + o) p (λ _. after (unary_at limits f v (d + 1) (m.nodes + o + 1)) (λ a u. ok (unary y a) u)))) (λ _. primary_at limits f (next p (unary_token x) (tokens_at s q)) d (m.nodes + o)))

    pub unary_deep : (w₁ : Memory) (why : Refusal) → 64 ≤ d → why ≡ refusal 6 p → UnaryOk s at d m o w w₁ (Err why)
    unary_deep w₁ why hd e₀ zero lt = absurd (omega arith)
    unary_deep w₁ why hd e₀ (suc f) lt = enters f ∙ rw (le-leb 64 d hd, e₀) refl

    pub unary_full : (w₁ : Memory) (why : Refusal) → d < 64 → 1024 ≤ m.nodes + o → why ≡ refusal 9 p → UnaryOk s at d m o w w₁ (Err why)
    unary_full w₁ why hd hc e₀ zero lt = absurd (omega arith)
    unary_full w₁ why hd hc e₀ (suc f) lt = enters f ∙ rw (lt-leb 64 d hd, le-leb 1024 (m.nodes + o) hc, e₀) refl

    module _ (hd : d < 64) (hc : m.nodes + o < 1024) where
      pub unary_refused : (w₁ w₂ : Memory) (why : Refusal) → UnaryOk s q (d + 1) m (o + 1) w w₁ (Err why) → UnaryOk s at d m o w w₂ (Err why)
      unary_refused w₁ w₂ why h zero lt = absurd (omega arith)
      unary_refused w₁ w₂ why h (suc f) lt =
          let z = fewer_left s at p q (unary_token x) g in
          enters f ∙ rw (lt-leb 64 d hd, lt-leb 1024 (m.nodes + o) hc, more_begun m.nodes o, h f (omega arith)) refl

      pub unary_done : (w₁ : Memory) (u : List ℕ) (r : ℕ) (n : Mark) → UnaryOk s q (d + 1) m (o + 1) w w₁ (Ok (progress r n)) → u ≡ sets w₁.words (4 * n.nodes) (node (unary_kind x) (n.nodes - 1) 0 0) → UnaryOk s at d m o w (restored w₁ u) (Ok (progress r (more n)))
      unary_done w₁ u r n h hs zero lt = absurd (omega arith)
      unary_done w₁ u r n h hs (suc f) lt =
          let z = fewer_left s at p q (unary_token x) g in
          let y = h f (omega arith) in (
            unary x y.0,
            enters f ∙ rw (lt-leb 64 d hd, lt-leb 1024 (m.nodes + o) hc, more_begun m.nodes o, y.1) refl,
            past_unary w w₁ m n y.0 y.2 y.3 x,
            words_unary w w₁ m n y.0 y.2 y.3 x u hs,
          )

  pub primary_leaf : (w₁ : Memory) (x : Progress) → LeafOk s at m o w w₁ (Ok (L.Done x)) → PrimaryOk s at d m o w w₁ (Ok x)
  primary_leaf w₁ x h zero lt = absurd (omega arith)
  primary_leaf w₁ x h (suc f) lt = (h.0, h.1 f d, h.2, h.3)

  pub primary_no : (w₁ w₂ : Memory) (why : Refusal) → LeafOk s at m o w w₁ (Err why) → PrimaryOk s at d m o w w₂ (Err why)
  primary_no w₁ w₂ why h zero lt = absurd (omega arith)
  primary_no w₁ w₂ why h (suc f) lt = h f d

  module _ (y : Span) (w₀ : Memory) (e₀ : w₀ ≡ w) (l : LeafOk s at m o w w₀ (Ok (L.Open y))) (lo : left s y.end + 1 ≤ left s at) where
    pub primary_deep : (w₁ : Memory) (why : Refusal) → 64 ≤ d → why ≡ refusal 6 y.start → PrimaryOk s at d m o w w₁ (Err why)
    primary_deep w₁ why hd e₁ zero lt = absurd (omega arith)
    primary_deep w₁ why hd e₁ (suc f) lt = l f d ∙ rw (le-leb 64 d hd, e₁) refl

    module _ (hd : d < 64) where
      pub primary_refused : (w₁ w₂ : Memory) (why : Refusal) → ConditionalOk s y.end (d + 1) m o w₀ w₁ (Err why) → PrimaryOk s at d m o w w₂ (Err why)
      primary_refused w₁ w₂ why h zero lt = absurd (omega arith)
      primary_refused w₁ w₂ why h (suc f) lt = l f d ∙ rw (lt-leb 64 d hd, h f (omega arith)) refl

      module _ (w₁ : Memory) (r : ℕ) (n : Mark) (h : ConditionalOk s y.end (d + 1) m o w₀ w₁ (Ok (progress r n))) where
        pub primary_unclosed : (w₂ : Memory) (why : Refusal) → NotToken (T.symbol CloseParenthesis) (tokens_at s r) × Misfit (number_of why.reason) why.place (tokens_at s r) → PrimaryOk s at d m o w w₂ (Err why)
        primary_unclosed w₂ why a zero lt = absurd (omega arith)
        primary_unclosed w₂ why a (suc f) lt =
            let x = h f (omega arith) in
            l f d ∙ rw (lt-leb 64 d hd, x.1) (want_off (T.symbol CloseParenthesis) (tokens_at s r) _ _ _ a)

        pub primary_done : (p₁ t : ℕ) → Stands s r p₁ (T.symbol CloseParenthesis) t → PrimaryOk s at d m o w w₁ (Ok (progress t n))
        primary_done p₁ t g zero lt = absurd (omega arith)
        primary_done p₁ t g (suc f) lt =
            let x = h f (omega arith) in
            (x.0, l f d ∙ rw (lt-leb 64 d hd, x.1, g.stands) refl, x.2, x.3 ∙ ap (λ (v : Memory). written v m x.0) e₀)

pub within_from : (s : List ℕ) (at q t : ℕ) (m n : Mark) (o : ℕ) (r : Result Progress Refusal) → at + t ≤ q → left s q + t ≤ left s at → m.nodes ≤ n.nodes → Within s q 0 n o r → Within s at t m o r
within_from s at q t m n o (Ok r) h h' hn x = record { low = omega (arith, x.low); high = x.high; grows = omega (arith, x.grows); some = x.some; fits = x.fits; short = x.short; fewer = omega (arith, x.fewer) }
within_from s at q t m n o (Err why) h h' hn x = tt
