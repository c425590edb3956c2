-- Two runs of a reader over tokens that are alike up to some token and at it: the second goes the way of the first. The second has
-- limits and a depth of calls of its own, and may be refused anywhere by these. Assumes nothing.
use Rattle.std.specs.Prelude.{ℕ, ◌≤◌, ◌≡◌, false, List, [], ◌∷◌, ◌++◌, leb, eqb}
use Rattle.std.proofs.Common.{sym, subst, eq-eqb, le-leb}
use Rattle.syntax.specs.Tree.{Literal, Expr}
use Rattle.syntax.specs.Token.{Token, word, constant, operator, symbol, Tokens, next, end, bad}
use Rattle.syntax.specs.Grammar.{binds_of, unary_token, Follows, none, some}
use Rattle.syntax.specs.Reader.{Parsed, ok, refused, is_token, misfit, on_token, on_word, on_literal, on_binary, on_unary, after, want, level, Limits, room}
use Rattle.syntax.proofs.Laws.Codes.{on_pick}
use Rattle.syntax.proofs.Laws.Complete.{at_token, follows_split}
use Rattle.syntax.specs.declared.Binary.{Binary}
use Rattle.syntax.specs.declared.Unary.{Unary}
use Rattle.syntax.specs.declared.Unary.TheVariants.{Not, Plus, Minus}

-- the same token is in front, or none
pub data Alike : Tokens → Tokens → Type 0 where
  alike_next : {p q : ℕ} {t : Token} {u v : Tokens} → Alike (next p t u) (next q t v)
  alike_end : {m n : ℕ} → Alike (end m) (end n)
  alike_bad : {j k p q : ℕ} → Alike (bad j p) (bad k q)

pub alike_front : {u v x y : Tokens} {ts : List Token} → Follows u ts x → Follows v ts y → Alike x y → Alike u v
alike_front none none a = a
alike_front (some f) (some g) a = alike_next

pub alike_step : {u v w : Tokens} {t : Token} → Alike u v → Follows u (t ∷ []) w → (x : Tokens) × Follows v (t ∷ []) x
alike_step (alike_next {v = x}) (some none) = (x, some none)
alike_step alike_end x = elim x [ ]
alike_step alike_bad x = elim x [ ]

-- what holds of the token in front, if there is one
abbrev pub InFront : (Token → Type 0) → Tokens → Type 0
InFront P (next p t u) = P t
InFront P (end n) = Unit {0}
InFront P (bad k p) = Unit {0}

pub front_alike : (P : Token → Type 0) {u v : Tokens} → Alike u v → InFront P u → InFront P v
front_alike P alike_next h = h
front_alike P alike_end h = tt
front_alike P alike_bad h = tt

abbrev pub Unlike : Token → Token → Type 0
Unlike x t = is_token x t ≡ false

abbrev pub NoUnary : Token → Type 0
NoUnary t = (o : Unary) → Unlike (unary_token o) t

abbrev pub NoBinary : ℕ → Token → Type 0
NoBinary b (word w) = Unit {0}
NoBinary b (constant l) = Unit {0}
NoBinary b (operator j) = eqb (binds_of j) b ≡ false
NoBinary b (symbol s) = Unit {0}

abbrev pub NoWord : Token → Type 0
NoWord (word w) = ⊥
NoWord (constant l) = Unit {0}
NoWord (operator j) = Unit {0}
NoWord (symbol s) = Unit {0}

abbrev pub NoLiteral : Token → Type 0
NoLiteral (word w) = Unit {0}
NoLiteral (constant l) = ⊥
NoLiteral (operator j) = Unit {0}
NoLiteral (symbol s) = Unit {0}

-- ---- what the second run gives

-- how the first run ended
pub data Outcome : Type 0 where
  done : Expr → Outcome
  stuck : Outcome

abbrev pub meets : Parsed → Outcome → Tokens → Type 0
meets (ok a w) (done e) v = (a ≡ e) × (w ≡ v)
meets (ok a w) stuck v = ⊥
meets (refused k p) o v = Unit {0}

-- the second run is refused, or ends like the first, in front of v
abbrev pub Meets : Outcome → Tokens → Parsed → Type 0
Meets o v x = meets x o v

pub after_stuck : (v w : Tokens) (x : Parsed) (go : Expr → Tokens → Parsed) → Meets stuck v x → Meets stuck w (after x go)
after_stuck v w (ok a y) go h = absurd h
after_stuck v w (refused k p) go h = tt

module _ (o : Outcome) (w : Tokens) where
  pub after_done : (e : Expr) (v : Tokens) (x : Parsed) (go : Expr → Tokens → Parsed) → Meets (done e) v x → Meets o w (go e v) → Meets o w (after x go)
  after_done e v (ok a y) go h g = subst (λ (z : Tokens). Meets o w (go a z)) (sym h.1) (subst (λ (b : Expr). Meets o w (go b v)) (sym h.0) g)
  after_done e v (refused k p) go h g = tt

  pub level_meets : (K : Limits) (d p : ℕ) (go : Unit {0} → Parsed) → Meets o w (go tt) → Meets o w (level K d p go)
  level_meets K d p go h = on_pick (Meets o w) (leb K.most_levels d) _ go (λ _. tt) (λ _. h)

  pub level_deep : (K : Limits) (d p : ℕ) (go : Unit {0} → Parsed) → K.most_levels ≤ d → Meets o w (level K d p go)
  level_deep K d p go h = rw (le-leb K.most_levels d h) tt

  pub room_meets : (K : Limits) (c p : ℕ) (go : Unit {0} → Parsed) → Meets o w (go tt) → Meets o w (room K c p go)
  room_meets K c p go h = on_pick (Meets o w) (leb K.most_nodes c) _ go (λ _. tt) (λ _. h)

  pub misfit_meets : (u : Tokens) → Meets o w (misfit refused u)
  misfit_meets (next p t u) = tt
  misfit_meets (end n) = tt
  misfit_meets (bad k p) = tt

  -- the token is there
  pub token_meets : (x : Token) (u v : Tokens) (then : ℕ → Tokens → Parsed) (otherwise : Unit {0} → Parsed) → Follows u (x ∷ []) v → ((p : ℕ) → Meets o w (then p v)) → Meets o w (on_token x u then otherwise)
  token_meets x u v then otherwise (some {p = p} none) h = rw (at_token x p v then otherwise) (h p)

  pub want_meets : (x : Token) (u v : Tokens) (go : Tokens → Parsed) → Follows u (x ∷ []) v → Meets o w (go v) → Meets o w (want x u go)
  want_meets x u v go f h = token_meets x u v (λ p y. go y) (λ _. misfit refused u) f (λ p. h)

  pub unary_meets : (x : Unary) (u v : Tokens) (then : Unary → ℕ → Tokens → Parsed) (otherwise : Unit {0} → Parsed) → Follows u (unary_token x ∷ []) v → ((p : ℕ) → Meets o w (then x p v)) → Meets o w (on_unary u then otherwise)
  unary_meets Not u v then otherwise (some {p = p} none) h = h p
  unary_meets Plus u v then otherwise (some {p = p} none) h = h p
  unary_meets Minus u v then otherwise (some {p = p} none) h = h p

  pub binary_meets : (b : ℕ) (j : Binary) (u v : Tokens) (then : Binary → ℕ → Tokens → Parsed) (otherwise : Unit {0} → Parsed) → binds_of j ≡ b → Follows u (operator j ∷ []) v → ((p : ℕ) → Meets o w (then j p v)) → Meets o w (on_binary b u then otherwise)
  binary_meets b j u v then otherwise e (some {p = p} none) h = rw (eq-eqb (binds_of j) b e) (h p)

  -- the token is not there
  pub unlike_meets : (x : Token) (u : Tokens) (then : ℕ → Tokens → Parsed) (otherwise : Unit {0} → Parsed) → InFront (Unlike x) u → Meets o w (otherwise tt) → Meets o w (on_token x u then otherwise)
  unlike_meets x (next p t u) then otherwise e h = rw e h
  unlike_meets x (end n) then otherwise e h = h
  unlike_meets x (bad k p) then otherwise e h = h

  pub no_want_meets : (x : Token) (u : Tokens) (go : Tokens → Parsed) → InFront (Unlike x) u → Meets o w (want x u go)
  no_want_meets x u go e = unlike_meets x u (λ p v. go v) (λ _. misfit refused u) e (misfit_meets u)

  pub no_unary_meets : (u : Tokens) (then : Unary → ℕ → Tokens → Parsed) (otherwise : Unit {0} → Parsed) → InFront NoUnary u → Meets o w (otherwise tt) → Meets o w (on_unary u then otherwise)
  no_unary_meets (next p t u) then otherwise e h = rw (e Not, e Plus, e Minus) h
  no_unary_meets (end n) then otherwise e h = h
  no_unary_meets (bad k p) then otherwise e h = h

  pub no_binary_meets : (b : ℕ) (u : Tokens) (then : Binary → ℕ → Tokens → Parsed) (otherwise : Unit {0} → Parsed) → InFront (NoBinary b) u → Meets o w (otherwise tt) → Meets o w (on_binary b u then otherwise)
  no_binary_meets b (next p (word n) u) then otherwise e h = h
  no_binary_meets b (next p (constant l) u) then otherwise e h = h
  no_binary_meets b (next p (operator j) u) then otherwise e h = rw e h
  no_binary_meets b (next p (symbol s) u) then otherwise e h = h
  no_binary_meets b (end n) then otherwise e h = h
  no_binary_meets b (bad k p) then otherwise e h = h

  pub no_word_meets : (u : Tokens) (then : ℕ → List ℕ → Tokens → Parsed) (otherwise : Unit {0} → Parsed) → InFront NoWord u → Meets o w (otherwise tt) → Meets o w (on_word u then otherwise)
  no_word_meets (next p (word n) u) then otherwise e h = absurd e
  no_word_meets (next p (constant l) u) then otherwise e h = h
  no_word_meets (next p (operator j) u) then otherwise e h = h
  no_word_meets (next p (symbol s) u) then otherwise e h = h
  no_word_meets (end n) then otherwise e h = h
  no_word_meets (bad k p) then otherwise e h = h

  pub no_literal_meets : (u : Tokens) (then : ℕ → Literal → Tokens → Parsed) (otherwise : Unit {0} → Parsed) → InFront NoLiteral u → Meets o w (otherwise tt) → Meets o w (on_literal u then otherwise)
  no_literal_meets (next p (word n) u) then otherwise e h = h
  no_literal_meets (next p (constant l) u) then otherwise e h = absurd e
  no_literal_meets (next p (operator j) u) then otherwise e h = h
  no_literal_meets (next p (symbol s) u) then otherwise e h = h
  no_literal_meets (end n) then otherwise e h = h
  no_literal_meets (bad k p) then otherwise e h = h

-- ---- readers as they are run a second time

-- a reader, over limits, a depth of calls, tokens and a count of nodes
abbrev pub Run : Type 0
Run = Limits → ℕ → Tokens → ℕ → Parsed

-- over any tokens that begin with ts and then go on like x, the reader R is refused or meets the outcome o there
abbrev pub Local : Run → List Token → Outcome → Tokens → Type 0
Local R ts o x = (K : Limits) (f : ℕ) (u y : Tokens) (c : ℕ) → Follows u ts y → Alike x y → Meets o y (R K f u c)

-- behind the tokens xs, in front of something like v, the reader R does what S does
abbrev pub Passes : Outcome → Run → Run → List Token → Tokens → Type 0
Passes o R S xs v = (K : Limits) (f : ℕ) (u x y : Tokens) (c : ℕ) → Follows u xs x → Alike v x → ((g n : ℕ) → Meets o y (S K g x n)) → Meets o y (R K f u c)

pub through : (o : Outcome) (R S : Run) (xs ts : List Token) (v w : Tokens) → Passes o R S xs v → Follows v ts w → Local S ts o w → Local R (xs ++ ts) o w
through o R S xs ts v w pass f loc = λ K g u y c h al.
    let s = follows_split xs h in
    pass K g u s.0 y c s.1 (alike_front f s.2 al) (λ g' n. loc K g' s.0 y n s.2 al)
