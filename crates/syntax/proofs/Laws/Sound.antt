-- What the reader accepts is a sentence of the grammar within the limits, and no refusal of it comes from the depth of calls.
-- Assumes nothing.
use Rattle.std.specs.Prelude.{ℕ, zero, suc, ◌+◌, ◌-◌, ◌*◌, ◌≤◌, ◌<◌, ◌≡◌, refl, List, [], ◌∷◌, ◌++◌, ltb, leb, eqb}
use Rattle.std.proofs.Common.{arith, subst, ltb-true, ltb-false, leb-false, eqb-true}
use Rattle.syntax.specs.Tree.{Literal, Expr, unary, binary, conditional, size}
use Rattle.syntax.specs.Token.{Token, word, constant, operator, symbol, Tokens, next, end, bad}
use Rattle.syntax.specs.Grammar.{binds_of, unary_token, ReadsTo, reads_literal, reads_own, reads_other, reads_parentheses, reads_unary, reads_binary, reads_conditional, reads_tighter, Follows, none, some}
use Rattle.syntax.specs.Reader.{Parsed, ok, refused, code_of, is_token, misfit, on_token, on_word, on_literal, on_binary, on_unary, after, want, level, Limits, room, conditional_at, arms_at, binary_at, rest_at, unary_at, primary_at, count}
use Rattle.syntax.proofs.Laws.Codes.{on_pick, is_token_lem, symbol_coded, operator_coded}
use Rattle.syntax.specs.declared.Binary.{Binary}
use Rattle.syntax.specs.declared.Binary.TheVariants.{Add, Subtract}
use Rattle.syntax.specs.declared.Unary.{Unary}
use Rattle.syntax.specs.declared.Unary.TheVariants.{Not, Plus, Minus}
use Rattle.syntax.specs.declared.Symbol.TheVariants.{Exclamation, Question, Colon, OpenParenthesis, CloseParenthesis, Point, Other}

-- a refusal of a reader: its number is 3 to 9, and its place is in a text of n bytes
pub record Number (n k p : ℕ) : Type 0 where
  pub low : 3 ≤ k
  pub high : k ≤ 9
  pub within : p ≤ n

-- places are in a text of n bytes, and a bad token has a number
unfoldable pub Marked : ℕ → Tokens → Type 0
Marked n (next p t u) = (p ≤ n) × Marked n u
Marked n (end m) = m ≤ n
Marked n (bad k p) = Number n k p

-- the token t is in front of u, at p, and behind it is v
pub record Step (n : ℕ) (u : Tokens) (p : ℕ) (t : Token) (v : Tokens) : Type 0 where
  pub within : p ≤ n
  pub marked : Marked n v
  pub fewer : count u ≡ count v + 1
  pub step : Follows u (t ∷ []) v

pub step_of : (n p : ℕ) (t : Token) (v : Tokens) → Marked n (next p t v) → Step n (next p t v) p t v
unfolding Marked count
step_of n p t v h = record { within = h.0; marked = h.1; fewer = refl; step = some none }

-- ---- what is accepted is P, and a refusal has a number

abbrev pub All : ℕ → (Expr → Tokens → Type 0) → Parsed → Type 0
All n P (ok e u) = P e u
All n P (refused k p) = Number n k p

module _ (n : ℕ) where
  four : (p : ℕ) → p ≤ n → Number n 4 p
  four p h = record { low = omega arith; high = omega arith; within = h }

  on_misfit : (Q : Expr → Tokens → Type 0) (u : Tokens) → Marked n u → All n Q (misfit refused u)
  unfolding Marked
  on_misfit Q (next p t u) h = four p h.0
  on_misfit Q (end m) h = four m h
  on_misfit Q (bad k p) h = h

  module _ (P Q : Expr → Tokens → Type 0) where
    on_after : (x : Parsed) (go : Expr → Tokens → Parsed) → All n P x → ((e : Expr) (u : Tokens) → P e u → All n Q (go e u)) → All n Q (after x go)
    on_after (ok e u) go h f = f e u h
    on_after (refused k p) go h f = h

    on_all : (x : Parsed) → All n P x → ((e : Expr) (u : Tokens) → P e u → Q e u) → All n Q x
    on_all (ok e u) h f = f e u h
    on_all (refused k p) h f = h

  module _ (Q : Expr → Tokens → Type 0) where
    on_level : (L : Limits) (d p : ℕ) (go : Unit {0} → Parsed) → p ≤ n → (d < L.most_levels → All n Q (go tt)) → All n Q (level L d p go)
    on_level L d p go h f =
        on_pick (All n Q) (leb L.most_levels d) _ go (λ _. record { low = omega arith; high = omega arith; within = h }) (λ b. f (leb-false L.most_levels d b))

    on_room : (L : Limits) (c p : ℕ) (go : Unit {0} → Parsed) → p ≤ n → (c < L.most_nodes → All n Q (go tt)) → All n Q (room L c p go)
    on_room L c p go h f =
        on_pick (All n Q) (leb L.most_nodes c) _ go (λ _. record { low = omega arith; high = omega arith; within = h }) (λ b. f (leb-false L.most_nodes c b))

    on_token_lem : (x : Token) → 1 ≤ code_of x → (u : Tokens) (then : ℕ → Tokens → Parsed) (otherwise : Unit {0} → Parsed) → Marked n u →
        ((p : ℕ) (v : Tokens) → Step n u p x v → All n Q (then p v)) → All n Q (otherwise tt) → All n Q (on_token x u then otherwise)
    on_token_lem x hx (next p t u) then otherwise h f g =
        on_pick (All n Q) (is_token x t) _ otherwise
        (λ b. f p u (subst (λ (y : Token). Step n (next p t u) p y u) (is_token_lem x t hx b) (step_of n p t u h)))
        (λ _. g)
    on_token_lem x hx (end m) then otherwise h f g = g
    on_token_lem x hx (bad k p) then otherwise h f g = g

    on_want : (x : Token) → 1 ≤ code_of x → (u : Tokens) (go : Tokens → Parsed) → Marked n u → ((p : ℕ) (v : Tokens) → Step n u p x v → All n Q (go v)) → All n Q (want x u go)
    on_want x hx u go h f = on_token_lem x hx u _ _ h f (on_misfit Q u h)

    on_word_lem : (u : Tokens) (then : ℕ → List ℕ → Tokens → Parsed) (otherwise : Unit {0} → Parsed) → Marked n u →
        ((p : ℕ) (w : List ℕ) (v : Tokens) → Step n u p (word w) v → All n Q (then p w v)) → All n Q (otherwise tt) → All n Q (on_word u then otherwise)
    on_word_lem (next p (word w) u) then otherwise h f g = f p w u (step_of n p (word w) u h)
    on_word_lem (next p (constant l) u) then otherwise h f g = g
    on_word_lem (next p (operator j) u) then otherwise h f g = g
    on_word_lem (next p (symbol s) u) then otherwise h f g = g
    on_word_lem (end m) then otherwise h f g = g
    on_word_lem (bad k p) then otherwise h f g = g

    on_literal_lem : (u : Tokens) (then : ℕ → Literal → Tokens → Parsed) (otherwise : Unit {0} → Parsed) → Marked n u →
        ((p : ℕ) (l : Literal) (v : Tokens) → Step n u p (constant l) v → All n Q (then p l v)) → All n Q (otherwise tt) → All n Q (on_literal u then otherwise)
    on_literal_lem (next p (word w) u) then otherwise h f g = g
    on_literal_lem (next p (constant l) u) then otherwise h f g = f p l u (step_of n p (constant l) u h)
    on_literal_lem (next p (operator j) u) then otherwise h f g = g
    on_literal_lem (next p (symbol s) u) then otherwise h f g = g
    on_literal_lem (end m) then otherwise h f g = g
    on_literal_lem (bad k p) then otherwise h f g = g

    on_binary_lem : (b : ℕ) (u : Tokens) (then : Binary → ℕ → Tokens → Parsed) (otherwise : Unit {0} → Parsed) → Marked n u →
        ((j : Binary) (p : ℕ) (v : Tokens) → binds_of j ≡ b → Step n u p (operator j) v → All n Q (then j p v)) → All n Q (otherwise tt) → All n Q (on_binary b u then otherwise)
    on_binary_lem b (next p (word w) u) then otherwise h f g = g
    on_binary_lem b (next p (constant l) u) then otherwise h f g = g
    on_binary_lem b (next p (operator j) u) then otherwise h f g =
        on_pick (All n Q) (eqb (binds_of j) b) _ otherwise (λ t. f j p u (eqb-true (binds_of j) b t) (step_of n p (operator j) u h)) (λ _. g)
    on_binary_lem b (next p (symbol s) u) then otherwise h f g = g
    on_binary_lem b (end m) then otherwise h f g = g
    on_binary_lem b (bad k p) then otherwise h f g = g

    on_unary_lem : (u : Tokens) (then : Unary → ℕ → Tokens → Parsed) (otherwise : Unit {0} → Parsed) → Marked n u →
        ((o : Unary) (p : ℕ) (v : Tokens) → Step n u p (unary_token o) v → All n Q (then o p v)) → All n Q (otherwise tt) → All n Q (on_unary u then otherwise)
    on_unary_lem u then otherwise h f g =
        on_token_lem (unary_token Not) (symbol_coded Exclamation) u _ _ h (f Not)
        (on_token_lem (unary_token Plus) (operator_coded Add) u _ _ h (f Plus)
        (on_token_lem (unary_token Minus) (operator_coded Subtract) u _ _ h (f Minus) g))

-- ---- some tokens from u up to v are e, no deeper than level l

abbrev pub Read : ℕ → ℕ → Tokens → ℕ → Expr → Tokens → Type 0
Read l b u d e v = (ts : List Token) × Follows u ts v × ReadsTo l b d ts e

pub follows_append : {u v w : Tokens} {xs ys : List Token} → Follows u xs v → Follows v ys w → Follows u (xs ++ ys) w
follows_append none g = g
follows_append (some f) g = some (follows_append f g)

pub follows_marked : (n : ℕ) {u v : Tokens} {ts : List Token} → Follows u ts v → Marked n u → Marked n v
unfolding Marked
follows_marked n none h = h
follows_marked n (some f) h = follows_marked n f h.1

module _ {l d : ℕ} {u : Tokens} where
  pub read_tighter : {b : ℕ} {e : Expr} {v : Tokens} → b < 8 → Read l (b + 1) u d e v → Read l b u d e v
  read_tighter h r = (r.0, r.1, reads_tighter h r.2)

  pub read_parentheses : {v w x : Tokens} {e : Expr} → d < l → Follows u (symbol OpenParenthesis ∷ []) v → Read l 0 v (d + 1) e w → Follows w (symbol CloseParenthesis ∷ []) x → Read l 8 u d e x
  read_parentheses h f r g = (_, follows_append f (follows_append r.1 g), reads_parentheses h r.2)

  pub read_unary : {o : Unary} {v w : Tokens} {e : Expr} → d < l → Follows u (unary_token o ∷ []) v → Read l 7 v (d + 1) e w → Read l 7 u d (unary o e) w
  read_unary h f r = (_, follows_append f r.1, reads_unary h r.2)

  pub read_binary : {b : ℕ} {j : Binary} {v w x : Tokens} {e a : Expr} → binds_of j ≡ b → Read l b u d e v → Follows v (operator j ∷ []) w → Read l (b + 1) w d a x → Read l b u d (binary j e a) x
  read_binary {j = j} {v} {w} {x} {e} {a} =
      λ h. subst (λ (k : ℕ). Read l k u d e v → Follows v (operator j ∷ []) w → Read l (k + 1) w d a x → Read l k u d (binary j e a) x) h
      (λ l f r. (_, follows_append l.1 (follows_append f r.1), reads_binary l.2 r.2))

  pub read_conditional : {v w x y z : Tokens} {e a b : Expr} → d < l → Read l 1 u d e v → Follows v (symbol Question ∷ []) w → Read l 0 w (d + 1) a x → Follows x (symbol Colon ∷ []) y → Read l 0 y (d + 1) b z → Read l 0 u d (conditional e a b) z
  read_conditional h r f s g t = (_, follows_append r.1 (follows_append f (follows_append s.1 (follows_append g t.1))), reads_conditional h r.2 s.2 t.2)

-- ---- the readers

module _ (n : ℕ) (L : Limits) where
  -- e stands in front of u, and v behind it, which has fewer tokens; e's nodes fit after c others
  pub record Got (b : ℕ) (u : Tokens) (d c : ℕ) (e : Expr) (v : Tokens) : Type 0 where
    pub fewer : count v < count u
    pub fits : c + size e ≤ L.most_nodes
    pub read : Read L.most_levels b u d e v

  marked_behind : {b d c : ℕ} {u v : Tokens} {e : Expr} → Marked n u → Got b u d c e v → Marked n v
  marked_behind h g = follows_marked n g.read.1 h

  mutual
    unfolding conditional_at size

    pub conditional_sound : (f : ℕ) (u : Tokens) (d c : ℕ) → Marked n u → 16 * count u + 10 < f → All n (Got 0 u d c) (conditional_at L f u d c)
    conditional_sound zero u d c hm hf = absurd (omega arith)
    conditional_sound (suc f) u d c hm hf =
        on_after n _ _ (binary_at L f u 1 d c) _ (binary_sound f u 1 d c hm (omega arith) (omega arith)) λ e v g.
        arms_sound f v d (c + size e) e (marked_behind hm g) (omega arith) u c refl g.fits g.fewer g.read

    pub arms_sound : (f : ℕ) (u : Tokens) (d c : ℕ) (e : Expr) → Marked n u → 16 * count u + 11 < f → (u₀ : Tokens) (c₀ : ℕ) → c ≡ c₀ + size e → c ≤ L.most_nodes → count u < count u₀ → Read L.most_levels 1 u₀ d e u → All n (Got 0 u₀ d c₀) (arms_at L f u d c e)
    arms_sound zero u d c e hm hf u₀ c₀ hc hn hu r = absurd (omega arith)
    arms_sound (suc f) u d c e hm hf u₀ c₀ hc hn hu r =
        let Q = Got 0 u₀ d c₀ in
        on_token_lem n Q (symbol Question) (symbol_coded Question) u _ _ hm
        (λ p v s. on_level n Q L d p _ s.within λ hd. on_room n Q L c p _ s.within λ hr.
        on_after n _ Q (conditional_at L f v (d + 1) (c + 1)) _ (conditional_sound f v (d + 1) (c + 1) s.marked (omega arith)) λ a w g.
        on_want n Q (symbol Colon) (symbol_coded Colon) w _ (marked_behind s.marked g) λ p' x s'.
        on_after n _ Q (conditional_at L f x (d + 1) (c + 1 + size a)) _ (conditional_sound f x (d + 1) (c + 1 + size a) s'.marked (omega arith)) λ b y g'.
        record { fewer = omega arith; fits = omega arith; read = read_conditional hd r s.step g.read s'.step g'.read })
        (record { fewer = hu; fits = omega arith; read = read_tighter (omega arith) r })

    pub binary_sound : (f : ℕ) (u : Tokens) (b d c : ℕ) → Marked n u → b ≤ 7 → 16 * count u + (10 - b) < f → All n (Got b u d c) (binary_at L f u b d c)
    binary_sound zero u b d c hm hb hf = absurd (omega arith)
    binary_sound (suc f) u b d c hm hb hf =
        on_pick (All n (Got b u d c)) (ltb b 7) _ _
        (λ t. let hb' : b < 7 = ltb-true b 7 t in
        on_after n _ _ (binary_at L f u (b + 1) d c) _ (binary_sound f u (b + 1) d c hm (omega arith) (omega arith)) λ e v g.
        rest_sound f v b d (c + size e) e (marked_behind hm g) hb' (omega arith) u c refl g.fits g.fewer (read_tighter (omega arith) g.read))
        (λ t. let e : 7 ≡ b = omega (arith, ltb-false b 7 t) in
        subst (λ (k : ℕ). All n (Got k u d c) (unary_at L f u d c)) e (unary_sound f u d c hm (omega arith)))

    pub rest_sound : (f : ℕ) (u : Tokens) (b d c : ℕ) (e : Expr) → Marked n u → b < 7 → 16 * count u + 11 < f → (u₀ : Tokens) (c₀ : ℕ) → c ≡ c₀ + size e → c ≤ L.most_nodes → count u < count u₀ → Read L.most_levels b u₀ d e u → All n (Got b u₀ d c₀) (rest_at L f u b d c e)
    rest_sound zero u b d c e hm hb hf u₀ c₀ hc hn hu r = absurd (omega arith)
    rest_sound (suc f) u b d c e hm hb hf u₀ c₀ hc hn hu r =
        let Q = Got b u₀ d c₀ in
        on_binary_lem n Q b u _ _ hm
        (λ j p v hj s. on_room n Q L c p _ s.within λ hr.
        on_after n _ Q (binary_at L f v (b + 1) d (c + 1)) _ (binary_sound f v (b + 1) d (c + 1) s.marked (omega arith) (omega arith)) λ a w g.
        rest_sound f w b d (c + 1 + size a) (binary j e a) (marked_behind s.marked g) hb (omega arith) u₀ c₀ (omega arith) (omega arith) (omega arith) (read_binary hj r s.step g.read))
        (record { fewer = hu; fits = omega arith; read = r })

    pub unary_sound : (f : ℕ) (u : Tokens) (d c : ℕ) → Marked n u → 16 * count u + 2 < f → All n (Got 7 u d c) (unary_at L f u d c)
    unary_sound zero u d c hm hf = absurd (omega arith)
    unary_sound (suc f) u d c hm hf =
        let Q = Got 7 u d c in
        on_unary_lem n Q u (λ o p v. level L d p (λ _. room L c p (λ _. after (unary_at L f v (d + 1) (c + 1)) (λ a w. ok (unary o a) w)))) _ hm
        (λ o p v s. on_level n Q L d p _ s.within λ hd. on_room n Q L c p _ s.within λ hr.
        on_after n _ Q (unary_at L f v (d + 1) (c + 1)) _ (unary_sound f v (d + 1) (c + 1) s.marked (omega arith)) λ a w g.
        record { fewer = omega arith; fits = omega arith; read = read_unary hd s.step g.read })
        (on_all n _ Q (primary_at L f u d c) (primary_sound f u d c hm (omega arith)) λ a w g. record { fewer = g.fewer; fits = g.fits; read = read_tighter (omega arith) g.read })

    pub primary_sound : (f : ℕ) (u : Tokens) (d c : ℕ) → Marked n u → 16 * count u + 1 < f → All n (Got 8 u d c) (primary_at L f u d c)
    primary_sound zero u d c hm hf = absurd (omega arith)
    primary_sound (suc f) u d c hm hf =
        let Q = Got 8 u d c in
        on_literal_lem n Q u _ _ hm
        (λ p l v s. on_room n Q L c p _ s.within λ hr. record { fewer = omega arith; fits = omega arith; read = (_, s.step, reads_literal) })
        (on_word_lem n Q u _ _ hm
        (λ p w v s. on_room n Q L c p _ s.within λ hr. record { fewer = omega arith; fits = omega arith; read = (_, s.step, reads_own) })
        (on_token_lem n Q (symbol Other) (symbol_coded Other) u _ _ hm
        (λ p v s. on_room n Q L c p _ s.within λ hr.
        on_want n Q (symbol Point) (symbol_coded Point) v _ s.marked λ p' x s'.
        on_word_lem n Q x _ _ s'.marked
        (λ q w y s''. record { fewer = omega arith; fits = omega arith; read = (_, follows_append s.step (follows_append s'.step s''.step), reads_other) })
        (on_misfit n Q x s'.marked))
        (on_token_lem n Q (symbol OpenParenthesis) (symbol_coded OpenParenthesis) u _ _ hm
        (λ p v s. on_level n Q L d p _ s.within λ hd.
        on_after n _ Q (conditional_at L f v (d + 1) c) _ (conditional_sound f v (d + 1) c s.marked (omega arith)) λ e w g.
        on_want n Q (symbol CloseParenthesis) (symbol_coded CloseParenthesis) w _ (marked_behind s.marked g) λ p' x s'.
        record { fewer = omega arith; fits = g.fits; read = read_parentheses hd s.step g.read s'.step })
        (on_misfit n Q u hm))))
