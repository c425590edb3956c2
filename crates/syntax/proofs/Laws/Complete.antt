-- The reader accepts every expression of the grammar within the limits, with its tree. Assumes nothing.
use Prim.Native.Nat.{ℕ, zero, suc, ◌+◌, ◌-◌, ◌*◌, ◌≤◌, ◌<◌}
use native.Mathlib.Omega.{arith}
use Rattle.std.specs.Prelude.{◌≡◌, Bool, true, false, List, [], ◌∷◌, ◌++◌, ltb}
use Rattle.std.proofs.Math.Path.{refl, ap, subst}
use Rattle.std.proofs.Common.{sym, ◌∙◌, true≢false}
use Rattle.std.proofs.Math.ListN.{length, length-append}
use borrow.Author.Tests.{ltb-true, ltb-false, eq-eqb, ne_eqb, lt-ltb, lt-leb}
use Rattle.syntax.specs.Tree.{Literal, own, other, Expr, literal, reference, unary, binary, conditional, size}
use Rattle.syntax.specs.Token.{Token, word, constant, operator, symbol, Tokens, next, end, bad, pick}
use Rattle.syntax.specs.Grammar.{binds_of, unary_token, ReadsTo, reads_literal, reads_own, reads_other, reads_parentheses, reads_unary, reads_binary, reads_conditional, reads_tighter, Follows, none, some}
use Rattle.syntax.specs.Reader.{Parsed, ok, code_of, is_token, on_token, on_binary, on_unary, after, level, Limits, room, conditional_at, binary_at, rest_at, unary_at, primary_at}
use Rattle.syntax.proofs.Laws.Codes.{binds_low}
use Rattle.syntax.specs.declared.Binary.{Binary}
use Rattle.syntax.specs.declared.Unary.{Unary}
use Rattle.syntax.specs.declared.Unary.TheVariants.{Not, Plus, Minus}
use Rattle.syntax.specs.declared.Symbol.{Symbol}
use Rattle.syntax.specs.declared.Symbol.TheVariants.{Question, Colon, OpenParenthesis, CloseParenthesis, Point, Other}

-- ---- what follows an expression

-- an expression that binds at b does not go on with the token t
abbrev pub Stop : ℕ → Token → Type 0
Stop b t = (is_token (symbol Question) t ≡ true → 0 < b) × ((j : Binary) → t ≡ operator j → binds_of j < b)

abbrev pub Stops : ℕ → Tokens → Type 0
Stops b (next p t u) = Stop b t
Stops b (end n) = Unit {0}
Stops b (bad k p) = Unit {0}

pub stops_more : (u : Tokens) (b b' : ℕ) → b ≤ b' → Stops b u → Stops b' u
stops_more (next p t u) b b' h x = ((λ y. let z = x.0 y in omega arith), λ j y. let z = x.1 j y in omega arith)
stops_more (end n) b b' h x = tt
stops_more (bad k p) b b' h x = tt

module _ {A : Type 0} where
  pub at_token : (x : Token) (p : ℕ) (v : Tokens) (then : ℕ → Tokens → A) (otherwise : Unit {0} → A) → on_token x (next p x v) then otherwise ≡ then p v
  at_token x p v then otherwise = rw (eq-eqb (code_of x) (code_of x) refl) refl

stop_question : (u : Tokens) (then : ℕ → Tokens → Parsed) (otherwise : Unit {0} → Parsed) → Stops 0 u → on_token (symbol Question) u then otherwise ≡ otherwise tt
stop_question (next p t u) then otherwise h = go (is_token (symbol Question) t) refl
  where
    go : (b : Bool) → is_token (symbol Question) t ≡ b → pick (is_token (symbol Question) t) (λ _. then p u) otherwise ≡ otherwise tt
    go true e = let z : 0 < 0 = h.0 e in absurd (omega arith)
    go false e = rw e refl
stop_question (end n) then otherwise h = refl
stop_question (bad k p) then otherwise h = refl

stop_binary : (b : ℕ) (u : Tokens) (then : Binary → ℕ → Tokens → Parsed) (otherwise : Unit {0} → Parsed) → Stops b u → on_binary b u then otherwise ≡ otherwise tt
stop_binary b (next p (word w) u) then otherwise h = refl
stop_binary b (next p (constant l) u) then otherwise h = refl
stop_binary b (next p (operator j) u) then otherwise h = rw (ne_eqb (binds_of j) b (λ e. let z : binds_of j < b = h.1 j refl in omega arith)) refl
stop_binary b (next p (symbol s) u) then otherwise h = refl
stop_binary b (end n) then otherwise h = refl
stop_binary b (bad k p) then otherwise h = refl

at_unary : (o : Unary) (p : ℕ) (v : Tokens) (then : Unary → ℕ → Tokens → Parsed) (otherwise : Unit {0} → Parsed) → on_unary (next p (unary_token o) v) then otherwise ≡ then o p v
at_unary Not p v then otherwise = refl
at_unary Plus p v then otherwise = refl
at_unary Minus p v then otherwise = refl

-- ---- tokens taken apart

pub follows_split : {u w : Tokens} (xs : List Token) {ys : List Token} → Follows u (xs ++ ys) w → (v : Tokens) × Follows u xs v × Follows v ys w
follows_split {u} [] f = (u, none, f)
follows_split (t ∷ xs) (some f) = let h = follows_split xs f in (h.0, some h.1, h.2)

pub follows_token : {u w : Tokens} {t : Token} {ts : List Token} → Follows u (t ∷ ts) w → (p : ℕ) × (v : Tokens) × (u ≡ next p t v) × Follows v ts w
follows_token (some f) = (_, _, refl, f)

pub follows_none : {u w : Tokens} → Follows u [] w → u ≡ w
follows_none none = refl

-- the first token is no operator of one operand
abbrev Head : List Token → Type 0
Head [] = ⊥
Head (t ∷ ts) = (o : Unary) → is_token (unary_token o) t ≡ false

literal_head : (l : Literal) (o : Unary) → is_token (unary_token o) (constant l) ≡ false
literal_head l Not = refl
literal_head l Plus = refl
literal_head l Minus = refl

word_head : (w : List ℕ) (o : Unary) → is_token (unary_token o) (word w) ≡ false
word_head w Not = refl
word_head w Plus = refl
word_head w Minus = refl

other_head : (o : Unary) → is_token (unary_token o) (symbol Other) ≡ false
other_head Not = refl
other_head Plus = refl
other_head Minus = refl

open_head : (o : Unary) → is_token (unary_token o) (symbol OpenParenthesis) ≡ false
open_head Not = refl
open_head Plus = refl
open_head Minus = refl

head_8 : {l b d : ℕ} {ts : List Token} {e : Expr} → ReadsTo l b d ts e → 8 ≤ b → Head ts
head_8 (reads_literal {l = l}) h = literal_head l
head_8 (reads_own {w = w}) h = word_head w
head_8 reads_other h = other_head
head_8 (reads_parentheses hd r) h = open_head
head_8 (reads_unary hd r) h = absurd (omega arith)
head_8 (reads_binary {j = j} r t) h = absurd (omega (arith, (binds_low j).1))
head_8 (reads_conditional hd x y z) h = absurd (omega arith)
head_8 (reads_tighter hb r) h = absurd (omega arith)

stop_unary : (u v : Tokens) (ts : List Token) (then : Unary → ℕ → Tokens → Parsed) (otherwise : Unit {0} → Parsed) → Follows u ts v → Head ts → on_unary u then otherwise ≡ otherwise tt
stop_unary u v [] then otherwise f h = absurd h
stop_unary u v (t ∷ ts) then otherwise f h =
    let x = follows_token f in
    subst (λ (y : Tokens). on_unary y then otherwise ≡ otherwise tt) (sym x.2) (rw (h Not, h Plus, h Minus) refl)

pub never : (j : Binary) {s : Symbol} → symbol s ≡ operator j → ⊥
never j e = let z : ◌≡◌ {A = ℕ} 0 1 = cc in omega arith

operator_same : (i j : Binary) → operator i ≡ operator j → i ≡ j
operator_same i j e = cc

-- ---- what each reader does at a derivation

module _ (L : Limits) where
  abbrev CompC : ℕ → List Token → Expr → Type 0
  CompC d ts e = (u v : Tokens) (c f : ℕ) → Follows u ts v → Stops 0 v → c + size e ≤ L.most_nodes → 16 * length ts + 10 < f → conditional_at L f u d c ≡ ok e v

  abbrev CompB : ℕ → ℕ → List Token → Expr → Type 0
  CompB b d ts e = (u v : Tokens) (c f : ℕ) → Follows u ts v → Stops b v → c + size e ≤ L.most_nodes → 16 * length ts + (10 - b) < f → binary_at L f u b d c ≡ ok e v

  abbrev CompP : ℕ → List Token → Expr → Type 0
  CompP d ts e = (u v : Tokens) (c f : ℕ) → Follows u ts v → c + size e ≤ L.most_nodes → 16 * length ts + 1 < f → primary_at L f u d c ≡ ok e v

  -- up to e the reader goes on as if e were its left operand
  abbrev Spine : ℕ → ℕ → List Token → Expr → Type 0
  Spine b d ts e = (u v : Tokens) (c g : ℕ) → Follows u ts v → Stops (b + 1) v → c + size e ≤ L.most_nodes → 16 * length ts + (10 - b) < g → (f : ℕ) × (g ≤ f + length ts + 1) × (binary_at L g u b d c ≡ rest_at L f v b d (c + size e) e)

  -- behind an operator of one operand
  abbrev behind_unary : ℕ → ℕ → ℕ → Unary → ℕ → Tokens → Parsed
  behind_unary f d c o p v = level L d p (λ _. room L c p (λ _. after (unary_at L f v (d + 1) (c + 1)) (λ a w. ok (unary o a) w)))

  module _ (d : ℕ) (ts : List Token) (e : Expr) where
    cond_loose : CompB 1 d ts e → CompC d ts e
    unfolding conditional_at
    cond_loose h u v c zero l st hc hf = absurd (omega arith)
    cond_loose h u v c (suc zero) l st hc hf = absurd (omega arith)
    cond_loose h u v c (suc (suc f)) l st hc hf = rw (h u v c (suc f) l (stops_more v 0 1 (omega arith) st) hc (omega arith)) (stop_question v _ _ st)

    spine_loose : (b : ℕ) → b < 7 → CompB (b + 1) d ts e → Spine b d ts e
    unfolding conditional_at
    spine_loose b hb h u v c zero l st hc hf = absurd (omega arith)
    spine_loose b hb h u v c (suc g) l st hc hf = (g, omega arith, rw (lt-ltb b 7 hb, h u v c g l st hc (omega arith)) refl)

    comp_spine : (b : ℕ) → b < 7 → Spine b d ts e → CompB b d ts e
    unfolding conditional_at
    comp_spine b hb h u v c g l st hc hf =
        let y = h u v c g l (stops_more v b (b + 1) (omega arith) st) hc hf in
        y.2 ∙ stop y.0 (omega arith)
      where
        stop : (f : ℕ) → 0 < f → rest_at L f v b d (c + size e) e ≡ ok e v
        stop zero hf = absurd (omega arith)
        stop (suc f) hf = stop_binary b v _ _ st

    comp_primary : Head ts → CompP d ts e → CompB 7 d ts e
    unfolding conditional_at
    comp_primary hd h u v c zero l st hc hf = absurd (omega arith)
    comp_primary hd h u v c (suc zero) l st hc hf = absurd (omega arith)
    comp_primary hd h u v c (suc (suc f)) l st hc hf = stop_unary u v ts (behind_unary f d c) (λ _. primary_at L f u d c) l hd ∙ h u v c f l hc (omega arith)

    comp_unary : (o : Unary) → d < L.most_levels → CompB 7 (d + 1) ts e → CompB 7 d (unary_token o ∷ ts) (unary o e)
    unfolding conditional_at size
    comp_unary o hd h u v c zero l st hc hf = absurd (omega arith)
    comp_unary o hd h u v c (suc zero) l st hc hf = absurd (omega arith)
    comp_unary o hd h u v c (suc (suc f)) l st hc hf =
        let x = follows_token l in
        subst (λ (y : Tokens). on_unary y (behind_unary f d c) (λ _. primary_at L f y d c) ≡ ok (unary o e) v) (sym x.2)
        (at_unary o x.0 x.1 (behind_unary f d c) (λ _. primary_at L f (next x.0 (unary_token o) x.1) d c)
        ∙ rw (lt-leb L.most_levels d hd, lt-leb L.most_nodes c (omega arith), h x.1 v (c + 1) (suc f) x.3 st (omega arith) (omega arith)) refl)

    comp_parentheses : d < L.most_levels → CompC (d + 1) ts e → CompP d (symbol OpenParenthesis ∷ (ts ++ symbol CloseParenthesis ∷ [])) e
    unfolding conditional_at
    comp_parentheses hd h u v c zero l hc hf = absurd (omega arith)
    comp_parentheses hd h u v c (suc f) l hc hf =
        let x = follows_token l in
        let y = follows_split ts x.3 in
        let z = follows_token y.2 in
        let s : Stops 0 y.0 = rw z.2 ((λ q. absurd (true≢false (sym q))), λ j q. absurd (never j q)) in
        rw (x.2, lt-leb L.most_levels d hd, h x.1 y.0 c f y.1 s hc (omega (arith, length-append ts (symbol CloseParenthesis ∷ []))), z.2)
        (ap (ok e) (follows_none z.3))

  comp_literal : (d : ℕ) (l : Literal) → CompP d (constant l ∷ []) (literal l)
  unfolding conditional_at size
  comp_literal d l u v c zero (some none) hc hf = absurd (omega arith)
  comp_literal d l u v c (suc f) (some none) hc hf = rw (lt-leb L.most_nodes c (omega arith)) refl

  comp_own : (d : ℕ) (w : List ℕ) → CompP d (word w ∷ []) (reference own w)
  unfolding conditional_at size
  comp_own d w u v c zero (some none) hc hf = absurd (omega arith)
  comp_own d w u v c (suc f) (some none) hc hf = rw (lt-leb L.most_nodes c (omega arith)) refl

  comp_other : (d : ℕ) (w : List ℕ) → CompP d (symbol Other ∷ symbol Point ∷ word w ∷ []) (reference other w)
  unfolding conditional_at size
  comp_other d w u v c zero (some (some (some none))) hc hf = absurd (omega arith)
  comp_other d w u v c (suc f) (some (some (some none))) hc hf = rw (lt-leb L.most_nodes c (omega arith)) refl

  comp_conditional : (d : ℕ) (xs ys zs : List Token) (a b e : Expr) → d < L.most_levels → CompB 1 d xs a → CompC (d + 1) ys b → CompC (d + 1) zs e → CompC d (xs ++ symbol Question ∷ (ys ++ symbol Colon ∷ zs)) (conditional a b e)
  unfolding conditional_at size
  comp_conditional d xs ys zs a b e hd ha hb he u v c zero l st hn hf = absurd (omega arith)
  comp_conditional d xs ys zs a b e hd ha hb he u v c (suc zero) l st hn hf = absurd (omega arith)
  comp_conditional d xs ys zs a b e hd ha hb he u v c (suc (suc f)) l st hn hf =
      let x = follows_split xs l in
      let t = follows_token x.2 in
      let y = follows_split ys t.3 in
      let s = follows_token y.2 in
      let len = length-append xs (symbol Question ∷ (ys ++ symbol Colon ∷ zs)) in
      let len' = length-append ys (symbol Colon ∷ zs) in
      let stop : Stops 1 x.0 = rw t.2 ((λ _. omega arith), λ j q. absurd (never j q)) in
      let stop' : Stops 0 y.0 = rw s.2 ((λ q. absurd (true≢false (sym q))), λ j q. absurd (never j q)) in
      rw (ha u x.0 c (suc f) x.1 stop (omega arith) (omega arith), t.2, lt-leb L.most_levels d hd, lt-leb L.most_nodes (c + size a) (omega arith), hb t.1 y.0 (c + size a + 1) f y.1 stop' (omega arith) (omega arith), s.2, he s.1 v (c + size a + 1 + size b) f s.3 st (omega arith) (omega arith))
      refl

  spine_binary : (d : ℕ) (j : Binary) (xs ys : List Token) (a b : Expr) → Spine (binds_of j) d xs a → CompB (binds_of j + 1) d ys b → Spine (binds_of j) d (xs ++ operator j ∷ ys) (binary j a b)
  unfolding conditional_at size
  spine_binary d j xs ys a b ha hb u v c g l st hn hf =
      let x = follows_split xs l in
      let t = follows_token x.2 in
      let len = length-append xs (operator j ∷ ys) in
      let low = binds_low j in
      let stop : Stops (binds_of j + 1) x.0 = rw t.2 ((λ _. omega arith), λ i q. let z : binds_of j ≡ binds_of i = ap binds_of (operator_same j i q) in omega arith) in
      let y = ha u x.0 c g x.1 stop (omega arith) (omega arith) in
      go x.0 t.0 t.1 t.2 t.3 y.0 (omega arith) (omega arith) y.2
    where
      go : (r : Tokens) (p : ℕ) (s : Tokens) → r ≡ next p (operator j) s → Follows s ys v → (f : ℕ) → g ≤ f + length xs + 1 → 16 * length ys + (10 - binds_of j) + 1 < f → binary_at L g u (binds_of j) d c ≡ rest_at L f r (binds_of j) d (c + size a) a → (f : ℕ) × (g ≤ f + length (xs ++ operator j ∷ ys) + 1) × (binary_at L g u (binds_of j) d c ≡ rest_at L f v (binds_of j) d (c + size (binary j a b)) (binary j a b))
      go r p s e m zero h h' z = absurd (omega arith)
      go r p s e m (suc f) h h' z =
          let i : c + size a + 1 + size b ≡ c + (size a + size b + 1) = omega arith in
          (f, omega (arith, length-append xs (operator j ∷ ys)), z ∙ rw (e, eq-eqb (binds_of j) (binds_of j) refl, lt-leb L.most_nodes (c + size a) (omega arith), hb s v (c + size a + 1) f m st (omega arith) (omega arith)) (ap (λ (k : ℕ). rest_at L f v (binds_of j) d k (binary j a b)) i))

  -- what holds of every derivation
  abbrev Comp : ℕ → ℕ → List Token → Expr → Type 0
  Comp b d ts e = (b ≡ 0 → CompC d ts e) × (1 ≤ b → b ≤ 7 → CompB b d ts e) × (b ≡ 8 → CompP d ts e) × (1 ≤ b → b < 7 → Spine b d ts e)

  tighter : (b d : ℕ) (ts : List Token) (e : Expr) → (8 ≤ b + 1 → Head ts) → Comp (b + 1) d ts e → 1 ≤ b → b ≤ 7 → CompB b d ts e
  tighter b d ts e hd y h h' = go (ltb b 7) refl
    where
      go : (t : Bool) → ltb b 7 ≡ t → CompB b d ts e
      go true t = let lt : b < 7 = ltb-true b 7 t in comp_spine d ts e b lt (spine_loose d ts e b lt (y.1 (omega arith) (omega arith)))
      go false t =
          let i : 7 ≡ b = omega (arith, ltb-false b 7 t) in
          subst (λ (k : ℕ). CompB k d ts e) i (comp_primary d ts e (hd (omega arith)) (y.2 (omega arith)))

  complete : {b d : ℕ} {ts : List Token} {e : Expr} → ReadsTo L.most_levels b d ts e → Comp b d ts e
  complete (reads_literal {d} {l}) = ((λ h. absurd (omega arith)), (λ h h'. absurd (omega arith)), (λ h. comp_literal d l), λ h h'. absurd (omega arith))
  complete (reads_own {d} {w}) = ((λ h. absurd (omega arith)), (λ h h'. absurd (omega arith)), (λ h. comp_own d w), λ h h'. absurd (omega arith))
  complete (reads_other {d} {w}) = ((λ h. absurd (omega arith)), (λ h h'. absurd (omega arith)), (λ h. comp_other d w), λ h h'. absurd (omega arith))
  complete (reads_parentheses {d} {ts} {e} hd r) = ((λ h. absurd (omega arith)), (λ h h'. absurd (omega arith)), (λ h. comp_parentheses d ts e hd ((complete r).0 refl)), λ h h'. absurd (omega arith))
  complete (reads_unary {d} {u = o} {ts} {e} hd r) = ((λ h. absurd (omega arith)), (λ h h'. comp_unary d ts e o hd ((complete r).1 (omega arith) (omega arith))), (λ h. absurd (omega arith)), λ h h'. absurd (omega arith))
  complete (reads_binary {d} {j} {xs} {ys} {a} {b} r t) =
      let low = binds_low j in
      let lt : binds_of j < 7 = omega arith in
      let w = spine_binary d j xs ys a b ((complete r).3 low.0 lt) ((complete t).1 (omega arith) (omega arith)) in
      ((λ h. absurd (omega arith)), (λ h h'. comp_spine d _ _ (binds_of j) lt w), (λ h. absurd (omega arith)), λ h h'. w)
  complete (reads_conditional {d} {xs} {ys} {zs} {a} {b} {c} hd x y z) = ((λ h. comp_conditional d xs ys zs a b c hd ((complete x).1 (omega arith) (omega arith)) ((complete y).0 refl) ((complete z).0 refl)), (λ h h'. absurd (omega arith)), (λ h. absurd (omega arith)), λ h h'. absurd (omega arith))
  complete (reads_tighter {b} {d} {ts} {e} hb r) =
      let y = complete r in (
        (λ h. cond_loose d ts e (let i : b + 1 ≡ 1 = omega arith in subst (λ (k : ℕ). CompB k d ts e) i (y.1 (omega arith) (omega arith)))),
        tighter b d ts e (head_8 r) y,
        (λ h. absurd (omega arith)),
        λ h h'. spine_loose d ts e b h' (y.1 (omega arith) (omega arith)),
      )

  -- an expression of the grammar is read, with its tree
  pub conditional_complete : {d : ℕ} {ts : List Token} {e : Expr} → ReadsTo L.most_levels 0 d ts e → CompC d ts e
  conditional_complete r = (complete r).0 refl
