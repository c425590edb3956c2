-- Each reader of expressions: what it reads, and that its refusals are those of document 01. Assumes nothing.
use Rattle.std.specs.Prelude.{ℕ, zero, suc, ◌+◌, ◌≤◌, ◌<◌, ◌≡◌, ltb}
use Prim.Native.Char.{code}
use native.Mathlib.Omega.{arith}
use Rattle.std.proofs.Math.Path.{refl, subst}
use Rattle.std.proofs.Common.{sym, ltb-true, ltb-false, lt-ltb}
use mathlib.Core.List.{List, [], ◌∷◌, ◌++◌, append_assoc, append-nil}
use Rattle.syntax.specs.Bounds.{max_level}
use Rattle.syntax.specs.Tree.{Literal, undefined, own, other, Expr, literal, reference, unary, binary, conditional, size}
use Rattle.syntax.specs.Token.{Token, word, constant, operator, symbol, Tokens, end}
use Rattle.syntax.specs.Grammar.{binds_of, unary_token, ReadsTo, reads_literal, reads_own, reads_other, reads_parentheses, reads_unary, reads_binary, reads_conditional, reads_tighter, Follows, none, some}
use Rattle.syntax.specs.Reader.{Parsed, ok, refused, misfit, on_word, after, want, level, Limits, limits, room, conditional_at, arms_at, binary_at, rest_at, unary_at, primary_at}
use Rattle.syntax.proofs.Laws.Codes.{on_pick, symbol_coded}
use Rattle.syntax.proofs.Laws.Sound.{follows_append}
use Rattle.syntax.proofs.Laws.Complete.{follows_split}
use Rattle.syntax.specs.declared.Binary.{Binary}
use Rattle.syntax.specs.declared.Unary.{Unary}
use Rattle.syntax.specs.declared.Unary.TheVariants.{Not, Plus, Minus}
use Rattle.syntax.specs.declared.Symbol.TheVariants.{Question, Colon, OpenParenthesis, CloseParenthesis, Point, Other}
use Rattle.grammar.specs.Refusal.{refers, nodes_at, names_at, nodes_in, Refusal}
use Rattle.grammar.proofs.Laws.Counting.{Plain, plain_append, plain_one, unary_plain, reads_plain}
use Rattle.grammar.proofs.Laws.Alike.{Alike, alike_step, Meets, level_deep, InFront, front_alike, Unlike, NoUnary, NoBinary, NoWord, NoLiteral, Outcome, done, stuck, after_stuck, after_done, level_meets, room_meets, misfit_meets, token_meets, want_meets, unary_meets, binary_meets, unlike_meets, no_want_meets, no_unary_meets, no_binary_meets, no_word_meets, no_literal_meets, Run, Local, Passes, through}
use Rattle.grammar.proofs.Laws.Places.{All, step, on_after, on_all, on_level, on_room, on_misfit, on_token_lem, on_want, on_word_lem, on_literal_lem, on_binary_lem, on_unary_lem, reads_more, undefined_reads, Sentence, Stuck, Got, join_got, cut, Here, room_left, turn, move_token, deep_at, many_at, misfit_at, go_on, passing, staying, blind}

-- ---- the readers, and what is left of them behind a part that was read

abbrev pub conditional_r : ℕ → Run
conditional_r d = λ K f u c. conditional_at K f u d c

abbrev arms_r : ℕ → Expr → Run
arms_r d e = λ K f u c. arms_at K f u d c e

abbrev colon_r : ℕ → Expr → Expr → Run
colon_r d e a = λ K f u c. want (symbol Colon) u (λ x. after (conditional_at K f x (d + 1) c) (λ b y. ok (conditional e a b) y))

abbrev binary_r : ℕ → ℕ → Run
binary_r b d = λ K f u c. binary_at K f u b d c

abbrev rest_r : ℕ → ℕ → Expr → Run
rest_r b d e = λ K f u c. rest_at K f u b d c e

abbrev unary_r : ℕ → Run
unary_r d = λ K f u c. unary_at K f u d c

abbrev primary_r : ℕ → Run
primary_r d = λ K f u c. primary_at K f u d c

abbrev point_r : Run
point_r = λ K f u c. want (symbol Point) u (λ x. on_word x (λ q w y. ok (reference other w) y) (λ _. misfit refused x))

abbrev word_r : Run
word_r = λ K f u c. on_word u (λ q w y. ok (reference other w) y) (λ _. misfit refused u)

abbrev close_r : Expr → Run
close_r e = λ K f u c. want (symbol CloseParenthesis) u (λ x. ok e x)

-- ---- the second run

conditional_binary : (d : ℕ) (w : Tokens) → Passes stuck (conditional_r d) (binary_r 1 d) [] w
unfolding conditional_at
conditional_binary d w K zero u x y c f al h = tt
conditional_binary d w K (suc g) u x y c none al h = after_stuck y y (binary_at K g u 1 d c) _ (h g c)

conditional_arms : (o : Outcome) (d : ℕ) (ts : List Token) (e : Expr) (w : Tokens) → Local (binary_r 1 d) ts (done e) w → Passes o (conditional_r d) (arms_r d e) ts w
unfolding conditional_at
conditional_arms o d ts e w loc K zero u x y c f al h = tt
conditional_arms o d ts e w loc K (suc g) u x y c f al h = after_done o y e x (binary_at K g u 1 d c) _ (loc K g u x c f al) (h g (c + size e))

arms_none : (d : ℕ) (e : Expr) (w : Tokens) → InFront (Unlike (symbol Question)) w → Local (arms_r d e) [] (done e) w
unfolding conditional_at
arms_none d e w i K zero u y c f al = tt
arms_none d e w i K (suc g) u y c none al = unlike_meets (done e) u (symbol Question) u _ _ (front_alike (Unlike (symbol Question)) al i) (refl, refl)

-- over tokens that are like w, under limits that level d reaches, the reader R is refused
abbrev Deep : ℕ → Run → Tokens → Type 0
Deep d R w = (K : Limits) (y : Tokens) → K.most_levels ≤ d → Alike w y → Stuck R K y

arms_deep : (d : ℕ) (e : Expr) (w v : Tokens) → Follows w (symbol Question ∷ []) v → Deep d (arms_r d e) w
unfolding conditional_at
arms_deep d e w v s K u hd al zero c = tt
arms_deep d e w v s K u hd al (suc g) c =
    let x = alike_step al s in
    token_meets stuck (end 0) (symbol Question) u x.0 _ _ x.1 λ p. level_deep stuck (end 0) K d p _ hd

arms_first : (d : ℕ) (e : Expr) (w : Tokens) → Passes stuck (arms_r d e) (conditional_r (d + 1)) (symbol Question ∷ []) w
unfolding conditional_at
arms_first d e w K zero u x y c f al h = tt
arms_first d e w K (suc g) u x y c f al h =
    token_meets stuck y (symbol Question) u x _ _ f λ p. level_meets stuck y K d p _ (room_meets stuck y K c p _ (after_stuck y y (conditional_at K g x (d + 1) (c + 1)) _ (h g (c + 1))))

arms_colon : (o : Outcome) (d : ℕ) (e a : Expr) (ts : List Token) (w : Tokens) → Local (conditional_r (d + 1)) ts (done a) w → Passes o (arms_r d e) (colon_r d e a) (symbol Question ∷ ts) w
unfolding conditional_at
arms_colon o d e a ts w loc K zero u x y c f al h = tt
arms_colon o d e a ts w loc K (suc g) u x y c f al h =
    let s = follows_split (symbol Question ∷ []) f in
    token_meets o y (symbol Question) u s.0 _ _ s.1 λ p. level_meets o y K d p _ (room_meets o y K c p _ (after_done o y a x (conditional_at K g s.0 (d + 1) (c + 1)) _ (loc K g s.0 x (c + 1) s.2 al) (h g (c + 1 + size a))))

colon_none : (d : ℕ) (e a : Expr) (w : Tokens) → InFront (Unlike (symbol Colon)) w → Local (colon_r d e a) [] stuck w
colon_none d e a w i K g u y c none al = no_want_meets stuck u (symbol Colon) u _ (front_alike (Unlike (symbol Colon)) al i)

colon_second : (d : ℕ) (e a : Expr) (w : Tokens) → Passes stuck (colon_r d e a) (conditional_r (d + 1)) (symbol Colon ∷ []) w
colon_second d e a w K g u x y c f al h = want_meets stuck y (symbol Colon) u x _ f (after_stuck y y (conditional_at K g x (d + 1) c) _ (h g c))

colon_done : (d : ℕ) (e a b : Expr) (ts : List Token) (w : Tokens) → Local (conditional_r (d + 1)) ts (done b) w → Local (colon_r d e a) (symbol Colon ∷ ts) (done (conditional e a b)) w
colon_done d e a b ts w loc K g u y c f al =
    let s = follows_split (symbol Colon ∷ []) f in
    let o : Outcome = done (conditional e a b) in
    want_meets o y (symbol Colon) u s.0 _ s.1 (after_done o y b y (conditional_at K g s.0 (d + 1) c) _ (loc K g s.0 y c s.2 al) (refl, refl))

binary_inner : (b d : ℕ) (w : Tokens) → b < 7 → Passes stuck (binary_r b d) (binary_r (b + 1) d) [] w
unfolding conditional_at
binary_inner b d w hb K zero u x y c f al h = tt
binary_inner b d w hb K (suc g) u x y c none al h = rw (lt-ltb b 7 hb) (after_stuck y y (binary_at K g u (b + 1) d c) _ (h g c))

binary_rest : (o : Outcome) (b d : ℕ) (ts : List Token) (e : Expr) (w : Tokens) → b < 7 → Local (binary_r (b + 1) d) ts (done e) w → Passes o (binary_r b d) (rest_r b d e) ts w
unfolding conditional_at
binary_rest o b d ts e w hb loc K zero u x y c f al h = tt
binary_rest o b d ts e w hb loc K (suc g) u x y c f al h = rw (lt-ltb b 7 hb) (after_done o y e x (binary_at K g u (b + 1) d c) _ (loc K g u x c f al) (h g (c + size e)))

binary_unary : (o : Outcome) (d : ℕ) (w : Tokens) → Passes o (binary_r 7 d) (unary_r d) [] w
unfolding conditional_at
binary_unary o d w K zero u x y c f al h = tt
binary_unary o d w K (suc g) u x y c none al h = h g c

rest_none : (b d : ℕ) (e : Expr) (w : Tokens) → InFront (NoBinary b) w → Local (rest_r b d e) [] (done e) w
unfolding conditional_at
rest_none b d e w i K zero u y c f al = tt
rest_none b d e w i K (suc g) u y c none al = no_binary_meets (done e) u b u _ _ (front_alike (NoBinary b) al i) (refl, refl)

rest_inner : (b d : ℕ) (e : Expr) (j : Binary) (w : Tokens) → binds_of j ≡ b → Passes stuck (rest_r b d e) (binary_r (b + 1) d) (operator j ∷ []) w
unfolding conditional_at
rest_inner b d e j w i K zero u x y c f al h = tt
rest_inner b d e j w i K (suc g) u x y c f al h =
    binary_meets stuck y b j u x _ _ i f λ p. room_meets stuck y K c p _ (after_stuck y y (binary_at K g x (b + 1) d (c + 1)) _ (h g (c + 1)))

rest_rest : (o : Outcome) (b d : ℕ) (e a : Expr) (j : Binary) (ts : List Token) (w : Tokens) → binds_of j ≡ b → Local (binary_r (b + 1) d) ts (done a) w → Passes o (rest_r b d e) (rest_r b d (binary j e a)) (operator j ∷ ts) w
unfolding conditional_at
rest_rest o b d e a j ts w i loc K zero u x y c f al h = tt
rest_rest o b d e a j ts w i loc K (suc g) u x y c f al h =
    let s = follows_split (operator j ∷ []) f in
    binary_meets o y b j u s.0 _ _ i s.1 λ p. room_meets o y K c p _ (after_done o y a x (binary_at K g s.0 (b + 1) d (c + 1)) _ (loc K g s.0 x (c + 1) s.2 al) (h g (c + 1 + size a)))

-- behind an operator of one operand
abbrev behind_unary : Limits → ℕ → ℕ → ℕ → Unary → ℕ → Tokens → Parsed
behind_unary K f d c j p v = level K d p (λ _. room K c p (λ _. after (unary_at K f v (d + 1) (c + 1)) (λ a w. ok (unary j a) w)))

unary_primary : (o : Outcome) (d : ℕ) (w : Tokens) → InFront NoUnary w → Passes o (unary_r d) (primary_r d) [] w
unfolding conditional_at
unary_primary o d w i K zero u x y c f al h = tt
unary_primary o d w i K (suc g) u x y c none al h = no_unary_meets o y u (behind_unary K g d c) (λ _. primary_at K g u d c) (front_alike NoUnary al i) (h g c)

unary_deep : (d : ℕ) (j : Unary) (w v : Tokens) → Follows w (unary_token j ∷ []) v → Deep d (unary_r d) w
unfolding conditional_at
unary_deep d j w v s K u hd al zero c = tt
unary_deep d j w v s K u hd al (suc g) c =
    let x = alike_step al s in
    unary_meets stuck (end 0) j u x.0 (behind_unary K g d c) _ x.1 λ p. level_deep stuck (end 0) K d p _ hd

unary_inner : (d : ℕ) (j : Unary) (w : Tokens) → Passes stuck (unary_r d) (unary_r (d + 1)) (unary_token j ∷ []) w
unfolding conditional_at
unary_inner d j w K zero u x y c f al h = tt
unary_inner d j w K (suc g) u x y c f al h =
    unary_meets stuck y j u x (behind_unary K g d c) _ f λ p. level_meets stuck y K d p _ (room_meets stuck y K c p _ (after_stuck y y (unary_at K g x (d + 1) (c + 1)) _ (h g (c + 1))))

unary_done : (d : ℕ) (j : Unary) (a : Expr) (ts : List Token) (w : Tokens) → Local (unary_r (d + 1)) ts (done a) w → Local (unary_r d) (unary_token j ∷ ts) (done (unary j a)) w
unfolding conditional_at
unary_done d j a ts w loc K zero u y c f al = tt
unary_done d j a ts w loc K (suc g) u y c f al =
    let s = follows_split (unary_token j ∷ []) f in
    let o : Outcome = done (unary j a) in
    unary_meets o y j u s.0 (behind_unary K g d c) _ s.1 λ p. level_meets o y K d p _ (room_meets o y K c p _ (after_done o y a y (unary_at K g s.0 (d + 1) (c + 1)) _ (loc K g s.0 y (c + 1) s.2 al) (refl, refl)))

primary_literal : (d : ℕ) (l : Literal) (w : Tokens) → Local (primary_r d) (constant l ∷ []) (done (literal l)) w
unfolding conditional_at
primary_literal d l w K zero u y c f al = tt
primary_literal d l w K (suc g) u y c (some {p = p} none) al = room_meets (done (literal l)) y K c p _ (refl, refl)

primary_own : (d : ℕ) (n : List ℕ) (w : Tokens) → Local (primary_r d) (word n ∷ []) (done (reference own n)) w
unfolding conditional_at
primary_own d n w K zero u y c f al = tt
primary_own d n w K (suc g) u y c (some {p = p} none) al = room_meets (done (reference own n)) y K c p _ (refl, refl)

primary_other : (o : Outcome) (d : ℕ) (w : Tokens) → Passes o (primary_r d) point_r (symbol Other ∷ []) w
unfolding conditional_at
primary_other o d w K zero u x y c f al h = tt
primary_other o d w K (suc g) u x y c (some {p = p} none) al h = room_meets o y K c p _ (h 0 0)

-- at `(`
open_deep : (K : Limits) (g d : ℕ) (u x : Tokens) (c : ℕ) → K.most_levels ≤ d → Follows u (symbol OpenParenthesis ∷ []) x → Meets stuck (end 0) (primary_at K (suc g) u d c)
unfolding conditional_at
open_deep K g d u x c hd (some {p = p} none) = level_deep stuck (end 0) K d p _ hd

primary_deep : (d : ℕ) (w v : Tokens) → Follows w (symbol OpenParenthesis ∷ []) v → Deep d (primary_r d) w
unfolding conditional_at
primary_deep d w v s K u hd al zero c = tt
primary_deep d w v s K u hd al (suc g) c = let x = alike_step al s in open_deep K g d u x.0 c hd x.1

primary_inner : (d : ℕ) (w : Tokens) → Passes stuck (primary_r d) (conditional_r (d + 1)) (symbol OpenParenthesis ∷ []) w
unfolding conditional_at
primary_inner d w K zero u x y c f al h = tt
primary_inner d w K (suc g) u x y c (some {p = p} none) al h = level_meets stuck y K d p _ (after_stuck y y (conditional_at K g x (d + 1) c) _ (h g c))

primary_close : (o : Outcome) (d : ℕ) (e : Expr) (ts : List Token) (w : Tokens) → Local (conditional_r (d + 1)) ts (done e) w → Passes o (primary_r d) (close_r e) (symbol OpenParenthesis ∷ ts) w
unfolding conditional_at
primary_close o d e ts w loc K zero u x y c f al h = tt
primary_close o d e ts w loc K (suc g) u x y c (some {p = p} {u = v} f) al h = level_meets o y K d p _ (after_done o y e x (conditional_at K g v (d + 1) c) _ (loc K g v x c f al) (h g c))

primary_none : (d : ℕ) (w : Tokens) → InFront NoLiteral w → InFront NoWord w → InFront (Unlike (symbol Other)) w → InFront (Unlike (symbol OpenParenthesis)) w → Local (primary_r d) [] stuck w
unfolding conditional_at
primary_none d w i j k l K zero u y c f al = tt
primary_none d w i j k l K (suc g) u y c none al =
    no_literal_meets stuck u u _ _ (front_alike NoLiteral al i)
    (no_word_meets stuck u u _ _ (front_alike NoWord al j)
    (unlike_meets stuck u (symbol Other) u _ _ (front_alike (Unlike (symbol Other)) al k)
    (unlike_meets stuck u (symbol OpenParenthesis) u _ _ (front_alike (Unlike (symbol OpenParenthesis)) al l) (misfit_meets stuck u u))))

point_none : (w : Tokens) → InFront (Unlike (symbol Point)) w → Local point_r [] stuck w
point_none w i K g u y c none al = no_want_meets stuck u (symbol Point) u _ (front_alike (Unlike (symbol Point)) al i)

point_word : (n : List ℕ) (w : Tokens) → Local point_r (symbol Point ∷ word n ∷ []) (done (reference other n)) w
point_word n w K g u y c (some (some none)) al = (refl, refl)

point_behind : (w : Tokens) → Passes stuck point_r word_r (symbol Point ∷ []) w
point_behind w K g u x y c f al h = want_meets stuck y (symbol Point) u x _ f (h g c)

word_none : (w : Tokens) → InFront NoWord w → Local word_r [] stuck w
word_none w i K g u y c none al = no_word_meets stuck y y _ _ (front_alike NoWord al i) (misfit_meets stuck y y)

close_none : (e : Expr) (w : Tokens) → InFront (Unlike (symbol CloseParenthesis)) w → Local (close_r e) [] stuck w
close_none e w i K g u y c none al = no_want_meets stuck u (symbol CloseParenthesis) u _ (front_alike (Unlike (symbol CloseParenthesis)) al i)

close_done : (e : Expr) (w : Tokens) → Local (close_r e) (symbol CloseParenthesis ∷ []) (done e) w
close_done e w K g u y c (some none) al = (refl, refl)

-- ---- the first run

binary_reads : {l b d : ℕ} {j : Binary} {xs ts : List Token} {e a : Expr} → binds_of j ≡ b → ReadsTo l b d xs e → ReadsTo l (b + 1) d ts a → ReadsTo l b d (xs ++ operator j ∷ ts) (binary j e a)
binary_reads {l} {d = d} {j} {xs} {ts} {e} {a} = λ h. subst (λ (k : ℕ). ReadsTo l k d xs e → ReadsTo l (k + 1) d ts a → ReadsTo l k d (xs ++ operator j ∷ ts) (binary j e a)) h (λ r s. reads_binary r s)

-- a name for what is left open behind `other`
abbrev some_name : List ℕ
some_name = code "a" ∷ []

-- `undefined`, for what is left open elsewhere
abbrev idle : List Token
idle = constant undefined ∷ []

unary_name : (o : Unary) → names_at refers (unary_token o) ≡ []
unary_name Not = refl
unary_name Plus = refl
unary_name Minus = refl

unary_node : (o : Unary) → nodes_at refers (unary_token o) ≡ 1
unary_node Not = refl
unary_node Plus = refl
unary_node Minus = refl

module _ (whole : Tokens) where
  -- what holds of a reader's answer, after the tokens xs
  abbrev Ends : Run → ℕ → ℕ → List Token → Tokens → ℕ → Parsed → Type 0
  Ends R b d xs u c x = All (Got R b d xs u c) (Refusal whole) x

  -- the reader R stands at u, after pre, whose last tokens xs begin its expression
  abbrev pub Reader : Run → ℕ → ℕ → List Token → List Token → Tokens → ℕ → Type 0
  Reader R b d xs pre u c = Here whole (Sentence b d xs) (Stuck R) refers pre u c

  -- nothing more is read
  got_none : (R : Run) (b d : ℕ) (xs pre : List Token) (u : Tokens) (c : ℕ) (e : Expr) → Reader R b d xs pre u c → ReadsTo max_level b d xs e → Local R [] (done e) u → Got R b d xs u c e u
  unfolding nodes_in
  got_none R b d xs pre u c e h r loc = record { those = []; follows = none; reads = subst (λ (l : List Token). ReadsTo max_level b d l e) (sym (append-nil xs)) r; local = loc; few = omega (arith, room_left whole h) }

  colon_ends : (f d c : ℕ) (xs ts pre : List Token) (e a : Expr) (w : Tokens) → d < max_level → ReadsTo max_level 1 d xs e → ReadsTo max_level 0 (d + 1) ts a → Reader (colon_r d e a) 0 d (xs ++ symbol Question ∷ ts) pre w c →
      ((x : Tokens) (ys : List Token) → Reader (conditional_r (d + 1)) 0 (d + 1) [] ys x c → Ends (conditional_r (d + 1)) 0 (d + 1) [] x c (conditional_at limits f x (d + 1) c)) → Ends (colon_r d e a) 0 d (xs ++ symbol Question ∷ ts) w c (colon_r d e a limits f w c)
  unfolding nodes_in
  colon_ends f d c xs ts pre e a w hd r s h ih =
      let ys : List Token = xs ++ symbol Question ∷ ts in
      let R : Run = colon_r d e a in
      let S : Run = conditional_r (d + 1) in
      let colon : Plain (symbol Colon ∷ []) 0 = plain_one (symbol Colon) 0 refl refl refl in
      on_want (Got R 0 d ys w c) (Refusal whole) (symbol Colon) (symbol_coded Colon) w _
      (λ p x st. on_after (Got S 0 (d + 1) [] x c) (Got R 0 d ys w c) (Refusal whole) (conditional_at limits f x (d + 1) c) _
      (ih x (pre ++ symbol Colon ∷ [])
      (go_on whole h (symbol Colon ∷ []) (step st) colon (omega arith) (room_left whole h) idle (literal undefined, undefined_reads (omega arith))
      (λ n l zs z. h.grow n l (symbol Colon ∷ zs) (conditional e a z.0, subst (λ (i : List Token). ReadsTo n 0 d i (conditional e a z.0)) (sym (append_assoc xs (symbol Question ∷ ts) (symbol Colon ∷ zs))) (reads_conditional (omega arith) (reads_more l r) (reads_more l s) z.1)))
      (passing R S (symbol Colon ∷ []) x (colon_second d e a x))))
      (λ b y g. record {
        those = symbol Colon ∷ g.those;
        follows = follows_append (step st) g.follows;
        reads = subst (λ (l : List Token). ReadsTo max_level 0 d l (conditional e a b)) (sym (append_assoc xs (symbol Question ∷ ts) (symbol Colon ∷ g.those))) (reads_conditional hd r s g.reads);
        local = colon_done d e a b g.those y g.local;
        few = omega (arith, g.few);
      }))
      (λ i. misfit_at whole w h (blind R w (colon_none d e a w i)))

  point_ends : (f d c : ℕ) (pre : List Token) (w : Tokens) → Reader point_r 8 d (symbol Other ∷ []) pre w c → Ends point_r 8 d (symbol Other ∷ []) w c (point_r limits f w c)
  unfolding nodes_in
  point_ends f d c pre w h =
      let Q = Got point_r 8 d (symbol Other ∷ []) w c in
      let full = room_left whole h in
      on_want Q (Refusal whole) (symbol Point) (symbol_coded Point) w _
      (λ p x st. on_word_lem Q (Refusal whole) x _ _
      (λ q n y st'. record { those = symbol Point ∷ word n ∷ []; follows = follows_append (step st) (step st'); reads = reads_other; local = point_word n y; few = omega arith })
      (λ i. on_misfit Q (Refusal whole) x
      (misfit_at whole {X = Stuck word_r} x
      (move_token whole h {F = λ n ts. Sentence 8 d (symbol Other ∷ symbol Point ∷ []) n ts} (symbol Point) st refl refl (word some_name ∷ []) (reference other some_name, reads_other) (λ n l ts z. h.grow n l (symbol Point ∷ ts) z) (passing point_r word_r (symbol Point ∷ []) x (point_behind x)))
      (blind word_r x (word_none x i)))))
      (λ i. misfit_at whole w h (blind point_r w (point_none w i)))

  close_ends : (f d c : ℕ) (ts pre : List Token) (e : Expr) (w : Tokens) → d < max_level → ReadsTo max_level 0 (d + 1) ts e → Reader (close_r e) 8 d (symbol OpenParenthesis ∷ ts) pre w c → Ends (close_r e) 8 d (symbol OpenParenthesis ∷ ts) w c (close_r e limits f w c)
  unfolding nodes_in
  close_ends f d c ts pre e w hd r h =
      let full = room_left whole h in
      on_want (Got (close_r e) 8 d (symbol OpenParenthesis ∷ ts) w c) (Refusal whole) (symbol CloseParenthesis) (symbol_coded CloseParenthesis) w _
      (λ p x st. record { those = symbol CloseParenthesis ∷ []; follows = step st; reads = reads_parentheses hd r; local = close_done e x; few = omega arith })
      (λ i. misfit_at whole w h (blind (close_r e) w (close_none e w i)))

  -- operators of one operand bind at 7
  binary_seven : (f : ℕ) (u : Tokens) (b d c : ℕ) (pre : List Token) → b ≡ 7 → (Reader (unary_r d) 7 d [] pre u c → Ends (unary_r d) 7 d [] u c (unary_at limits f u d c)) → Reader (binary_r b d) b d [] pre u c → Ends (binary_r b d) b d [] u c (unary_at limits f u d c)
  binary_seven f u b d c pre e ih =
      subst (λ (k : ℕ). Reader (binary_r k d) k d [] pre u c → Ends (binary_r k d) k d [] u c (unary_at limits f u d c)) (sym e) λ h.
      on_all (Got (unary_r d) 7 d [] u c) (Got (binary_r 7 d) 7 d [] u c) (Refusal whole) (unary_at limits f u d c)
      (ih (turn whole h (λ n ts x. x) (staying (binary_r 7 d) (unary_r d) u (binary_unary stuck d u))))
      (λ a v g. record { those = g.those; follows = g.follows; reads = g.reads; local = through (done a) (binary_r 7 d) (unary_r d) [] g.those u v (binary_unary (done a) d u) g.follows g.local; few = g.few })

  mutual
    unfolding conditional_at

    pub conditional_ends : (f : ℕ) (u : Tokens) (d c : ℕ) (pre : List Token) → Reader (conditional_r d) 0 d [] pre u c → Ends (conditional_r d) 0 d [] u c (conditional_at limits f u d c)
    conditional_ends zero u d c pre h = λ l. absurd (omega arith)
    conditional_ends (suc f) u d c pre h =
        let R : Run = conditional_r d in
        let S : Run = binary_r 1 d in
        on_after (Got S 1 d [] u c) (Got R 0 d [] u c) (Refusal whole) (binary_at limits f u 1 d c) _
        (binary_ends f u 1 d c pre (omega arith) (turn whole h (λ n ts x. (x.0, reads_tighter (omega arith) x.1)) (staying R S u (conditional_binary d u))))
        (λ e v g. let T : Run = arms_r d e in
        let pass : (o : Outcome) → Passes o R T g.those v = λ o. conditional_arms o d g.those e v g.local in
        let p = reads_plain g.reads in
        on_all (Got T 0 d g.those v (c + size e)) (Got R 0 d [] u c) (Refusal whole) (arms_at limits f v d (c + size e) e)
        (arms_ends f v d (c + size e) e g.those (pre ++ g.those) g.reads
        (go_on whole h g.those g.follows p refl (omega (arith, g.few, p.count)) [] (e, subst (λ (l : List Token). ReadsTo max_level 0 d l e) (sym (append-nil g.those)) (reads_tighter (omega arith) g.reads))
        (λ n l ts x. h.grow n l (g.those ++ ts) x) (passing R T g.those v (pass stuck))))
        (join_got R T [] g.those u v (size e) c g.follows p 0 d pass))

    pub arms_ends : (f : ℕ) (u : Tokens) (d c : ℕ) (e : Expr) (xs pre : List Token) → ReadsTo max_level 1 d xs e → Reader (arms_r d e) 0 d xs pre u c → Ends (arms_r d e) 0 d xs u c (arms_at limits f u d c e)
    arms_ends zero u d c e xs pre r h = λ l. absurd (omega arith)
    arms_ends (suc f) u d c e xs pre r h =
        let R : Run = arms_r d e in
        let S : Run = conditional_r (d + 1) in
        let Q = Got R 0 d xs u c in
        let question : Plain (symbol Question ∷ []) 1 = plain_one (symbol Question) 1 refl refl refl in
        -- a conditional with `undefined` for its third operand
        let short : (n : ℕ) → max_level ≤ n → d < n → (a : Expr) (ts : List Token) → ReadsTo n 0 (d + 1) ts a → ReadsTo n 0 d (xs ++ symbol Question ∷ (ts ++ symbol Colon ∷ idle)) (conditional e a (literal undefined))
        = λ n l hd a ts x. reads_conditional hd (reads_more l r) x (undefined_reads (omega arith)) in
        on_token_lem Q (Refusal whole) (symbol Question) (symbol_coded Question) u _ _
        (λ p v st. on_level Q (Refusal whole) d p _
        (λ hd. deep_at whole h st (d + 1) (omega arith) (idle ++ symbol Colon ∷ idle) (_, short (d + 1) (omega arith) (omega arith) (literal undefined) idle (undefined_reads (omega arith))) (λ K y i. arms_deep d e u v (step st) K y (omega arith)))
        λ hd. on_room Q (Refusal whole) c p _
        (λ full. many_at whole h st (idle ++ symbol Colon ∷ idle) (_, short max_level (omega arith) hd (literal undefined) idle (undefined_reads (omega arith))) refl refl full)
        λ left. on_after (Got S 0 (d + 1) [] v (c + 1)) Q (Refusal whole) (conditional_at limits f v (d + 1) (c + 1)) _
        (conditional_ends f v (d + 1) (c + 1) (pre ++ symbol Question ∷ [])
        (go_on whole h (symbol Question ∷ []) (step st) question refl (omega arith) idle (literal undefined, undefined_reads (omega arith))
        (λ n l ts x. cut n pre (symbol Question ∷ ts) (symbol Colon ∷ idle) (h.grow n l (symbol Question ∷ (ts ++ symbol Colon ∷ idle)) (_, short n l (omega arith) x.0 ts x.1)))
        (passing R S (symbol Question ∷ []) v (arms_first d e v))))
        (λ a w g. let T : Run = colon_r d e a in
        let ys : List Token = symbol Question ∷ g.those in
        let pass : (o : Outcome) → Passes o R T ys w = λ o. arms_colon o d e a g.those w g.local in
        let fol : Follows u ys w = follows_append (step st) g.follows in
        let q : Plain ys (1 + size a) = plain_append question (reads_plain g.reads) refl in
        let i : c + (1 + size a) ≡ c + 1 + size a = omega arith in
        on_all (Got T 0 d (xs ++ ys) w (c + (1 + size a))) Q (Refusal whole) (colon_r d e a limits f w (c + 1 + size a))
        (subst (λ (k : ℕ). Ends T 0 d (xs ++ ys) w k (colon_r d e a limits f w (c + 1 + size a))) (sym i)
        (colon_ends f d (c + 1 + size a) xs g.those (pre ++ ys) e a w hd r g.reads
        (go_on whole h ys fol q i (omega (arith, g.few, (reads_plain g.reads).count)) (symbol Colon ∷ idle) (_, subst (λ (l : List Token). ReadsTo max_level 0 d l (conditional e a (literal undefined))) (sym (append_assoc xs ys (symbol Colon ∷ idle))) (short max_level (omega arith) hd a g.those g.reads))
        (λ n l ts x. h.grow n l (ys ++ ts) (x.0, subst (λ (k : List Token). ReadsTo n 0 d k x.0) (append_assoc xs ys ts) x.1)) (passing R T ys w (pass stuck)))
        (λ x zs y. conditional_ends f x (d + 1) (c + 1 + size a) zs y)))
        (join_got R T xs ys u w (1 + size a) c fol q 0 d pass)))
        (λ i. got_none R 0 d xs pre u c e h (reads_tighter (omega arith) r) (arms_none d e u i))

    pub binary_ends : (f : ℕ) (u : Tokens) (b d c : ℕ) (pre : List Token) → b ≤ 7 → Reader (binary_r b d) b d [] pre u c → Ends (binary_r b d) b d [] u c (binary_at limits f u b d c)
    binary_ends zero u b d c pre hb h = λ l. absurd (omega arith)
    binary_ends (suc f) u b d c pre hb h =
        let R : Run = binary_r b d in
        let S : Run = binary_r (b + 1) d in
        on_pick (Ends R b d [] u c) (ltb b 7) _ _
        (λ t. let hb' : b < 7 = ltb-true b 7 t in
        on_after (Got S (b + 1) d [] u c) (Got R b d [] u c) (Refusal whole) (binary_at limits f u (b + 1) d c) _
        (binary_ends f u (b + 1) d c pre (omega arith) (turn whole h (λ n ts x. (x.0, reads_tighter (omega arith) x.1)) (staying R S u (binary_inner b d u hb'))))
        (λ e v g. let T : Run = rest_r b d e in
        let pass : (o : Outcome) → Passes o R T g.those v = λ o. binary_rest o b d g.those e v hb' g.local in
        let p = reads_plain g.reads in
        let r : ReadsTo max_level b d g.those e = reads_tighter (omega arith) g.reads in
        on_all (Got T b d g.those v (c + size e)) (Got R b d [] u c) (Refusal whole) (rest_at limits f v b d (c + size e) e)
        (rest_ends f v b d (c + size e) e g.those (pre ++ g.those) hb' r
        (go_on whole h g.those g.follows p refl (omega (arith, g.few, p.count)) [] (e, subst (λ (l : List Token). ReadsTo max_level b d l e) (sym (append-nil g.those)) r) (λ n l ts x. h.grow n l (g.those ++ ts) x) (passing R T g.those v (pass stuck))))
        (join_got R T [] g.those u v (size e) c g.follows p b d pass)))
        (λ t. let e : b ≡ 7 = omega (arith, ltb-false b 7 t) in
        binary_seven f u b d c pre e (λ i. unary_ends f u d c pre i) h)

    pub rest_ends : (f : ℕ) (u : Tokens) (b d c : ℕ) (e : Expr) (xs pre : List Token) → b < 7 → ReadsTo max_level b d xs e → Reader (rest_r b d e) b d xs pre u c → Ends (rest_r b d e) b d xs u c (rest_at limits f u b d c e)
    rest_ends zero u b d c e xs pre hb r h = λ l. absurd (omega arith)
    rest_ends (suc f) u b d c e xs pre hb r h =
        let R : Run = rest_r b d e in
        let S : Run = binary_r (b + 1) d in
        let Q = Got R b d xs u c in
        on_binary_lem Q (Refusal whole) b u _ _
        (λ j p v i st. let op : Plain (operator j ∷ []) 1 = plain_one (operator j) 1 refl refl refl in
        on_room Q (Refusal whole) c p _
        (λ full. many_at whole h st idle (_, binary_reads i r (undefined_reads (omega arith))) refl refl full)
        λ left. on_after (Got S (b + 1) d [] v (c + 1)) Q (Refusal whole) (binary_at limits f v (b + 1) d (c + 1)) _
        (binary_ends f v (b + 1) d (c + 1) (pre ++ operator j ∷ []) (omega arith)
        (go_on whole h (operator j ∷ []) (step st) op refl (omega arith) idle (literal undefined, undefined_reads (omega arith)) (λ n l ts x. h.grow n l (operator j ∷ ts) (_, binary_reads i (reads_more l r) x.1)) (passing R S (operator j ∷ []) v (rest_inner b d e j v i))))
        (λ a w g. let T : Run = rest_r b d (binary j e a) in
        let ys : List Token = operator j ∷ g.those in
        let pass : (o : Outcome) → Passes o R T ys w = λ o. rest_rest o b d e a j g.those w i g.local in
        let fol : Follows u ys w = follows_append (step st) g.follows in
        let q : Plain ys (1 + size a) = plain_append op (reads_plain g.reads) refl in
        let k : c + (1 + size a) ≡ c + 1 + size a = omega arith in
        let r' : ReadsTo max_level b d (xs ++ ys) (binary j e a) = binary_reads i r g.reads in
        on_all (Got T b d (xs ++ ys) w (c + (1 + size a))) Q (Refusal whole) (rest_at limits f w b d (c + 1 + size a) (binary j e a))
        (subst (λ (k : ℕ). Ends T b d (xs ++ ys) w k (rest_at limits f w b d (c + 1 + size a) (binary j e a))) (sym k)
        (rest_ends f w b d (c + 1 + size a) (binary j e a) (xs ++ ys) (pre ++ ys) hb r'
        (go_on whole h ys fol q k (omega (arith, g.few, (reads_plain g.reads).count)) [] (_, subst (λ (l : List Token). ReadsTo max_level b d l (binary j e a)) (sym (append-nil (xs ++ ys))) r')
        (λ n l ts x. h.grow n l (ys ++ ts) (x.0, subst (λ (m : List Token). ReadsTo n b d m x.0) (append_assoc xs ys ts) x.1)) (passing R T ys w (pass stuck)))))
        (join_got R T xs ys u w (1 + size a) c fol q b d pass)))
        (λ i. got_none R b d xs pre u c e h r (rest_none b d e u i))

    pub unary_ends : (f : ℕ) (u : Tokens) (d c : ℕ) (pre : List Token) → Reader (unary_r d) 7 d [] pre u c → Ends (unary_r d) 7 d [] u c (unary_at limits f u d c)
    unary_ends zero u d c pre h = λ l. absurd (omega arith)
    unary_ends (suc f) u d c pre h =
        let R : Run = unary_r d in
        let S : Run = unary_r (d + 1) in
        let P : Run = primary_r d in
        let Q = Got R 7 d [] u c in
        on_unary_lem Q (Refusal whole) u (behind_unary limits f d c) (λ _. primary_at limits f u d c)
        (λ j p v st. on_level Q (Refusal whole) d p _
        (λ hd. deep_at whole h st (d + 1) (omega arith) idle (_, reads_unary {u = j} (omega arith) (undefined_reads (omega arith))) (λ K y i. unary_deep d j u v (step st) K y (omega arith)))
        λ hd. on_room Q (Refusal whole) c p _
        (λ full. many_at whole h st idle (_, reads_unary {u = j} hd (undefined_reads (omega arith))) (unary_name j) (unary_node j) full)
        λ left. on_after (Got S 7 (d + 1) [] v (c + 1)) Q (Refusal whole) (unary_at limits f v (d + 1) (c + 1)) _
        (unary_ends f v (d + 1) (c + 1) (pre ++ unary_token j ∷ [])
        (go_on whole h (unary_token j ∷ []) (step st) (unary_plain j) refl (omega arith) idle (literal undefined, undefined_reads (omega arith)) (λ n l ts x. h.grow n l (unary_token j ∷ ts) (_, reads_unary {u = j} (omega arith) x.1)) (passing R S (unary_token j ∷ []) v (unary_inner d j v))))
        (λ a w g. let q : Plain (unary_token j ∷ g.those) (1 + size a) = plain_append (unary_plain j) (reads_plain g.reads) refl in
        record { those = unary_token j ∷ g.those; follows = follows_append (step st) g.follows; reads = reads_unary hd g.reads; local = unary_done d j a g.those w g.local; few = omega (arith, g.few, q.count, (reads_plain g.reads).count) }))
        (λ i. on_all (Got P 8 d [] u c) Q (Refusal whole) (primary_at limits f u d c)
        (primary_ends f u d c pre (turn whole h (λ n ts x. (x.0, reads_tighter (omega arith) x.1)) (staying R P u (unary_primary stuck d u i))))
        (λ e v g. record { those = g.those; follows = g.follows; reads = reads_tighter (omega arith) g.reads; local = through (done e) R P [] g.those u v (unary_primary (done e) d u i) g.follows g.local; few = g.few }))

    pub primary_ends : (f : ℕ) (u : Tokens) (d c : ℕ) (pre : List Token) → Reader (primary_r d) 8 d [] pre u c → Ends (primary_r d) 8 d [] u c (primary_at limits f u d c)
    primary_ends zero u d c pre h = λ l. absurd (omega arith)
    primary_ends (suc f) u d c pre h =
        let R : Run = primary_r d in
        let S : Run = conditional_r (d + 1) in
        let Q = Got R 8 d [] u c in
        on_literal_lem Q (Refusal whole) u _ _
        (λ p i v st. on_room Q (Refusal whole) c p _
        (λ full. many_at whole h st [] (literal i, reads_literal) refl refl full)
        λ left. record { those = constant i ∷ []; follows = step st; reads = reads_literal; local = primary_literal d i v; few = omega (arith, (plain_one (constant i) 1 refl refl refl).count) })
        (λ no_literal. on_word_lem Q (Refusal whole) u _ _
        (λ p n v st. on_room Q (Refusal whole) c p _
        (λ full. many_at whole h st [] (reference own n, reads_own) refl refl full)
        λ left. record { those = word n ∷ []; follows = step st; reads = reads_own; local = primary_own d n v; few = omega (arith, (plain_one (word n) 1 refl refl refl).count) })
        (λ no_word. on_token_lem Q (Refusal whole) (symbol Other) (symbol_coded Other) u _ _
        (λ p v st. let q : Plain (symbol Other ∷ []) 1 = plain_one (symbol Other) 1 refl refl refl in
        on_room Q (Refusal whole) c p _
        (λ full. many_at whole h st (symbol Point ∷ word some_name ∷ []) (reference other some_name, reads_other) refl refl full)
        λ left. on_all (Got point_r 8 d (symbol Other ∷ []) v (c + 1)) Q (Refusal whole) (point_r limits f v (c + 1))
        (point_ends f d (c + 1) (pre ++ symbol Other ∷ []) v
        (go_on whole h (symbol Other ∷ []) (step st) q refl (omega arith) (symbol Point ∷ word some_name ∷ []) (reference other some_name, reads_other) (λ n l ts x. h.grow n l (symbol Other ∷ ts) x) (passing R point_r (symbol Other ∷ []) v (primary_other stuck d v))))
        (join_got R point_r [] (symbol Other ∷ []) u v 1 c (step st) q 8 d (λ o. primary_other o d v)))
        (λ no_other. on_token_lem Q (Refusal whole) (symbol OpenParenthesis) (symbol_coded OpenParenthesis) u _ _
        (λ p v st. let left : Plain (symbol OpenParenthesis ∷ []) 0 = plain_one (symbol OpenParenthesis) 0 refl refl refl in
        on_level Q (Refusal whole) d p _
        (λ hd. deep_at whole h st (d + 1) (omega arith) (idle ++ symbol CloseParenthesis ∷ []) (_, reads_parentheses {ts = idle} (omega arith) (undefined_reads (omega arith))) (λ K y i. primary_deep d u v (step st) K y (omega arith)))
        λ hd. on_after (Got S 0 (d + 1) [] v c) Q (Refusal whole) (conditional_at limits f v (d + 1) c) _
        (conditional_ends f v (d + 1) c (pre ++ symbol OpenParenthesis ∷ [])
        (go_on whole h (symbol OpenParenthesis ∷ []) (step st) left (omega arith) (room_left whole h) idle (literal undefined, undefined_reads (omega arith))
        (λ n l ts x. cut n pre (symbol OpenParenthesis ∷ ts) (symbol CloseParenthesis ∷ []) (h.grow n l (symbol OpenParenthesis ∷ (ts ++ symbol CloseParenthesis ∷ [])) (_, reads_parentheses (omega arith) x.1)))
        (passing R S (symbol OpenParenthesis ∷ []) v (primary_inner d v))))
        (λ e w g. let T : Run = close_r e in
        let ys : List Token = symbol OpenParenthesis ∷ g.those in
        let pass : (o : Outcome) → Passes o R T ys w = λ o. primary_close o d e g.those w g.local in
        let fol : Follows u ys w = follows_append (step st) g.follows in
        let q : Plain ys (size e) = plain_append left (reads_plain g.reads) (omega arith) in
        on_all (Got T 8 d ys w (c + size e)) Q (Refusal whole) (close_r e limits f w (c + size e))
        (close_ends f d (c + size e) g.those (pre ++ ys) e w hd g.reads
        (go_on whole h ys fol q refl (omega (arith, g.few, (reads_plain g.reads).count)) (symbol CloseParenthesis ∷ []) (e, reads_parentheses hd g.reads) (λ n l ts x. h.grow n l (ys ++ ts) x) (passing R T ys w (pass stuck))))
        (join_got R T [] ys u w (size e) c fol q 8 d pass)))
        (λ no_open. on_misfit Q (Refusal whole) u (misfit_at whole u h (blind R u (primary_none d u no_literal no_word no_other no_open)))))))
