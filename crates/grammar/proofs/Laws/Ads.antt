-- The reader of ads: its refusals are those of document 01. Assumes nothing.
use Rattle.std.specs.Prelude.{ℕ, zero, suc, ◌+◌, ◌≤◌, ◌<◌, ◌≡◌, true, false, length, leb}
use native.Mathlib.Omega.{arith}
use Rattle.std.proofs.Math.Path.{refl, subst}
use Rattle.std.proofs.Common.{sym, ◌∙◌, ap, true≢false, length-append, leb-true, leb-false}
use mathlib.Core.List.{List, [], ◌∷◌, ◌++◌, append-nil}
use Rattle.syntax.specs.Bounds.{max_level, max_definitions}
use Rattle.syntax.specs.Tree.{undefined, Expr, literal, Definition, Ad, size}
use Rattle.syntax.specs.Token.{Token, word, constant, operator, symbol, Tokens, next, end, bad}
use Rattle.syntax.specs.Grammar.{AdTo, ad_empty, defined, Follows, none, some}
use Rattle.syntax.specs.Reader.{Parsed, ok, refused, Answer, accepted, denied, code_of, is_token, misfit, on_token, on_word, Limits, limits, conditional_at, after_a, want_a, end_a, enough, admit, definitions_at, behind_at, ad_at}
use Rattle.syntax.proofs.Laws.Codes.{on_pick, is_token_lem, symbol_coded}
use Rattle.syntax.proofs.Laws.Sound.{follows_append}
use Rattle.syntax.proofs.Laws.SoundAd.{Closes, closes, Behind, behind_last, behind_more, closes_ad, one_more}
use Rattle.syntax.proofs.Laws.Complete.{follows_none}
use Rattle.syntax.specs.declared.Symbol.TheVariants.{OpenBracket, CloseBracket, Semicolon, Assign}
use Rattle.grammar.specs.Refusal.{Role, refers, defines, nodes_in, names_in, names_of, repeats, Shallow, DistinctNames, twice, many, Refusal}
use Rattle.grammar.proofs.Laws.Counting.{behind, Plain, plain_append, plain_one, reads_plain, names, names_last, names_length, fresh_last, taken_last}
use Rattle.grammar.proofs.Laws.Alike.{Alike, alike_next, alike_bad, InFront, front_alike, Unlike, NoWord, done, stuck, Meets}
use Rattle.grammar.proofs.Laws.Places.{All, Step, step, Off, reads_more, undefined_reads, Stuck, Got, Denied, cut, Here, names_on, nodes_on, room_left, move, move_token, same_names, refuse, misfit_at, go_on}
use Rattle.grammar.proofs.Laws.Expressions.{conditional_r, conditional_ends}

-- ---- the second run

misfit_denied : (u : Tokens) → Denied (misfit denied u)
misfit_denied (next p t u) = tt
misfit_denied (end n) = tt
misfit_denied (bad k p) = tt

unlike_denied : (x : Token) (u : Tokens) (then : ℕ → Tokens → Answer) (otherwise : Unit {0} → Answer) → InFront (Unlike x) u → Denied (otherwise tt) → Denied (on_token x u then otherwise)
unlike_denied x (next p t u) then otherwise e h = rw e h
unlike_denied x (end n) then otherwise e h = h
unlike_denied x (bad k p) then otherwise e h = h

no_want_denied : (x : Token) (u : Tokens) (go : Tokens → Answer) → InFront (Unlike x) u → Denied (want_a x u go)
no_want_denied x u go e = unlike_denied x u (λ p v. go v) (λ _. misfit denied u) e (misfit_denied u)

no_word_denied : (u : Tokens) (then : ℕ → List ℕ → Tokens → Answer) (otherwise : Unit {0} → Answer) → InFront NoWord u → Denied (otherwise tt) → Denied (on_word u then otherwise)
no_word_denied (next p (word n) u) then otherwise e h = absurd e
no_word_denied (next p (constant l) u) then otherwise e h = h
no_word_denied (next p (operator j) u) then otherwise e h = h
no_word_denied (next p (symbol s) u) then otherwise e h = h
no_word_denied (end n) then otherwise e h = h
no_word_denied (bad k p) then otherwise e h = h

admit_denied : (K : Limits) (w : List ℕ) (p : ℕ) (a : Ad) (go : Unit {0} → Answer) → Denied (go tt) → Denied (admit K w p a go)
admit_denied K w p a go h = on_pick Denied (K.taken w a) _ _ (λ _. tt) (λ _. on_pick Denied (leb K.most_definitions (length a)) _ go (λ _. tt) (λ _. h))

stuck_denied : (v : Tokens) (x : Parsed) (go : Expr → Tokens → Answer) → Meets stuck v x → Denied (after_a x go)
stuck_denied v (ok e w) go h = absurd h
stuck_denied v (refused k p) go h = tt

done_denied : (e : Expr) (v : Tokens) (x : Parsed) (go : Expr → Tokens → Answer) → Meets (done e) v x → Denied (go e v) → Denied (after_a x go)
done_denied e v (ok a y) go h g = subst (λ (z : Tokens). Denied (go a z)) (sym h.1) (subst (λ (b : Expr). Denied (go b v)) (sym h.0) g)
done_denied e v (refused k p) go h g = tt

-- a token behind `]`
next_denied : {p : ℕ} {t : Token} {v y : Tokens} (a : Ad) → Alike (next p t v) y → Denied (end_a y a)
next_denied a alike_next = tt

bad_denied : {k p : ℕ} {y : Tokens} (a : Ad) → Alike (bad k p) y → Denied (end_a y a)
bad_denied a alike_bad = tt

-- a reader of ads, over limits, a depth of calls, tokens, definitions and a count of nodes
abbrev RunA : Type 0
RunA = Limits → ℕ → Tokens → Ad → ℕ → Answer

abbrev StuckA : RunA → Limits → Tokens → Type 0
StuckA R K y = (g : ℕ) (b : Ad) (n : ℕ) → Denied (R K g y b n)

abbrev definitions_r : RunA
definitions_r = λ K f u a c. definitions_at K f u a c

abbrev behind_r : RunA
behind_r = λ K f u a c. behind_at K f u a c

-- the readers after a definition's name, and after `]`
abbrev name_r : List ℕ → RunA
name_r w = λ K f u a c. want_a (symbol Assign) u (λ x. after_a (conditional_at K (enough x) x 0 c) (λ e y. behind_at K f y (a ++ record { name = w; expression = e } ∷ []) (c + size e)))

abbrev end_r : RunA
end_r = λ K f u a c. end_a u a

definitions_close : (K : Limits) (w y : Tokens) → Follows w (symbol CloseBracket ∷ []) y → StuckA end_r K y → StuckA definitions_r K w
unfolding definitions_at
definitions_close K w y f h zero b n = tt
definitions_close K w y (some none) h (suc g) b n = h g b n

behind_close : (K : Limits) (w y : Tokens) → Follows w (symbol CloseBracket ∷ []) y → StuckA end_r K y → StuckA behind_r K w
unfolding definitions_at
behind_close K w y f h zero b n = tt
behind_close K w y (some none) h (suc g) b n = h g b n

definitions_none : (w : Tokens) → InFront (Unlike (symbol CloseBracket)) w → InFront NoWord w → (K : Limits) (y : Tokens) → Alike w y → StuckA definitions_r K y
unfolding definitions_at
definitions_none w i j K y al zero b n = tt
definitions_none w i j K y al (suc g) b n =
    unlike_denied (symbol CloseBracket) y _ _ (front_alike (Unlike (symbol CloseBracket)) al i) (no_word_denied y _ _ (front_alike NoWord al j) (misfit_denied y))

definitions_name : (w : List ℕ) (K : Limits) (u y : Tokens) → Follows u (word w ∷ []) y → StuckA (name_r w) K y → StuckA definitions_r K u
unfolding definitions_at
definitions_name w K u y f h zero b n = tt
definitions_name w K u y (some {p = p} none) h (suc g) b n = admit_denied K w p b _ (h g b n)

name_none : (w : List ℕ) (v : Tokens) → InFront (Unlike (symbol Assign)) v → (K : Limits) (y : Tokens) → Alike v y → StuckA (name_r w) K y
name_none w v i K y al g b n = no_want_denied (symbol Assign) y _ (front_alike (Unlike (symbol Assign)) al i)

name_inside : (w : List ℕ) (K : Limits) (u y : Tokens) → Follows u (symbol Assign ∷ []) y → Stuck (conditional_r 0) K y → StuckA (name_r w) K u
name_inside w K u y (some none) h g b n = stuck_denied (end 0) (conditional_at K (enough y) y 0 n) _ (h (enough y) n)

name_behind : (w : List ℕ) (x z : Tokens) (c : ℕ) (e : Expr) (g : Got (conditional_r 0) 0 0 [] x c e z) (K : Limits) (u y : Tokens) → Follows u (symbol Assign ∷ g.those) y → Alike z y → StuckA behind_r K y → StuckA (name_r w) K u
name_behind w x z c e g K u y (some {u = v} f) al h i b n = done_denied e y (conditional_at K (enough v) v 0 n) _ (g.local K (enough v) v y n f al) (h i (b ++ record { name = w; expression = e } ∷ []) (n + size e))

behind_none : (w : Tokens) → InFront (Unlike (symbol Semicolon)) w → InFront (Unlike (symbol CloseBracket)) w → (K : Limits) (y : Tokens) → Alike w y → StuckA behind_r K y
unfolding definitions_at
behind_none w i j K y al zero b n = tt
behind_none w i j K y al (suc g) b n =
    unlike_denied (symbol Semicolon) y _ _ (front_alike (Unlike (symbol Semicolon)) al i) (unlike_denied (symbol CloseBracket) y _ _ (front_alike (Unlike (symbol CloseBracket)) al j) (misfit_denied y))

behind_semicolon : (K : Limits) (w y : Tokens) → Follows w (symbol Semicolon ∷ []) y → StuckA definitions_r K y → StuckA behind_r K w
unfolding definitions_at
behind_semicolon K w y f h zero b n = tt
behind_semicolon K w y (some none) h (suc g) b n = h g b n

ad_none : (w : Tokens) → InFront (Unlike (symbol OpenBracket)) w → (K : Limits) (y : Tokens) → Alike w y → Denied (ad_at K y)
unfolding ad_at
ad_none w i K y al = no_want_denied (symbol OpenBracket) y _ (front_alike (Unlike (symbol OpenBracket)) al i)

ad_open : (K : Limits) (w y : Tokens) → Follows w (symbol OpenBracket ∷ []) y → StuckA definitions_r K y → Denied (ad_at K w)
unfolding ad_at
ad_open K w y (some none) h = h (enough y) [] 0

-- ---- the first run

abbrev pub AllA : (ℕ → ℕ → Type 0) → Answer → Type 0
AllA R (accepted a) = Unit {0}
AllA R (denied k p) = 0 < k → R k p

module _ (R : ℕ → ℕ → Type 0) where
  misfit_ends : (u : Tokens) → Off R u → AllA R (misfit denied u)
  misfit_ends (next p t u) f = λ l. f
  misfit_ends (end n) f = λ l. f
  misfit_ends (bad k p) f = λ l. f

  token_ends : (x : Token) → 1 ≤ code_of x → (u : Tokens) (then : ℕ → Tokens → Answer) (otherwise : Unit {0} → Answer) →
      ((p : ℕ) (v : Tokens) → Step u p x v → AllA R (then p v)) → (InFront (Unlike x) u → AllA R (otherwise tt)) → AllA R (on_token x u then otherwise)
  token_ends x hx (next p t u) then otherwise f g = on_pick (AllA R) (is_token x t) _ otherwise (λ b. f p u (ap (λ (y : Token). next p y u) (is_token_lem x t hx b))) (λ b. g b)
  token_ends x hx (end n) then otherwise f g = g tt
  token_ends x hx (bad k p) then otherwise f g = g tt

  want_ends : (x : Token) → 1 ≤ code_of x → (u : Tokens) (go : Tokens → Answer) → ((p : ℕ) (v : Tokens) → Step u p x v → AllA R (go v)) → (InFront (Unlike x) u → Off R u) → AllA R (want_a x u go)
  want_ends x hx u go f g = token_ends x hx u _ _ f (λ e. misfit_ends u (g e))

  word_ends : (u : Tokens) (then : ℕ → List ℕ → Tokens → Answer) (otherwise : Unit {0} → Answer) →
      ((p : ℕ) (w : List ℕ) (v : Tokens) → Step u p (word w) v → AllA R (then p w v)) → (InFront NoWord u → AllA R (otherwise tt)) → AllA R (on_word u then otherwise)
  word_ends (next p (word w) u) then otherwise f g = f p w u refl
  word_ends (next p (constant l) u) then otherwise f g = g tt
  word_ends (next p (operator j) u) then otherwise f g = g tt
  word_ends (next p (symbol s) u) then otherwise f g = g tt
  word_ends (end n) then otherwise f g = g tt
  word_ends (bad k p) then otherwise f g = g tt

  admit_ends : (w : List ℕ) (p : ℕ) (a : Ad) (go : Unit {0} → Answer) → (defined w a ≡ true → R 8 p) → (defined w a ≡ false → max_definitions ≤ length a → R 9 p) → (defined w a ≡ false → length a < max_definitions → AllA R (go tt)) → AllA R (admit limits w p a go)
  admit_ends w p a go r s f =
      on_pick (AllA R) (defined w a) _ _ (λ t l. r t)
      (λ t. on_pick (AllA R) (leb max_definitions (length a)) _ go (λ b l. s t (leb-true max_definitions (length a) b)) (λ b. f t (leb-false max_definitions (length a) b)))

  after_ends : (P : Expr → Tokens → Type 0) (x : Parsed) (go : Expr → Tokens → Answer) → All P R x → ((e : Expr) (u : Tokens) → P e u → AllA R (go e u)) → AllA R (after_a x go)
  after_ends P (ok e u) go h f = f e u h
  after_ends P (refused k p) go h f = h

-- the tokens ts end an ad: after `[` or `;`, after a definition, and after `]`
abbrev Closing : ℕ → List Token → Type 0
Closing n ts = (a : Ad) × Closes n ts a

abbrev Going : ℕ → List Token → Type 0
Going n ts = (a : Ad) × Behind n ts a

abbrev Ended : ℕ → List Token → Type 0
Ended n ts = ts ≡ []

-- what may follow a definition's name
abbrev idle : List Token
idle = symbol Assign ∷ constant undefined ∷ symbol CloseBracket ∷ []

module _ (whole : Tokens) where
  end_ends : {r : Role} {pre : List Token} {c : ℕ} (v : Tokens) (a : Ad) → Here whole Ended (StuckA end_r) r pre v c → AllA (Refusal whole) (end_a v a)
  end_ends (next p t u) a h = λ l. misfit_at whole (next p t u) h (λ K y al g b n. next_denied b al)
  end_ends (end n) a h = tt
  end_ends (bad k p) a h = λ l. misfit_at whole (bad k p) h (λ K y al g b n. bad_denied b al)

  -- a definition's name w after the definitions a
  module _ (pre : List Token) (u v : Tokens) (c p : ℕ) (a : Ad) (w : List ℕ) (h : Here whole Closing (StuckA definitions_r) defines pre u c) (named : names_of pre ≡ names a) (st : Step u p (word w) v) where
    name_names : names_of (pre ++ word w ∷ []) ≡ names a ++ w ∷ []
    unfolding names_in
    name_names = names_on whole h (word w ∷ []) ∙ rw named refl

    name_shallow : Shallow (pre ++ word w ∷ [])
    name_shallow = cut max_level pre (word w ∷ []) idle (h.grow max_level (omega arith) (word w ∷ idle) (_, one_more {us = symbol CloseBracket ∷ []} (undefined_reads (omega arith)) behind_last))

    name_twice : defined w a ≡ true → Refusal whole 8 p
    name_twice t = refuse whole h st (twice name_shallow (λ d. true≢false (sym (taken_last a w t) ∙ (ap repeats (sym name_names) ∙ d))))

    module _ (t : defined w a ≡ false) where
      name_distinct : DistinctNames (pre ++ word w ∷ [])
      name_distinct = rw name_names (fresh_last a w (rw named at h.kept.distinct) t)

      name_length : length (names_of (pre ++ word w ∷ [])) ≡ length a + 1
      name_length = rw name_names (length-append (names a) (w ∷ []) ∙ rw (names_length a) refl)

      name_many : max_definitions ≤ length a → Refusal whole 9 p
      name_many l = refuse whole h st (many name_shallow name_distinct (λ f. omega (arith, f.few_definitions, name_length)))

      name_here : length a < max_definitions → Here whole (λ n ts. Closing n (word w ∷ ts)) (StuckA (name_r w)) refers (pre ++ word w ∷ []) v c
      unfolding nodes_in behind
      name_here l =
          let full = room_left whole h in
          move whole h (word w ∷ []) (step st) name_distinct (record { few_definitions = omega (arith, name_length); few_nodes = omega (arith, nodes_on whole h (word w ∷ [])) }) refl (omega arith)
          idle (_, one_more {us = symbol CloseBracket ∷ []} (undefined_reads (omega arith)) behind_last) (λ n l ts x. h.grow n l (word w ∷ ts) x) (λ K i y f al x. definitions_name w K i y f x)

  mutual
    unfolding definitions_at

    definitions_ends : (f : ℕ) (u : Tokens) (a : Ad) (c : ℕ) (pre : List Token) → Here whole Closing (StuckA definitions_r) defines pre u c → names_of pre ≡ names a → AllA (Refusal whole) (definitions_at limits f u a c)
    definitions_ends zero u a c pre h named = λ l. absurd (omega arith)
    definitions_ends (suc f) u a c pre h named =
        token_ends (Refusal whole) (symbol CloseBracket) (symbol_coded CloseBracket) u _ _
        (λ p v st. end_ends v a (move_token whole h (symbol CloseBracket) st refl refl [] refl (λ n l ts x. rw x (h.grow n l (symbol CloseBracket ∷ []) ([], closes))) (λ K i y f al x. definitions_close K i y f x)))
        (λ i. word_ends (Refusal whole) u _ _
        (λ p w v st. admit_ends (Refusal whole) w p a _ (name_twice pre u v c p a w h named st) (name_many pre u v c p a w h named st)
        (λ t l. let h' = name_here pre u v c p a w h named st t l in
        let assign : Plain (symbol Assign ∷ []) 0 = plain_one (symbol Assign) 0 refl refl refl in
        want_ends (Refusal whole) (symbol Assign) (symbol_coded Assign) v _
        (λ q x st'. after_ends (Refusal whole) (Got (conditional_r 0) 0 0 [] x c) (conditional_at limits (enough x) x 0 c) _
        (conditional_ends whole (enough x) x 0 c ((pre ++ word w ∷ []) ++ symbol Assign ∷ [])
        (go_on whole h' (symbol Assign ∷ []) (step st') assign (omega arith) (room_left whole h') (constant undefined ∷ []) (literal undefined, undefined_reads (omega arith))
        (λ n l ts x. cut n (pre ++ word w ∷ []) (symbol Assign ∷ ts) (symbol CloseBracket ∷ []) (h'.grow n l (symbol Assign ∷ (ts ++ symbol CloseBracket ∷ [])) (_, one_more x.1 behind_last)))
        (λ K i y f al x. name_inside w K i y f x)))
        (λ e z g. let D : Definition = record { name = w; expression = e } in
        let ys : List Token = symbol Assign ∷ g.those in
        let q : Plain ys (size e) = plain_append assign (reads_plain g.reads) (omega arith) in
        behind_ends f z (a ++ D ∷ []) (c + size e) ((pre ++ word w ∷ []) ++ ys)
        (go_on whole h' ys (follows_append (step st') g.follows) q refl (omega (arith, g.few, (reads_plain g.reads).count)) (symbol CloseBracket ∷ []) ([], behind_last)
        (λ n l ts x. h'.grow n l (ys ++ ts) (_, one_more (reads_more l g.reads) x.1)) (λ K i y j al k. name_behind w x z c e g K i y j al k))
        (names_on whole h' ys ∙ rw (q.nameless, append-nil, name_names pre u v c p a w h named st, names_last a D) refl)))
        (λ j. misfit_at whole v h' (name_none w v j))))
        (λ j. misfit_ends (Refusal whole) u (misfit_at whole u h (definitions_none u i j))))

    behind_ends : (f : ℕ) (u : Tokens) (a : Ad) (c : ℕ) (pre : List Token) → Here whole Going (StuckA behind_r) refers pre u c → names_of pre ≡ names a → AllA (Refusal whole) (behind_at limits f u a c)
    behind_ends zero u a c pre h named = λ l. absurd (omega arith)
    behind_ends (suc f) u a c pre h named =
        token_ends (Refusal whole) (symbol Semicolon) (symbol_coded Semicolon) u _ _
        (λ p v st. definitions_ends f v a c (pre ++ symbol Semicolon ∷ [])
        (move_token whole h (symbol Semicolon) st refl refl (symbol CloseBracket ∷ []) ([], closes) (λ n l ts x. h.grow n l (symbol Semicolon ∷ ts) (x.0, behind_more x.1)) (λ K i y f al x. behind_semicolon K i y f x))
        (same_names whole h (symbol Semicolon) refl ∙ named))
        (λ i. token_ends (Refusal whole) (symbol CloseBracket) (symbol_coded CloseBracket) u _ _
        (λ p v st. end_ends v a (move_token whole h (symbol CloseBracket) st refl refl [] refl (λ n l ts x. rw x (h.grow n l (symbol CloseBracket ∷ []) ([], behind_last))) (λ K i y f al x. behind_close K i y f x)))
        (λ j. misfit_ends (Refusal whole) u (misfit_at whole u h (behind_none u i j))))

  start : Here whole (λ n ts. (a : Ad) × AdTo n ts a) (λ K y. Denied (ad_at K y)) refers [] whole 0
  unfolding nodes_in names_in behind repeats
  start = record {
    follows = none;
    kept = record { shallow = (symbol OpenBracket ∷ symbol CloseBracket ∷ [], [], ad_empty); distinct = refl; few = record { few_definitions = omega arith; few_nodes = omega arith } };
    role = refl;
    counted = refl;
    grow = λ n l ts x. ([], x.0, rw (append-nil ts) x.1);
    leads = λ K w y f al x. subst (λ (z : Tokens). Denied (ad_at K z)) (sym (follows_none f)) x;
  }

  -- EVERY REFUSAL OF THE READER IS ONE OF DOCUMENT 01
  pub ad_ends : AllA (Refusal whole) (ad_at limits whole)
  unfolding ad_at names_in names
  ad_ends =
      want_ends (Refusal whole) (symbol OpenBracket) (symbol_coded OpenBracket) whole _
      (λ p v st. definitions_ends (enough v) v [] 0 (symbol OpenBracket ∷ [])
      (move_token whole start (symbol OpenBracket) st refl refl (symbol CloseBracket ∷ []) ([], closes) (λ n l ts x. start.grow n l (symbol OpenBracket ∷ ts) (x.0, closes_ad x.1)) (λ K i y f al x. ad_open K i y f x))
      refl)
      (λ i. misfit_at whole whole start (ad_none whole i))
