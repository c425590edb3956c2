-- Where a reader stands in a text: the tokens before it, the ads that begin with them, and what its refusal there says. Assumes nothing.
use Rattle.std.specs.Prelude.{ℕ, zero, suc, ◌+◌, ◌-◌, ◌≤◌, ◌<◌, ◌≡◌, false, length, leb, eqb}
use Rattle.std.proofs.Common.{arith, sym, ◌∙◌, ap, leb-true, leb-false, eqb-true}
use Rattle.std.proofs.Math.Path.{refl, subst}
use mathlib.Core.List.{List, [], ◌∷◌, ◌++◌, append_assoc, append-nil}
use Rattle.syntax.specs.Bounds.{max_level, max_nodes}
use Rattle.syntax.specs.Tree.{Literal, undefined, Expr, literal, Ad, nodes}
use Rattle.syntax.specs.Token.{Token, word, constant, operator, symbol, Tokens, next, end, bad}
use Rattle.syntax.specs.Grammar.{binds_of, unary_token, ReadsTo, reads_literal, reads_own, reads_other, reads_parentheses, reads_unary, reads_binary, reads_conditional, reads_tighter, AdTo, IsAd, NewAfter, Follows, none, some}
use Rattle.syntax.specs.Reader.{Parsed, ok, refused, Answer, accepted, denied, code_of, is_token, misfit, on_token, on_word, on_literal, on_binary, on_unary, after, want, level, Limits, limits, room, ad_at}
use Rattle.syntax.proofs.Laws.Codes.{on_pick, is_token_lem, symbol_coded, operator_coded}
use Rattle.syntax.proofs.Laws.Sound.{follows_append}
use Rattle.syntax.proofs.Laws.Accepts.{ad_complete}
use Rattle.syntax.proofs.Laws.Complete.{follows_split}
use Rattle.syntax.specs.declared.Binary.{Binary}
use Rattle.syntax.specs.declared.Binary.TheVariants.{Add, Subtract}
use Rattle.syntax.specs.declared.Unary.{Unary}
use Rattle.syntax.specs.declared.Unary.TheVariants.{Not, Plus, Minus}
use Rattle.syntax.specs.declared.Symbol.TheVariants.{Exclamation}
use Rattle.grammar.specs.Refusal.{Role, refers, role_after, nodes_at, names_at, nodes_in, names_in, nodes_of, names_of, ViableTo, DistinctNames, Few, Keeps, Breaks, unfit, deep, many, Refuses, own, early, token, Refusal}
use Rattle.grammar.proofs.Laws.Counting.{behind, nodes_append, names_append, behind_append, Plain, viable_front}
use Rattle.grammar.proofs.Laws.Alike.{Alike, alike_next, alike_end, alike_front, InFront, Unlike, NoUnary, NoBinary, NoWord, NoLiteral, Outcome, done, stuck, Meets, Run, Local, Passes, through}

-- ---- what the first run gives

-- Q holds of an expression and the tokens after it, R of a refusal; number 0 is the depth of calls, which no reader reaches
abbrev pub All : (Expr → Tokens → Type 0) → (ℕ → ℕ → Type 0) → Parsed → Type 0
All Q R (ok e u) = Q e u
All Q R (refused k p) = 0 < k → R k p

-- the tokens u are x, at p, and then v
abbrev pub Step : Tokens → ℕ → Token → Tokens → Type 0
Step u p x v = u ≡ next p x v

pub step : {u v : Tokens} {p : ℕ} {x : Token} → Step u p x v → Follows u (x ∷ []) v
step {u} {v} {p} {x} e = subst (λ (y : Tokens). Follows y (x ∷ []) v) (sym e) (some none)

-- R holds of the refusal here: 4 at a token that does not fit or at the end, or a bad token's own
abbrev pub Off : (ℕ → ℕ → Type 0) → Tokens → Type 0
Off R (next p t u) = R 4 p
Off R (end n) = R 4 n
Off R (bad k p) = R k p

module _ (P Q : Expr → Tokens → Type 0) (R : ℕ → ℕ → Type 0) where
  pub on_after : (x : Parsed) (go : Expr → Tokens → Parsed) → All P R x → ((e : Expr) (u : Tokens) → P e u → All Q R (go e u)) → All Q R (after x go)
  on_after (ok e u) go h f = f e u h
  on_after (refused k p) go h f = h

  pub on_all : (x : Parsed) → All P R x → ((e : Expr) (u : Tokens) → P e u → Q e u) → All Q R x
  on_all (ok e u) h f = f e u h
  on_all (refused k p) h f = h

module _ (Q : Expr → Tokens → Type 0) (R : ℕ → ℕ → Type 0) where
  pub on_level : (d p : ℕ) (go : Unit {0} → Parsed) → (max_level ≤ d → R 6 p) → (d < max_level → All Q R (go tt)) → All Q R (level limits d p go)
  on_level d p go r f = on_pick (All Q R) (leb max_level d) _ go (λ b l. r (leb-true max_level d b)) (λ b. f (leb-false max_level d b))

  pub on_room : (c p : ℕ) (go : Unit {0} → Parsed) → (max_nodes ≤ c → R 9 p) → (c < max_nodes → All Q R (go tt)) → All Q R (room limits c p go)
  on_room c p go r f = on_pick (All Q R) (leb max_nodes c) _ go (λ b l. r (leb-true max_nodes c b)) (λ b. f (leb-false max_nodes c b))

  pub on_misfit : (u : Tokens) → Off R u → All Q R (misfit refused u)
  on_misfit (next p t u) f = λ l. f
  on_misfit (end n) f = λ l. f
  on_misfit (bad k p) f = λ l. f

  pub on_token_lem : (x : Token) → 1 ≤ code_of x → (u : Tokens) (then : ℕ → Tokens → Parsed) (otherwise : Unit {0} → Parsed) →
      ((p : ℕ) (v : Tokens) → Step u p x v → All Q R (then p v)) → (InFront (Unlike x) u → All Q R (otherwise tt)) → All Q R (on_token x u then otherwise)
  on_token_lem x hx (next p t u) then otherwise f g = on_pick (All Q R) (is_token x t) _ otherwise (λ b. f p u (ap (λ (y : Token). next p y u) (is_token_lem x t hx b))) (λ b. g b)
  on_token_lem x hx (end n) then otherwise f g = g tt
  on_token_lem x hx (bad k p) then otherwise f g = g tt

  pub on_want : (x : Token) → 1 ≤ code_of x → (u : Tokens) (go : Tokens → Parsed) → ((p : ℕ) (v : Tokens) → Step u p x v → All Q R (go v)) → (InFront (Unlike x) u → Off R u) → All Q R (want x u go)
  on_want x hx u go f g = on_token_lem x hx u _ _ f (λ e. on_misfit u (g e))

  pub on_word_lem : (u : Tokens) (then : ℕ → List ℕ → Tokens → Parsed) (otherwise : Unit {0} → Parsed) →
      ((p : ℕ) (w : List ℕ) (v : Tokens) → Step u p (word w) v → All Q R (then p w v)) → (InFront NoWord u → All Q R (otherwise tt)) → All Q R (on_word u then otherwise)
  on_word_lem (next p (word w) u) then otherwise f g = f p w u refl
  on_word_lem (next p (constant l) u) then otherwise f g = g tt
  on_word_lem (next p (operator j) u) then otherwise f g = g tt
  on_word_lem (next p (symbol s) u) then otherwise f g = g tt
  on_word_lem (end n) then otherwise f g = g tt
  on_word_lem (bad k p) then otherwise f g = g tt

  pub on_literal_lem : (u : Tokens) (then : ℕ → Literal → Tokens → Parsed) (otherwise : Unit {0} → Parsed) →
      ((p : ℕ) (l : Literal) (v : Tokens) → Step u p (constant l) v → All Q R (then p l v)) → (InFront NoLiteral u → All Q R (otherwise tt)) → All Q R (on_literal u then otherwise)
  on_literal_lem (next p (word w) u) then otherwise f g = g tt
  on_literal_lem (next p (constant l) u) then otherwise f g = f p l u refl
  on_literal_lem (next p (operator j) u) then otherwise f g = g tt
  on_literal_lem (next p (symbol s) u) then otherwise f g = g tt
  on_literal_lem (end n) then otherwise f g = g tt
  on_literal_lem (bad k p) then otherwise f g = g tt

  pub on_binary_lem : (b : ℕ) (u : Tokens) (then : Binary → ℕ → Tokens → Parsed) (otherwise : Unit {0} → Parsed) →
      ((j : Binary) (p : ℕ) (v : Tokens) → binds_of j ≡ b → Step u p (operator j) v → All Q R (then j p v)) → (InFront (NoBinary b) u → All Q R (otherwise tt)) → All Q R (on_binary b u then otherwise)
  on_binary_lem b (next p (word w) u) then otherwise f g = g tt
  on_binary_lem b (next p (constant l) u) then otherwise f g = g tt
  on_binary_lem b (next p (operator j) u) then otherwise f g =
      on_pick (All Q R) (eqb (binds_of j) b) _ otherwise (λ t. f j p u (eqb-true (binds_of j) b t) refl) (λ t. g t)
  on_binary_lem b (next p (symbol s) u) then otherwise f g = g tt
  on_binary_lem b (end n) then otherwise f g = g tt
  on_binary_lem b (bad k p) then otherwise f g = g tt

  no_unary : (u : Tokens) → InFront (Unlike (unary_token Not)) u → InFront (Unlike (unary_token Plus)) u → InFront (Unlike (unary_token Minus)) u → InFront NoUnary u
  no_unary (next p t u) h i j = λ o. each o
    where
      each : (o : Unary) → Unlike (unary_token o) t
      each Not = h
      each Plus = i
      each Minus = j
  no_unary (end n) h i j = tt
  no_unary (bad k p) h i j = tt

  pub on_unary_lem : (u : Tokens) (then : Unary → ℕ → Tokens → Parsed) (otherwise : Unit {0} → Parsed) →
      ((o : Unary) (p : ℕ) (v : Tokens) → Step u p (unary_token o) v → All Q R (then o p v)) → (InFront NoUnary u → All Q R (otherwise tt)) → All Q R (on_unary u then otherwise)
  on_unary_lem u then otherwise f g =
      on_token_lem (unary_token Not) (symbol_coded Exclamation) u _ _ (f Not)
      (λ h. on_token_lem (unary_token Plus) (operator_coded Add) u _ _ (f Plus)
      (λ i. on_token_lem (unary_token Minus) (operator_coded Subtract) u _ _ (f Minus) (λ j. g (no_unary u h i j))))

-- ---- expressions

-- an expression within level n is one within any higher level
pub reads_more : {n m b d : ℕ} {ts : List Token} {e : Expr} → n ≤ m → ReadsTo n b d ts e → ReadsTo m b d ts e
reads_more h reads_literal = reads_literal
reads_more h reads_own = reads_own
reads_more h reads_other = reads_other
reads_more h (reads_parentheses {d} hd r) = reads_parentheses {d = d} (omega arith) (reads_more h r)
reads_more h (reads_unary {d} hd r) = reads_unary {d = d} (omega arith) (reads_more h r)
reads_more h (reads_binary r s) = reads_binary (reads_more h r) (reads_more h s)
reads_more h (reads_conditional {d} hd r s t) = reads_conditional {d = d} (omega arith) (reads_more h r) (reads_more h s) (reads_more h t)
reads_more h (reads_tighter hb r) = reads_tighter hb (reads_more h r)

-- `undefined` is an expression
undefined_from : {l : ℕ} (n b d : ℕ) → n + b ≡ 8 → ReadsTo l b d (constant undefined ∷ []) (literal undefined)
undefined_from {l} zero b d h = let e : 8 ≡ b = omega arith in subst (λ (k : ℕ). ReadsTo l k d (constant undefined ∷ []) (literal undefined)) e reads_literal
undefined_from (suc n) b d h = reads_tighter {b = b} (omega arith) (undefined_from n (b + 1) d (omega arith))

pub undefined_reads : {l b d : ℕ} → b ≤ 8 → ReadsTo l b d (constant undefined ∷ []) (literal undefined)
undefined_reads {l} {b} {d} h = undefined_from (8 - b) b d (omega arith)

-- with the tokens xs before them, the tokens ts make an expression no deeper than level n
abbrev pub Sentence : ℕ → ℕ → List Token → ℕ → List Token → Type 0
Sentence b d xs n ts = (e : Expr) × ReadsTo n b d (xs ++ ts) e

-- the second run of the reader R is refused
abbrev pub Stuck : Run → Limits → Tokens → Type 0
Stuck R K y = (g n : ℕ) → Meets stuck (end 0) (R K g y n)

pub restuck : (v w : Tokens) (x : Parsed) → Meets stuck v x → Meets stuck w x
restuck v w (ok e u) h = h
restuck v w (refused k p) h = h

-- After the tokens xs, those tokens make e with xs, and over tokens that begin alike the reader R reads e again
pub record Got (R : Run) (b d : ℕ) (xs : List Token) (u : Tokens) (c : ℕ) (e : Expr) (v : Tokens) : Type 0 where
  pub those : List Token
  pub follows : Follows u those v
  pub reads : ReadsTo max_level b d (xs ++ those) e
  pub local : Local R those (done e) v
  -- c nodes come before
  pub few : c + nodes_in refers those ≤ max_nodes

-- after xs the reader S goes on with the same expression
pub join_got : (R S : Run) (ys xs : List Token) (u v : Tokens) (k c : ℕ) → Follows u xs v → Plain xs k → (b d : ℕ) → ((o : Outcome) → Passes o R S xs v) → (e : Expr) (w : Tokens) → Got S b d (ys ++ xs) v (c + k) e w → Got R b d ys u c e w
join_got R S ys xs u v k c f p b d pass e w g = record {
  those = xs ++ g.those;
  follows = follows_append f g.follows;
  reads = subst (λ (l : List Token). ReadsTo max_level b d l e) (append_assoc ys xs g.those) g.reads;
  local = through (done e) R S xs g.those v w (pass (done e)) g.follows g.local;
  few = rw (nodes_append refers xs g.those, p.role, p.count) (omega (arith, g.few));
}

-- ---- lists of tokens that come from no text

abbrev pub Denied : Answer → Type 0
Denied (accepted a) = ⊥
Denied (denied k p) = Unit {0}

-- the tokens ts, and then the end
unfoldable pub listed : List Token → Tokens
listed [] = end 0
listed (t ∷ ts) = next 0 t (listed ts)

listed_front : (ts us : List Token) → Follows (listed (ts ++ us)) ts (listed us)
unfolding listed
listed_front [] us = none
listed_front (t ∷ ts) us = some (listed_front ts us)

listed_whole : (ts : List Token) → Follows (listed ts) ts (end 0)
unfolding listed
listed_whole [] = none
listed_whole (t ∷ ts) = some (listed_whole ts)

-- limits that the ad a is within, whatever its names
abbrev loose : ℕ → Ad → Limits
loose n a = record { most_levels = n; most_nodes = nodes a; most_definitions = length a; taken = λ w b. false }

loose_new : (a b : Ad) → NewAfter (λ w c. false) b a
unfolding NewAfter
loose_new [] b = tt
loose_new (d ∷ ds) b = (refl, loose_new ds (b ++ d ∷ []))

-- every ad of the grammar is accepted under some limits
sentence_accepted : (n : ℕ) (ts : List Token) (a : Ad) → AdTo n ts a → ad_at (loose n a) (listed ts) ≡ accepted a
sentence_accepted n ts a i = ad_complete (loose n a) i (listed ts) 0 (listed_whole ts) (omega arith) (omega arith) (loose_new a [])

-- ---- where a reader stands

regroup : (n : ℕ) (xs ys zs : List Token) → ViableTo n (xs ++ (ys ++ zs)) → ViableTo n ((xs ++ ys) ++ zs)
regroup n xs ys zs = subst (ViableTo n) (sym (append_assoc xs ys zs))

-- the same with fewer tokens
pub cut : (n : ℕ) (xs ys zs : List Token) → ViableTo n (xs ++ (ys ++ zs)) → ViableTo n (xs ++ ys)
cut n xs ys zs x = viable_front n (xs ++ ys) zs (regroup n xs ys zs x)

module _ (whole : Tokens) where
  -- The tokens pre come before u and keep the rules, c nodes are counted at them, and a Name in front of u has the role r. Some ad
  -- begins with pre and any tokens that E holds of (`grow`). Where X holds of tokens that go on like u after pre, the ad is refused
  -- (`leads`).
  pub record Here (E : ℕ → List Token → Type 0) (X : Limits → Tokens → Type 0) (r : Role) (pre : List Token) (u : Tokens) (c : ℕ) : Type 0 where
    pub follows : Follows whole pre u
    pub kept : Keeps pre
    pub role : behind refers pre ≡ r
    pub counted : nodes_of pre ≡ c
    pub grow : (n : ℕ) → max_level ≤ n → (ts : List Token) → E n ts → ViableTo n (pre ++ ts)
    pub leads : (K : Limits) (w y : Tokens) → Follows w pre y → Alike u y → X K y → Denied (ad_at K w)

  module _ {E : ℕ → List Token → Type 0} {X : Limits → Tokens → Type 0} {r : Role} {pre : List Token} {u : Tokens} {c : ℕ} (h : Here E X r pre u c) where
    pub names_on : (xs : List Token) → names_of (pre ++ xs) ≡ names_of pre ++ names_in r xs
    names_on xs = names_append refers pre xs ∙ ap (λ (q : Role). names_of pre ++ names_in q xs) h.role

    pub nodes_on : (xs : List Token) → nodes_of (pre ++ xs) ≡ c + nodes_in r xs
    nodes_on xs = nodes_append refers pre xs ∙ rw (h.role, h.counted) refl

    pub room_left : c ≤ max_nodes
    room_left = omega (arith, h.counted, h.kept.few.few_nodes)

    -- another reader at the same place
    pub turn : {F : ℕ → List Token → Type 0} {Y : Limits → Tokens → Type 0} → ((n : ℕ) (ts : List Token) → F n ts → E n ts) → ((K : Limits) (y : Tokens) → Alike u y → Y K y → X K y) → Here F Y r pre u c
    turn f g = record { follows = h.follows; kept = h.kept; role = h.role; counted = h.counted; grow = λ n l ts x. h.grow n l ts (f n ts x); leads = λ K w y i al x. h.leads K w y i al (g K y al x) }

    -- a reader after the tokens xs
    pub move : {F : ℕ → List Token → Type 0} {Y : Limits → Tokens → Type 0} (xs : List Token) {v : Tokens} {q : Role} {k : ℕ} → Follows u xs v → DistinctNames (pre ++ xs) → Few (pre ++ xs) → behind r xs ≡ q → c + nodes_in r xs ≡ k →
        (ts : List Token) → F max_level ts → ((n : ℕ) → max_level ≤ n → (ts : List Token) → F n ts → ViableTo n (pre ++ (xs ++ ts))) →
        ((K : Limits) (w y : Tokens) → Follows w xs y → Alike v y → Y K y → X K w) → Here F Y q (pre ++ xs) v k
    move xs f distinct few i j ts x grow leads = record {
      follows = follows_append h.follows f;
      kept = record { shallow = cut max_level pre xs ts (grow max_level (omega arith) ts x); distinct = distinct; few = few };
      role = behind_append refers pre xs ∙ rw h.role i;
      counted = nodes_on xs ∙ j;
      grow = λ n l ts x. regroup n pre xs ts (grow n l ts x);
      leads = λ K w y g al x. let s = follows_split pre g in h.leads K w s.0 s.1 (alike_front f s.2 al) (leads K s.0 y s.2 al x);
    }

    -- a reader after a token that is no node and defines no name
    pub same_names : (t : Token) → names_at r t ≡ [] → names_of (pre ++ t ∷ []) ≡ names_of pre
    unfolding names_in
    same_names t e = names_on (t ∷ []) ∙ rw e (append-nil (names_of pre))

    pub move_token : {F : ℕ → List Token → Type 0} {Y : Limits → Tokens → Type 0} (t : Token) {p : ℕ} {v : Tokens} → Step u p t v → names_at r t ≡ [] → nodes_at r t ≡ 0 →
        (ts : List Token) → F max_level ts → ((n : ℕ) → max_level ≤ n → (ts : List Token) → F n ts → ViableTo n (pre ++ (t ∷ ts))) →
        ((K : Limits) (w y : Tokens) → Follows w (t ∷ []) y → Alike v y → Y K y → X K w) → Here F Y (role_after t) (pre ++ t ∷ []) v c
    unfolding nodes_in behind
    move_token t st e i =
        let few = room_left in
        move (t ∷ []) (step st) (rw (same_names t e) h.kept.distinct) (record { few_definitions = rw (same_names t e) h.kept.few.few_definitions; few_nodes = omega (arith, nodes_on (t ∷ [])) }) refl (omega arith)

    -- a refusal at the token t
    pub refuse : {t : Token} {k p : ℕ} {v : Tokens} → Step u p t v → Breaks (pre ++ t ∷ []) k → Refusal whole k p
    refuse {t} {k} {p} {v} st b = record { before = pre; rest = u; follows = h.follows; keeps = h.kept; refuses = subst (λ (y : Tokens). Refuses pre y k p) (sym st) (token b) }

    -- where no reader goes on over the tokens us, pre and they are no ad
    no_ad : (n : ℕ) (us : List Token) (a : Ad) → Alike u (listed us) → ((K : Limits) → K.most_levels ≡ n → X K (listed us)) → AdTo n (pre ++ us) a → ⊥
    no_ad n us a al x i =
        let K : Limits = loose n a in
        let z : Denied (accepted a) = subst Denied (sentence_accepted n (pre ++ us) a i) (h.leads K (listed (pre ++ us)) (listed us) (listed_front pre us) al (x K refl)) in
        z

    no_token : (n p : ℕ) (t : Token) (v : Tokens) → Step u p t v → ((K : Limits) (y : Tokens) → K.most_levels ≡ n → Alike u y → X K y) → ViableTo n (pre ++ t ∷ []) → ⊥
    unfolding listed
    no_token n p t v st x z =
        let us : List Token = t ∷ z.0 in
        let al : Alike u (listed us) = subst (λ (y : Tokens). Alike y (listed us)) (sym st) alike_next in
        no_ad n us z.1 al (λ K e. x K (listed us) e al) (subst (λ (l : List Token). AdTo n l z.1) (append_assoc pre (t ∷ []) z.0) z.2)

    -- 'level 65', where the reader does not go on at any level below
    pub deep_at : {t : Token} {p : ℕ} {v : Tokens} → Step u p t v → (n : ℕ) → max_level ≤ n → (ts : List Token) → E n (t ∷ ts) → ((K : Limits) (y : Tokens) → K.most_levels ≡ max_level → Alike u y → X K y) → Refusal whole 6 p
    deep_at {t} {p} {v} st n l ts x blind = refuse st (deep (n, cut n pre (t ∷ []) ts (h.grow n l (t ∷ ts) x)) (no_token max_level p t v st blind))

    -- '1,025th node'
    pub many_at : {t : Token} {p : ℕ} {v : Tokens} → Step u p t v → (ts : List Token) → E max_level (t ∷ ts) → names_at r t ≡ [] → nodes_at r t ≡ 1 → max_nodes ≤ c → Refusal whole 9 p
    unfolding nodes_in
    many_at {t} st ts x e i full =
        refuse st (many (cut max_level pre (t ∷ []) ts (h.grow max_level (omega arith) (t ∷ ts) x)) (rw (same_names t e) h.kept.distinct) (λ f. omega (arith, f.few_nodes, nodes_on (t ∷ []))))

  -- 'token does not fit the grammar, or text ends early', where the reader does not go on at all
  pub misfit_at : {E : ℕ → List Token → Type 0} {X : Limits → Tokens → Type 0} {r : Role} {pre : List Token} {c : ℕ} (u : Tokens) → Here E X r pre u c → ((K : Limits) (y : Tokens) → Alike u y → X K y) → Off (Refusal whole) u
  unfolding listed
  misfit_at (next p t u) h x = refuse h refl (unfit (λ z. no_token h z.0 p t u refl (λ K y e. x K y) z.1))
  misfit_at {pre = pre} (end n) h x = record { before = pre; rest = end n; follows = h.follows; keeps = h.kept; refuses = early (λ a i. no_ad h max_level [] a alike_end (λ K e. x K (end 0) alike_end) (subst (λ (l : List Token). IsAd l a) (sym (append-nil pre)) i)) }
  misfit_at {pre = pre} (bad k p) h x = record { before = pre; rest = bad k p; follows = h.follows; keeps = h.kept; refuses = own }

  module _ {E : ℕ → List Token → Type 0} {X : Limits → Tokens → Type 0} {pre : List Token} {u : Tokens} {c : ℕ} (h : Here E X refers pre u c) where
    -- a reader after the tokens xs, which define no name
    pub go_on : {F : ℕ → List Token → Type 0} {Y : Limits → Tokens → Type 0} (xs : List Token) {v : Tokens} {k m : ℕ} → Follows u xs v → Plain xs k → c + k ≡ m → m ≤ max_nodes →
        (ts : List Token) → F max_level ts → ((n : ℕ) → max_level ≤ n → (ts : List Token) → F n ts → ViableTo n (pre ++ (xs ++ ts))) →
        ((K : Limits) (w y : Tokens) → Follows w xs y → Alike v y → Y K y → X K w) → Here F Y refers (pre ++ xs) v m
    go_on xs f p i j ts x grow leads =
        let same : names_of (pre ++ xs) ≡ names_of pre = names_on h xs ∙ rw p.nameless (append-nil (names_of pre)) in
        move h xs f (rw same h.kept.distinct) (record { few_definitions = rw same h.kept.few.few_definitions; few_nodes = omega (arith, nodes_on h xs, p.count) }) p.role (omega (arith, p.count)) ts x grow leads

-- what a second run of S after xs says of one of R, and where no run of R goes on
pub passing : (R S : Run) (xs : List Token) (v : Tokens) → Passes stuck R S xs v → (K : Limits) (w y : Tokens) → Follows w xs y → Alike v y → Stuck S K y → Stuck R K w
passing R S xs v pass K w y f al x g n = pass K g w y (end 0) n f al x

pub staying : (R S : Run) (u : Tokens) → Passes stuck R S [] u → (K : Limits) (y : Tokens) → Alike u y → Stuck S K y → Stuck R K y
staying R S u pass K y al x g n = pass K g y y (end 0) n none al x

pub blind : (R : Run) (u : Tokens) → Local R [] stuck u → (K : Limits) (y : Tokens) → Alike u y → Stuck R K y
blind R u loc K y al g n = restuck y (end 0) (R K g y n) (loc K g y y n none al)
