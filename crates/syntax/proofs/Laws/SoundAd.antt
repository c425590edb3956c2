-- What the reader of ads accepts is an ad of the grammar within the limits. Assumes nothing.
use Rattle.std.specs.Prelude.{ℕ, zero, suc, ◌+◌, ◌≤◌, ◌<◌, ◌≡◌, false, leb}
use Rattle.std.proofs.Common.{arith, ◌∙◌, leb-false}
use Rattle.std.proofs.Math.Path.{refl, sym, subst}
use mathlib.Core.List.{List, [], ◌∷◌, ◌++◌, append_assoc, append-nil}
use Rattle.std.proofs.Math.ListN.{length, length-append}
use Rattle.syntax.specs.Tree.{Expr, Definition, Ad, size, nodes}
use Rattle.syntax.specs.Token.{Token, word, constant, operator, symbol, Tokens, next, end, bad}
use Rattle.syntax.specs.Grammar.{ReadsTo, DefinesTo, defines_one, defines_more, AdTo, ad_empty, ad_plain, ad_trailing, NewAfter, Follows}
use Rattle.syntax.specs.Reader.{Parsed, ok, refused, Answer, accepted, denied, code_of, is_token, misfit, on_token, on_word, Limits, conditional_at, after_a, want_a, end_a, count, enough, admit, definitions_at, behind_at, ad_at}
use Rattle.syntax.proofs.Laws.Codes.{on_pick, is_token_lem, symbol_coded}
use Rattle.syntax.proofs.Laws.Sound.{Number, Marked, Step, step_of, All, Got, conditional_sound, follows_append, follows_marked}
use Rattle.syntax.specs.declared.Symbol.TheVariants.{OpenBracket, CloseBracket, Semicolon, Assign}

-- the tokens behind `[` or `;`, up to the end of an ad that is no deeper than level l
pub data Closes (l : ℕ) : List Token → Ad → Type 0 where
  closes : Closes l (symbol CloseBracket ∷ []) []
  closes_plain : {ts : List Token} {a : Ad} → DefinesTo l ts a → Closes l (ts ++ symbol CloseBracket ∷ []) a
  closes_trailing : {ts : List Token} {a : Ad} → DefinesTo l ts a → Closes l (ts ++ symbol Semicolon ∷ symbol CloseBracket ∷ []) a

-- the tokens behind a definition
pub data Behind (l : ℕ) : List Token → Ad → Type 0 where
  behind_last : Behind l (symbol CloseBracket ∷ []) []
  behind_more : {ts : List Token} {a : Ad} → Closes l ts a → Behind l (symbol Semicolon ∷ ts) a

pub closes_ad : {l : ℕ} {ts : List Token} {a : Ad} → Closes l ts a → AdTo l (symbol OpenBracket ∷ ts) a
closes_ad closes = ad_empty
closes_ad (closes_plain d) = ad_plain d
closes_ad (closes_trailing d) = ad_trailing d

-- a definition, and what is behind it
pub one_more : {l : ℕ} {w : List ℕ} {ts us : List Token} {e : Expr} {a : Ad} → ReadsTo l 0 0 ts e → Behind l us a → Closes l (word w ∷ symbol Assign ∷ (ts ++ us)) (record { name = w; expression = e } ∷ a)
one_more r behind_last = closes_plain (defines_one r)
one_more r (behind_more closes) = closes_trailing (defines_one r)
one_more {l} {w} {ts} {e = e} {a = a} r (behind_more (closes_plain {ts = us} d)) =
    subst (λ (ys : List Token). Closes l (word w ∷ symbol Assign ∷ ys) (record { name = w; expression = e } ∷ a)) (append_assoc ts (symbol Semicolon ∷ us) (symbol CloseBracket ∷ []))
    (closes_plain (defines_more r d))
one_more {l} {w} {ts} {e = e} {a = a} r (behind_more (closes_trailing {ts = us} d)) =
    subst (λ (ys : List Token). Closes l (word w ∷ symbol Assign ∷ ys) (record { name = w; expression = e } ∷ a)) (append_assoc ts (symbol Semicolon ∷ us) (symbol Semicolon ∷ symbol CloseBracket ∷ []))
    (closes_trailing (defines_more r d))

abbrev pub AllA : ℕ → (Ad → Type 0) → Answer → Type 0
AllA n Q (accepted a) = Q a
AllA n Q (denied k p) = Number n k p

module _ (n : ℕ) (Q : Ad → Type 0) where
  misfit_ad : (u : Tokens) → Marked n u → AllA n Q (misfit denied u)
  unfolding Marked
  misfit_ad (next p t u) h = record { low = omega arith; high = omega arith; within = h.0 }
  misfit_ad (end m) h = record { low = omega arith; high = omega arith; within = h }
  misfit_ad (bad k p) h = h

  token_ad : (x : Token) → 1 ≤ code_of x → (u : Tokens) (then : ℕ → Tokens → Answer) (otherwise : Unit {0} → Answer) → Marked n u →
      ((p : ℕ) (v : Tokens) → Step n u p x v → AllA n Q (then p v)) → AllA n Q (otherwise tt) → AllA n Q (on_token x u then otherwise)
  token_ad x hx (next p t u) then otherwise h f g =
      on_pick (AllA n Q) (is_token x t) _ otherwise
      (λ b. f p u (subst (λ (y : Token). Step n (next p t u) p y u) (is_token_lem x t hx b) (step_of n p t u h)))
      (λ _. g)
  token_ad x hx (end m) then otherwise h f g = g
  token_ad x hx (bad k p) then otherwise h f g = g

  want_ad : (x : Token) → 1 ≤ code_of x → (u : Tokens) (go : Tokens → Answer) → Marked n u → ((p : ℕ) (v : Tokens) → Step n u p x v → AllA n Q (go v)) → AllA n Q (want_a x u go)
  want_ad x hx u go h f = token_ad x hx u _ _ h f (misfit_ad u h)

  word_ad : (u : Tokens) (then : ℕ → List ℕ → Tokens → Answer) (otherwise : Unit {0} → Answer) → Marked n u →
      ((p : ℕ) (w : List ℕ) (v : Tokens) → Step n u p (word w) v → AllA n Q (then p w v)) → AllA n Q (otherwise tt) → AllA n Q (on_word u then otherwise)
  word_ad (next p (word w) u) then otherwise h f g = f p w u (step_of n p (word w) u h)
  word_ad (next p (constant l) u) then otherwise h f g = g
  word_ad (next p (operator j) u) then otherwise h f g = g
  word_ad (next p (symbol s) u) then otherwise h f g = g
  word_ad (end m) then otherwise h f g = g
  word_ad (bad k p) then otherwise h f g = g

  after_ad : (P : Expr → Tokens → Type 0) (x : Parsed) (go : Expr → Tokens → Answer) → All n P x → ((e : Expr) (u : Tokens) → P e u → AllA n Q (go e u)) → AllA n Q (after_a x go)
  after_ad P (ok e u) go h f = f e u h
  after_ad P (refused k p) go h f = h

  end_ad : (u : Tokens) (a : Ad) → Marked n u → ((m : ℕ) → u ≡ end m → Q a) → AllA n Q (end_a u a)
  unfolding Marked
  end_ad (next p t u) a h f = record { low = omega arith; high = omega arith; within = h.0 }
  end_ad (end m) a h f = f m refl
  end_ad (bad k p) a h f = h

  admit_ad : (L : Limits) (w : List ℕ) (p : ℕ) (a : Ad) (go : Unit {0} → Answer) → p ≤ n → (L.taken w a ≡ false → length a < L.most_definitions → AllA n Q (go tt)) → AllA n Q (admit L w p a go)
  admit_ad L w p a go h f =
      on_pick (AllA n Q) (L.taken w a) _ _ (λ _. record { low = omega arith; high = omega arith; within = h })
      (λ t. on_pick (AllA n Q) (leb L.most_definitions (length a)) _ go (λ _. record { low = omega arith; high = omega arith; within = h }) (λ b. f t (leb-false L.most_definitions (length a) b)))

-- the answer r is a with some definitions more, whose tokens are T and which are within the limits
pub record GotAd (L : Limits) (T : List Token → Ad → Type 0) (u : Tokens) (a : Ad) (c : ℕ) (r : Ad) : Type 0 where
  pub more : Ad
  pub those : List Token
  pub ends : ℕ
  pub whole : r ≡ a ++ more
  pub follows : Follows u those (end ends)
  pub sentence : T those more
  pub few_nodes : c + nodes more ≤ L.most_nodes
  pub few_definitions : length a + length more ≤ L.most_definitions
  pub fresh : NewAfter L.taken a more

module _ (n : ℕ) (L : Limits) where
  -- nothing more
  last_sound : (T : List Token → Ad → Type 0) → T (symbol CloseBracket ∷ []) [] → (u v : Tokens) (a : Ad) (c p : ℕ) → c ≤ L.most_nodes → length a ≤ L.most_definitions → Step n u p (symbol CloseBracket) v → AllA n (GotAd L T u a c) (end_a v a)
  unfolding nodes NewAfter
  last_sound T t u v a c p hc ha s =
      end_ad n (GotAd L T u a c) v a s.marked λ m e.
      record { more = []; those = symbol CloseBracket ∷ []; ends = m; whole = sym (append-nil a); follows = subst (λ (x : Tokens). Follows u (symbol CloseBracket ∷ []) x) e s.step; sentence = t; few_nodes = omega arith; few_definitions = omega arith; fresh = tt }

  -- one definition in front of more
  more_sound : (u v x y : Tokens) (a : Ad) (c p q : ℕ) (w : List ℕ) (e : Expr) → L.taken w a ≡ false → Step n u p (word w) v → Step n v q (symbol Assign) x → Got n L 0 x 0 c e y → (r : Ad) → GotAd L (Behind L.most_levels) y (a ++ record { name = w; expression = e } ∷ []) (c + size e) r → GotAd L (Closes L.most_levels) u a c r
  unfolding nodes NewAfter
  more_sound u v x y a c p q w e h s s' g r k =
      let d : Definition = record { name = w; expression = e } in
      let len : length (a ++ d ∷ []) ≡ length a + 1 = length-append a (d ∷ []) in
      record {
        more = d ∷ k.more;
        those = word w ∷ symbol Assign ∷ (g.read.0 ++ k.those);
        ends = k.ends;
        whole = k.whole ∙ append_assoc a (d ∷ []) k.more;
        follows = follows_append s.step (follows_append s'.step (follows_append g.read.1 k.follows));
        sentence = one_more g.read.2 k.sentence;
        few_nodes = omega (arith, k.few_nodes);
        few_definitions = omega (arith, k.few_definitions, len);
        fresh = (h, k.fresh);
      }

  all_ad : (P Q : Ad → Type 0) (x : Answer) → AllA n P x → ((a : Ad) → P a → Q a) → AllA n Q x
  all_ad P Q (accepted a) h f = f a h
  all_ad P Q (denied k p) h f = h

  mutual
    unfolding definitions_at

    definitions_sound : (f : ℕ) (u : Tokens) (a : Ad) (c : ℕ) → Marked n u → count u < f → c ≤ L.most_nodes → length a ≤ L.most_definitions → AllA n (GotAd L (Closes L.most_levels) u a c) (definitions_at L f u a c)
    definitions_sound zero u a c hm hf hc ha = absurd (omega arith)
    definitions_sound (suc f) u a c hm hf hc ha =
        let Q = GotAd L (Closes L.most_levels) u a c in
        token_ad n Q (symbol CloseBracket) (symbol_coded CloseBracket) u _ _ hm (λ p v s. last_sound (Closes L.most_levels) closes u v a c p hc ha s)
        (word_ad n Q u _ _ hm
        (λ p w v s. admit_ad n Q L w p a _ s.within λ ht hl.
        want_ad n Q (symbol Assign) (symbol_coded Assign) v _ s.marked λ q x s'.
        after_ad n Q (Got n L 0 x 0 c) (conditional_at L (enough x) x 0 c) _ (conditional_sound n L (enough x) x 0 c s'.marked (omega arith)) λ e y g.
        let d : Definition = record { name = w; expression = e } in
        all_ad (GotAd L (Behind L.most_levels) y (a ++ d ∷ []) (c + size e)) Q (behind_at L f y (a ++ d ∷ []) (c + size e))
        (behind_sound f y (a ++ d ∷ []) (c + size e) (follows_marked n g.read.1 s'.marked) (omega arith) g.fits (omega (arith, length-append a (d ∷ []))))
        (more_sound u v x y a c p q w e ht s s' g))
        (misfit_ad n Q u hm))

    behind_sound : (f : ℕ) (u : Tokens) (a : Ad) (c : ℕ) → Marked n u → count u < f → c ≤ L.most_nodes → length a ≤ L.most_definitions → AllA n (GotAd L (Behind L.most_levels) u a c) (behind_at L f u a c)
    behind_sound zero u a c hm hf hc ha = absurd (omega arith)
    behind_sound (suc f) u a c hm hf hc ha =
        let Q = GotAd L (Behind L.most_levels) u a c in
        token_ad n Q (symbol Semicolon) (symbol_coded Semicolon) u _ _ hm
        (λ p v s. all_ad (GotAd L (Closes L.most_levels) v a c) Q (definitions_at L f v a c) (definitions_sound f v a c s.marked (omega arith) hc ha) λ r k.
        record { more = k.more; those = symbol Semicolon ∷ k.those; ends = k.ends; whole = k.whole; follows = follows_append s.step k.follows; sentence = behind_more k.sentence; few_nodes = k.few_nodes; few_definitions = k.few_definitions; fresh = k.fresh })
        (token_ad n Q (symbol CloseBracket) (symbol_coded CloseBracket) u _ _ hm (λ p v s. last_sound (Behind L.most_levels) behind_last u v a c p hc ha s)
        (misfit_ad n Q u hm))

  -- an accepted ad
  pub record Accepted (u : Tokens) (a : Ad) : Type 0 where
    pub those : List Token
    pub ends : ℕ
    pub follows : Follows u those (end ends)
    pub sentence : AdTo L.most_levels those a
    pub few_nodes : nodes a ≤ L.most_nodes
    pub few_definitions : length a ≤ L.most_definitions
    pub fresh : NewAfter L.taken [] a

  -- WHAT IS ACCEPTED IS AN AD WITHIN THE LIMITS, and each refusal has a number from 3 to 9 and a place in the text
  pub ad_sound : (u : Tokens) → Marked n u → AllA n (Accepted u) (ad_at L u)
  unfolding ad_at
  ad_sound u hm =
      want_ad n (Accepted u) (symbol OpenBracket) (symbol_coded OpenBracket) u _ hm λ p v s.
      all_ad (GotAd L (Closes L.most_levels) v [] 0) (Accepted u) (definitions_at L (enough v) v [] 0) (definitions_sound (enough v) v [] 0 s.marked (omega arith) (omega arith) (omega arith)) λ r k.
      record { those = symbol OpenBracket ∷ k.those; ends = k.ends; follows = follows_append s.step k.follows; sentence = rw k.whole (closes_ad k.sentence); few_nodes = rw k.whole (omega (arith, k.few_nodes)); few_definitions = rw k.whole (omega (arith, k.few_definitions)); fresh = rw k.whole k.fresh }
