-- The reader is the grammar: it accepts exactly the ads of the grammar within the bounds, each with its tree; every refusal has
-- a number and a place. Assumes nothing.
use Prim.Native.Nat.{ℕ, zero, suc, ◌+◌, ◌≤◌, ◌<◌}
use Rattle.std.proofs.Common.{arith, sym, ◌∙◌, true≢false}
use Rattle.std.specs.Prelude.{◌≡◌, ◌↔◌, Bool, true, false, ◌||◌, eqb}
use Rattle.std.proofs.Math.Path.{refl, ap}
use Rattle.std.proofs.lemmas.Bool.{false≢true}
use mathlib.Core.List.{List, [], ◌∷◌, ◌++◌, append_assoc}
use Rattle.std.proofs.Math.ListN.{length, length-append}
use borrow.Author.Tests.{lt-leb, eqb-true}
use Rattle.syntax.specs.Tree.{Expr, Definition, Ad, size, nodes}
use Rattle.syntax.specs.Token.{Token, word, symbol, Tokens, next, end, bad, tokens}
use Rattle.syntax.specs.Grammar.{ReadsTo, DefinesTo, defines_one, defines_more, AdTo, IsAd, ad_empty, ad_plain, ad_trailing, NewAfter, Within, Follows, none, some, Whole}
use Rattle.syntax.specs.Reader.{accepted, denied, Limits, limits, count, enough, definitions_at, behind_at, ad_at, parse}
use Rattle.syntax.proofs.Laws.Sound.{Number, Marked}
use Rattle.syntax.proofs.Laws.SoundAd.{AllA, Accepted, ad_sound}
use Rattle.syntax.proofs.Laws.FrontTokens.{carried, Own, AllFit, fit_within, tokens_fit}
use Rattle.syntax.proofs.Laws.Complete.{Stops, never, follows_split, conditional_complete}
use Rattle.syntax.specs.declared.Symbol.TheVariants.{CloseBracket, Semicolon, Assign}

pub follows_count : {u v : Tokens} {ts : List Token} → Follows u ts v → count u ≡ count v + length ts
unfolding count
follows_count none = omega arith
follows_count (some f) = let h = follows_count f in omega arith

-- what may stand behind the last definition
data Tail : List Token → Type 0 where
  plain : Tail (symbol CloseBracket ∷ [])
  trailing : Tail (symbol Semicolon ∷ symbol CloseBracket ∷ [])

tail_stops : {t : List Token} {u v : Tokens} → Tail t → Follows u t v → Stops 0 u
tail_stops plain (some f) = ((λ q. absurd (true≢false (sym q))), λ j q. absurd (never j q))
tail_stops trailing (some f) = ((λ q. absurd (true≢false (sym q))), λ j q. absurd (never j q))

semicolon_stops : {y v : Tokens} {l : List Token} → Follows y (symbol Semicolon ∷ l) v → Stops 0 y
semicolon_stops (some f) = ((λ q. absurd (true≢false (sym q))), λ j q. absurd (never j q))

module _ (L : Limits) where
  tail_complete : {t : List Token} {u : Tokens} {m : ℕ} → Tail t → Follows u t (end m) → (a : Ad) (c f : ℕ) → length t < f → behind_at L f u a c ≡ accepted a
  unfolding definitions_at
  tail_complete t f a c zero h = absurd (omega arith)
  tail_complete plain (some none) a c (suc f) h = refl
  tail_complete trailing (some f) a c (suc zero) h = absurd (omega arith)
  tail_complete trailing (some (some none)) a c (suc (suc f)) h = refl

  -- a definition in front: the reader goes on behind it
  one_complete : (w : List ℕ) (ts : List Token) (e : Expr) (u v : Tokens) (a : Ad) (c f : ℕ) → ReadsTo L.most_levels 0 0 ts e → Follows u (word w ∷ symbol Assign ∷ ts) v → Stops 0 v → L.taken w a ≡ false → length a < L.most_definitions → c + size e ≤ L.most_nodes → definitions_at L (suc f) u a c ≡ behind_at L f v (a ++ record { name = w; expression = e } ∷ []) (c + size e)
  unfolding definitions_at
  one_complete w ts e u v a c f r (some (some {u = x} g)) st ht ha hc =
      rw (ht, lt-leb L.most_definitions (length a) ha, conditional_complete L r x v c (enough x) g st hc (omega (arith, follows_count g))) refl

  -- behind a definition, `;` leads to the next
  semicolon_complete : {y v : Tokens} {l : List Token} → Follows y (symbol Semicolon ∷ l) v → (a : Ad) (c f : ℕ) → (z : Tokens) × Follows z l v × (behind_at L (suc f) y a c ≡ definitions_at L f z a c)
  unfolding definitions_at
  semicolon_complete (some {u = z} g) a c f = (z, g, refl)

  defines_complete : {ts : List Token} {b : Ad} → DefinesTo L.most_levels ts b → (t : List Token) → Tail t → (u : Tokens) (m : ℕ) (a : Ad) (c f : ℕ) → Follows u (ts ++ t) (end m) → length (ts ++ t) < f → c + nodes b ≤ L.most_nodes → length a + length b ≤ L.most_definitions → NewAfter L.taken a b → definitions_at L f u a c ≡ accepted (a ++ b)
  unfolding nodes NewAfter
  defines_complete d t ht u m a c zero g hf hc ha hn = absurd (omega arith)
  defines_complete (defines_one {w} {ts} {e} r) t ht u m a c (suc f) g hf hc ha hn =
      let x = follows_split (word w ∷ symbol Assign ∷ ts) g in
      one_complete w ts e u x.0 a c f r x.1 (tail_stops ht x.2) hn.0 (omega arith) (omega arith)
      ∙ tail_complete ht x.2 (a ++ record { name = w; expression = e } ∷ []) (c + size e) f (omega (arith, length-append ts t))
  defines_complete (defines_more {w} {ts} {us} {e} {a = b} r d) t ht u m a c (suc zero) g hf hc ha hn = absurd (omega arith)
  defines_complete (defines_more {w} {ts} {us} {e} {a = b} r d) t ht u m a c (suc (suc f)) g hf hc ha hn =
      let D : Definition = record { name = w; expression = e } in
      let len : length (a ++ D ∷ []) ≡ length a + 1 = length-append a (D ∷ []) in
      let x = follows_split (word w ∷ symbol Assign ∷ ts) (rw (append_assoc ts (symbol Semicolon ∷ us) t) at g) in
      let y = semicolon_complete x.2 (a ++ D ∷ []) (c + size e) f in
      one_complete w ts e u x.0 a c (suc f) r x.1 (semicolon_stops x.2) hn.0 (omega arith) (omega arith)
      ∙ (y.2
      ∙ (defines_complete d t ht y.0 m (a ++ D ∷ []) (c + size e) f y.1 (omega (arith, length-append (ts ++ symbol Semicolon ∷ us) t, length-append ts (symbol Semicolon ∷ us), length-append us t)) (omega arith) (omega arith) hn.1
      ∙ ap accepted (append_assoc a (D ∷ []) b)))

  closed_complete : (u : Tokens) (m f : ℕ) → Follows u (symbol CloseBracket ∷ []) (end m) → 0 < f → definitions_at L f u [] 0 ≡ accepted []
  unfolding definitions_at
  closed_complete u m zero g h = absurd (omega arith)
  closed_complete u m (suc f) (some none) h = refl

  -- AN AD OF THE GRAMMAR WITHIN THE LIMITS IS ACCEPTED, with its tree
  pub ad_complete : {ts : List Token} {a : Ad} → AdTo L.most_levels ts a → (u : Tokens) (m : ℕ) → Follows u ts (end m) → nodes a ≤ L.most_nodes → length a ≤ L.most_definitions → NewAfter L.taken [] a → ad_at L u ≡ accepted a
  unfolding ad_at
  ad_complete ad_empty u m (some {u = v} g) hc ha hn = closed_complete v m (enough v) g (omega arith)
  ad_complete (ad_plain {ts} d) u m (some {u = v} g) hc ha hn =
      defines_complete d (symbol CloseBracket ∷ []) plain v m [] 0 (enough v) g (omega (arith, follows_count g)) (omega arith) (omega arith) hn
  ad_complete (ad_trailing {ts} d) u m (some {u = v} g) hc ha hn =
      defines_complete d (symbol Semicolon ∷ symbol CloseBracket ∷ []) trailing v m [] 0 (enough v) g (omega (arith, follows_count g)) (omega arith) (omega arith) hn

own_range : (k : ℕ) → Own k → (3 ≤ k) × (k ≤ 9)
own_range k = go (eqb k 3) (eqb k 5) (eqb k 7) refl refl refl
  where
    go : (a b c : Bool) → eqb k 3 ≡ a → eqb k 5 ≡ b → eqb k 7 ≡ c → (a || b || c) ≡ true → (3 ≤ k) × (k ≤ 9)
    go true b c x y z h = omega (arith, eqb-true k 3 x)
    go false true c x y z h = omega (arith, eqb-true k 5 y)
    go false false true x y z h = omega (arith, eqb-true k 7 z)
    go false false false x y z h = absurd (false≢true h)

fit_marked : (n q : ℕ) (u : Tokens) → AllFit n q u → Marked n u
unfolding AllFit Marked
fit_marked n q (next p t u) h = (omega (arith, fit_within n (p + carried t) u h.2), fit_marked n (p + carried t) u h.2)
fit_marked n q (end m) h = omega (arith, h.1)
fit_marked n q (bad k p) h = let x = own_range k h.2 in record { low = x.0; high = x.1; within = h.1 }

-- what is read from a text
parse_sound : (s : List ℕ) → AllA (length s) (Accepted (length s) limits (tokens s)) (parse s)
unfolding parse
parse_sound s = ad_sound (length s) limits (tokens s) (fit_marked (length s) 0 (tokens s) (tokens_fit s))

-- THE READER IS THE GRAMMAR: a text of any length is accepted with the tree a exactly if its tokens are an ad of the grammar with
-- the tree a, within the bounds
pub accepts : (s : List ℕ) (a : Ad) → (parse s ≡ accepted a) ↔ ((ts : List Token) × Whole (tokens s) ts × IsAd ts a × Within a)
unfolding parse
accepts s a = (there, back)
  where
    there : parse s ≡ accepted a → (ts : List Token) × Whole (tokens s) ts × IsAd ts a × Within a
    there e = let k : Accepted (length s) limits (tokens s) a = rw e at (parse_sound s) in (k.those, (k.ends, k.follows), k.sentence, record { few_definitions = k.few_definitions; few_nodes = k.few_nodes; distinct = k.fresh })

    back : (ts : List Token) × Whole (tokens s) ts × IsAd ts a × Within a → parse s ≡ accepted a
    back x = ad_complete limits x.2 (tokens s) x.1.0 x.1.1 x.3.few_nodes x.3.few_definitions x.3.distinct

-- EVERY REFUSAL HAS A NUMBER FROM 3 TO 9 and a place in the text: none comes from the depth of calls
pub refusals : (s : List ℕ) (k p : ℕ) → parse s ≡ denied k p → Number (length s) k p
refusals s k p e = rw e at (parse_sound s)

-- A TEXT HAS ONE TREE
pub one_tree : (s : List ℕ) (ts ts' : List Token) (a a' : Ad) → Whole (tokens s) ts → Whole (tokens s) ts' → IsAd ts a → IsAd ts' a' → Within a → Within a' → a ≡ a'
one_tree s ts ts' a a' t t' i i' w w' = cc ((accepts s a).1 (ts, t, i, w), (accepts s a').1 (ts', t', i', w'))
