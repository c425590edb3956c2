-- A text is refused exactly as document 01 says. Assumes nothing.
use Rattle.std.specs.Prelude.{ℕ, ◌≤◌, ◌<◌, ◌≡◌, refl, ◌↔◌, Bool, true, false, List, [], ◌∷◌, ◌++◌, length, ltb}
use Rattle.std.proofs.Common.{arith, sym, ap, subst, append_assoc, ltb-true, ltb-false}
use Rattle.syntax.specs.Bounds.{text_bytes}
use Rattle.syntax.specs.Tree.{Ad}
use Rattle.syntax.specs.Token.{Token, Tokens, next, end, pick, tokens}
use Rattle.syntax.specs.Grammar.{IsAd, Within, Follows, none, some, Whole}
use Rattle.syntax.specs.Reader.{Answer, accepted, denied, parse, read}
use Rattle.syntax.proofs.Laws.Accepts.{accepts, refusals}
use Rattle.grammar.specs.Refusal.{Keeps, Breaks, unfit, deep, twice, many, Refuses, own, early, token, Refusal, Refused, long, within}
use Rattle.grammar.proofs.Laws.Counting.{keeps_front, ad_keeps}
use Rattle.grammar.proofs.Laws.Ads.{AllA, ad_ends}

-- ---- one refusal at most

-- tokens that keep the rules break none
kept_not_broken : {k : ℕ} (ts : List Token) → Keeps ts → Breaks ts k → ⊥
kept_not_broken ts h (unfit x) = x (_, h.shallow)
kept_not_broken ts h (deep x y) = y h.shallow
kept_not_broken ts h (twice x y) = y h.distinct
kept_not_broken ts h (many x y z) = z h.few

-- where tokens keep the rules, none of them is refused
kept_not_refused : {k p q : ℕ} {t : Token} {u : Tokens} (xs zs : List Token) → Keeps (xs ++ t ∷ zs) → Refuses xs (next q t u) k p → ⊥
kept_not_refused {t = t} xs zs h (token b) = kept_not_broken (xs ++ t ∷ []) (keeps_front (xs ++ t ∷ []) zs (subst Keeps (sym (append_assoc xs (t ∷ []) zs)) h)) b

-- 'At one token the order is .. 4, 6, 8, 9'
one_number : {j k : ℕ} {ts : List Token} → Breaks ts j → Breaks ts k → j ≡ k
one_number (unfit x) (unfit x') = refl
one_number (unfit x) (deep x' y') = absurd (x x')
one_number (unfit x) (twice x' y') = absurd (x (_, x'))
one_number (unfit x) (many x' y' z') = absurd (x (_, x'))
one_number (deep x y) (unfit x') = absurd (x' x)
one_number (deep x y) (deep x' y') = refl
one_number (deep x y) (twice x' y') = absurd (y x')
one_number (deep x y) (many x' y' z') = absurd (y x')
one_number (twice x y) (unfit x') = absurd (x' (_, x))
one_number (twice x y) (deep x' y') = absurd (y' x)
one_number (twice x y) (twice x' y') = refl
one_number (twice x y) (many x' y' z') = absurd (y y')
one_number (many x y z) (unfit x') = absurd (x' (_, x))
one_number (many x y z) (deep x' y') = absurd (y' x)
one_number (many x y z) (twice x' y') = absurd (y' y)
one_number (many x y z) (many x' y' z') = refl

one_reason : {j k p q : ℕ} {xs : List Token} {u : Tokens} → Refuses xs u j p → Refuses xs u k q → (j ≡ k) × (p ≡ q)
one_reason own own = (refl, refl)
one_reason (early x) (early y) = (refl, refl)
one_reason (token b) (token c) = (one_number b c, refl)

-- two fronts of the same tokens are equal, or one goes on where the other ends
data Compared (xs : List Token) (v : Tokens) (ys : List Token) (w : Tokens) : Type 0 where
  same : xs ≡ ys → v ≡ w → Compared xs v ys w
  shorter : (p : ℕ) (t : Token) (x : Tokens) (zs : List Token) → v ≡ next p t x → ys ≡ xs ++ t ∷ zs → Compared xs v ys w
  longer : (p : ℕ) (t : Token) (x : Tokens) (zs : List Token) → w ≡ next p t x → xs ≡ ys ++ t ∷ zs → Compared xs v ys w

compared_more : {xs ys : List Token} {v w : Tokens} (t : Token) → Compared xs v ys w → Compared (t ∷ xs) v (t ∷ ys) w
compared_more t (same e i) = same (ap (λ (l : List Token). t ∷ l) e) i
compared_more t (shorter p s x zs e i) = shorter p s x zs e (ap (λ (l : List Token). t ∷ l) i)
compared_more t (longer p s x zs e i) = longer p s x zs e (ap (λ (l : List Token). t ∷ l) i)

compare : {u v w : Tokens} {xs ys : List Token} → Follows u xs v → Follows u ys w → Compared xs v ys w
compare none none = same refl refl
compare none (some {p = p} {t} {ts} {u} g) = shorter p t u ts refl refl
compare (some {p = p} {t} {ts} {u} f) none = longer p t u ts refl refl
compare (some {t = t} f) (some g) = compared_more t (compare f g)

one_place : {u : Tokens} {j k p q : ℕ} (x : Refusal u j p) (y : Refusal u k q) → Compared x.before x.rest y.before y.rest → (j ≡ k) × (p ≡ q)
one_place {j = j} {k} {p} {q} x y (same e i) = one_reason x.refuses (subst (λ (v : Tokens). Refuses x.before v k q) (sym i) (subst (λ (l : List Token). Refuses l y.rest k q) (sym e) y.refuses))
one_place {j = j} {k} {p} {q} x y (shorter r t v zs e i) = absurd (kept_not_refused x.before zs (subst Keeps i y.keeps) (subst (λ (z : Tokens). Refuses x.before z j p) e x.refuses))
one_place {j = j} {k} {p} {q} x y (longer r t v zs e i) = absurd (kept_not_refused y.before zs (subst Keeps i x.keeps) (subst (λ (z : Tokens). Refuses y.before z k q) e y.refuses))

-- SOME TOKENS HAVE ONE REFUSAL AT MOST
pub one_refusal : (u : Tokens) (j k p q : ℕ) → Refusal u j p → Refusal u k q → (j ≡ k) × (p ≡ q)
one_refusal u j k p q x y = one_place x y (compare x.follows y.follows)

-- an ad within the bounds has none
ended : {k p n : ℕ} {ts : List Token} {a : Ad} → IsAd ts a → Refuses ts (end n) k p → ⊥
ended {a = a} i (early f) = f a i

whole_not_refused : {u : Tokens} {k p n : ℕ} {ts : List Token} {a : Ad} → IsAd ts a → Keeps ts → (x : Refusal u k p) → Compared x.before x.rest ts (end n) → ⊥
whole_not_refused {k = k} {p} {n} {a = a} i h x (same e j) = ended (subst (λ (l : List Token). IsAd l a) (sym e) i) (subst (λ (z : Tokens). Refuses x.before z k p) j x.refuses)
whole_not_refused {k = k} {p} i h x (shorter r t v zs e j) = kept_not_refused x.before zs (subst Keeps j h) (subst (λ (z : Tokens). Refuses x.before z k p) e x.refuses)
whole_not_refused i h x (longer r t v zs e j) = let z : ◌≡◌ {A = ℕ} 0 1 = cc in omega arith

accepted_not_refused : (s : List ℕ) (a : Ad) (k p : ℕ) → parse s ≡ accepted a → Refusal (tokens s) k p → ⊥
accepted_not_refused s a k p e x = let y = (accepts s a).0 e in whole_not_refused y.2 (ad_keeps y.0 a y.2 y.3) x (compare x.follows y.1.1)

-- ---- the theorem

denied_refusal : (s : List ℕ) (k p : ℕ) → parse s ≡ denied k p → Refusal (tokens s) k p
unfolding parse
denied_refusal s k p e =
    let h : AllA (Refusal (tokens s)) (denied k p) = subst (AllA (Refusal (tokens s))) e (ad_ends (tokens s)) in
    let n = refusals s k p e in
    h (omega (arith, n.low))

-- A TEXT IS REFUSED WITH A NUMBER AND A PLACE EXACTLY IF DOCUMENT 01 SAYS SO, were its length not bounded
pub refusal : (s : List ℕ) (k p : ℕ) → (parse s ≡ denied k p) ↔ Refusal (tokens s) k p
refusal s k p = (denied_refusal s k p, λ x. back (parse s) refl x)
  where
    back : (r : Answer) → parse s ≡ r → Refusal (tokens s) k p → parse s ≡ denied k p
    back (accepted a) e x = absurd (accepted_not_refused s a k p e x)
    back (denied j q) e x = let i = one_refusal (tokens s) j k q p (denied_refusal s j q e) x in cc

long_only : {s : List ℕ} {k p : ℕ} → text_bytes < length s → Refused s k p → denied 2 0 ≡ denied k p
long_only h (long l) = refl
long_only h (within l x) = absurd (omega arith)

not_long : {s : List ℕ} {k p : ℕ} → length s ≤ text_bytes → Refused s k p → Refusal (tokens s) k p
not_long h (long l) = absurd (omega arith)
not_long h (within l x) = x

-- THE SAME OF READING, which tests the text's length first
pub read_refusal : (s : List ℕ) (k p : ℕ) → (read s ≡ denied k p) ↔ Refused s k p
unfolding read
read_refusal s k p = go (ltb text_bytes (length s)) refl
  where
    go : (b : Bool) → ltb text_bytes (length s) ≡ b → (pick b (λ _. denied 2 0) (λ _. parse s) ≡ denied k p) ↔ Refused s k p
    go true e = ((λ i. let n : 2 ≡ k = cc in let q : 0 ≡ p = cc in subst (λ (j : ℕ). Refused s j p) n (subst (λ (r : ℕ). Refused s 2 r) q (long (ltb-true text_bytes (length s) e)))), long_only (ltb-true text_bytes (length s) e))
    go false e = ((λ i. within (ltb-false text_bytes (length s) e) ((refusal s k p).0 i)), λ x. (refusal s k p).1 (not_long (ltb-false text_bytes (length s) e) x))

-- ONE ANSWER FOR EACH TEXT: an answer that is the text's ad within the bounds, or the text's refusal, is the reader's
pub one_answer : (s : List ℕ) (r : Answer) → ((a : Ad) → r ≡ accepted a → (ts : List Token) × Whole (tokens s) ts × IsAd ts a × Within a) → ((k p : ℕ) → r ≡ denied k p → Refusal (tokens s) k p) → r ≡ parse s
one_answer s (accepted a) f g = sym ((accepts s a).1 (f a refl))
one_answer s (denied k p) f g = sym ((refusal s k p).1 (g k p refl))
