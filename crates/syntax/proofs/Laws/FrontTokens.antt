-- The token in front of some bytes is one that a text can write, and carries no more bytes than it has; a refusal of it is 3, 5 or 7.
-- This is the one walk over the kinds of tokens: what is proved of every token of a text follows from it. Assumes nothing.
use Rattle.std.specs.Prelude.{ℕ, zero, suc, ◌+◌, ◌-◌, ◌*◌, ◌^◌, ◌≤◌, ◌<◌, ◌≡◌, refl, Bool, true, false, ◌&&◌, ◌||◌, List, [], ◌∷◌, ◌++◌, length, get_or, drop, ltb, leb, eqb}
use Prim.Native.Char.{code}
use Rattle.std.proofs.Common.{arith, mul_assoc, sym, ◌∙◌, ap, true≢false, length-append, length-drop, ltb-false, leb-true, eqb-true, le-leb, lt-ltb}
use Rattle.std.proofs.Math.Nat.{pow-succ', pow-le-pow_right}
use Rattle.std.proofs.lemmas.Bool.{false≢true, eqb-false}
use Rattle.text.specs.Laws.Booleans.{both, and_both}
use Rattle.text.specs.Bytes.{bytes, between, is_blank, is_digit, is_letter, starts_name, continues_name}
use Rattle.text.specs.Strings.{same_name}
use Rattle.syntax.specs.Bounds.{name_bytes, string_bytes, max_integer, real_digits}
use Rattle.syntax.specs.Tree.{Literal, undefined, error, boolean, integer, real, string}
use Rattle.syntax.specs.Token.{Token, word, constant, operator, symbol, Tokens, next, end, bad, pick, Front, good, wrong, Spelling, reserved, word_in, front_of, name_front, integer_front, real_front, number_front, fraction_of, value_from, value_of, Body, closed, broken, grown, escape_of, escaped_of, string_of, body_of, begins, symbol_in, spellings, front_token, on_front, tokens_from, tokens}
use Rattle.syntax.specs.Grammar.{Follows, none, some}
use Rattle.syntax.specs.Inner.Lexeme.{every, is_one_of, is_name, in_string, is_string, is_real, is_literal}
use Rattle.syntax.proofs.Laws.Codes.{on_pick, on_cond}

-- ---- what is said of a token

-- a token whose name or literal a text can write
unfoldable pub Written : Token → Type 0
Written (word w) = is_name w ≡ true
Written (constant l) = is_literal l ≡ true
Written (operator j) = Unit {0}
Written (symbol s) = Unit {0}

-- how many bytes a literal holds
unfoldable pub held : Literal → ℕ
held undefined = 0
held error = 0
held (boolean b) = 0
held (integer n) = 0
held (real n places) = 0
held (string xs) = length xs

-- how many bytes a token carries
unfoldable pub carried : Token → ℕ
carried (word w) = length w
carried (constant l) = held l
carried (operator j) = 0
carried (symbol s) = 0

-- the token t, of k bytes, in front of n
pub record Fits (n : ℕ) (t : Token) (k : ℕ) : Type 0 where
  pub written : Written t
  pub carries : carried t ≤ k
  pub taken : 1 ≤ k
  pub within : k ≤ n

-- the numbers of a token that is refused by itself
abbrev pub Own : ℕ → Type 0
Own k = (eqb k 3 || eqb k 5 || eqb k 7) ≡ true

-- what stands in front of n bytes
abbrev pub FrontFits : ℕ → Front → Type 0
FrontFits n (good t k) = Fits n t k
FrontFits n (wrong k) = Own k

-- ---- spellings

-- whether a token that a text can write carries no bytes, so that a table can spell it
unfoldable is_fixed : Token → Bool
is_fixed (word w) = false
is_fixed (constant l) = is_literal l && eqb (held l) 0
is_fixed (operator j) = true
is_fixed (symbol s) = true

unfoldable is_spelled : Spelling → Bool
is_spelled s = leb 1 (length s.text) && is_fixed s.token

-- THE TABLES PASS THE TEST
reserved_spelled : every is_spelled reserved ≡ true
unfolding every is_spelled is_fixed is_literal held reserved bytes
reserved_spelled = refl

spellings_spelled : every is_spelled spellings ≡ true
unfolding every is_spelled is_fixed spellings bytes
spellings_spelled = refl

fixed_fits : (n k : ℕ) (t : Token) → is_fixed t ≡ true → 1 ≤ k → k ≤ n → Fits n t k
unfolding is_fixed Written carried
fixed_fits n k (word w) h i j = absurd (false≢true h)
fixed_fits n k (constant l) h i j =
    let x = both (is_literal l) (eqb (held l) 0) h in
    let z = eqb-true (held l) 0 x.1 in
    record { written = x.0; carries = omega arith; taken = i; within = j }
fixed_fits n k (operator o) h i j = record { written = tt; carries = omega arith; taken = i; within = j }
fixed_fits n k (symbol s) h i j = record { written = tt; carries = omega arith; taken = i; within = j }

module _ (s : Spelling) (ss : List Spelling) (h : every is_spelled (s ∷ ss) ≡ true) where
  first_spelled : (1 ≤ length s.text) × (is_fixed s.token ≡ true)
  unfolding every is_spelled
  first_spelled =
      let x = both (leb 1 (length s.text)) (is_fixed s.token) (both (is_spelled s) (every is_spelled ss) h).0 in
      (leb-true 1 (length s.text) x.0, x.1)

  others_spelled : every is_spelled ss ≡ true
  unfolding every
  others_spelled = (both (is_spelled s) (every is_spelled ss) h).1

-- a word, reserved or a Name
word_fits : (ss : List Spelling) (w : List ℕ) (n : ℕ) → every is_spelled ss ≡ true → (is_one_of ss w ≡ false → is_name w ≡ true) → 1 ≤ length w → length w ≤ n → Fits n (word_in ss w) (length w)
unfolding word_in is_one_of Written carried
word_fits [] w n hs f h h' = record { written = f refl; carries = omega arith; taken = h; within = h' }
word_fits (s ∷ ss) w n hs f h h' =
    on_pick (λ (t : Token). Fits n t (length w)) (same_name s.text w) _ _ (λ _. fixed_fits n (length w) s.token (first_spelled s ss hs).1 h h')
    (λ e. word_fits ss w n (others_spelled s ss hs) (λ z. f (rw e z)) h h')

pub begins_short : (xs l : List ℕ) → begins xs l ≡ true → length xs ≤ length l
unfolding begins
begins_short [] l h = omega arith
begins_short (x ∷ xs) [] h = absurd (false≢true h)
begins_short (x ∷ xs) (b ∷ l) h = let z = begins_short xs l (both (eqb x b) (begins xs l) h).1 in omega arith

spelled_fits : (ss : List Spelling) (l : List ℕ) → every is_spelled ss ≡ true → FrontFits (length l) (symbol_in ss l)
unfolding symbol_in
spelled_fits [] l h = refl
spelled_fits (s ∷ ss) l h =
    on_pick (FrontFits (length l)) (begins s.text l) _ _ (λ e. fixed_fits (length l) (length s.text) s.token (first_spelled s ss h).1 (first_spelled s ss h).0 (begins_short s.text l e))
    (λ _. spelled_fits ss l (others_spelled s ss h))

-- A SYMBOL IN FRONT
pub symbol_fits : (l : List ℕ) → FrontFits (length l) (symbol_in spellings l)
symbol_fits l = spelled_fits spellings l spellings_spelled

-- ---- the longest front part of a class

front_short : (class : ℕ → Bool) (l : List ℕ) → length (front_of class l) ≤ length l
unfolding front_of
front_short class [] = omega arith
front_short class (b ∷ l) = on_pick (λ (x : List ℕ). length x ≤ suc (length l)) (class b) _ _ (λ _. let h = front_short class l in omega arith) (λ _. omega arith)

pub front_every : (class : ℕ → Bool) (l : List ℕ) → every class (front_of class l) ≡ true
unfolding front_of every
front_every class [] = refl
front_every class (b ∷ l) = on_pick (λ (x : List ℕ). every class x ≡ true) (class b) _ _ (λ h. rw h (front_every class l)) (λ _. refl)

-- a first byte of the class is taken
front_first : (class : ℕ → Bool) (b : ℕ) (l : List ℕ) → class b ≡ true → (1 ≤ length (front_of class (b ∷ l))) × (get_or (front_of class (b ∷ l)) 0 0 ≡ b)
unfolding front_of
front_first class b l h = rw h (omega arith, refl)

-- ---- names

-- what starts a name goes on with it
pub starts_continues : (b : ℕ) → starts_name b ≡ true → continues_name b ≡ true
unfolding starts_name continues_name
starts_continues b h = rw h refl

name_is : (w : List ℕ) → starts_name (get_or w 0 0) ≡ true → every continues_name w ≡ true → length w ≤ name_bytes → is_one_of reserved w ≡ false → is_name w ≡ true
unfolding is_name
name_is w h₁ h₂ h₃ h₄ = rw (h₁, h₂, le-leb (length w) name_bytes h₃, h₄) refl

-- a name has bytes
pub name_some : (w : List ℕ) → is_name w ≡ true → 0 < length w
unfolding is_name starts_name is_letter
name_some [] h = let z : ◌≡◌ {A = ℕ} 0 1 = cc in absurd (omega arith)
name_some (b ∷ l) h = omega arith

name_fits : (b : ℕ) (l : List ℕ) → starts_name b ≡ true → FrontFits (suc (length l)) (name_front (b ∷ l))
unfolding name_front
name_fits b l h =
    let w : List ℕ = front_of continues_name (b ∷ l) in
    let x = front_first continues_name b l (starts_continues b h) in
    on_pick (FrontFits (suc (length l))) (ltb name_bytes (length w)) _ _ (λ _. refl)
    (λ n. word_fits reserved w (suc (length l)) reserved_spelled (name_is w (ap starts_name x.1 ∙ h) (front_every continues_name (b ∷ l)) (ltb-false name_bytes (length w) n)) x.0 (front_short continues_name (b ∷ l)))

-- ---- numbers

pub value_append : (v : ℕ) (xs ys : List ℕ) → value_from v (xs ++ ys) ≡ value_from (value_from v xs) ys
unfolding value_from
value_append v [] ys = refl
value_append v (x ∷ xs) ys = value_append (v * 10 + (x - code "0")) xs ys

pub every_append : (class : ℕ → Bool) (xs ys : List ℕ) → every class xs ≡ true → every class ys ≡ true → every class (xs ++ ys) ≡ true
unfolding every
every_append class [] ys h h' = h'
every_append class (b ∷ xs) ys h h' = let x = both (class b) (every class xs) h in rw x.0 (every_append class xs ys x.1 h')

digit_small : (b : ℕ) → is_digit b ≡ true → b - code "0" < 10
unfolding is_digit
digit_small b h = let x = both (leb 48 b) (leb b 57) h in omega (arith, leb-true b 57 x.1)

-- digits after a number below n are a number below n times a power of ten
value_small : (ds : List ℕ) (v n : ℕ) → every is_digit ds ≡ true → v < n → value_from v ds < n * 10 ^ length ds
unfolding every value_from
value_small [] v n h h' = omega arith
value_small (b ∷ ds) v n h h' =
    let x = both (is_digit b) (every is_digit ds) h in
    let i : n * 10 * 10 ^ length ds ≡ n * 10 ^ suc (length ds) = mul_assoc n 10 (10 ^ length ds) ∙ ap (λ (k : ℕ). n * k) (sym (pow-succ' 10 (length ds))) in
    rw i at (value_small ds (v * 10 + (b - code "0")) (n * 10) x.1 (omega (arith, digit_small b x.0)))

-- the digits of a Real are a number below the bound
pub real_small : (xs : List ℕ) → every is_digit xs ≡ true → length xs ≤ real_digits → value_of xs < 10 ^ real_digits
real_small xs h h' =
    let b = value_small xs 0 1 h (omega arith) in
    let p : 10 ^ length xs ≤ 10 ^ real_digits = pow-le-pow_right (omega arith) h' in
    omega arith

real_is : (v p : ℕ) → v < 10 ^ real_digits → 1 ≤ p → p < real_digits → is_real v p ≡ true
unfolding is_real
real_is v p h₁ h₂ h₃ = rw (lt-ltb v (10 ^ real_digits) h₁, le-leb 1 p h₂, lt-ltb p real_digits h₃) refl

integer_fits_lem : (n : ℕ) (ds : List ℕ) → 1 ≤ length ds → length ds ≤ n → FrontFits n (integer_front ds)
unfolding integer_front Written is_literal carried held
integer_fits_lem n ds h h' =
    on_pick (FrontFits n) (ltb max_integer (value_of ds)) _ _ (λ _. refl)
    (λ e. record { written = le-leb (value_of ds) max_integer (ltb-false max_integer (value_of ds) e); carries = omega arith; taken = h; within = h' })

real_fits : (n : ℕ) (ds fs : List ℕ) → every is_digit ds ≡ true → every is_digit fs ≡ true → 1 ≤ length ds → 1 ≤ length fs → length ds + 1 + length fs ≤ n → FrontFits n (real_front ds fs)
unfolding real_front Written is_literal carried held
real_fits n ds fs h h' l l' within =
    on_pick (FrontFits n) (ltb real_digits (length ds + length fs)) _ _ (λ _. refl)
    (λ e. let few : length ds + length fs ≤ real_digits = ltb-false real_digits (length ds + length fs) e in
    let value = real_small (ds ++ fs) (every_append is_digit ds fs h h') (omega (arith, length-append ds fs)) in
    record { written = real_is (value_of (ds ++ fs)) (length fs) value l' (omega arith); carries = omega arith; taken = omega arith; within = within })

pub fraction_every : (l : List ℕ) → every is_digit (fraction_of l) ≡ true
unfolding fraction_of every
fraction_every [] = refl
fraction_every (b ∷ l) = on_pick (λ (x : List ℕ). every is_digit x ≡ true) (eqb b (code ".")) _ _ (λ _. front_every is_digit l) (λ _. refl)

fraction_short : (l : List ℕ) → 1 ≤ length (fraction_of l) → length (fraction_of l) + 1 ≤ length l
unfolding fraction_of
fraction_short [] h = omega arith
fraction_short (b ∷ l) h = go (eqb b (code ".")) h
  where
    go : (t : Bool) → 1 ≤ length (pick t (λ _. front_of is_digit l) (λ _. [])) → length (pick t (λ _. front_of is_digit l) (λ _. [])) + 1 ≤ suc (length l)
    go true h = omega (arith, front_short is_digit l)
    go false h = absurd (omega arith)

number_fits : (b : ℕ) (l : List ℕ) → is_digit b ≡ true → FrontFits (suc (length l)) (number_front (b ∷ l))
unfolding number_front
number_fits b l h =
    let ds : List ℕ = front_of is_digit (b ∷ l) in
    let r : List ℕ = drop (length ds) (b ∷ l) in
    let fs : List ℕ = fraction_of r in
    let first = (front_first is_digit b l h).0 in
    let short : length ds ≤ suc (length l) = front_short is_digit (b ∷ l) in
    on_pick (FrontFits (suc (length l))) (eqb (length fs) 0) (λ _. integer_front ds) (λ _. real_front ds fs) (λ _. integer_fits_lem (suc (length l)) ds first short)
    (λ n. let more = positive (length fs) (eqb-false (length fs) 0 n) in
    real_fits (suc (length l)) ds fs (front_every is_digit (b ∷ l)) (fraction_every r) first more (omega (arith, length-drop (length ds) (b ∷ l), fraction_short r more)))
  where
    positive : (k : ℕ) → (k ≡ 0 → ⊥) → 1 ≤ k
    positive zero h = absurd (h refl)
    positive (suc k) h = omega arith

-- ---- strings

-- a string that m bytes of text write: its bytes are no more than those
abbrev BodyFits : ℕ → Body → Type 0
BodyFits m (closed xs n) = (every in_string xs ≡ true) × (length xs ≤ n) × (n ≤ m)
BodyFits m broken = Unit {0}

grown_fits : (b n m k : ℕ) (x : Body) → in_string b ≡ true → 1 ≤ n → n + m ≤ k → BodyFits m x → BodyFits k (grown b n x)
unfolding every
grown_fits b n m k (closed xs i) h h' h'' x = (rw h x.0, omega (arith, x.1), omega (arith, x.2))
grown_fits b n m k broken h h' h'' x = tt

escape_written : (b : ℕ) → eqb (escape_of b) 0 ≡ false → in_string (escape_of b) ≡ true
unfolding escape_of in_string
escape_written b =
    let P : ℕ → Type 0 = λ x. eqb x 0 ≡ false → in_string x ≡ true in
    on_cond P (eqb b 34) 34 _ (λ _. λ _. refl) (λ _. on_cond P (eqb b 92) 92 _ (λ _. λ _. refl) (λ _. on_cond P (eqb b 110) 10 _ (λ _. λ _. refl) (λ _. on_cond P (eqb b 116) 9 0 (λ _. λ _. refl) (λ _. λ z. absurd (true≢false z)))))

plain_written : (b : ℕ) → between 0x20 0x7E b ≡ true → in_string b ≡ true
unfolding in_string
plain_written b h = rw h refl

nothing_written : every in_string [] ≡ true
unfolding every
nothing_written = refl

mutual
  unfolding body_of escaped_of

  body_fits : (l : List ℕ) → BodyFits (length l) (body_of l)
  body_fits [] = tt
  body_fits (b ∷ l) =
      let P : Body → Type 0 = BodyFits (suc (length l)) in
      on_pick P (eqb b 34) _ _ (λ _. (nothing_written, omega arith, omega arith))
      (λ _. on_pick P (eqb b 92) _ _ (λ _. escaped_fits l)
      (λ _. on_pick P (between 0x20 0x7E b) _ _ (λ h. grown_fits b 1 (length l) (suc (length l)) (body_of l) (plain_written b h) (omega arith) (omega arith) (body_fits l)) (λ _. tt)))

  -- behind a backslash, which is one byte more
  escaped_fits : (l : List ℕ) → BodyFits (suc (length l)) (escaped_of l)
  escaped_fits [] = tt
  escaped_fits (b ∷ l) =
      on_pick (BodyFits (suc (suc (length l)))) (eqb (escape_of b) 0) _ _ (λ _. tt)
      (λ h. grown_fits (escape_of b) 2 (length l) (suc (suc (length l))) (body_of l) (escape_written b h) (omega arith) (omega arith) (body_fits l))

string_is : (xs : List ℕ) → every in_string xs ≡ true → length xs ≤ string_bytes → is_string xs ≡ true
unfolding is_string
string_is xs h h' = and_both h (le-leb (length xs) string_bytes h')

string_fits : (n : ℕ) (x : Body) → BodyFits n x → FrontFits (suc n) (string_of x)
unfolding Written is_literal carried held
string_fits n (closed xs k) h =
    on_pick (FrontFits (suc n)) (ltb string_bytes (length xs)) _ _ (λ _. refl)
    (λ e. record { written = string_is xs h.0 (ltb-false string_bytes (length xs) e); carries = omega (arith, h.1); taken = omega arith; within = omega (arith, h.2) })
string_fits n broken h = refl

-- ---- every kind of token

-- THE TOKEN IN FRONT OF SOME BYTES IS ONE THAT A TEXT CAN WRITE, and carries no more bytes than it has; a refusal of it is 3, 5 or 7
pub front_fits : (b : ℕ) (l : List ℕ) → FrontFits (suc (length l)) (front_token b l)
unfolding front_token
front_fits b l =
    let P : Front → Type 0 = FrontFits (suc (length l)) in
    on_pick P (starts_name b) _ _ (λ h. name_fits b l h)
    (λ _. on_pick P (is_digit b) _ _ (λ h. number_fits b l h)
    (λ _. on_pick P (eqb b (code "\"")) _ _ (λ _. string_fits (length l) (body_of l) (body_fits l)) (λ _. symbol_fits (b ∷ l))))

-- ---- the tokens of a text

-- of a text of n bytes, the tokens behind the first q of them
unfoldable pub AllFit : ℕ → ℕ → Tokens → Type 0
AllFit n q (next p t u) = (q ≤ p) × Written t × AllFit n (p + carried t) u
AllFit n q (end m) = (q ≤ m) × (m ≡ n)
AllFit n q (bad k p) = (q ≤ p) × (p ≤ n) × Own k

on_front_lem : (n q p m : ℕ) (x : Front) (go : Token → ℕ → Tokens) → q ≤ p → p ≤ n → FrontFits m x → ((t : Token) (k : ℕ) → Fits m t k → AllFit n q (go t k)) → AllFit n q (on_front x p go)
unfolding AllFit
on_front_lem n q p m (good t k) go h h' x f = f t k x
on_front_lem n q p m (wrong k) go h h' x f = (h, h', x)

from_fits : (n q k p : ℕ) (l : List ℕ) → p + length l ≡ n → q ≤ p + k → k ≤ length l → AllFit n q (tokens_from k p l)
unfolding tokens_from AllFit
from_fits n q k p [] h i j = (omega arith, omega arith)
from_fits n q (suc k) p (b ∷ l) h i j = from_fits n q k (p + 1) l (omega arith) (omega arith) (omega arith)
from_fits n q zero p (b ∷ l) h i j =
    on_pick (AllFit n q) (is_blank b) _ _ (λ _. from_fits n q zero (p + 1) l (omega arith) (omega arith) (omega arith))
    (λ _. on_front_lem n q p (suc (length l)) (front_token b l) _ (omega arith) (omega arith) (front_fits b l)
    (λ t k f. (omega arith, f.written, from_fits n (p + carried t) (k - 1) (p + 1) l (omega arith) (omega (arith, f.carries, f.taken)) (omega (arith, f.within)))))

-- THE TOKENS OF A TEXT ARE ONES THAT A TEXT CAN WRITE, one behind the other, up to its end or to one that is refused with 3, 5 or 7
pub tokens_fit : (s : List ℕ) → AllFit (length s) 0 (tokens s)
tokens_fit s = from_fits (length s) 0 0 0 s (omega arith) (omega arith) (omega arith)

pub fit_within : (n q : ℕ) (u : Tokens) → AllFit n q u → q ≤ n
unfolding AllFit
fit_within n q (next p t u) h = omega (arith, h.0, fit_within n (p + carried t) u h.2)
fit_within n q (end m) h = omega (arith, h.0, h.1)
fit_within n q (bad k p) h = omega (arith, h.0, h.1)

-- ---- the tokens in front of others

unfoldable pub AllWritten : List Token → Type 0
AllWritten [] = Unit {0}
AllWritten (t ∷ ts) = Written t × AllWritten ts

unfoldable pub all_carried : List Token → ℕ
all_carried [] = 0
all_carried (t ∷ ts) = carried t + all_carried ts

-- and so are those in front of others, and those behind them
pub follows_fit : {u v : Tokens} {ts : List Token} (n q : ℕ) → Follows u ts v → AllFit n q u → AllWritten ts × ((p : ℕ) × (q + all_carried ts ≤ p) × AllFit n p v)
unfolding AllFit AllWritten all_carried
follows_fit n q none h = (tt, (q, omega arith, h))
follows_fit n q (some {p} {t} f) h =
    let x = follows_fit n (p + carried t) f h.2 in
    ((h.1, x.0), (x.1.0, omega (arith, h.0, x.1.1), x.1.2))

-- A TEXT ENDS AT ITS LENGTH: 'for a 4 where text ends early the text's length'
pub ends_at_length : (s : List ℕ) (ts : List Token) (n : ℕ) → Follows (tokens s) ts (end n) → n ≡ length s
unfolding AllFit
ends_at_length s ts n f = (follows_fit (length s) 0 f (tokens_fit s)).1.2.1

-- EVERY NAME AND LITERAL AMONG THE TOKENS OF A TEXT IS ONE THAT A TEXT CAN WRITE
pub tokens_written : {v : Tokens} (s : List ℕ) (ts : List Token) → Follows (tokens s) ts v → AllWritten ts
tokens_written s ts f = (follows_fit (length s) 0 f (tokens_fit s)).0

-- THE TOKENS OF A TEXT CARRY NO MORE BYTES THAN IT HAS
pub tokens_carry : {v : Tokens} (s : List ℕ) (ts : List Token) → Follows (tokens s) ts v → all_carried ts ≤ length s
tokens_carry {v} s ts f = let x = (follows_fit (length s) 0 f (tokens_fit s)).1 in omega (arith, x.1, fit_within (length s) x.0 v x.2)

-- A TOKEN THAT IS REFUSED BY ITSELF HAS THE NUMBER 3, 5 OR 7
pub own_number : (s : List ℕ) (ts : List Token) (k p : ℕ) → Follows (tokens s) ts (bad k p) → Own k
unfolding AllFit
own_number s ts k p f = (follows_fit (length s) 0 f (tokens_fit s)).1.2.2

pub written_split : (xs ys : List Token) → AllWritten (xs ++ ys) → AllWritten xs × AllWritten ys
unfolding AllWritten
written_split [] ys h = (tt, h)
written_split (t ∷ xs) ys h = let x = written_split xs ys h.1 in ((h.0, x.0), x.1)
