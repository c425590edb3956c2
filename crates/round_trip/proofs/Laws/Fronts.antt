-- The token in front of a printed name or literal is that name or literal. Assumes nothing.
use Rattle.std.specs.Prelude.{ℕ, zero, suc, ◌+◌, ◌-◌, ◌*◌, ◌/◌, ◌%◌, ◌^◌, ◌≤◌, ◌<◌, ◌≡◌, Bool, true, false, ◌&&◌, ◌||◌, List, [], ◌∷◌, ◌++◌, length, get_or, ltb, leb, eqb}
use Prim.Native.Char.{code}
use Rattle.std.proofs.Common.{arith, div-one, pow-suc, sym, ◌∙◌, ap, subst, true≢false, append_assoc, length-append, ltb-true, leb-true, eqb-true, le-ltb, le-leb, ne_eqb}
use Rattle.std.proofs.Math.Nat.{div-div-eq-div-mul, pow-succ'}
use Rattle.std.proofs.Math.Path.{refl}
use Rattle.std.proofs.Math.Seq.{drop-append_seam}
use Rattle.std.proofs.lemmas.Bool.{lt-leb, not-true}
use Rattle.syntax.proofs.Laws.FrontTokens.{value_append, every_append}
use Rattle.text.specs.Laws.Booleans.{both, neither}
use Rattle.text.specs.Bytes.{bytes, between, is_blank, is_digit, is_letter, starts_name, continues_name}
use Rattle.text.specs.Strings.{same_name}
use Rattle.syntax.specs.Bounds.{name_bytes, string_bytes, max_integer, real_digits}
use Rattle.syntax.specs.Tree.{integer, real, string}
use Rattle.syntax.specs.Token.{Token, word, constant, pick, good, front_of, Spelling, reserved, word_in, name_front, value_from, value_of, fraction_of, integer_front, real_front, number_front, closed, escape_of, body_of, front_token}
use Rattle.syntax.specs.Print.{digits, decimal, last_digits, escaped, escaped_all}
use Rattle.syntax.specs.Inner.Lexeme.{every, is_one_of, is_name, in_string, is_string, is_real}
use Rattle.lexemes.specs.Laws.Digits.{decimal_short, length_last}

-- ---- where a name or a number ends

-- what a name or a number does not go on with
unfoldable pub Ends : List ℕ → Type 0
Ends [] = Unit {0}
Ends (b ∷ l) = (continues_name b ≡ false) × (eqb b (code ".") ≡ false)

-- l starts with no byte of a class
unfoldable pub Without : (ℕ → Bool) → List ℕ → Type 0
Without class [] = Unit {0}
Without class (b ∷ l) = class b ≡ false

pub ends_name : (m : List ℕ) → Ends m → Without continues_name m
unfolding Ends Without
ends_name [] h = tt
ends_name (b ∷ m) h = h.0

pub ends_digit : (m : List ℕ) → Ends m → Without is_digit m
unfolding Ends Without continues_name
ends_digit [] h = tt
ends_digit (b ∷ m) h = (neither (starts_name b) (is_digit b) h.0).1

-- the longest front part of a class ends where another byte stands
pub front_all : (class : ℕ → Bool) (w m : List ℕ) → every class w ≡ true → Without class m → front_of class (w ++ m) ≡ w
unfolding front_of every Without
front_all class [] [] h h' = refl
front_all class [] (b ∷ m) h h' = rw h' refl
front_all class (b ∷ w) m h h' = let x = both (class b) (every class w) h in rw x.0 (ap (λ (l : List ℕ). b ∷ l) (front_all class w m x.1 h'))

-- ---- names

word_in_lem : (ss : List Spelling) (w : List ℕ) → is_one_of ss w ≡ false → word_in ss w ≡ word w
unfolding word_in is_one_of
word_in_lem [] w h = refl
word_in_lem (s ∷ ss) w h = let x = neither (same_name s.text w) (is_one_of ss w) h in rw x.0 (word_in_lem ss w x.1)

-- the first byte of a name, and what is known of the whole
pub record IsName (w : List ℕ) : Type 0 where
  pub starts : starts_name (get_or w 0 0) ≡ true
  pub goes_on : every continues_name w ≡ true
  pub short : length w ≤ name_bytes
  pub free : is_one_of reserved w ≡ false

pub name_parts : (w : List ℕ) → is_name w ≡ true → IsName w
unfolding is_name
name_parts w h =
    let x = both _ _ h in
    let y = both _ _ x.1 in
    let z = both _ _ y.1 in
    record { starts = x.0; goes_on = y.0; short = leb-true (length w) name_bytes z.0; free = not-true _ z.1 }

pub name_front_lem : (w m : List ℕ) → IsName w → Without continues_name m → name_front (w ++ m) ≡ good (word w) (length w)
unfolding name_front
name_front_lem w m h h' =
    rw (front_all continues_name w m h.goes_on h', le-ltb name_bytes (length w) h.short)
    (ap (λ (t : Token). good t (length w)) (word_in_lem reserved w h.free))

-- a name's first byte is no blank
blank_starts_none : (b : ℕ) → is_blank b ≡ true → starts_name b ≡ false
unfolding is_blank starts_name is_letter
blank_starts_none b h = go (eqb b 32) refl (eqb b 9) refl (eqb b 13) refl (eqb b 10) refl h
  where
    go : (p : Bool) → eqb b 32 ≡ p → (q : Bool) → eqb b 9 ≡ q → (r : Bool) → eqb b 13 ≡ r → (s : Bool) → eqb b 10 ≡ s → (p || q || r || s) ≡ true → starts_name b ≡ false
    go true e q e₁ r e₂ s e₃ h = rw (eqb-true b 32 e) refl
    go false e true e₁ r e₂ s e₃ h = rw (eqb-true b 9 e₁) refl
    go false e false e₁ true e₂ s e₃ h = rw (eqb-true b 13 e₂) refl
    go false e false e₁ false e₂ true e₃ h = rw (eqb-true b 10 e₃) refl
    go false e false e₁ false e₂ false e₃ h = absurd (true≢false (sym h))

pub starts_solid : (b : ℕ) → starts_name b ≡ true → is_blank b ≡ false
starts_solid b h = go (is_blank b) refl
  where
    go : (t : Bool) → is_blank b ≡ t → is_blank b ≡ false
    go true e = absurd (true≢false (sym h ∙ blank_starts_none b e))
    go false e = e

-- A NAME IN FRONT of what does not continue it is its token
pub name_token : (b : ℕ) (w m : List ℕ) → IsName (b ∷ w) → Without continues_name m → front_token b (w ++ m) ≡ good (word (b ∷ w)) (suc (length w))
unfolding front_token
name_token b w m h h' = rw h.starts (name_front_lem (b ∷ w) m h h')

-- ---- numbers

digit_is : (d : ℕ) → d < 10 → is_digit (48 + d) ≡ true
unfolding is_digit
digit_is d h = rw (le-leb 48 (48 + d) (omega arith), le-leb (48 + d) 57 (omega arith)) refl

one_digit : (d : ℕ) → d < 10 → every is_digit ((48 + d) ∷ []) ≡ true
unfolding every
one_digit d h = rw (digit_is d h) refl

digits_digits : (f n : ℕ) → n ≤ f → every is_digit (digits f n) ≡ true
unfolding digits
digits_digits zero n h = one_digit n (omega arith)
digits_digits (suc f) n h = go (ltb n 10) refl (digits_digits f (n / 10) (omega arith))
  where
    go : (t : Bool) → ltb n 10 ≡ t → every is_digit (digits f (n / 10)) ≡ true → every is_digit (pick t (λ _. (code "0" + n) ∷ []) (λ _. digits f (n / 10) ++ (code "0" + n % 10) ∷ [])) ≡ true
    go true e r = one_digit n (ltb-true n 10 e)
    go false e r = every_append is_digit _ _ r (one_digit (n % 10) (omega arith))

last_digits_lem : (p n : ℕ) → every is_digit (last_digits p n) ≡ true
unfolding last_digits every
last_digits_lem zero n = refl
last_digits_lem (suc p) n = every_append is_digit (last_digits p (n / 10)) ((48 + n % 10) ∷ []) (last_digits_lem p (n / 10)) (one_digit (n % 10) (omega arith))

value_one : (v d : ℕ) → value_from v ((48 + d) ∷ []) ≡ v * 10 + d
unfolding value_from
value_one v d = omega arith

value_digits : (f n : ℕ) → n ≤ f → value_of (digits f n) ≡ n
unfolding digits
value_digits zero n h = value_one 0 n ∙ omega arith
value_digits (suc f) n h = go (ltb n 10) refl (value_digits f (n / 10) (omega arith))
  where
    go : (t : Bool) → ltb n 10 ≡ t → value_of (digits f (n / 10)) ≡ n / 10 → value_of (pick t (λ _. (code "0" + n) ∷ []) (λ _. digits f (n / 10) ++ (code "0" + n % 10) ∷ [])) ≡ n
    go true e r = value_one 0 n ∙ omega arith
    go false e r =
        value_append 0 (digits f (n / 10)) ((48 + n % 10) ∷ [])
        ∙ (value_one (value_of (digits f (n / 10))) (n % 10) ∙ omega arith)

div_power : (p n : ℕ) → n / 10 ^ suc p ≡ n / 10 / 10 ^ p
div_power p n = sym (div-div-eq-div-mul n 10 (10 ^ p) ∙ ap (λ (m : ℕ). n / m) (sym (pow-succ' 10 p)))

pub value_last : (p n : ℕ) → value_from (n / 10 ^ p) (last_digits p n) ≡ n
unfolding last_digits value_from
value_last zero n = div-one n
value_last (suc p) n =
    ap (λ (v : ℕ). value_from v (last_digits p (n / 10) ++ (48 + n % 10) ∷ [])) (div_power p n)
    ∙ (value_append (n / 10 / 10 ^ p) (last_digits p (n / 10)) ((48 + n % 10) ∷ [])
    ∙ (value_one (value_from (n / 10 / 10 ^ p) (last_digits p (n / 10))) (n % 10) ∙ omega (arith, value_last p (n / 10))))

-- a digit starts no name, and is no blank
pub digit_none : (b : ℕ) → is_digit b ≡ true → (starts_name b ≡ false) × (is_blank b ≡ false)
unfolding is_digit starts_name is_letter is_blank
digit_none b h =
    let x = both (leb 48 b) (leb b 57) h in
    let low : 48 ≤ b = leb-true 48 b x.0 in
    let high : b ≤ 57 = leb-true b 57 x.1 in
    (rw (lt-leb 65 b (omega arith), lt-leb 97 b (omega arith), ne_eqb b 95 (λ e. omega arith)) refl, rw (ne_eqb b 32 (λ e. omega arith), ne_eqb b 9 (λ e. omega arith), ne_eqb b 13 (λ e. omega arith), ne_eqb b 10 (λ e. omega arith)) refl)

-- some digits, of which there is a first
pub record Number (ds : List ℕ) : Type 0 where
  pub first : ℕ
  pub others : List ℕ
  pub splits : ds ≡ first ∷ others
  pub digit : is_digit first ≡ true

pub decimal_digits : (n : ℕ) → every is_digit (decimal n) ≡ true
decimal_digits n = digits_digits n n (omega arith)

pub decimal_value : (n : ℕ) → value_of (decimal n) ≡ n
decimal_value n = value_digits n n (omega arith)

number_of : (ds : List ℕ) → every is_digit ds ≡ true → 1 ≤ length ds → Number ds
unfolding every
number_of [] h h' = absurd (omega arith)
number_of (b ∷ ds) h h' = record { first = b; others = ds; splits = refl; digit = (both (is_digit b) (every is_digit ds) h).0 }

digits_some : (f n : ℕ) → 1 ≤ length (digits f n)
unfolding digits
digits_some zero n = omega arith
digits_some (suc f) n = go (ltb n 10)
  where
    go : (t : Bool) → 1 ≤ length (pick t (λ _. (code "0" + n) ∷ []) (λ _. digits f (n / 10) ++ (code "0" + n % 10) ∷ []))
    go true = omega arith
    go false = omega (arith, length-append (digits f (n / 10)) ((code "0" + n % 10) ∷ []))

pub decimal_number : (n : ℕ) → Number (decimal n)
decimal_number n = number_of (decimal n) (decimal_digits n) (digits_some n n)

no_fraction : (m : List ℕ) → Ends m → fraction_of m ≡ []
unfolding fraction_of Ends
no_fraction [] h = refl
no_fraction (b ∷ m) h = rw h.1 refl

-- digits in front, and no point behind them
pub integer_front_lem : (n : ℕ) (m : List ℕ) → n ≤ max_integer → Ends m → number_front (decimal n ++ m) ≡ good (constant (integer n)) (length (decimal n))
unfolding number_front integer_front
integer_front_lem n m h h' =
    rw (front_all is_digit (decimal n) m (decimal_digits n) (ends_digit m h'), drop-append_seam (decimal n) m, no_fraction m h')
    (rw (decimal_value n, le-ltb max_integer n h) refl)

point_fraction : (fs m : List ℕ) → every is_digit fs ≡ true → Ends m → fraction_of (code "." ∷ (fs ++ m)) ≡ fs
unfolding fraction_of
point_fraction fs m h h' = front_all is_digit fs m h (ends_digit m h')

point_ends : (l : List ℕ) → Without is_digit (code "." ∷ l)
unfolding Without is_digit
point_ends l = refl

-- what is known of a real that a text can write
pub record IsReal (n p : ℕ) : Type 0 where
  pub few : n < 10 ^ real_digits
  pub some : 1 ≤ p
  pub left : p < real_digits

pub real_parts : (n p : ℕ) → is_real n p ≡ true → IsReal n p
unfolding is_real
real_parts n p h =
    let x = both (ltb n (10 ^ real_digits)) (leb 1 p && ltb p real_digits) h in
    let y = both (leb 1 p) (ltb p real_digits) x.1 in
    record { few = ltb-true n (10 ^ real_digits) x.0; some = leb-true 1 p y.0; left = ltb-true p real_digits y.1 }

fewer_digits : (k p n : ℕ) → n < 10 ^ (p + k) → n / 10 ^ p < 10 ^ k
fewer_digits k zero n h = let i : 0 + k ≡ k = omega arith in rw (div-one n) (rw i at h)
fewer_digits k (suc p) n h =
    let i : suc p + k ≡ suc (p + k) = omega arith in
    let h' : n < 10 ^ (p + k) * 10 = rw (i, pow-suc 10 (p + k)) at h in
    rw (div_power p n) (fewer_digits k p (n / 10) (omega arith))

-- 'at most 15 digits in all'
real_length : (n p : ℕ) → IsReal n p → length (decimal (n / 10 ^ p)) + p ≤ real_digits
real_length n p h =
    let i : 15 ≡ p + suc (14 - p) = omega (arith, h.left) in
    let s = decimal_short (14 - p) (n / 10 ^ p) (fewer_digits (suc (14 - p)) p n (subst (λ (k : ℕ). n < 10 ^ k) i h.few)) in
    omega (arith, h.left)

real_value : (n p : ℕ) → value_of (decimal (n / 10 ^ p) ++ last_digits p n) ≡ n
real_value n p = value_append 0 (decimal (n / 10 ^ p)) (last_digits p n) ∙ (ap (λ (v : ℕ). value_from v (last_digits p n)) (decimal_value (n / 10 ^ p)) ∙ value_last p n)

pub real_front_lem : (n p : ℕ) (m : List ℕ) → IsReal n p → Ends m → number_front (decimal (n / 10 ^ p) ++ (code "." ∷ (last_digits p n ++ m))) ≡ good (constant (real n p)) (length (decimal (n / 10 ^ p)) + 1 + p)
unfolding number_front real_front
real_front_lem n p m h h' =
    let ds = decimal (n / 10 ^ p) in
    rw (front_all is_digit ds (code "." ∷ (last_digits p n ++ m)) (decimal_digits (n / 10 ^ p)) (point_ends (last_digits p n ++ m)), drop-append_seam ds (code "." ∷ (last_digits p n ++ m)), point_fraction (last_digits p n) m (last_digits_lem p n) h', length_last p n, ne_eqb p 0 (λ e. omega (arith, h.some)), le-ltb real_digits (length ds + p) (real_length n p h), real_value n p)
    refl

-- A PRINTED NUMBER IN FRONT of what does not continue it is its token
pub number_token : (ds m : List ℕ) (t : Token) (x : Number ds) → number_front (ds ++ m) ≡ good t (length ds) → front_token x.first (x.others ++ m) ≡ good t (suc (length x.others))
unfolding front_token
number_token ds m t x h =
    rw ((digit_none x.first x.digit).0, x.digit)
    (sym (ap (λ (l : List ℕ). number_front (l ++ m)) x.splits) ∙ (h ∙ ap (λ (l : List ℕ). good t (length l)) x.splits))

-- ---- strings

-- one byte as it is written stands for itself
body_one : (b k : ℕ) (r xs : List ℕ) → in_string b ≡ true → body_of r ≡ closed xs k → body_of (escaped b ++ r) ≡ closed (b ∷ xs) (length (escaped b) + k)
unfolding escaped body_of escape_of in_string bytes
body_one b k r xs h e = go (eqb b 34) refl (eqb b 92) refl (eqb b 10) refl (eqb b 9) refl
  where
    plain : eqb b 10 ≡ false → eqb b 9 ≡ false → between 0x20 0x7E b ≡ true
    plain p q = or (between 0x20 0x7E b) (rw (p, q) at h)
      where
        or : (t : Bool) → (t || false) ≡ true → t ≡ true
        or true z = refl
        or false z = z

    go : (t : Bool) → eqb b 34 ≡ t → (u : Bool) → eqb b 92 ≡ u → (v : Bool) → eqb b 10 ≡ v → (w : Bool) → eqb b 9 ≡ w → body_of (escaped b ++ r) ≡ closed (b ∷ xs) (length (escaped b) + k)
    go true p u q v r' w s = rw (eqb-true b 34 p) (rw e refl)
    go false p true q v r' w s = rw (eqb-true b 92 q) (rw e refl)
    go false p false q true r' w s = rw (eqb-true b 10 r') (rw e refl)
    go false p false q false r' true s = rw (eqb-true b 9 s) (rw e refl)
    go false p false q false r' false s = rw (p, q, r', s) (rw (plain r' s, p, q, e) refl)

-- a string behind its opening quote, up to its closing one
body_all : (l m : List ℕ) → every in_string l ≡ true → body_of (escaped_all l ++ code "\"" ∷ m) ≡ closed l (length (escaped_all l) + 1)
unfolding escaped_all every
body_all [] m h = unfold body_of in refl
body_all (b ∷ l) m h =
    let x = both (in_string b) (every in_string l) h in
    let i : length (escaped b) + (length (escaped_all l) + 1) ≡ length (escaped b ++ escaped_all l) + 1 = omega (arith, length-append (escaped b) (escaped_all l)) in
    ap body_of (append_assoc (escaped b) (escaped_all l) (code "\"" ∷ m))
    ∙ (body_one b (length (escaped_all l) + 1) (escaped_all l ++ code "\"" ∷ m) l x.0 (body_all l m x.1) ∙ ap (closed (b ∷ l)) i)

-- A PRINTED STRING IN FRONT is its token
pub string_token : (l m : List ℕ) → is_string l ≡ true → front_token (code "\"") (escaped_all l ++ code "\"" ∷ m) ≡ good (constant (string l)) (suc (length (escaped_all l ++ code "\"" ∷ [])))
unfolding front_token is_string starts_name is_letter is_digit
string_token l m h =
    let x = both (every in_string l) (leb (length l) string_bytes) h in
    let i : 1 + (length (escaped_all l) + 1) ≡ suc (length (escaped_all l ++ code "\"" ∷ [])) = omega (arith, length-append (escaped_all l) (code "\"" ∷ [])) in
    rw (body_all l m x.0, le-ltb string_bytes (length l) (leb-true (length l) string_bytes x.1)) (ap (good (constant (string l))) i)
