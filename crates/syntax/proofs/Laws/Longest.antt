-- 'Longest token wins.' Of symbols this follows from a test of their table. Assumes nothing.
use Rattle.std.specs.Prelude.{ℕ, ◌≤◌, ◌≡◌, refl, Bool, true, false, ◌&&◌, ◌||◌, not, length, leb, eqb}
use Prim.Native.Char.{code}
use Rattle.std.proofs.Common.{arith, sym, ◌∙◌, true≢false, leb-true, eqb-true}
use mathlib.Core.List.Memᴰ
use mathlib.Core.List.{List, [], ◌∷◌, Memᴰ}
use Rattle.std.proofs.lemmas.Bool.{not-true}
use Rattle.text.specs.Laws.Booleans.{both, neither}
use Rattle.text.specs.Bytes.{bytes, is_digit, is_letter, starts_name}
use Rattle.syntax.specs.Token.{Token, Front, good, wrong, Spelling, spellings, begins, symbol_in, front_token}
use Rattle.syntax.specs.Inner.Lexeme.{every}
use Rattle.syntax.proofs.Laws.Codes.{on_pick}

-- ---- symbols

-- What stands in front of the text l, where symbols are spelled as the table ss says.
pub data Longest (ss : List Spelling) (l : List ℕ) : Front → Type 0 where
  -- 'Longest token wins.' A spelling of the table begins the text, and none that begins it is longer.
  longest : (s : Spelling) → Memᴰ s ss → begins s.text l ≡ true →
      ((r : Spelling) → Memᴰ r ss → begins r.text l ≡ true → length r.text ≤ length s.text) →
      Longest ss l (good s.token (length s.text))
  -- 'no token starts here': no spelling of the table begins the text.
  nothing : ((r : Spelling) → Memᴰ r ss → begins r.text l ≡ false) → Longest ss l (wrong 3)

each_passes : (test : Spelling → Bool) (ss : List Spelling) → every test ss ≡ true → (r : Spelling) → Memᴰ r ss → test r ≡ true
unfolding every
each_passes test [] h r m = absurd (Memᴰ.not-nil m)
each_passes test (s ∷ ss) h r (Memᴰ.head e) = rw e (both _ _ h).0
each_passes test (s ∷ ss) h r (Memᴰ.tail m) = each_passes test ss (both (test s) _ h).1 r m

-- whether no spelling of a table has more than n bytes
abbrev none_longer : ℕ → List Spelling → Bool
none_longer n ss = every (λ s. leb (length s.text) n) ss

-- whether no spelling of a table is longer than one before it
unfoldable longest_first : List Spelling → Bool
longest_first [] = true
longest_first (s ∷ ss) = none_longer (length s.text) ss && longest_first ss

-- THE TABLE OF SYMBOLS PASSES THE TEST
spellings_first : longest_first spellings ≡ true
unfolding longest_first every spellings bytes
spellings_first = refl

-- in front of a table a spelling that begins the text, and one that does not
module _ {ss : List Spelling} {l : List ℕ} (s : Spelling) where
  first_taken : none_longer (length s.text) ss ≡ true → begins s.text l ≡ true → Longest (s ∷ ss) l (good s.token (length s.text))
  first_taken h b = longest s (Memᴰ.head refl) b each
    where
      each : (r : Spelling) → Memᴰ r (s ∷ ss) → begins r.text l ≡ true → length r.text ≤ length s.text
      each r (Memᴰ.head e) i = rw e (omega arith)
      each r (Memᴰ.tail m) i = leb-true _ _ (each_passes _ ss h r m)

  first_passed : {x : Front} → begins s.text l ≡ false → Longest ss l x → Longest (s ∷ ss) l x
  first_passed b (longest t m i f) = longest t (Memᴰ.tail m) i each
    where
      each : (r : Spelling) → Memᴰ r (s ∷ ss) → begins r.text l ≡ true → length r.text ≤ length t.text
      each r (Memᴰ.head e) j = absurd (true≢false (sym j ∙ rw e b))
      each r (Memᴰ.tail n) j = f r n j
  first_passed b (nothing f) = nothing each
    where
      each : (r : Spelling) → Memᴰ r (s ∷ ss) → begins r.text l ≡ false
      each r (Memᴰ.head e) = rw e b
      each r (Memᴰ.tail n) = f r n

longest_in : (ss : List Spelling) → longest_first ss ≡ true → (l : List ℕ) → Longest ss l (symbol_in ss l)
unfolding longest_first symbol_in
longest_in [] h l = nothing (λ r m. absurd (Memᴰ.not-nil m))
longest_in (s ∷ ss) h l =
    let i = both _ _ h in
    on_pick (Longest (s ∷ ss) l) (begins s.text l) _ _ (first_taken s i.0) (λ b. first_passed s b (longest_in ss i.1 l))

-- OF THE SYMBOLS THAT BEGIN A TEXT THE LONGEST IS TAKEN: 'Longest token wins.'
pub longest_symbol : (l : List ℕ) → Longest spellings l (symbol_in spellings l)
longest_symbol = longest_in spellings spellings_first

-- ---- any token

-- whether a byte begins a Name, a number or a String
unfoldable starts_other : ℕ → Bool
starts_other b = starts_name b || is_digit b || eqb b (code "\"")

-- whether some bytes begin otherwise
unfoldable starts_apart : List ℕ → Bool
starts_apart [] = false
starts_apart (b ∷ l) = not (starts_other b)

-- THE TABLE OF SYMBOLS PASSES THE TEST
spellings_apart : every (λ s. starts_apart s.text) spellings ≡ true
unfolding every starts_apart starts_other spellings bytes is_digit is_letter starts_name
spellings_apart = refl

text_apart : (w : List ℕ) (b : ℕ) (l : List ℕ) → starts_apart w ≡ true → begins w (b ∷ l) ≡ true → starts_other b ≡ false
unfolding starts_apart begins
text_apart [] b l h i = absurd (true≢false (sym h))
text_apart (x ∷ w) b l h i = let e = eqb-true x b (both (eqb x b) _ i).0 in rw e at (not-true (starts_other x) h)

none_longer_taken : {ss : List Spelling} {l : List ℕ} {x : Front} → Longest ss l x → (t : Token) (n : ℕ) → x ≡ good t n → (r : Spelling) → Memᴰ r ss → begins r.text l ≡ true → length r.text ≤ n
none_longer_taken (longest s m b f) t n e r i j = let k : length s.text ≡ n = cc in omega (arith, f r i j)
none_longer_taken (nothing f) t n e r i j = absurd (true≢false (sym j ∙ f r i))

-- WHATEVER TOKEN IS TAKEN, NO SYMBOL THAT BEGINS THE TEXT IS LONGER: 'Longest token wins.'
pub longest_token : (b : ℕ) (l : List ℕ) (t : Token) (n : ℕ) → front_token b l ≡ good t n → (r : Spelling) → Memᴰ r spellings → begins r.text (b ∷ l) ≡ true → length r.text ≤ n
unfolding front_token starts_other
longest_token b l t n e r m i =
    let a = text_apart r.text b l (each_passes _ spellings spellings_apart r m) i in
    let o = neither (starts_name b || is_digit b) (eqb b (code "\"")) a in
    let p = neither (starts_name b) (is_digit b) o.0 in
    none_longer_taken (longest_symbol (b ∷ l)) t n (rw (p.0, p.1, o.1) at e) r m i
