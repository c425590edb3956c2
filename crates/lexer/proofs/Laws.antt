-- What each way through a function of the lexer gives, over plain variables. Assumes nothing.
use Prim.Native.Nat.{ℕ, ◌+◌, ◌-◌, ◌≤◌, ◌<◌}
use native.Mathlib.Omega.{arith}
use mathlib.Core.Path.{◌≡◌, refl, sym, ◌∙◌, ap}
use mathlib.Core.Bool.{Bool, true, false}
use lib.Dec.{leb}
use mathlib.Core.List.{List, [], ◌∷◌, ◌++◌, append_assoc, append-nil}
use lib.ListN.{length, get_or, drop, length-append, drop_of_length-le}
use borrow.Author.Tests.{leb-true, leb-false, lt-ltb, le-ltb, le-leb, lt-leb, eq-eqb, ne_eqb}
use Rattle.text.specs.Bytes.{is_blank, is_digit, starts_name}
use Rattle.text.specs.Parts.{drop_one}
use Rattle.syntax.specs.Tree.{string}
use Rattle.syntax.specs.Token as T
use Rattle.syntax.specs.Token.{next, end, bad, good, wrong, Body, closed, broken, grown, body_of, escape_of, string_of, number_front, name_front, symbol_in, spellings, front_token, tokens_from}
use Rattle.tokens.specs.declared.Token as K
use Rattle.tokens.specs.declared.Token.TheVariants as KV
use Rattle.std.specs.Prelude.{Result, Ok, Err}
use Rattle.syntax.specs.declared.Refusal.{Refusal}
use Rattle.tokens.specs.Inner.Meaning.{LiesIfRead, tokens_at, placed, string_at}
use Rattle.tokens.proofs.Laws.{behind}
use Rattle.lexer.specs.Inner.Meaning.{AtBackslash}

-- ---- blanks

pub skip_step : (s : List ℕ) (i : ℕ) → i < length s → is_blank (get_or s i 0) ≡ true → tokens_at s i ≡ tokens_at s (i + 1)
unfolding tokens_from
skip_step s i h b = rw (drop_one s i h, b) refl

-- ---- strings

-- bytes in front of a string's rest
abbrev pub prepend : List ℕ → ℕ → Body → Body
prepend xs n (closed ys k) = closed (xs ++ ys) (n + k)
prepend xs n broken = broken

both : {xs ys : List ℕ} {m n : ℕ} → xs ≡ ys → m ≡ n → closed xs m ≡ closed ys n
both p q = λ i. closed (p i) (q i)

pub prepend_grown : (xs : List ℕ) (n b m k : ℕ) (y : Body) → n + m ≡ k → prepend xs n (grown b m y) ≡ prepend (xs ++ b ∷ []) k y
prepend_grown xs n b m k (closed ys j) h = let e : n + (m + j) ≡ k + j = omega arith in both (sym (append_assoc xs (b ∷ []) ys)) e
prepend_grown xs n b m k broken h = refl

-- n bytes of the string behind at are read up to i
abbrev pub Gone : List ℕ → ℕ → ℕ → ℕ → Type 0
Gone s at i n = (xs : List ℕ) × (length xs ≡ n) × (body_of (drop at s) ≡ prepend xs (i - at) (body_of (drop i s)))

module _ (s : List ℕ) (at : ℕ) where
  module _ (i n : ℕ) (h : at ≤ i) (g : Gone s at i n) where
    pub gone_byte : (b q : ℕ) → i < q → body_of (drop i s) ≡ grown b (q - i) (body_of (drop q s)) → Gone s at q (n + 1)
    gone_byte b q h' e = (g.0 ++ b ∷ [], simp length-append (omega (arith, g.1)), g.2 ∙ rw e (prepend_grown g.0 (i - at) b (q - i) (q - at) (body_of (drop q s)) (omega arith)))

    pub gone_close : body_of (drop i s) ≡ closed [] 1 → (xs : List ℕ) × (length xs ≡ n) × (body_of (drop at s) ≡ closed xs (i + 1 - at))
    gone_close e = let k : i - at + 1 ≡ i + 1 - at = omega arith in (g.0, g.1, g.2 ∙ rw e (both (append-nil g.0) k))

module _ (s : List ℕ) (i : ℕ) where
  pub string_none : length s ≤ i → body_of (drop i s) ≡ broken
  unfolding body_of
  string_none h = rw (drop_of_length-le s h) refl

  module _ (h : i < length s) where
    pub string_close : get_or s i 0 ≡ 34 → body_of (drop i s) ≡ closed [] 1
    unfolding body_of
    string_close e = rw (drop_one s i h, e) refl

    module _ (h₁ : get_or s i 0 ≡ 34 → ⊥) (h₂ : get_or s i 0 ≡ 92 → ⊥) where
      pub string_low : get_or s i 0 < 32 → body_of (drop i s) ≡ broken
      unfolding body_of
      string_low e = rw (drop_one s i h, ne_eqb (get_or s i 0) 34 h₁, ne_eqb (get_or s i 0) 92 h₂, lt-leb 32 (get_or s i 0) e) refl

      pub string_high : 32 ≤ get_or s i 0 → 126 < get_or s i 0 → body_of (drop i s) ≡ broken
      unfolding body_of
      string_high l e = rw (drop_one s i h, ne_eqb (get_or s i 0) 34 h₁, ne_eqb (get_or s i 0) 92 h₂, le-leb 32 (get_or s i 0) l, lt-leb (get_or s i 0) 126 e) refl

      pub string_byte : 32 ≤ get_or s i 0 → get_or s i 0 ≤ 126 → body_of (drop i s) ≡ grown (get_or s i 0) (i + 1 - i) (body_of (drop (i + 1) s))
      unfolding body_of
      string_byte l e =
          let one : 1 ≡ i + 1 - i = omega arith in
          rw (drop_one s i h, ne_eqb (get_or s i 0) 34 h₁, ne_eqb (get_or s i 0) 92 h₂, le-leb 32 (get_or s i 0) l, le-leb (get_or s i 0) 126 e)
          (ap (λ (k : ℕ). grown (get_or s i 0) k (body_of (drop (i + 1) s))) one)

-- a string ends within the text
pub string_inside : (s : List ℕ) (i : ℕ) → body_of (drop i s) ≡ closed [] 1 → i < length s
string_inside s i e = go (leb (length s) i) refl
  where
    go : (t : Bool) → leb (length s) i ≡ t → i < length s
    go true t =
        let z : closed [] 1 ≡ broken = sym e ∙ string_none s i (leb-true (length s) i t) in
        let y : ⊥ = cc in
        absurd y
    go false t = leb-false (length s) i t

pub escaped_none : (s : List ℕ) (i : ℕ) → AtBackslash s i → length s ≤ i + 1 → body_of (drop i s) ≡ broken
unfolding body_of
escaped_none s i a h = rw (drop_one s i a.inside, a.backslash, drop_of_length-le s h) refl

pub escaped_wrong : (s : List ℕ) (i : ℕ) → AtBackslash s i → i + 1 < length s → escape_of (get_or s (i + 1) 0) ≡ 0 → body_of (drop i s) ≡ broken
unfolding body_of
escaped_wrong s i a h e = rw (drop_one s i a.inside, a.backslash, drop_one s (i + 1) h, e) refl

pub escaped_byte : (s : List ℕ) (i b : ℕ) → AtBackslash s i → i + 1 < length s → b ≡ escape_of (get_or s (i + 1) 0) → (b ≡ 0 → ⊥) → body_of (drop i s) ≡ grown b (i + 2 - i) (body_of (drop (i + 2) s))
unfolding body_of
escaped_byte s i b a h e h' =
    let two : 2 ≡ i + 2 - i = omega arith in
    let at : i + 1 + 1 ≡ i + 2 = omega arith in
    rw (drop_one s i a.inside, a.backslash, drop_one s (i + 1) h, ← e, ne_eqb b 0 h', ← two, at) refl

-- ---- strings in front

module _ (s : List ℕ) (p : ℕ) where
  pub string_broken : body_of (drop (p + 1) s) ≡ broken → placed s p (string_of (body_of (drop (p + 1) s))) ≡ bad 3 p
  string_broken e = rw e refl

  module _ (n q : ℕ) (h : p + 1 + n < q) (h' : q ≤ length s) (x : (xs : List ℕ) × (length xs ≡ n) × (body_of (drop (p + 1) s) ≡ closed xs (q - (p + 1)))) where
    pub string_long : 1024 < n → placed s p (string_of (body_of (drop (p + 1) s))) ≡ bad 7 p
    string_long l = rw (x.2, x.1, lt-ltb 1024 n l) refl

    pub string_token : n ≤ 1024 → placed s p (string_of (body_of (drop (p + 1) s))) ≡ next p (T.constant (string (string_at s p))) (tokens_at s q)
    string_token l = rw (x.2, x.1, le-ltb 1024 n l, behind s p q (1 + (q - (p + 1))) (omega arith) h' (omega arith)) refl

    pub string_length : n ≡ length (string_at s p)
    string_length = rw x.2 (sym x.1)

    pub string_body : body_of (drop (p + 1) s) ≡ closed (string_at s p) (q - (p + 1))
    string_body = rw x.2 refl

-- ---- symbols in front

pub symbol_placed : (s : List ℕ) (p n : ℕ) (t : T.Token) → 1 ≤ n → p + n ≤ length s → good t n ≡ symbol_in spellings (drop p s) → placed s p (symbol_in spellings (drop p s)) ≡ next p t (tokens_at s (p + n))
symbol_placed s p n t h h' e = rw (← e, behind s p (p + n) n (omega arith) h' refl) refl

pub symbol_bad : (s : List ℕ) (p : ℕ) → wrong 3 ≡ symbol_in spellings (drop p s) → placed s p (symbol_in spellings (drop p s)) ≡ bad 3 p
symbol_bad s p e = rw (← e) refl

-- ---- the token at a place that is no blank

module _ (s : List ℕ) (p : ℕ) where
  pub scan_end : length s ≤ p → tokens_at s p ≡ end p
  unfolding tokens_from
  scan_end h = rw (drop_of_length-le s h) refl

  module _ (h : p < length s) (b : is_blank (get_or s p 0) ≡ false) where
    from_front : tokens_at s p ≡ placed s p (front_token (get_or s p 0) (drop (p + 1) s))
    unfolding tokens_from
    from_front = rw (drop_one s p h, b) refl

    pub scan_name : starts_name (get_or s p 0) ≡ true → tokens_at s p ≡ placed s p (name_front (drop p s))
    unfolding front_token
    scan_name e = from_front ∙ rw (e, drop_one s p h) refl

    module _ (n : starts_name (get_or s p 0) ≡ false) where
      pub scan_number : is_digit (get_or s p 0) ≡ true → tokens_at s p ≡ placed s p (number_front (drop p s))
      unfolding front_token
      scan_number e = from_front ∙ rw (n, e, drop_one s p h) refl

      module _ (d : is_digit (get_or s p 0) ≡ false) where
        pub scan_string : get_or s p 0 ≡ 34 → tokens_at s p ≡ placed s p (string_of (body_of (drop (p + 1) s)))
        unfolding front_token
        scan_string e = from_front ∙ rw (n, d, eq-eqb (get_or s p 0) 34 e) refl

        pub scan_symbol : (get_or s p 0 ≡ 34 → ⊥) → tokens_at s p ≡ placed s p (symbol_in spellings (drop p s))
        unfolding front_token
        scan_symbol e = from_front ∙ rw (n, d, ne_eqb (get_or s p 0) 34 e, drop_one s p h) refl

pub lies_from : (s : List ℕ) (at p : ℕ) (r : Result K.Token Refusal) → at ≤ p → LiesIfRead s p r → LiesIfRead s at r
lies_from s at p (Ok (KV.End q)) h x = tt
lies_from s at p (Ok (KV.Word w)) h x = (omega arith, x.1, x.2)
lies_from s at p (Ok (KV.Constant c w)) h x = (omega arith, x.1, x.2)
lies_from s at p (Ok (KV.String n w)) h x = (omega arith, x.1, x.2, x.3, x.4)
lies_from s at p (Ok (KV.Operator j w)) h x = (omega arith, x.1, x.2)
lies_from s at p (Ok (KV.Symbol y w)) h x = (omega arith, x.1, x.2)
lies_from s at p (Err r) h x = tt
