-- What each way through a function of symbols and operators gives, over plain variables. Assumes nothing.
use Prim.Native.Nat.{ℕ, zero, suc, ◌+◌, ◌<◌}
use native.Mathlib.Omega.{arith}
use mathlib.Core.Path.{◌≡◌, refl, sym, ◌∙◌, ap, subst}
use mathlib.Core.Bool.{Bool, true, false}
use mathlib.Core.List.{List, [], ◌∷◌}
use lib.ListN.{length, get_or, take, drop, length-drop}
use lib.Seq.{get_or-drop}
use Rattle.std.specs.Prelude.{Option, Some, None}
use Rattle.std.specs.Option.{option_or}
use Rattle.syntax.proofs.Laws.FrontTokens.{FrontFits, symbol_fits}
use Rattle.text.specs.Bytes.{bytes}
use Rattle.syntax.specs.Token.{pick, Front, good, wrong, Spelling, symbol_in, spellings, begins}
use Rattle.signs.specs.declared.Sign.{Sign}
use Rattle.signs.specs.declared.Sign.TheVariants as G
use Rattle.signs.specs.Inner.Meaning.{sign_front, SignFits, SignMeans}

-- no more than three bytes count
three : (l : List ℕ) → symbol_in spellings l ≡ symbol_in spellings (get_or l 0 0 ∷ get_or l 1 0 ∷ get_or l 2 0 ∷ [])
unfolding symbol_in spellings begins bytes
three [] = refl
three (b ∷ []) = refl
three (b ∷ c ∷ []) = refl
three (b ∷ c ∷ d ∷ l) = refl

-- the one, or else the other
abbrev or_else : Front → Front → Front
or_else (good t n) y = good t n
or_else (wrong k) y = y

split :
    (k : ℕ) (ss : List Spelling) (l : List ℕ) → symbol_in ss l ≡ or_else (symbol_in (take k ss) l)
    (symbol_in (drop k ss) l)
unfolding symbol_in
split zero ss l = refl
split (suc k) [] l = refl
split (suc k) (x ∷ ss) l = go (begins x.text l) (split k ss l)
  where
    go : (b : Bool) → symbol_in ss l ≡ or_else (symbol_in (take k ss) l) (symbol_in (drop k ss) l) → pick b (λ _. good x.token (length x.text)) (λ _. symbol_in ss l) ≡ or_else (pick b (λ _. good x.token (length x.text)) (λ _. symbol_in (take k ss) l)) (symbol_in (drop k ss) l)
    go true h = refl
    go false h = h

short_first : (b c d : ℕ) → symbol_in (drop 8 spellings) (b ∷ c ∷ d ∷ []) ≡ symbol_in (drop 8 spellings) (b ∷ [])
unfolding symbol_in spellings begins bytes
short_first b c d = refl

module _ (s : List ℕ) (p : ℕ) (c d : ℕ) (hc : c ≡ get_or s (p + 1) 0) (hd : d ≡ get_or s (p + 2) 0) where
  sign_split : symbol_in spellings (drop p s) ≡ or_else (symbol_in (take 8 spellings) (get_or s p 0 ∷ c ∷ d ∷ [])) (symbol_in (drop 8 spellings) (get_or s p 0 ∷ []))
  sign_split =
      let z : p + 0 ≡ p = omega arith in
      three (drop p s) ∙ (rw (get_or-drop p s 0 0, get_or-drop p s 1 0, get_or-drop p s 2 0, ← hc, ← hd, z) (split 8 spellings (get_or s p 0 ∷ c ∷ d ∷ []) ∙ ap (or_else (symbol_in (take 8 spellings) (get_or s p 0 ∷ c ∷ d ∷ []))) (short_first (get_or s p 0) c d)))

  fits_at : (r : Option Sign) → p < length s → sign_front r ≡ symbol_in spellings (drop p s) → SignFits s p r
  fits_at r h e = go r (subst (FrontFits (length (drop p s))) (sym e) (symbol_fits (drop p s)))
    where
      go : (r : Option Sign) → FrontFits (length (drop p s)) (sign_front r) → SignFits s p r
      go (Some (G.Operator j n)) f = (f.taken, omega (arith, f.within, length-drop p s))
      go (Some (G.Symbol x n)) f = (f.taken, omega (arith, f.within, length-drop p s))
      go None f = tt

  pub sign_long_short : (x y r : Option Sign) → p < length s → sign_front x ≡ symbol_in (take 8 spellings) (get_or s p 0 ∷ c ∷ d ∷ []) → sign_front y ≡ symbol_in (drop 8 spellings) (get_or s p 0 ∷ []) → r ≡ option_or x y → SignMeans s p r
  sign_long_short x y r h e e' g = record { front = f; fits = fits_at r h f }
    where
      go : (x : Option Sign) → sign_front (option_or x y) ≡ or_else (sign_front x) (sign_front y)
      go (Some (G.Operator j n)) = refl
      go (Some (G.Symbol z n)) = refl
      go None = refl

      f : sign_front r ≡ symbol_in spellings (drop p s)
      f = rw g (go x ∙ rw (e, e') (sym sign_split))
