-- What a symbol or operator at a place stands for. s is the text; a place counts its bytes from 0. Assumes nothing.
use Rattle.std.specs.Prelude.{ℕ, ◌+◌, ◌≤◌, ◌≡◌, Option, Some, None, List, length, drop}
use Rattle.syntax.specs.Token as T
use Rattle.syntax.specs.Token.{Front, good, wrong, symbol_in, spellings}
use Rattle.signs.specs.declared.Sign.{Sign}
use Rattle.signs.specs.declared.Sign.TheVariants as G

-- the symbol or operator in front; for nothing 3, 'no token starts here'
abbrev pub sign_front : Option Sign → Front
sign_front (Some (G.Operator j n)) = good (T.operator j) n
sign_front (Some (G.Symbol x n)) = good (T.symbol x) n
sign_front None = wrong 3

-- a symbol or operator of n bytes at p ends in the text
abbrev pub SignFits : List ℕ → ℕ → Option Sign → Type 0
SignFits s p (Some (G.Operator j n)) = (1 ≤ n) × (p + n ≤ length s)
SignFits s p (Some (G.Symbol x n)) = (1 ≤ n) × (p + n ≤ length s)
SignFits s p None = Unit {0}

-- the symbol or operator at p: 'Longest token wins.'; 'no token starts here'
pub record SignMeans (s : List ℕ) (p : ℕ) (r : Option Sign) : Type 0 where
  pub front : sign_front r ≡ symbol_in spellings (drop p s)
  pub fits : SignFits s p r
