-- When a text is refused, with which number and at which place. This is said over its tokens and the grammar, and no reader has a part
-- in it. Assumes nothing.
use Rattle.std.specs.Prelude.{ℕ, ◌+◌, ◌≤◌, ◌<◌, ◌≡◌, Bool, false, ◌||◌, List, [], ◌∷◌, ◌++◌, length}
use Rattle.text.specs.Strings.{same_name}
use Rattle.syntax.specs.Bounds.{text_bytes, max_level, max_nodes, max_definitions}
use Rattle.syntax.specs.Tree.{Ad}
use Rattle.syntax.specs.Token.{Token, word, constant, operator, symbol, Tokens, next, end, bad, tokens}
use Rattle.syntax.specs.Grammar.{AdTo, IsAd, Follows}
use Rattle.syntax.specs.declared.Symbol.{Symbol}
use Rattle.syntax.specs.declared.Symbol.TheVariants.{Exclamation, Question, Colon, OpenParenthesis, CloseParenthesis, OpenBracket, CloseBracket, Semicolon, Assign, Point, Other, Parent}

-- ---- nodes and definitions, counted over tokens

-- what a Name does where it stands: it defines, it refers, or it selects from the other ad, as the last token of `other.name`
pub data Role : Type 0 where
  defines refers selects : Role

-- of a symbol: the role of a Name after it, which defines after `[` or `;`, selects after a point and otherwise refers; and how many
-- nodes it is, 1 for `!`, `?` and `other`
abbrev pub symbol_says : Symbol → Role × ℕ
symbol_says OpenBracket = (defines, 0)
symbol_says Semicolon = (defines, 0)
symbol_says Point = (selects, 0)
symbol_says Exclamation = (refers, 1)
symbol_says Question = (refers, 1)
symbol_says Other = (refers, 1)
symbol_says Colon = (refers, 0)
symbol_says OpenParenthesis = (refers, 0)
symbol_says CloseParenthesis = (refers, 0)
symbol_says CloseBracket = (refers, 0)
symbol_says Assign = (refers, 0)
symbol_says Parent = (refers, 0)

-- the role of a Name after a token
abbrev pub role_after : Token → Role
role_after (word w) = refers
role_after (constant l) = refers
role_after (operator j) = refers
role_after (symbol s) = (symbol_says s).0

-- how many nodes are counted at a token, where a Name has the role r: 'each literal, each reference (at `other` where it has one), each
-- operator (a conditional at its `?`)'
abbrev pub nodes_at : Role → Token → ℕ
nodes_at defines (word w) = 0
nodes_at refers (word w) = 1
nodes_at selects (word w) = 0
nodes_at r (constant l) = 1
nodes_at r (operator j) = 1
nodes_at r (symbol s) = (symbol_says s).1

-- the name that is defined at a token, if any, where a Name has the role r: 'a definition at its name'
abbrev pub names_at : Role → Token → List (List ℕ)
names_at defines (word w) = w ∷ []
names_at refers (word w) = []
names_at selects (word w) = []
names_at r (constant l) = []
names_at r (operator j) = []
names_at r (symbol s) = []

-- how many nodes are counted at some tokens, where a Name in front has the role r
unfoldable pub nodes_in : Role → List Token → ℕ
nodes_in r [] = 0
nodes_in r (t ∷ ts) = nodes_at r t + nodes_in (role_after t) ts

-- the names that some tokens define, in order
unfoldable pub names_in : Role → List Token → List (List ℕ)
names_in r [] = []
names_in r (t ∷ ts) = names_at r t ++ names_in (role_after t) ts

-- the nodes of tokens from the start of a text, where no Name fits: 'Nodes are counted in text order'
abbrev pub nodes_of : List Token → ℕ
nodes_of ts = nodes_in refers ts

-- the names that tokens from the start of a text define
abbrev pub names_of : List Token → List (List ℕ)
names_of ts = names_in refers ts

-- whether the name w is one of ws
unfoldable pub among : List ℕ → List (List ℕ) → Bool
among w [] = false
among w (x ∷ ws) = same_name w x || among w ws

-- whether one of some names comes again
unfoldable pub repeats : List (List ℕ) → Bool
repeats [] = false
repeats (w ∷ ws) = among w ws || repeats ws

-- ---- the rules, each of the tokens of a text up to one of them

-- the tokens are a viable prefix: some ad that is no deeper than level n begins with them
abbrev pub ViableTo : ℕ → List Token → Type 0
ViableTo n ts = (us : List Token) × (a : Ad) × AdTo n (ts ++ us) a

-- they fit the grammar, however deep; if not, the last 'token does not fit the grammar'
abbrev pub Fits : List Token → Type 0
Fits ts = (n : ℕ) × ViableTo n ts

-- they fit the grammar within level 64; if not, the last opens 'level 65'
abbrev pub Shallow : List Token → Type 0
Shallow ts = ViableTo max_level ts

-- no 'name defined twice'
abbrev pub DistinctNames : List Token → Type 0
DistinctNames ts = repeats (names_of ts) ≡ false

-- no '257th definition or 1,025th node'
pub record Few (ts : List Token) : Type 0 where
  pub few_definitions : length (names_of ts) ≤ max_definitions
  pub few_nodes : nodes_of ts ≤ max_nodes

-- none of the tokens breaks a rule: tokens that keep the rules keep them up to any token (Laws/Counting.antt, `keeps_front`)
pub record Keeps (ts : List Token) : Type 0 where
  pub shallow : Shallow ts
  pub distinct : DistinctNames ts
  pub few : Few ts

-- the number of the first rule that the tokens break: 'At one token the order is .. 4, 6, 8, 9.'
pub data Breaks (ts : List Token) : ℕ → Type 0 where
  -- 'token does not fit the grammar'
  unfit : (Fits ts → ⊥) → Breaks ts 4
  -- 'level 65'
  deep : Fits ts → (Shallow ts → ⊥) → Breaks ts 6
  -- 'name defined twice'
  twice : Shallow ts → (DistinctNames ts → ⊥) → Breaks ts 8
  -- '257th definition or 1,025th node'
  many : Shallow ts → DistinctNames ts → (Few ts → ⊥) → Breaks ts 9

-- ---- refusals

-- Refuses before rest k p: after the tokens `before`, what is left is refused with the number k at the place p
pub data Refuses (before : List Token) : Tokens → ℕ → ℕ → Type 0 where
  -- a token that is bad by itself, with its own number: 'At one token the order is 3, 7, 5, ..'
  own : {k p : ℕ} → Refuses before (bad k p) k p
  -- 'text ends early': the tokens are no ad yet; 'for a 4 where text ends early the text's length'
  early : {n : ℕ} → ((a : Ad) → IsAd before a → ⊥) → Refuses before (end n) 4 n
  -- a token that breaks a rule: 'its first byte is the place'
  token : {k p : ℕ} {t : Token} {u : Tokens} → Breaks (before ++ t ∷ []) k → Refuses before (next p t u) k p

-- THE REFUSAL of the tokens u, with the number k at the place p: 'the first token that breaks a rule decides'
pub record Refusal (u : Tokens) (k p : ℕ) : Type 0 where
  pub before : List Token
  pub rest : Tokens
  pub follows : Follows u before rest
  pub keeps : Keeps before
  pub refuses : Refuses before rest k p

-- The refusal of the text s: 'Checks go 1, 2, then tokens left to right'
pub data Refused (s : List ℕ) : ℕ → ℕ → Type 0 where
  -- 'text over 16,384 bytes', at 0
  long : text_bytes < length s → Refused s 2 0
  within : {k p : ℕ} → length s ≤ text_bytes → Refusal (tokens s) k p → Refused s k p
