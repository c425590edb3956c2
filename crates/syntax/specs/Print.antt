-- Printing: the text of a tree, and the levels of that text. Assumes nothing.
use Rattle.std.specs.Prelude.{ℕ, zero, suc, ◌+◌, ◌/◌, ◌%◌, ◌^◌, max, true, false, cond, List, [], ◌∷◌, ◌++◌, ltb, eqb}
use Prim.Native.Char.{code}
use Rattle.text.specs.Bytes.{bytes}
use Rattle.syntax.specs.Tree.{Literal, undefined, error, boolean, integer, real, string, Scope, own, other, Expr, literal, reference, unary, binary, conditional, Definition, Ad}
use Rattle.syntax.specs.Token.{pick}
use Rattle.syntax.specs.Grammar.{binds_of}
use Rattle.syntax.specs.declared.Binary.{Binary}
use Rattle.syntax.specs.declared.Binary.TheVariants.{Or, And, Equal, NotEqual, Is, Isnt, Less, LessOrEqual, Greater, GreaterOrEqual, Add, Subtract, Multiply, Divide, Remainder}
use Rattle.syntax.specs.declared.Unary.{Unary}
use Rattle.syntax.specs.declared.Unary.TheVariants.{Not, Plus, Minus}

-- ---- literals

-- the digits of n, of which there are at most f + 1
unfoldable pub digits : ℕ → ℕ → List ℕ
digits zero n = (code "0" + n) ∷ []
digits (suc f) n = pick (ltb n 10) (λ _. (code "0" + n) ∷ []) (λ _. digits f (n / 10) ++ (code "0" + n % 10) ∷ [])

-- 'Numbers without idle leading zeros'
abbrev pub decimal : ℕ → List ℕ
decimal n = digits n n

-- the last k digits of n
unfoldable pub last_digits : ℕ → ℕ → List ℕ
last_digits zero n = []
last_digits (suc k) n = last_digits k (n / 10) ++ (code "0" + n % 10) ∷ []

-- a byte of a string as it is written: 'escapes `\"` `\\` `\n` `\t`'
unfoldable pub escaped : ℕ → List ℕ
escaped b = cond (eqb b (code "\"")) (bytes "\\\"") (cond (eqb b (code "\\")) (bytes "\\\\") (cond (eqb b (code "\n")) (bytes "\\n") (cond (eqb b (code "\t")) (bytes "\\t") (b ∷ []))))

-- the bytes of a string as they are written: 'escapes `\"` `\\` `\n` `\t`'
unfoldable pub escaped_all : List ℕ → List ℕ
escaped_all [] = []
escaped_all (b ∷ l) = escaped b ++ escaped_all l

-- 'keywords in lower case'; 'one digit kept before the point, all digits after it'
unfoldable pub literal_text : Literal → List ℕ
literal_text undefined = bytes "undefined"
literal_text error = bytes "error"
literal_text (boolean true) = bytes "true"
literal_text (boolean false) = bytes "false"
literal_text (integer n) = decimal n
literal_text (real n places) = decimal (n / 10 ^ places) ++ (code "." ∷ last_digits places n)
literal_text (string l) = code "\"" ∷ (escaped_all l ++ code "\"" ∷ [])

-- ---- operators

-- '`is` and `isnt` as words'
unfoldable pub binary_text : Binary → List ℕ
binary_text Or = bytes "||"
binary_text And = bytes "&&"
binary_text Equal = bytes "=="
binary_text NotEqual = bytes "!="
binary_text Is = bytes "is"
binary_text Isnt = bytes "isnt"
binary_text Less = bytes "<"
binary_text LessOrEqual = bytes "<="
binary_text Greater = bytes ">"
binary_text GreaterOrEqual = bytes ">="
binary_text Add = bytes "+"
binary_text Subtract = bytes "-"
binary_text Multiply = bytes "*"
binary_text Divide = bytes "/"
binary_text Remainder = bytes "%"

-- 'unary `! + -`'
unfoldable pub unary_text : Unary → List ℕ
unary_text Not = bytes "!"
unary_text Plus = bytes "+"
unary_text Minus = bytes "-"

-- how an expression binds, by the table of `binds_of`: 'Binding, loosest first: `?:`; .. unary `! + -`; then literals, references
-- and parentheses.'
unfoldable pub binds : Expr → ℕ
binds (literal l) = 8
binds (reference s w) = 8
binds (unary u a) = 7
binds (binary j a b) = binds_of j
binds (conditional a b c) = 0

-- ---- expressions

-- 'Parentheses only where the tree would otherwise read differently': the text t of an expression that binds at b, where one
-- that binds at k or tighter can stand
abbrev pub wrap : ℕ → ℕ → List ℕ → List ℕ
wrap k b t = pick (ltb b k) (λ _. code "(" ∷ (t ++ code ")" ∷ [])) (λ _. t)

-- 'no blank in `other.name`'
unfoldable pub reference_text : Scope → List ℕ → List ℕ
reference_text own w = w
reference_text other w = bytes "other." ++ w

-- 'One blank on each side of a binary operator and of `?` and `:`; none after a unary one'
unfoldable pub printed : Expr → List ℕ
printed (literal l) = literal_text l
printed (reference s w) = reference_text s w
printed (unary u a) = unary_text u ++ wrap 7 (binds a) (printed a)
printed (binary j a b) =
    wrap (binds_of j) (binds a) (printed a) ++ (code " " ∷ (binary_text j ++ (code " " ∷ wrap (binds_of j + 1) (binds b) (printed b))))
printed (conditional a b c) =
    wrap 1 (binds a) (printed a) ++ (bytes " ? " ++ (printed b ++ (bytes " : " ++ printed c)))

-- ---- ads

-- 'definitions as `name = expression`'
abbrev pub definition_text : Definition → List ℕ
definition_text d = d.name ++ (bytes " = " ++ printed d.expression)

-- '.. joined by `; `'
unfoldable pub definitions_text : Ad → List ℕ
definitions_text [] = []
definitions_text (d ∷ []) = definition_text d
definitions_text (d ∷ e ∷ ds) = definition_text d ++ (bytes "; " ++ definitions_text (e ∷ ds))

-- '`[`, definitions .., `]`'
unfoldable pub printed_ad : Ad → List ℕ
printed_ad a = code "[" ∷ (definitions_text a ++ code "]" ∷ [])

-- ---- levels

-- one level more where `wrap` writes parentheses: 'The inside of parentheses .. one level deeper'
abbrev pub wrap_level : ℕ → ℕ → ℕ → ℕ
wrap_level k b n = cond (ltb b k) (n + 1) n

-- 'levels of its printed text': the highest level inside the print of an expression that starts at level 0
unfoldable pub level_of : Expr → ℕ
level_of (literal l) = 0
level_of (reference s w) = 0
level_of (unary u a) = wrap_level 7 (binds a) (level_of a) + 1
level_of (binary j a b) = max (wrap_level (binds_of j) (binds a) (level_of a)) (wrap_level (binds_of j + 1) (binds b) (level_of b))
level_of (conditional a b c) = max (wrap_level 1 (binds a) (level_of a)) (max (level_of b) (level_of c) + 1)

-- the highest level of a printed ad: 'levels of its printed text'
unfoldable pub ad_level : Ad → ℕ
ad_level [] = 0
ad_level (d ∷ ds) = max (level_of d.expression) (ad_level ds)
