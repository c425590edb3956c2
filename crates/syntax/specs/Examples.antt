-- Worked examples, computed. Assumes nothing.
use Rattle.std.specs.Prelude.{ℕ, zero, suc, ◌≡◌, refl, true, List, [], ◌∷◌, ◌++◌, map, replicate}
use Rattle.text.specs.Bytes.{bytes, is_blank, is_digit, is_letter, starts_name, continues_name, lower_case}
use Rattle.text.specs.Strings.{same_name, same_bytes}
use Rattle.syntax.specs.Tree.{undefined, error, boolean, integer, real, string, own, other, Expr, literal, reference, unary, binary, conditional, Definition, Ad, size}
use Rattle.syntax.specs.Token.{word, constant, operator, symbol, Tokens, next, end, bad, front_of, reserved, word_in, name_front, value_from, fraction_of, integer_front, real_front, number_front, escape_of, body_of, spellings, begins, symbol_in, front_token, tokens_from, tokens}
use Rattle.syntax.specs.Grammar.{defined}
use Rattle.syntax.specs.Reader.{Answer, accepted, denied, Limits, conditional_at, count, definitions_at, ad_at, parse, read}
use Rattle.syntax.specs.Print.{digits, last_digits, escaped, escaped_all, literal_text, binary_text, unary_text, binds, reference_text, printed, definitions_text, printed_ad, level_of}
use Rattle.syntax.specs.declared.Binary.TheVariants.{Or, And, Equal, Is, Isnt, Less, Add, Subtract, Multiply}
use Rattle.syntax.specs.declared.Unary.TheVariants.{Not, Minus}
use Rattle.syntax.specs.declared.Symbol.TheVariants.{Assign, Question, Exclamation, Point, Parent}

-- ---- tokens

-- a text and the tokens that it gives: a line of `scans`
pub record Scan : Type 0 where
  pub text : List ℕ
  pub gives : Tokens

-- the tokens of document 01: longest token, places, refusals 3, 5 and 7: 'Longest token wins.'; 'its first byte is the place'
unfoldable pub scans : List Scan
scans =
    -- '`1.` is Integer, then a point.'
    record { text = bytes "1."; gives = next 0 (constant (integer 1)) (next 1 (symbol Point) (end 2)) }
    ∷ record { text = bytes "007.50"; gives = next 0 (constant (real 750 2)) (end 6) }
    ∷ record { text = bytes "12abc"; gives = next 0 (constant (integer 12)) (next 2 (word (bytes "abc")) (end 5)) }
    -- 'Longest token wins.'
    ∷ record { text = bytes "a=?=b"; gives = next 0 (word (bytes "a")) (next 1 (operator Is) (next 4 (word (bytes "b")) (end 5))) }
    ∷ record { text = bytes "=!= =!x =?x"; gives = next 0 (operator Isnt) (next 4 (symbol Assign) (next 5 (symbol Exclamation) (next 6 (word (bytes "x")) (next 8 (symbol Assign) (next 9 (symbol Question) (next 10 (word (bytes "x")) (end 11))))))) }
    ∷ record { text = bytes "TRUE Parent iSnT isn"; gives = next 0 (constant (boolean true)) (next 5 (symbol Parent) (next 12 (operator Isnt) (next 17 (word (bytes "isn")) (end 20)))) }
    ∷ record { text = bytes "\"a\\n\\\"\\\\\" "; gives = next 0 (constant (string (bytes "a\n\"\\"))) (end 10) }
    -- refusal 3: no token starts here, a bad byte, a bad escape, a string not closed
    ∷ record { text = bytes " & "; gives = bad 3 1 }
    ∷ record { text = bytes "\"a\tb\""; gives = bad 3 0 }
    ∷ record { text = bytes " \"\\r\""; gives = bad 3 1 }
    ∷ record { text = bytes "\"abc"; gives = bad 3 0 }
    -- refusals 7 and 5, each at its edge; a string both bad and too long is 3
    ∷ record { text = replicate 64 97; gives = next 0 (word (replicate 64 97)) (end 64) }
    ∷ record { text = replicate 65 97; gives = bad 7 0 }
    ∷ record { text = bytes "2147483647 2147483648"; gives = next 0 (constant (integer 2147483647)) (bad 5 11) }
    ∷ record { text = bytes "00000000000000000001"; gives = next 0 (constant (integer 1)) (end 20) }
    ∷ record { text = bytes "0.12345678901234 00.12345678901234"; gives = next 0 (constant (real 12345678901234 14)) (bad 5 17) }
    ∷ record { text = bytes "\"" ++ replicate 1025 97 ++ bytes "\""; gives = bad 7 0 }
    ∷ record { text = bytes "\"" ++ replicate 1025 97; gives = bad 3 0 }
    ∷ []

-- EACH TEXT OF THE TABLE GIVES ITS TOKENS
scanned : map (λ (s : Scan). tokens s.text) scans ≡ map (λ (s : Scan). s.gives) scans
unfolding scans tokens_from front_token name_front word_in reserved number_front integer_front real_front fraction_of value_from body_of escape_of front_of symbol_in begins spellings bytes is_blank is_digit is_letter starts_name continues_name lower_case same_name same_bytes
scanned = refl

-- ---- reading

-- a text and what reading it answers: a line of `readings`
pub record Reading : Type 0 where
  pub text : List ℕ
  pub gives : Answer

-- '`name = expression`'
abbrev define : List ℕ → Expr → Definition
define w e = record { name = w; expression = e }

-- an Integer's literal: 'Integer: digits'
abbrev whole : ℕ → Expr
whole n = literal (integer n)

-- 'Reference: `name`'
abbrev name : List ℕ → Expr
name w = reference own w

-- the ad of the example '`[ A=(1+2)+3 ;B=--A; ]` prints `[A = 1 + 2 + 3; B = --A]`'
unfoldable pub printing_example : Ad
printing_example =
    define (bytes "A") (binary Add (binary Add (whole 1) (whole 2)) (whole 3))
    ∷ define (bytes "B") (unary Minus (unary Minus (name (bytes "A"))))
    ∷ []

-- the answers of document 01: grammar, levels, refusals 3, 4, 6 and 8 with their places: 'the first token that breaks a rule
-- decides, its first byte is the place'
unfoldable pub readings : List Reading
readings =
    record { text = bytes "[]"; gives = accepted [] }
    ∷ record { text = bytes "[;]"; gives = denied 4 1 }
    ∷ record { text = []; gives = denied 4 0 }
    ∷ record { text = bytes " [ A=(1+2)+3 ;B=--A; ] "; gives = accepted printing_example }
    ∷ record { text = bytes "[a=1;;]"; gives = denied 4 5 }
    ∷ record { text = bytes "[] []"; gives = denied 4 3 }
    ∷ record { text = bytes "[a = 1"; gives = denied 4 6 }
    ∷ record { text = bytes "[a = 1  "; gives = denied 4 8 }
    -- levels: 64 are accepted, and level 65 is refused at its `(`, unary operator or `?`
    ∷ record { text = bytes "[a=" ++ replicate 65 40; gives = denied 6 67 }
    ∷ record { text = bytes "[a=" ++ replicate 64 40 ++ bytes "1" ++ replicate 64 41 ++ bytes "]"; gives = accepted (define (bytes "a") (whole 1) ∷ []) }
    ∷ record { text = bytes "[a=" ++ replicate 64 33 ++ bytes "(1)]"; gives = denied 6 67 }
    ∷ record { text = bytes "[a=" ++ replicate 64 40 ++ bytes "1?2"; gives = denied 6 68 }
    ∷ record { text = bytes "[a=" ++ replicate 64 33 ++ bytes "-1]"; gives = denied 6 67 }
    -- both spellings
    ∷ record { text = bytes "[a = b =?= c; d = b =!= c]"; gives = accepted (define (bytes "a") (binary Is (name (bytes "b")) (name (bytes "c"))) ∷ define (bytes "d") (binary Isnt (name (bytes "b")) (name (bytes "c"))) ∷ []) }
    ∷ record { text = bytes "[a = 1.]"; gives = denied 4 6 }
    -- 'Names match without regard to ASCII case', and the first token that breaks a rule decides
    ∷ record { text = bytes "[Abc = 1; aBC 2"; gives = denied 8 10 }
    ∷ record { text = bytes "[a = \"x; b = 2]"; gives = denied 3 5 }
    ∷ record { text = bytes "[a = 12abc]"; gives = denied 4 7 }
    ∷ record { text = bytes "[a = other]"; gives = denied 4 10 }
    ∷ record { text = bytes "[a = other"; gives = denied 4 10 }
    ∷ record { text = bytes "[a = other . b]"; gives = accepted (define (bytes "a") (reference other (bytes "b")) ∷ []) }
    ∷ record { text = bytes "[a = parent.b]"; gives = denied 4 5 }
    ∷ record { text = bytes "[is = 1]"; gives = denied 4 1 }
    ∷ record { text = bytes "[a = \"x\" \"y\"]"; gives = denied 4 9 }
    -- binding and grouping
    ∷ record { text = bytes "[a = x || y && !z == 1 < 2 - 3 * 4]"; gives = accepted (define (bytes "a") (binary Or (name (bytes "x")) (binary And (name (bytes "y")) (binary Equal (unary Not (name (bytes "z"))) (binary Less (whole 1) (binary Subtract (whole 2) (binary Multiply (whole 3) (whole 4))))))) ∷ []) }
    ∷ record { text = bytes "[a = x ? 1 : y ? 2 : 3]"; gives = accepted (define (bytes "a") (conditional (name (bytes "x")) (whole 1) (conditional (name (bytes "y")) (whole 2) (whole 3))) ∷ []) }
    ∷ []

-- EACH TEXT OF THE TABLE READS AS ITS ANSWER
read_as : map (λ (r : Reading). read r.text) readings ≡ map (λ (r : Reading). r.gives) readings
unfolding readings printing_example read parse ad_at definitions_at conditional_at count size defined tokens_from front_token name_front word_in reserved number_front integer_front real_front fraction_of value_from body_of escape_of front_of symbol_in begins spellings bytes is_blank is_digit is_letter starts_name continues_name lower_case same_name same_bytes
read_as = refl

-- ---- reading within small limits

-- a text, limits in place of document 01's, and what reading the text within them answers
pub record LimitedReading : Type 0 where
  pub text : List ℕ
  pub limits : Limits
  pub gives : Answer

-- limits on levels, nodes and definitions
abbrev small : ℕ → ℕ → ℕ → Limits
small levels nodes definitions = record { most_levels = levels; most_nodes = nodes; most_definitions = definitions; taken = defined }

-- '257th definition or 1,025th node', and two rules broken at one token: 'At one token the order is 3, 7, 5, 4, 6, 8, 9.'
unfoldable pub limited_readings : List LimitedReading
limited_readings =
    -- 'Each is itself accepted; one more is refused.'
    record { text = bytes "[a = 1 + 2]"; limits = small 0 3 1; gives = accepted (define (bytes "a") (binary Add (whole 1) (whole 2)) ∷ []) }
    -- 'Nodes are counted in text order: each literal, each reference .., each operator': the operator before its second operand
    ∷ record { text = bytes "[a = 1 + 2]"; limits = small 0 2 1; gives = denied 9 9 }
    ∷ record { text = bytes "[a = 1 + 2]"; limits = small 0 1 1; gives = denied 9 7 }
    ∷ record { text = bytes "[a = 1 + 2]"; limits = small 0 0 1; gives = denied 9 5 }
    ∷ record { text = bytes "[a = b]"; limits = small 0 0 1; gives = denied 9 5 }
    -- a unary operator
    ∷ record { text = bytes "[a = 1 + !b]"; limits = small 1 2 1; gives = denied 9 9 }
    -- '(at `other` where it has one)', whatever follows it
    ∷ record { text = bytes "[a = 1 + other.b]"; limits = small 0 2 1; gives = denied 9 9 }
    ∷ record { text = bytes "[a = other]"; limits = small 0 0 1; gives = denied 9 5 }
    ∷ record { text = bytes "[a = other.b]"; limits = small 0 1 1; gives = accepted (define (bytes "a") (reference other (bytes "b")) ∷ []) }
    -- '(a conditional at its `?`)'
    ∷ record { text = bytes "[a = b ? c : d]"; limits = small 1 1 1; gives = denied 9 7 }
    ∷ record { text = bytes "[a = b ? c : d]"; limits = small 1 3 1; gives = denied 9 13 }
    -- an expression in parentheses 'leaves no node'
    ∷ record { text = bytes "[a = (1)]"; limits = small 1 1 1; gives = accepted (define (bytes "a") (whole 1) ∷ []) }
    -- 'a definition at its name'
    ∷ record { text = bytes "[a = 1; b 2"; limits = small 0 2 1; gives = denied 9 8 }
    -- 6 before 9
    ∷ record { text = bytes "[a = -1]"; limits = small 0 0 1; gives = denied 6 5 }
    ∷ record { text = bytes "[a = b ? c : d]"; limits = small 0 1 1; gives = denied 6 7 }
    -- 8 before 9
    ∷ record { text = bytes "[a = 1; A = 2]"; limits = small 0 2 1; gives = denied 8 8 }
    -- 4 before 6 and 9
    ∷ record { text = bytes "[a = 1 (2)]"; limits = small 0 1 1; gives = denied 4 7 }
    ∷ record { text = bytes "[a = 1 !2]"; limits = small 0 1 1; gives = denied 4 7 }
    ∷ record { text = bytes "[a = 1 2]"; limits = small 0 1 1; gives = denied 4 7 }
    -- 3, 7 and 5 before 4 and 9
    ∷ record { text = bytes "[a = 1 $]"; limits = small 0 1 1; gives = denied 3 7 }
    ∷ record { text = bytes "[a = \"b]"; limits = small 0 0 1; gives = denied 3 5 }
    ∷ record { text = bytes "[a = 1 " ++ replicate 65 98; limits = small 0 1 1; gives = denied 7 7 }
    ∷ record { text = bytes "[a = 1; " ++ replicate 65 98; limits = small 0 1 1; gives = denied 7 8 }
    ∷ record { text = bytes "[a = 1 2147483648]"; limits = small 0 1 1; gives = denied 5 7 }
    ∷ record { text = bytes "[a = 2147483648]"; limits = small 0 0 1; gives = denied 5 5 }
    ∷ []

-- WITHIN ITS LIMITS EACH TEXT OF THE TABLE READS AS ITS ANSWER
limited_read_as : map (λ (r : LimitedReading). ad_at r.limits (tokens r.text)) limited_readings ≡ map (λ (r : LimitedReading). r.gives) limited_readings
unfolding limited_readings ad_at definitions_at conditional_at count size defined tokens_from front_token name_front word_in reserved number_front integer_front real_front fraction_of value_from body_of escape_of front_of symbol_in begins spellings bytes is_blank is_digit is_letter starts_name continues_name lower_case same_name same_bytes
limited_read_as = refl

-- ---- printing

-- a tree and its text: a line of `printings`
pub record Printing : Type 0 where
  pub tree : Ad
  pub gives : List ℕ

-- the texts of document 01: parentheses, numbers, keywords, escapes: 'keywords in lower case'; 'Parentheses only where the tree
-- would otherwise read differently. Numbers without idle leading zeros'
unfoldable pub printings : List Printing
printings =
    record { tree = []; gives = bytes "[]" }
    -- document 01's example
    ∷ record { tree = printing_example; gives = bytes "[A = 1 + 2 + 3; B = --A]" }
    ∷ record { tree = define (bytes "a") (binary Multiply (binary Add (whole 1) (whole 2)) (binary Multiply (whole 3) (whole 40))) ∷ []; gives = bytes "[a = (1 + 2) * (3 * 40)]" }
    ∷ record { tree = define (bytes "a") (conditional (conditional (name (bytes "x")) (whole 0) (whole 1)) (binary Is (literal undefined) (literal error)) (conditional (literal (boolean true)) (whole 2) (whole 3))) ∷ []; gives = bytes "[a = (x ? 0 : 1) ? undefined is error : true ? 2 : 3]" }
    ∷ record { tree = define (bytes "a") (unary Not (binary Less (reference other (bytes "w")) (literal (real 5 3)))) ∷ []; gives = bytes "[a = !(other.w < 0.005)]" }
    ∷ record { tree = define (bytes "a") (literal (string (bytes "a\n\t\"\\"))) ∷ []; gives = bytes "[a = \"a\\n\\t\\\"\\\\\"]" }
    ∷ []

-- EACH TREE OF THE TABLE PRINTS AS ITS TEXT
printed_as : map (λ (p : Printing). printed_ad p.tree) printings ≡ map (λ (p : Printing). p.gives) printings
unfolding printings printing_example printed_ad definitions_text printed reference_text binds unary_text binary_text literal_text escaped_all escaped last_digits digits bytes
printed_as = refl

-- a sum of n + 1 terms
unfoldable sum : ℕ → Expr
sum zero = whole 1
sum (suc n) = binary Add (sum n) (whole 1)

-- 'Printing every operator in parentheses: a sum of 100 terms reads back as refusal 6': here it has no level
sum_is_flat : level_of (sum 99) ≡ 0
unfolding sum level_of binds
sum_is_flat = refl
