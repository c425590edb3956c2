-- Worked examples of the round trip. Assumes nothing.
use Rattle.std.specs.Prelude.{ℕ, zero, suc, ◌+◌, ◌*◌, ◌≤◌, ◌<◌, ◌≡◌, true, List, [], ◌∷◌, ◌++◌, length, replicate}
use native.Mathlib.Omega.{arith}
use Rattle.std.proofs.Math.Path.{refl}
use Rattle.std.proofs.Common.{◌∙◌}
use Rattle.std.proofs.Math.ListN.{length-append}
use Rattle.text.specs.Bytes.{bytes, is_digit, is_letter, starts_name, continues_name, lower_case}
use Rattle.text.specs.Strings.{same_name, same_bytes}
use Rattle.syntax.specs.Tree.{integer, own, Expr, literal, reference, unary, binary, Ad, size, nodes}
use Rattle.syntax.specs.Token.{Token, operator, constant, reserved, tokens}
use Rattle.syntax.specs.Grammar.{defined, NewAfter, Within}
use Rattle.syntax.specs.Bounds.{text_bytes}
use Rattle.syntax.specs.Reader.{accepted, read, Limits, limits, ad_at}
use Rattle.syntax.proofs.Laws.Accepts.{ad_complete}
use Rattle.syntax.specs.Print.{digits, literal_text, reference_text, binary_text, unary_text, binds, printed, definitions_text, printed_ad, level_of, ad_level}
use Rattle.syntax.specs.declared.Binary.TheVariants.{Add, Multiply}
use Rattle.syntax.specs.declared.Unary.TheVariants.{Minus}
use Rattle.syntax.specs.Inner.Lexeme.{every, is_one_of, is_name, is_literal}
use Rattle.round_trip.specs.Bounded.{is_writable, are_writable, Bounded}
use Rattle.round_trip.specs.WithoutPair.{pair_here, pair_left, DefinitionsWithoutPair, pair_in_last}
use Rattle.round_trip.specs.Printed.{expr_tokens, parentheses}
use Rattle.round_trip.proofs.Laws.Parentheses.{append}
use Rattle.round_trip.proofs.Laws.Derives.{derives}
use Rattle.round_trip.proofs.Laws.Lexing.{printed_tokens}
use Rattle.round_trip.proofs.Laws.RoundTrip.{read_back}

-- an ad with one definition, to print and read back
abbrev only : Expr → Ad
only e = record { name = bytes "a"; expression = e } ∷ []

only_within : (e : Expr) → size e ≤ 1024 → Within (only e)
unfolding nodes NewAfter defined
only_within e h = record { few_definitions = omega arith; few_nodes = omega arith; distinct = (refl, tt) }

name_a : is_name (bytes "a") ≡ true
unfolding is_name every is_one_of reserved bytes is_letter is_digit starts_name continues_name same_name same_bytes lower_case
name_a = refl

only_bounded : (e : Expr) → size e ≤ 1024 → is_writable e ≡ true → level_of e ≤ 64 → Bounded (only e)
only_bounded e h w l = record { within = only_within e h; writable = written; shallow = shallow }
  where
    written : are_writable (only e) ≡ true
    written = unfold are_writable in rw (name_a, w) refl

    shallow : ad_level (only e) ≤ 64
    shallow = unfold ad_level in omega arith

deep : (e : Expr) (n : ℕ) → level_of e ≡ n → 64 < n → Bounded (only e) → ⊥
unfolding ad_level
deep e n h k b = omega (arith, b.shallow)

-- ---- sums

-- a term of the sums
abbrev one : Expr
one = literal (integer 1)

-- a sum of n + 1 terms
unfoldable pub sum : ℕ → Expr
sum zero = one
sum (suc n) = binary Add (sum n) one

sum_size : (n : ℕ) → size (sum n) ≡ n + n + 1
unfolding sum size
sum_size zero = refl
sum_size (suc n) = omega (arith, sum_size n)

sum_written : (n : ℕ) → is_writable (sum n) ≡ true
unfolding sum is_writable is_literal
sum_written zero = refl
sum_written (suc n) = rw (sum_written n) refl

sum_level : (n : ℕ) → level_of (sum n) ≡ 0
unfolding sum level_of binds
sum_level zero = refl
sum_level (suc zero) = refl
sum_level (suc (suc n)) = rw (sum_level (suc n)) refl

term_plain : (ts : List Token) → parentheses ts ≡ 0 → parentheses (ts ++ operator Add ∷ constant (integer 1) ∷ []) ≡ 0
unfolding parentheses
term_plain ts h = omega (arith, append ts (operator Add ∷ constant (integer 1) ∷ []))

-- A SUM PRINTS WITHOUT PARENTHESES, however many terms it has: 'Parentheses only where the tree would otherwise read differently'
pub sum_plain : (n : ℕ) → parentheses (expr_tokens (sum n)) ≡ 0
unfolding sum expr_tokens binds
sum_plain zero = unfold parentheses in refl
sum_plain (suc zero) = unfold parentheses in refl
sum_plain (suc (suc n)) = term_plain (expr_tokens (sum (suc n))) (sum_plain (suc n))

sum_length : (n : ℕ) → length (printed (sum n)) ≡ 4 * n + 1
unfolding sum printed binds literal_text binary_text digits bytes
sum_length zero = refl
sum_length (suc zero) = refl
sum_length (suc (suc n)) = length-append (printed (sum (suc n))) _ ∙ omega (arith, sum_length (suc n))

-- AND READS BACK: up to 512 terms, which are 1,023 nodes; against the slip 'a sum of 100 terms reads back as refusal 6'
pub sum_read_back : (n : ℕ) → n < 512 → read (printed_ad (only (sum n))) ≡ accepted (only (sum n))
sum_read_back n h = read_back (only (sum n)) (only_bounded (sum n) (omega (arith, sum_size n)) (sum_written n) (omega (arith, sum_level n))) fits
  where
    fits : length (printed_ad (only (sum n))) ≤ 16384
    fits = unfold printed_ad definitions_text bytes in omega (arith, length-append (printed (sum n)) (93 ∷ []), sum_length n)

-- document 01's limits, but for '1,024 nodes', in whose place there may be n
abbrev pub with_nodes : ℕ → Limits
with_nodes n = record { most_levels = limits.most_levels; most_nodes = n; most_definitions = limits.most_definitions; taken = limits.taken }

-- A SUM OF ANY LENGTH READS BACK where the bound on nodes is lifted for it: neither levels nor parentheses keep it from that. Against
-- the slip 'a sum of 100 terms reads back as refusal 6'
pub sum_reads_back : (n : ℕ) → ad_at (with_nodes (n + n + 1)) (tokens (printed_ad (only (sum n)))) ≡ accepted (only (sum n))
unfolding nodes NewAfter defined
sum_reads_back n =
    let w : are_writable (only (sum n)) ≡ true = (unfold are_writable in rw (name_a, sum_written n) refl) in
    let l : ad_level (only (sum n)) ≤ 64 = (unfold ad_level in omega (arith, sum_level n)) in
    let t = printed_tokens (only (sum n)) w in
    ad_complete (with_nodes (n + n + 1)) (derives (only (sum n)) l) (tokens (printed_ad (only (sum n)))) t.0 t.1 (omega (arith, sum_size n)) (omega arith) (refl, tt)

-- so of 1,000 terms, whose print is within '16,384 bytes'
pub sum_1000_reads_back : (ad_at (with_nodes 1999) (tokens (printed_ad (only (sum 999)))) ≡ accepted (only (sum 999))) × (length (printed_ad (only (sum 999))) ≤ text_bytes)
sum_1000_reads_back = (sum_reads_back 999, unfold printed_ad definitions_text bytes in omega (arith, length-append (printed (sum 999)) (93 ∷ []), sum_length 999))

-- but document 01's reader does not accept it, as it has 1,999 nodes: '1,024 nodes; .. one more is refused'
pub sum_1000_large : Bounded (only (sum 999)) → ⊥
sum_1000_large h = let k : size (sum 999) + 0 ≤ 1024 = (unfold nodes in h.within.few_nodes) in omega (arith, sum_size 999)

-- ---- levels

-- n operators of one operand before a name
unfoldable pub chain : ℕ → Expr
chain zero = reference own (bytes "a")
chain (suc n) = unary Minus (chain n)

chain_size : (n : ℕ) → size (chain n) ≡ n + 1
unfolding chain size
chain_size zero = refl
chain_size (suc n) = omega (arith, chain_size n)

chain_written : (n : ℕ) → is_writable (chain n) ≡ true
unfolding chain is_writable
chain_written zero = name_a
chain_written (suc n) = chain_written n

chain_level : (n : ℕ) → level_of (chain n) ≡ n
unfolding chain level_of binds
chain_level zero = refl
chain_level (suc zero) = refl
chain_level (suc (suc n)) = omega (arith, chain_level (suc n))

-- A CHAIN OF 64 UNARY OPERATORS PRINTS, with no blank: 'none after a unary one'
pub chain_printed : printed_ad (only (chain 64)) ≡ bytes "[a = " ++ (replicate 64 45 ++ bytes "a]")
unfolding chain printed_ad definitions_text printed binds reference_text unary_text bytes
chain_printed = refl

chain_length : length (printed_ad (only (chain 64))) ≤ 16384
unfolding bytes
chain_length = rw chain_printed (omega arith)

-- AND READS BACK: 'level 64. Each is itself accepted'
pub chain_read_back : read (printed_ad (only (chain 64))) ≡ accepted (only (chain 64))
chain_read_back =
    read_back (only (chain 64)) (only_bounded (chain 64) (omega (arith, chain_size 64)) (chain_written 64) (omega (arith, chain_level 64))) chain_length

-- 'level 64': A CHAIN OF 65 IS THE TREE OF NO TEXT
pub chain_65_deep : Bounded (only (chain 65)) → ⊥
chain_65_deep h = deep (chain 65) 65 (chain_level 65) (omega arith) h

-- a sum of n + 1 terms that groups to the right, each pair in parentheses but the last
unfoldable pub nest : ℕ → Expr
nest zero = one
nest (suc n) = binary Add one (nest n)

nest_level : (n : ℕ) → level_of (nest (suc n)) ≡ n
unfolding nest level_of binds
nest_level zero = refl
nest_level (suc n) = omega (arith, nest_level n)

-- A TREE WHOSE PRINT WOULD REACH LEVEL 65 BY PARENTHESES IS THE TREE OF NO TEXT: 'levels of its printed text included'
pub nest_66_deep : Bounded (only (nest 66)) → ⊥
nest_66_deep h = deep (nest 66) 65 (nest_level 65) (omega arith) h

-- ---- a pair taken away

-- the tree of `(1 + 1) * 1`, whose pair is needed
abbrev product : Expr
product = binary Multiply (binary Add one one) one

-- as printed: 'Parentheses only where the tree would otherwise read differently'
pub product_printed : printed_ad (only product) ≡ bytes "[a = (1 + 1) * 1]"
unfolding printed_ad definitions_text printed binds literal_text binary_text digits bytes
product_printed = refl

-- without its pair: this does not read as the same tree (`pair_needed`)
pub product_without_pair : DefinitionsWithoutPair (only product) (bytes "a = 1 + 1 * 1")
unfolding printed binds literal_text binary_text digits bytes
product_without_pair = let lt : binds (binary Add one one) < 6 = omega arith in pair_in_last (pair_left (pair_here lt))
