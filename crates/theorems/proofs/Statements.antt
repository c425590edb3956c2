-- WHAT IS PROMISED, ON ONE PAGE, in the order of document 01. Each statement is proved by citation of a law that stands elsewhere. The
-- calls appear by their contracts: `Answered` for `read`, `Answers` for `check`, `Prints` for `print`, `HandsBack` for `text`, `Matched`
-- for `match_ads`, `Ordered` for `order_ads`. Words and bytes are an ad's lent memory, ₁ is the first ad and ₂ the second, `old` is what
-- memory held before a call, and ' is what it holds after. `read` and `parse` are document 01's reading as a function, with the bound on
-- the text's length and without. Assumes nothing.
use Rattle.std.specs.Prelude.{ℕ, suc, ◌+◌, ◌-◌, ◌*◌, ◌^◌, ◌≤◌, ◌<◌, min, ◌≡◌, refl, ◌↔◌, ◌⊎◌, ◌≢◌, Bool, true, false, cond, ◌&&◌, ◌||◌, Option, Some, None, Result, Ok, length, get_or, take, drop, replicate, T, ltb, pos, nat_abs, Float}
use Rattle.std.proofs.Common.{ap, ◌∙◌}
use mathlib.Core.List.{List, [], ◌∷◌, ◌++◌, map, Memᴰ}
use Rattle.std.specs.Float.{Format, binary64}
use Rattle.std.specs.Float.Ieee.{round, fits}
use Rattle.text.specs.Bytes.{bytes as ascii}
use Rattle.syntax.specs.Bounds.{max_integer}
use Rattle.syntax.specs.Tree.{Scope, Expr, reference, Ad, nodes}
use Rattle.syntax.specs.Token.{Token, good, Spelling, spellings, begins, front_token, tokens}
use Rattle.syntax.specs.Grammar.{IsAd, Within, Whole}
use Rattle.syntax.specs.Reader.{accepted, parse, read}
use Rattle.syntax.specs.Print.{printed_ad}
use Rattle.syntax.proofs.Laws.Accepts as grammar
use Rattle.syntax.proofs.Laws.Longest as longest
use Rattle.ad.specs.Layout.{ad_bytes, ad_words, ad_bytes_room, stored_words, stored_bytes}
use Rattle.grammar.specs.Refusal.{Refused}
use Rattle.well_formed.specs.Laws.Named as content
use Rattle.round_trip.specs.Bounded.{Bounded}
use Rattle.round_trip.specs.WithoutPair.{DefinitionsWithoutPair, in_brackets}
use Rattle.round_trip.proofs.Laws.Readable as readable
use Rattle.round_trip.proofs.Laws.WithoutPair as parentheses
use Rattle.well_formed.specs.WellFormed.{Holds, Answers}
use Rattle.well_formed.specs.Laws.Bounds as bounds
use Rattle.well_formed.specs.declared.Checked.{Checked}
use Rattle.ad.specs.declared.Counts.{Counts}
use Rattle.syntax.specs.declared.Refusal.{Refusal}
use Rattle.reader.specs.Content.{answer, words_after, bytes_after, Answered}
use Rattle.printer.specs.Prints.{Roomy, Prints, HandsBack}
use Rattle.integers.specs.Integers.{width, signed}
use Rattle.rounding.specs.Nearest.{Nearest}
use Rattle.rounding.specs.Exact.{negative}
use Rattle.rounding.proofs.Laws.Unique as rounding
use Rattle.reals.specs.Reals.{literal_real, integer_real}
use Rattle.reals.specs.Laws.Nearest as reals
use Rattle.values.specs.declared.Value.{Value}
use Rattle.values.specs.declared.Value.TheVariants.{Undefined, Error, Boolean}
use Rattle.operands.specs.Strict.{is_undefined, is_number, is_string, every, some}
use Rattle.arithmetic.specs.declared.Arithmetic.{Arithmetic}
use Rattle.arithmetic.specs.Arithmetic.{reals_result, numbers_result, arithmetic_value}
use Rattle.arithmetic.specs.Exact.{Exact, exact_sign, exact_num, exact_den}
use Rattle.arithmetic.specs.Laws.Nearest as arithmetic
use Rattle.comparison.specs.declared.Comparison.{Comparison}
use Rattle.comparison.specs.Comparison.{compares, comparison_value}
use Rattle.operators.specs.Expressions.{value_of}
use Rattle.operators.specs.Examples.{Example, memory, edges}
use Rattle.operators.proofs.Worked as operators
use Rattle.slots.specs.declared.Slot.TheVariants.{Blank, Held}
use Rattle.slots.specs.Packed.{slot_at}
use Rattle.nodes.specs.Laws.Integers as integers
use Rattle.graph.specs.Members.{◌∈◌, Distinct, raised}
use Rattle.graph.specs.Graph.{Graph, Circular, Flags, needs, Entered, IsList}
use Rattle.graph.specs.Transition as moves
use Rattle.graph.specs.Transition.{State, transition, transitions, Ended}
use Rattle.graph.proofs.Laws.Locality.{Alike, local}
use Rattle.graph.proofs.Laws.Touch.{Touch, one_touch}
use Rattle.links.specs.Pair.{numbered, requirements, rank, pair_graph}
use Rattle.links.specs.Inner.Asked.{Formed}
use Rattle.dependency.specs.Traversal.{Traversed}
use Rattle.valuation.specs.Gives.{Gives}
use Rattle.evaluation.specs.Evaluation.{rule_at, seen, needed, entries, Stepped, RunTo}
use Rattle.verdict.specs.Verdict.{is_true, rank_of}
use Rattle.matching.specs.Matching.{Match, small, Matched}
use Rattle.admission.specs.Admission.{Well}
use Rattle.matching.proofs.Laws.Exchange.{Exchanged}
use Rattle.matching.proofs.Laws.OneAnswer as matching
use Rattle.matching.proofs.Laws.Running as running
use Rattle.matching.specs.declared.Outcome.{Outcome}
use Rattle.matching.specs.declared.Outcome.TheVariants as outcome
use Rattle.ordering.specs.Ordering.{Ordered}
use Rattle.ordering.specs.declared.Order.{Order}
use Rattle.worked.specs.Table.{table as examples, fault}
use Rattle.acceptance.proofs.Acceptance as acceptance
use Rattle.trees.specs.Nodes.{last_of}
use Rattle.trees.specs.Links.{tree_graph}
use Rattle.trees.specs.Values.{ad_of, Returns, Means, Same, Worths, Part, FromLiteral}
use Rattle.trees.proofs.Theorems as trees
use Rattle.theorems.specs.Refusing.{RefusedWith}
use Rattle.theorems.specs.Listing.{steps_of, count_of}
use Rattle.text_theorems.specs.Reading as readings
use Rattle.theorems.proofs.Texts as texts
use Rattle.theorems.proofs.Shown.{AllShow}
use Rattle.theorems.proofs.Texts.{worked_shown, fault_shown}
use Rattle.theorems.proofs.Exchanging as exchanging
use Rattle.theorems.proofs.Exchanged as exchanged
use Rattle.theorems.specs.Exchanging.{Turns, short}
use Rattle.text_theorems.specs.Printing as printing
use Rattle.theorems.proofs.Answering as answering
use Rattle.theorems.proofs.Continuing as continuing
use Rattle.theorems.proofs.Fronts as fronts
use Rattle.theorems.proofs.Laws.Calls as calls

-- ==== What an ad is here

-- A text reads as a tree exactly if it has at most 16,384 bytes, its tokens are an ad of the grammar with this tree, and the tree keeps
-- the bounds: '256 definitions; 1,024 nodes', no 'name defined twice'. Level 64 is in `IsAd`; the bounds of names, strings and numbers
-- are in `tokens`.
pub text_reads_as : (text : List ℕ) (tree : Ad) → (read text ≡ accepted tree) ↔ ((length text ≤ 16384) × (ts : List Token) × Whole (tokens text) ts × IsAd ts tree × Within tree)
text_reads_as = calls.read_accepts

-- A text has one tree: whatever way one finds through the grammar.
pub text_has_one_tree : (text : List ℕ) (ts ts' : List Token) (tree tree' : Ad) → Whole (tokens text) ts → Whole (tokens text) ts' → IsAd ts tree → IsAd ts' tree' → Within tree → Within tree' →
    tree ≡ tree'
text_has_one_tree = grammar.one_tree

-- 'Longest token wins.' Whatever token is taken in front of a text, no symbol that begins the text is longer.
pub longest_token_wins : (byte : ℕ) (rest : List ℕ) (token : Token) (taken : ℕ) → front_token byte rest ≡ good token taken →
    (symbol : Spelling) → Memᴰ symbol spellings → begins symbol.text (byte ∷ rest) ≡ true → length symbol.text ≤ taken
longest_token_wins = longest.longest_token

-- ==== Reading, and the numbers of refusal

-- A text that reads as a tree is accepted by `read` where there is room, with its counts, and its tree is left in front. 'Unused room is
-- zero after acceptance'; 'Memory lent beyond these sizes is never changed.'
pub read_accepts : {text old_words old_bytes words' bytes' : List ℕ} {answer : Result Counts Refusal} {tree : Ad} → Roomy old_words old_bytes → read text ≡ accepted tree → Answered text old_words old_bytes words' bytes' answer →
    (answer ≡ Ok (record { definitions = length tree; nodes = nodes tree })) × (words' ≡ stored_words tree ++ drop ad_words old_words) × (bytes' ≡ stored_bytes tree ++ drop ad_bytes_room old_bytes)
read_accepts {tree = tree} room reads call = let x = readings.read_answered tree room reads call in (x.answers, x.words, x.bytes)

-- And nothing else is accepted: a text that `read` accepts reads as a tree, which is left in front.
pub read_accepts_only : {text old_words old_bytes words' bytes' : List ℕ} {counts : Counts} → Answered text old_words old_bytes words' bytes' (Ok counts) →
    (tree : Ad) × (read text ≡ accepted tree) × (counts ≡ record { definitions = length tree; nodes = nodes tree }) ×
    (words' ≡ stored_words tree ++ drop ad_words old_words) × (bytes' ≡ stored_bytes tree ++ drop ad_bytes_room old_bytes)
read_accepts_only {counts = counts} call =
    let x = readings.accepted_tree call in
    let e : ◌≡◌ {A = Result Counts Refusal} (Ok counts) (Ok (record { definitions = length x.0; nodes = nodes x.0 })) = x.1.answers in
    (x.0, x.1.reads, cc, x.1.words, x.1.bytes)

-- a call of `read`, whatever text and memory it is lent
module _ {text old_words old_bytes words' bytes' : List ℕ} {result : Result Counts Refusal} (call : Answered text old_words old_bytes words' bytes' result) where
  -- 'A refusal carries its number and a place ..; the first token that breaks a rule decides, its first byte is the place ... At one token
  -- the order is 3, 7, 5, 4, 6, 8, 9.' Where there is room, `read` refuses with a number at a place exactly if document 01 says so, which
  -- `Refused` says over the text's tokens, with no reader in it.
  pub read_refuses : Roomy old_words old_bytes → (number place : ℕ) → RefusedWith result number place ↔ Refused text number place
  read_refuses = calls.answered_refusal call

  -- Refusal 1: 'lent room smaller than above', 'all unchanged'.
  pub read_without_room : ¬ (Roomy old_words old_bytes) → RefusedWith result 1 0 × (words' ≡ old_words) × (bytes' ≡ old_bytes)
  read_without_room = calls.small_leaves call

  -- Refusal 2: 'text over 16,384 bytes', 'all unchanged'.
  pub read_too_long : Roomy old_words old_bytes → 16384 < length text → RefusedWith result 2 0 × (words' ≡ old_words) × (bytes' ≡ old_bytes)
  read_too_long = calls.long_leaves call

  -- Every other refusal leaves 'ad memory zero', and what is lent beyond the room as it was.
  pub read_refused_leaves : Roomy old_words old_bytes → length text ≤ 16384 → (number place : ℕ) → RefusedWith result number place →
      (words' ≡ replicate ad_words 0 ++ drop ad_words old_words) × (bytes' ≡ replicate ad_bytes_room 0 ++ drop ad_bytes_room old_bytes)
  read_refused_leaves = calls.refused_leaves call

-- `read` has one answer and leaves one content, whatever text and memory it is lent.
pub read_is_one : (text old_words old_bytes : List ℕ) → (words' bytes' : List ℕ) × (result : Result Counts Refusal) × Answered text old_words old_bytes words' bytes' result ×
    ((words'' bytes'' : List ℕ) (other : Result Counts Refusal) → Answered text old_words old_bytes words'' bytes'' other → (other ≡ result) × (words'' ≡ words') × (bytes'' ≡ bytes'))
read_is_one text old_words old_bytes =
    let here : Answered text old_words old_bytes (words_after text old_words old_bytes) (bytes_after text old_words old_bytes) (answer text old_words old_bytes) = record { answers = refl; words = refl; bytes = refl } in
    (_, _, _, here, λ words'' bytes'' other call. readings.read_one call here)

-- ==== Stored ads, and their check

-- 'equal trees have equal content', and equal content means equal trees: of any two accepted texts.
pub equal_content_equal_tree : (text text' : List ℕ) (tree tree' : Ad) → parse text ≡ accepted tree → parse text' ≡ accepted tree' →
    stored_words tree ≡ stored_words tree' → stored_bytes tree ≡ stored_bytes tree' → tree ≡ tree'
equal_content_equal_tree = content.accepted_content

-- 'a stored ad is well formed exactly if reading some text, were its length not bounded, would leave exactly this content, zeros included':
-- `check` says nothing exactly if there is no such text.
pub check_refuses : (words bytes : List ℕ) → Answers words bytes None ↔
    ¬ ((text : List ℕ) × (tree : Ad) × (parse text ≡ accepted tree) × (length (ad_bytes tree) ≤ 16384) × (take ad_words words ≡ stored_words tree) × (take ad_bytes_room bytes ≡ stored_bytes tree))
check_refuses words bytes = (
  (λ none x. none x.1 (record { text = x.0; reads = x.2; fits = x.3; words = x.4; bytes = x.5 })),
  λ none tree held. none (held.text, tree, held.reads, held.fits, held.words, held.bytes),
)

-- That comes to keeping 'the bounds above, levels of its printed text included, text length not'.
pub well_formed_is_bounded : {words bytes : List ℕ} {tree : Ad} → Holds words bytes tree ↔ (Bounded tree × (length (ad_bytes tree) ≤ 16384) × (words ≡ stored_words tree) × (bytes ≡ stored_bytes tree))
well_formed_is_bounded = ((λ held. (bounds.bounded held, held.fits, held.words, held.bytes)), λ x. bounds.holds x.0 x.1 x.2 x.3)

-- `check` has one answer, whatever numbers it is lent.
pub check_is_one : (words bytes : List ℕ) → (result : Option Checked) × Answers words bytes result × ((other : Option Checked) → Answers words bytes other → other ≡ result)
check_is_one words bytes = let x = answering.check_exists words bytes in (x.0, x.1, λ other call. printing.check_one words bytes other x.0 call x.1)

-- What `read` accepts and leaves, `check` passes, with the same counts.
pub read_then_check : {text old_words old_bytes words' bytes' : List ℕ} {counts : Counts} → Answered text old_words old_bytes words' bytes' (Ok counts) →
    (printed_length : ℕ) × Answers words' bytes' (Some (record { counts = counts; print_length = printed_length }))
read_then_check = calls.read_then_check

-- ==== Printing

-- A printed ad reads back as the same tree: what `print` wrote, `read` accepts, in any memory with room, and it leaves the words and bytes
-- that were printed.
pub print_then_read : (words bytes : List ℕ) {output output' old_words old_bytes words' bytes' : List ℕ} {n : ℕ} {answer : Result Counts Refusal} → Prints words bytes output output' (Ok n) → Roomy old_words old_bytes →
    Answered (take n output') old_words old_bytes words' bytes' answer →
    (tree : Ad) × Holds (take ad_words words) (take ad_bytes_room bytes) tree × (answer ≡ Ok (record { definitions = length tree; nodes = nodes tree })) ×
    (words' ≡ take ad_words words ++ drop ad_words old_words) × (bytes' ≡ take ad_bytes_room bytes ++ drop ad_bytes_room old_bytes)
print_then_read words bytes prints room call = let x = printing.print_then_read {w = words} {b = bytes} prints room call in (x.tree, x.stored, x.answers, x.words, x.bytes)

-- 'The text is handed back as the front part of the caller's output': so it is of what `text` hands back, unless that is empty.
pub text_then_read : {words bytes output handed old_words old_bytes words' bytes' : List ℕ} {answer : Result Counts Refusal} → HandsBack words bytes output handed → ¬ (handed ≡ []) → Roomy old_words old_bytes →
    Answered handed old_words old_bytes words' bytes' answer →
    (tree : Ad) × Holds (take ad_words words) (take ad_bytes_room bytes) tree × (answer ≡ Ok (record { definitions = length tree; nodes = nodes tree })) ×
    (words' ≡ take ad_words words ++ drop ad_words old_words) × (bytes' ≡ take ad_bytes_room bytes ++ drop ad_bytes_room old_bytes)
text_then_read hands some room call = let x = printing.text_then_read hands some room call in (x.tree, x.stored, x.answers, x.words, x.bytes)

-- Of trees: the print of a tree that some text reads as reads as this tree, were its length not bounded.
pub print_reads_back : (text : List ℕ) (tree : Ad) → parse text ≡ accepted tree → parse (printed_ad tree) ≡ accepted tree
print_reads_back = readable.accepted_round_trip

-- 'Parentheses only where the tree would otherwise read differently.' The print without any one pair of its parentheses is refused or
-- reads as another tree.
pub no_pair_can_go : (tree : Ad) (definitions : List ℕ) → DefinitionsWithoutPair tree definitions → ¬ (parse (in_brackets definitions) ≡ accepted tree)
no_pair_can_go = parentheses.pair_needed

-- `print` has one answer and leaves one output, whatever it is lent.
pub print_is_one : (words bytes output : List ℕ) → (output' : List ℕ) × (result : Result ℕ Refusal) × Prints words bytes output output' result ×
    ((output'' : List ℕ) (other : Result ℕ Refusal) → Prints words bytes output output'' other → (other ≡ result) × (output'' ≡ output'))
print_is_one words bytes output = let x = answering.print_exists printed_ad words bytes output in (x.0, x.1, x.2, λ output'' other call. printing.print_one words bytes output other x.1 call x.2)

-- `text` hands back one text.
pub text_is_one : (words bytes output : List ℕ) {handed handed' : List ℕ} → HandsBack words bytes output handed → HandsBack words bytes output handed' → handed ≡ handed'
text_is_one = printing.text_one

-- Two ads that are printed and read back, into any memory with room, match as before.
pub print_then_match : {words₁ bytes₁ words₂ bytes₂ output₁ output₁' output₂ output₂' old_words₁ old_bytes₁ old_words₂ old_bytes₂ words₁' bytes₁' words₂' bytes₂' : List ℕ} {n₁ n₂ budget : ℕ} {answer₁ answer₂ : Result Counts Refusal}
    {table list table' list' : List ℕ} {result : Result Outcome Refusal} → Prints words₁ bytes₁ output₁ output₁' (Ok n₁) → Prints words₂ bytes₂ output₂ output₂' (Ok n₂) →
    Roomy old_words₁ old_bytes₁ → Roomy old_words₂ old_bytes₂ → Answered (take n₁ output₁') old_words₁ old_bytes₁ words₁' bytes₁' answer₁ → Answered (take n₂ output₂') old_words₂ old_bytes₂ words₂' bytes₂' answer₂ →
    Matched words₁ bytes₁ words₂ bytes₂ budget table list table' list' result → Matched words₁' bytes₁' words₂' bytes₂' budget table list table' list' result
print_then_match = fronts.printed_matches

-- ==== Values

-- 'Integer: .. 0 to 2,147,483,647': the largest literal is the largest Integer of 32 bits, and a literal's code stands for its number.
pub integer_literals : (max_integer ≡ 2 ^ (width - 1) - 1) × ((n : ℕ) → n ≤ max_integer → signed width n ≡ pos n)
integer_literals = (integers.largest_integer, integers.integer_literal)

-- 'Real operations round once each.' The result of an operation on two finite Reals, with a divisor that is no zero, is the Real nearest
-- to the exact result, ties to even, with overflow and underflow; the exact result is a fraction of whole numbers.
pub reals_round_once : (op : Arithmetic) (x y : Float) → Exact op x y → Nearest binary64 (exact_sign op x y) (exact_num op x y) (exact_den op x y) (reals_result op x y)
reals_round_once = arithmetic.rounds_once

-- And no other Real is nearest: to be nearest is to be what the kit's one rounding gives.
pub nearest_is_one : (format : Format) (minus : Bool) (num den : ℕ) (x : Float) → 0 < den → T (fits format x) → Nearest format minus num den x ↔ (x ≡ round format minus num den)
nearest_is_one = rounding.nearest_is_round

-- 'A real literal is the whole number of its digits divided by the power of ten of its places, one rounding.'
pub real_literal : (digits places : ℕ) → Nearest binary64 false digits (10 ^ places) (literal_real digits places)
real_literal = reals.literal_nearest

-- 'Mixed: the Integer becomes Real first': the nearest Real, of an Integer of any width.
pub integer_to_real : (bits code : ℕ) → Nearest binary64 (negative (signed bits code)) (nat_abs (signed bits code)) 1 (integer_real bits code)
integer_to_real = reals.integer_nearest

-- 'If an operand is neither Undefined nor of an admitted type, or the pair is not admitted: Error. Else if one is Undefined: Undefined.
-- Else the result. Arithmetic admits two numbers'. This is the definition, written out.
pub strict_arithmetic : (op : Arithmetic) (a b : Value) → arithmetic_value op a b ≡
    cond (every (λ v. is_undefined v || is_number v) (a ∷ b ∷ [])) (cond (some is_undefined (a ∷ b ∷ [])) Undefined (cond (is_number a && is_number b) (numbers_result op a b) Error)) Error
strict_arithmetic op a b = refl

-- 'comparison two numbers or two Strings. Booleans are not compared.' This is the definition, written out.
pub strict_comparison : (bytes₁ bytes₂ : List ℕ) (op : Comparison) (a b : Value) → comparison_value bytes₁ bytes₂ op a b ≡
    cond (every (λ v. is_undefined v || (is_number v || is_string v)) (a ∷ b ∷ []))
    (cond (some is_undefined (a ∷ b ∷ [])) Undefined (cond (is_number a && is_number b || is_string a && is_string b) (Boolean (compares bytes₁ bytes₂ op a b)) Error)) Error
strict_comparison bytes₁ bytes₂ op a b = refl

-- The edges of the rules, one table of 40 expressions and their values: wrapping, division by zero, not-a-number, mixed numbers, Strings,
-- Undefined and Error. '-2147483648 / -1 is -2147483648'; '`"x" && false` is Error, `false && "x"` is false'.
pub edges_hold : map (λ (e : Example). value_of memory e.text) edges ≡ map (λ (e : Example). e.gives) edges
edges_hold = operators.edges_hold

-- ==== References and loops

-- two stored ads, and their trees
module _ {words₁ bytes₁ words₂ bytes₂ : List ℕ} {tree₁ tree₂ : Ad} (held₁ : Holds words₁ bytes₁ tree₁) (held₂ : Holds words₂ bytes₂ tree₂) where
  -- 'An operator leads to all its operands, arms not taken included .. A reference leads to its definition.' The links of two stored ads
  -- are those of their trees.
  pub links_of_the_trees : pair_graph words₁ bytes₁ words₂ bytes₂ ≡ tree_graph tree₁ tree₂
  links_of_the_trees = trees.graph_is held₁ held₂

  -- 'A reference that leads, in one or more steps, back to itself is circular': exactly those that return on the trees.
  pub circular_on_the_trees : (side : Bool) (from : ℕ) (scope : Scope) (name : List ℕ) → Part (ad_of tree₁ tree₂ side) from (reference scope name) →
      Circular (pair_graph words₁ bytes₁ words₂ bytes₂) (numbered side from) ↔ Returns tree₁ tree₂ side from scope name
  circular_on_the_trees = trees.returns_is held₁ held₂

  -- 'A node's value is what the rules make of the values of its needs, no table read.' It is the value of the node's expression on the
  -- trees, and the only one: another is the same, or a String of the same bytes.
  pub value_on_the_trees : (circular : ℕ → Bool) → Flags (pair_graph words₁ bytes₁ words₂ bytes₂) circular → (side : Bool) (from : ℕ) (expression : Expr) → Part (ad_of tree₁ tree₂ side) from expression → (value : Value) →
      Gives (needs (pair_graph words₁ bytes₁ words₂ bytes₂) circular) (rule_at words₁ bytes₁ words₂ bytes₂) (numbered side (last_of from expression)) value →
      Means tree₁ tree₂ side from expression value × ((other : Value) → Means tree₁ tree₂ side from expression other → Same (stored_bytes tree₁) (stored_bytes tree₂) value other)
  value_on_the_trees circular flags side from expression part value gives =
      (trees.value_is held₁ held₂ circular flags side from expression part value gives, λ other means. trees.value_only held₁ held₂ circular flags side from expression part value other gives means)

  -- 'String values are literals of either ad; their bytes are shown as a part of that ad's lent memory.'
  pub strings_are_literals : (side : Bool) (from : ℕ) (expression : Expr) → Part (ad_of tree₁ tree₂ side) from expression → (value : Value) → Means tree₁ tree₂ side from expression value → FromLiteral tree₁ tree₂ value
  strings_are_literals = trees.string_is held₁ held₂

-- ==== Step and run

-- 'whatever values, right or wrong, the slots of the node's needs hold, it puts into the node's slot what the rules make of them, and
-- changes no other slot': `Stepped` is the contract of `step`.
pub step_over_any_table : {need : ℕ → List ℕ} {rule : ℕ → List Value → Value} {node : ℕ} {before after : List ℕ} → Stepped need rule node before after → node * 2 + 1 < length before →
    (slot_at after node ≡ Held (rule node (map (λ y. seen (slot_at before y)) (need node)))) × ((other : ℕ) → node ≢ other → slot_at after other ≡ slot_at before other)
step_over_any_table = calls.step_slots

-- 'The run starts at any entry: whatever values, right or wrong, the slots of the first k entries hold, and whatever the others hold, it
-- makes one step for each further entry .., until the budget or the list ends, and counts each.' `RunTo` is the contract of `run`, by the
-- marks that a traversal left; this is by document 01's needs and list.
pub run_from_any_entry : (words₁ bytes₁ words₂ bytes₂ : List ℕ) {count len : ℕ} {target flag list : List ℕ} {circular : ℕ → Bool} {order : List ℕ} {k budget steps : ℕ} {before after : List ℕ} → Formed words₁ → Formed words₂ →
    Traversed (pair_graph words₁ bytes₁ words₂ bytes₂) count len target flag list → Flags (pair_graph words₁ bytes₁ words₂ bytes₂) circular →
    Entered (needs (pair_graph words₁ bytes₁ words₂ bytes₂) circular) [] (pair_graph words₁ bytes₁ words₂ bytes₂).roots order →
    RunTo (needed (pair_graph words₁ bytes₁ words₂ bytes₂) target flag) (rule_at words₁ bytes₁ words₂ bytes₂) (entries len list) k budget before after steps →
    (steps ≡ min budget (length order - k)) ×
    ((node : ℕ) → node ∈ take budget (drop k order) → slot_at after node ≡ Held (rule_at words₁ bytes₁ words₂ bytes₂ node (map (λ y. seen (slot_at after y)) (needs (pair_graph words₁ bytes₁ words₂ bytes₂) circular node)))) ×
    ((node : ℕ) → ¬ (node ∈ take budget (drop k order)) → slot_at after node ≡ slot_at before node)
run_from_any_entry words₁ bytes₁ words₂ bytes₂ f₁ f₂ traversed flags entered run = let x = running.run_from f₁ f₂ traversed flags entered run in (x.run.counts, x.settled.worked, x.settled.others)

-- A run from the entry at which a match stopped leaves the table that a match with both budgets together leaves.
pub match_goes_on : {words₁ bytes₁ words₂ bytes₂ : List ℕ} {i j steps : ℕ} {table list after table₂ list₂ : List ℕ} {result result₂ : Outcome} (m : Match words₁ bytes₁ words₂ bytes₂ i table list result) →
    RunTo (needs (pair_graph words₁ bytes₁ words₂ bytes₂) m.circular) (rule_at words₁ bytes₁ words₂ bytes₂) m.order i j table after steps →
    Match words₁ bytes₁ words₂ bytes₂ (i + j) table₂ list₂ result₂ → table₂ ≡ after
match_goes_on = continuing.match_continued

-- ==== Moves

-- 'Which move comes next, and what it writes, is fixed by the hunt's place, the marks, the list and the one node or link at hand alone, by
-- a rule written once': over two graphs that differ in the links of other nodes only, the move is the same.
pub move_is_local : (G G' : Graph) (state : State) → Alike G G' state.place → transition G' state ≡ transition G state
move_is_local = local

-- A move 'changes, besides its own place, only that node's marks or one entry of the list', whatever the marks hold.
pub move_touches_one : (G : Graph) (state : State) → Touch G state (transition G state)
move_touches_one = one_touch

-- 'From clear marks it ends with exactly the circular references and the list': what `order_ads` shows of two ads that it does not refuse.
-- A flag is 1 for a circular reference and 0 for any other node.
pub circular_and_list_shown : {words₁ bytes₁ words₂ bytes₂ flags list flags' list' : List ℕ} {order : Order} → Ordered words₁ bytes₁ words₂ bytes₂ flags list flags' list' (Ok order) →
    (marks entries : List ℕ) × (flags' ≡ marks ++ drop 2048 flags) × Flags (pair_graph (take ad_words words₁) (take ad_bytes_room bytes₁) (take ad_words words₂) (take ad_bytes_room bytes₂)) (raised marks) × ((node : ℕ) → get_or marks node 0 ≤ 1) ×
    (IsList (pair_graph (take ad_words words₁) (take ad_bytes_room bytes₁) (take ad_words words₂) (take ad_bytes_room bytes₂)) entries) × (order.length ≡ length entries)
circular_and_list_shown call = let x = calls.ordered_found call in (x.0, x.4.order, x.2, x.4.flagged, x.4.bits, (raised x.0, x.4.flagged, x.4.entered), x.4.long)

-- ==== The match, in any memory

-- `match_ads` has one answer and leaves one content, whatever it is lent and with every budget.
pub match_is_one : (words₁ bytes₁ words₂ bytes₂ : List ℕ) (budget : ℕ) (table list : List ℕ) → (table' list' : List ℕ) × (result : Result Outcome Refusal) × Matched words₁ bytes₁ words₂ bytes₂ budget table list table' list' result ×
    ((table'' list'' : List ℕ) (other : Result Outcome Refusal) → Matched words₁ bytes₁ words₂ bytes₂ budget table list table'' list'' other → (other ≡ result) × (table'' ≡ table') × (list'' ≡ list'))
match_is_one words₁ bytes₁ words₂ bytes₂ budget table list =
    let x = answering.matched_exists words₁ bytes₁ words₂ bytes₂ budget table list in
    (x.0, x.1, x.2, x.3, λ table'' list'' other call. let s = matching.matched_one call x.3 in (s.answers, s.tables, s.lists))

-- 'Matching checks 1, then 10 for the first ad, then 10 for the second', place 0, 'all unchanged': it refuses for want of room, or where an
-- ad is not well formed, and for nothing else.
pub match_refuses : {words₁ bytes₁ words₂ bytes₂ : List ℕ} {budget : ℕ} {table list table' list' : List ℕ} {result : Result Outcome Refusal} {number place : ℕ} →
    Matched words₁ bytes₁ words₂ bytes₂ budget table list table' list' result → RefusedWith result number place →
    (((number ≡ 1) × (small words₁ bytes₁ words₂ bytes₂ table list ≡ true)) ⊎ ((number ≡ 10) × (small words₁ bytes₁ words₂ bytes₂ table list ≡ false) × ¬ (Well words₁ bytes₁ × Well words₂ bytes₂))) ×
    (place ≡ 0) × (table' ≡ table) × (list' ≡ list)
match_refuses = calls.match_refuses

-- Two finished matches of the same memory answer the same, whatever the budgets and whatever is lent for table and list.
pub finished_is_one : {words₁ bytes₁ words₂ bytes₂ : List ℕ} {budget budget' : ℕ} {table list table' list' table₂ list₂ table₂' list₂' : List ℕ} {verdict verdict' : Bool} {rank₁ rank₂ steps count rank₁' rank₂' steps' count' : ℕ} →
    Matched words₁ bytes₁ words₂ bytes₂ budget table list table' list' (Ok (outcome.Finished verdict rank₁ rank₂ steps count)) →
    Matched words₁ bytes₁ words₂ bytes₂ budget' table₂ list₂ table₂' list₂' (Ok (outcome.Finished verdict' rank₁' rank₂' steps' count')) →
    outcome.Finished verdict rank₁ rank₂ steps count ≡ outcome.Finished verdict' rank₁' rank₂' steps' count'
finished_is_one {count = count} {count' = count'} m m' = exchanged.matched_finished m m' (count, refl) (count', refl)

-- With the two ads exchanged a finished match keeps its verdict, the ranks change places, and the steps are as many: in any memory, and
-- with any two budgets that finish.
pub exchange : {words₁ bytes₁ words₂ bytes₂ : List ℕ} {budget budget' : ℕ} {table list table' list' table₂ list₂ table₂' list₂' : List ℕ} {verdict verdict' : Bool} {rank₁ rank₂ steps count rank₁' rank₂' steps' count' : ℕ} →
    Matched words₁ bytes₁ words₂ bytes₂ budget table list table' list' (Ok (outcome.Finished verdict rank₁ rank₂ steps count)) →
    Matched words₂ bytes₂ words₁ bytes₁ budget' table₂ list₂ table₂' list₂' (Ok (outcome.Finished verdict' rank₁' rank₂' steps' count')) →
    (verdict' ≡ verdict) × (rank₁' ≡ rank₂) × (rank₂' ≡ rank₁) × (steps' ≡ steps)
exchange {count = count} {count' = count'} m m' = let x = exchanged.matched_exchange_finished m m' (count, refl) (count', refl) in (x.kept, x.first, x.second, x.as_many)

-- With one budget, two matches of the same memory with the ads exchanged are refused alike, or both finished, or both unfinished after as
-- many steps.
pub exchange_in_any_memory : {words₁ bytes₁ words₂ bytes₂ : List ℕ} {budget : ℕ} {table list table' list' table₂ list₂ table₂' list₂' : List ℕ} {result result' : Result Outcome Refusal} → short table list ≡ short table₂ list₂ →
    Matched words₁ bytes₁ words₂ bytes₂ budget table list table' list' result → Matched words₂ bytes₂ words₁ bytes₁ budget table₂ list₂ table₂' list₂' result' → Turns result result'
exchange_in_any_memory = exchanging.matched_exchange

-- ==== The match of two texts

-- two texts that `read` accepted, and a match of what it left, with room for table and list and with any budget
module _ {text₁ text₂ old_words₁ old_bytes₁ old_words₂ old_bytes₂ words₁ bytes₁ words₂ bytes₂ : List ℕ} {counts₁ counts₂ : Counts} {budget : ℕ} {table list table' list' : List ℕ} {result : Result Outcome Refusal}
    (call₁ : Answered text₁ old_words₁ old_bytes₁ words₁ bytes₁ (Ok counts₁)) (call₂ : Answered text₂ old_words₂ old_bytes₂ words₂ bytes₂ (Ok counts₂))
    (table_room : 4096 ≤ length table) (list_room : 2048 ≤ length list) (match : Matched words₁ bytes₁ words₂ bytes₂ budget table list table' list' result) where
  -- 'two ads are accepted where their match is given neither': it is never refused.
  pub texts_not_refused : (number place : ℕ) → ¬ (RefusedWith result number place)
  texts_not_refused number place x = acceptance.read_matches call₁ call₂ table_room list_room match x.told x.answers

  -- 'its end is what these moves, exactly as many as it counts, make one after another of its first place, clear marks and an empty list':
  -- the count in the answer is the first at which the moves are over, and is at most sixteen times the nodes (their square is allowed).
  pub texts_moves : (tree₁ tree₂ : Ad) × (read text₁ ≡ accepted tree₁) × (read text₂ ≡ accepted tree₂) × (outcome : Outcome) × (result ≡ Ok outcome) ×
      Ended (tree_graph tree₁ tree₂) (transitions (tree_graph tree₁ tree₂) (count_of outcome) (moves.first (tree_graph tree₁ tree₂))) ×
      ((fewer : ℕ) → fewer < count_of outcome → ¬ (Ended (tree_graph tree₁ tree₂) (transitions (tree_graph tree₁ tree₂) fewer (moves.first (tree_graph tree₁ tree₂))))) ×
      (count_of outcome ≤ 16 * (counts₁.nodes + counts₂.nodes))
  texts_moves = let x = calls.texts_counted call₁ call₂ table_room list_room match in (x.0, x.1, x.2, x.3, x.4, x.5, x.6.ends, x.6.exact, x.7)

  -- 'After a match the list's room holds the whole list, whatever the budget, then zeros.' It is the list of the trees read; no entry stands
  -- twice, there are no more than the two ads have nodes, and the steps are the smaller of budget and list length.
  pub texts_list : (tree₁ tree₂ : Ad) × (read text₁ ≡ accepted tree₁) × (read text₂ ≡ accepted tree₂) × (order : List ℕ) × IsList (tree_graph tree₁ tree₂) order ×
      (list' ≡ (map suc order ++ replicate (2048 - length order) 0) ++ drop 2048 list) × Distinct order × (length order ≤ counts₁.nodes + counts₂.nodes) ×
      (outcome : Outcome) × (result ≡ Ok outcome) × (steps_of outcome ≡ min budget (length order))
  texts_list = calls.texts_listed call₁ call₂ table_room list_room match

  -- The first entries, as many as the budget, are worked out: the slot of each holds the value of its expression on the trees. 'slots not
  -- worked out are blank, whatever they held before'; 'Memory lent beyond these sizes is never changed.'
  pub texts_table : (tree₁ tree₂ : Ad) × (read text₁ ≡ accepted tree₁) × (read text₂ ≡ accepted tree₂) × (order values : List ℕ) × IsList (tree_graph tree₁ tree₂) order × (table' ≡ values ++ drop 4096 table) ×
      ((node : ℕ) → node ∈ take budget order → (side : Bool) × (from : ℕ) × (expression : Expr) × (value : Value) × Part (ad_of tree₁ tree₂ side) from expression ×
      (node ≡ numbered side (last_of from expression)) × Means tree₁ tree₂ side from expression value × (slot_at values node ≡ Held value)) ×
      ((node : ℕ) → ¬ (node ∈ take budget order) → slot_at values node ≡ Blank)
  texts_table = calls.texts_valued call₁ call₂ table_room list_room match

  -- 'A budget not below the list's length covers it; the match is then finished': so a budget of 2,048 always finishes.
  pub texts_finished : 2048 ≤ budget → (verdict : Bool) × (rank₁ rank₂ steps count : ℕ) × (result ≡ Ok (outcome.Finished verdict rank₁ rank₂ steps count))
  texts_finished enough =
      let list = texts.texts_list call₁ call₂ table_room list_room match in
      let x = list.always enough in
      (x.verdict, x.first_rank, x.second_rank, steps_of list.outcome, count_of list.outcome, list.answers ∙ ap Ok x.answers)

  -- 'Matched: both Requirements are true, nothing else. A rank is the Integer if it is 0 or more, otherwise 0 (also for Real, or no Rank at
  -- all), and stands unmatched too.' Verdict and ranks are those of the trees read; a definition that is missing is Undefined.
  pub texts_verdict : {verdict : Bool} {rank₁ rank₂ steps count : ℕ} → result ≡ Ok (outcome.Finished verdict rank₁ rank₂ steps count) →
      (tree₁ tree₂ : Ad) × (read text₁ ≡ accepted tree₁) × (read text₂ ≡ accepted tree₂) × (required₁ required₂ ranked₁ ranked₂ : Value) ×
      Worths tree₁ tree₂ false requirements required₁ × Worths tree₁ tree₂ true requirements required₂ × Worths tree₁ tree₂ false rank ranked₁ × Worths tree₁ tree₂ true rank ranked₂ ×
      (verdict ≡ (is_true required₁ && is_true required₂)) × (rank₁ ≡ rank_of ranked₁) × (rank₂ ≡ rank_of ranked₂)
  texts_verdict = calls.texts_verdict call₁ call₂ table_room list_room match

  -- With the two ads exchanged, and the same budget, both finish with one verdict and the ranks exchanged, or neither does.
  pub texts_exchange : {table₂ list₂ table₂' list₂' : List ℕ} {result' : Result Outcome Refusal} → 4096 ≤ length table₂ → 2048 ≤ length list₂ →
      Matched words₂ bytes₂ words₁ bytes₁ budget table₂ list₂ table₂' list₂' result' →
      (outcome outcome' : Outcome) × (result ≡ Ok outcome) × (result' ≡ Ok outcome') × Exchanged outcome outcome'
  texts_exchange table_room₂ list_room₂ match₂ = exchanged.accepted_exchange call₁ call₂ table_room list_room table_room₂ list_room₂ match match₂

-- Verdict, ranks, steps and the count of moves are functions of the two texts: the budget decides only whether the match is finished, and
-- the memory decides nothing. '.. answers verdict, both ranks and steps, otherwise the steps done.'
pub texts_answer : {text₁ text₂ : List ℕ} {tree₁ tree₂ : Ad} → read text₁ ≡ accepted tree₁ → read text₂ ≡ accepted tree₂ → (verdict : Bool) × (rank₁ rank₂ steps count : ℕ) ×
    ((old_words₁ old_bytes₁ old_words₂ old_bytes₂ words₁ bytes₁ words₂ bytes₂ : List ℕ) (counts₁ counts₂ : Counts) (budget : ℕ) (table list table' list' : List ℕ) (result : Result Outcome Refusal) →
    Answered text₁ old_words₁ old_bytes₁ words₁ bytes₁ (Ok counts₁) → Answered text₂ old_words₂ old_bytes₂ words₂ bytes₂ (Ok counts₂) →
    4096 ≤ length table → 2048 ≤ length list → Matched words₁ bytes₁ words₂ bytes₂ budget table list table' list' result →
    result ≡ Ok (cond (ltb budget steps) (outcome.Unfinished budget count) (outcome.Finished verdict rank₁ rank₂ steps count)))
texts_answer reads₁ reads₂ =
    let x = texts.texts_answer reads₁ reads₂ in (
      x.verdict,
      x.first_rank,
      x.second_rank,
      x.steps,
      x.count,
      λ _ _ _ _ _ _ _ _ _ _ _ _ _ _ _ _ call₁ call₂ table_room list_room match.
          let m = texts.texts_match call₁ call₂ table_room list_room match in m.1 ∙ ap Ok (x.only m.2),
    )

-- Undefined is no match: a bench that says `!(other.PulseWidth > 50)` does not take a job that came without PulseWidth.
pub missing_pulse_width : {old_words₁ old_bytes₁ old_words₂ old_bytes₂ words₁ bytes₁ words₂ bytes₂ : List ℕ} {answer₁ answer₂ : Result Counts Refusal} {budget : ℕ} {table list table' list' : List ℕ} {result : Result Outcome Refusal} →
    Roomy old_words₁ old_bytes₁ → Roomy old_words₂ old_bytes₂ → Answered (ascii "[Requirements = !(other.PulseWidth > 50)]") old_words₁ old_bytes₁ words₁ bytes₁ answer₁ →
    Answered (ascii "[Requirements = true]") old_words₂ old_bytes₂ words₂ bytes₂ answer₂ → 4096 ≤ length table → 2048 ≤ length list →
    Matched words₁ bytes₁ words₂ bytes₂ budget table list table' list' result → 5 ≤ budget → (count : ℕ) × (result ≡ Ok (outcome.Finished false 0 0 5 count))
unfolding fault
missing_pulse_width room₁ room₂ call₁ call₂ t l m enough = let x = fault_shown.shows room₁ room₂ call₁ call₂ t l m in (_, x.1 ∙ ap Ok (x.2.comes.finishes enough))

-- ==== Examples

-- 'W1 to W12 stand as one statement over one table' (worked/specs/Table.antt): the texts of each row are read into any memory with room and
-- matched with any budget, and values, list, verdict, ranks and steps are as the row says.
pub w1_to_w12 : AllShow examples
w1_to_w12 = worked_shown
