-- W1 to W12 hold. Assumes nothing.
use Rattle.std.specs.Prelude.{ℕ, ◌≡◌, refl, true, false, ◌&&◌, Some, List, [], ◌∷◌, negsuc}
use Rattle.std.proofs.Common.{arith}
use Rattle.text.specs.Bytes.{bytes, is_blank, is_digit, is_letter, starts_name, continues_name, lower_case}
use Rattle.text.specs.Strings.{same_name, same_bytes, bytes_order, string_order}
use Rattle.syntax.specs.Tree.{undefined, boolean, integer, real, string, own, other, Expr, literal, reference, unary, binary, Definition, Ad, size, nodes}
use Rattle.syntax.specs.Token.{front_of, reserved, word_in, name_front, value_from, fraction_of, integer_front, real_front, number_front, escape_of, body_of, spellings, begins, symbol_in, front_token, tokens_from}
use Rattle.syntax.specs.Grammar.{defined}
use Rattle.syntax.specs.Reader.{read, parse, accepted, ad_at, definitions_at, conditional_at, count}
use Rattle.syntax.specs.declared.Binary.TheVariants.{Or, And, Equal, Is, Greater, Add, Divide, Remainder}
use Rattle.syntax.specs.declared.Unary.TheVariants.{Not, Minus}
use Rattle.ad.specs.Layout.{Named, literal_node, literal_bytes, scope_kind, expr_nodes, expr_bytes, ad_nodes, ad_bytes, stored_words, stored_bytes}
use Rattle.ad.specs.Stored.{arity, unary_of, binary_of, operands}
use Rattle.links.specs.Pair.{both, definition_at, requirements, rank, StoredAd}
use Rattle.values.specs.declared.Value.{Value}
use Rattle.values.specs.declared.Value.TheVariants.{Undefined, Error, Boolean}
use Rattle.integers.specs.Integers.{wrap, signed}
use Rattle.nodes.specs.Nodes.{value_in}
use Rattle.evaluation.specs.Evaluation.{rule_at}
use Rattle.verdict.specs.Verdict.{is_true, rank_of}
use Rattle.worked.specs.Table as table
use Rattle.worked.specs.Table.{Row, Holds, AllHold, alone, fault}
use Rattle.worked.proofs.Laws.Solving.{try_with, attempt, among, behind, enter_with, enters}
use Rattle.worked.proofs.Laws.Circles.{reached, within, closed_in}
use Rattle.worked.proofs.Laws.Trees.{tree_from, tree_links, tree_refers, tree_root, tree_roots, tree_nodes, up_to, need, circles, all_tried, circles_are, Tries, Lists, comes}

-- 'definitions `name = expression`'
unfoldable defined_as : List ℕ → Expr → Definition
defined_as w e = record { name = w; expression = e }

-- ONE LEMMA FOR EACH ROW: what is tried of two ads, and that the row holds of them
module _ {a e : Ad} (s : StoredAd (stored_words a) (stored_bytes a) a) (t : StoredAd (stored_words e) (stored_bytes e) e) where
  abbrev rule : ℕ → List Value → Value
  rule = rule_at (stored_words a) (stored_bytes a) (stored_words e) (stored_bytes e)

  abbrev needed : ℕ → List ℕ
  needed = need s t (circles s t)

  holds : (r : Row) (p q i j : List Value) → read r.first ≡ accepted a → read r.second ≡ accepted e → (d : all_tried s t (tree_nodes a e) ≡ true) →
      enters needed 16 [] (tree_roots a e) ≡ Some r.order → Tries s t (circles s t) (circles_are s t d) 16 r.gives → Lists s t (circles s t) (circles_are s t d) 16 r.order r.gives →
      attempt needed rule 16 (tree_root false requirements a) ≡ Some p → attempt needed rule 16 (tree_root true requirements e) ≡ Some q →
      attempt needed rule 16 (tree_root false rank a) ≡ Some i → attempt needed rule 16 (tree_root true rank e) ≡ Some j →
      (is_true (value_in p 0) && is_true (value_in q 0)) ≡ r.matched → rank_of (value_in i 0) ≡ r.first_rank → rank_of (value_in j 0) ≡ r.second_rank → Holds r
  holds r p q i j f g d o v l x y z w k m n = record {
    first_ad = a;
    second_ad = e;
    first_read = f;
    second_read = g;
    comes = λ h. comes s t (circles s t) (circles_are s t d) 16
        (record {
          first_requirement = p;
          second_requirement = q;
          first_rank = i;
          second_rank = j;
          order_is = o;
          gives = v;
          listed = l;
          first_required = x;
          second_required = y;
          first_ranked = z;
          second_ranked = w;
          matched_is = k;
          first_rank_is = m;
          second_rank_is = n;
        })
        h;
  }

-- ---- W1 to W10: the second ad asks for x

asks : Ad
asks = defined_as (bytes "Rank") (reference other (bytes "x")) ∷ []

asks_stored : StoredAd (stored_words asks) (stored_bytes asks) asks
unfolding asks defined_as nodes size Named bytes
asks_stored = record { words = refl; bytes_are = refl; few_nodes = omega arith; few_definitions = omega arith; named = (omega arith, tt) }

asks_read : read (bytes "[Rank = other.x]") ≡ accepted asks
unfolding asks defined_as read parse ad_at definitions_at conditional_at count size defined tokens_from front_token name_front word_in reserved number_front integer_front real_front fraction_of value_from body_of escape_of front_of symbol_in begins spellings bytes is_blank is_digit is_letter starts_name continues_name lower_case same_name same_bytes
asks_read = refl

w1_tree : Ad
w1_tree = defined_as (bytes "x") (binary Or (literal undefined) (literal (boolean true))) ∷ []

w1_stored : StoredAd (stored_words w1_tree) (stored_bytes w1_tree) w1_tree
unfolding w1_tree defined_as nodes size Named bytes
w1_stored = record { words = refl; bytes_are = refl; few_nodes = omega arith; few_definitions = omega arith; named = (omega arith, tt) }

w1_read : read (bytes "[x = undefined || true]") ≡ accepted w1_tree
unfolding w1_tree defined_as read parse ad_at definitions_at conditional_at count size defined tokens_from front_token name_front word_in reserved number_front integer_front real_front fraction_of value_from body_of escape_of front_of symbol_in begins spellings bytes is_blank is_digit is_letter starts_name continues_name lower_case same_name same_bytes
w1_read = refl

w1 : Holds (alone (bytes "[x = undefined || true]") (Boolean true) (0 ∷ 1 ∷ 2 ∷ 1024 ∷ []) 0)
unfolding w1_tree asks defined_as attempt try_with enters enter_with behind among tree_links tree_from tree_nodes tree_roots up_to definition_at both stored_words stored_bytes ad_nodes ad_bytes expr_nodes expr_bytes literal_node literal_bytes scope_kind size nodes operands arity unary_of binary_of rule_at value_in bytes same_name same_bytes lower_case string_order bytes_order Tries wrap signed reached within closed_in tree_refers all_tried Lists
w1 = holds w1_stored asks_stored (alone (bytes "[x = undefined || true]") (Boolean true) (0 ∷ 1 ∷ 2 ∷ 1024 ∷ []) 0) [] [] [] (Boolean true ∷ []) w1_read asks_read refl refl (refl, tt) ((2, refl, refl), tt) refl refl refl refl refl refl refl

w2_tree : Ad
w2_tree = defined_as (bytes "x") (binary Or (literal (string (bytes "x"))) (literal (boolean true))) ∷ []

w2_stored : StoredAd (stored_words w2_tree) (stored_bytes w2_tree) w2_tree
unfolding w2_tree defined_as nodes size Named bytes
w2_stored = record { words = refl; bytes_are = refl; few_nodes = omega arith; few_definitions = omega arith; named = (omega arith, tt) }

w2_read : read (bytes "[x = \"x\" || true]") ≡ accepted w2_tree
unfolding w2_tree defined_as read parse ad_at definitions_at conditional_at count size defined tokens_from front_token name_front word_in reserved number_front integer_front real_front fraction_of value_from body_of escape_of front_of symbol_in begins spellings bytes is_blank is_digit is_letter starts_name continues_name lower_case same_name same_bytes
w2_read = refl

w2 : Holds (alone (bytes "[x = \"x\" || true]") Error (0 ∷ 1 ∷ 2 ∷ 1024 ∷ []) 0)
unfolding w2_tree asks defined_as attempt try_with enters enter_with behind among tree_links tree_from tree_nodes tree_roots up_to definition_at both stored_words stored_bytes ad_nodes ad_bytes expr_nodes expr_bytes literal_node literal_bytes scope_kind size nodes operands arity unary_of binary_of rule_at value_in bytes same_name same_bytes lower_case string_order bytes_order Tries wrap signed reached within closed_in tree_refers all_tried Lists
w2 = holds w2_stored asks_stored (alone (bytes "[x = \"x\" || true]") Error (0 ∷ 1 ∷ 2 ∷ 1024 ∷ []) 0) [] [] [] (Error ∷ []) w2_read asks_read refl refl (refl, tt) ((2, refl, refl), tt) refl refl refl refl refl refl refl

w3_tree : Ad
w3_tree = defined_as (bytes "x") (binary And (literal undefined) (literal (string (bytes "x")))) ∷ []

w3_stored : StoredAd (stored_words w3_tree) (stored_bytes w3_tree) w3_tree
unfolding w3_tree defined_as nodes size Named bytes
w3_stored = record { words = refl; bytes_are = refl; few_nodes = omega arith; few_definitions = omega arith; named = (omega arith, tt) }

w3_read : read (bytes "[x = undefined && \"x\"]") ≡ accepted w3_tree
unfolding w3_tree defined_as read parse ad_at definitions_at conditional_at count size defined tokens_from front_token name_front word_in reserved number_front integer_front real_front fraction_of value_from body_of escape_of front_of symbol_in begins spellings bytes is_blank is_digit is_letter starts_name continues_name lower_case same_name same_bytes
w3_read = refl

w3 : Holds (alone (bytes "[x = undefined && \"x\"]") Error (0 ∷ 1 ∷ 2 ∷ 1024 ∷ []) 0)
unfolding w3_tree asks defined_as attempt try_with enters enter_with behind among tree_links tree_from tree_nodes tree_roots up_to definition_at both stored_words stored_bytes ad_nodes ad_bytes expr_nodes expr_bytes literal_node literal_bytes scope_kind size nodes operands arity unary_of binary_of rule_at value_in bytes same_name same_bytes lower_case string_order bytes_order Tries wrap signed reached within closed_in tree_refers all_tried Lists
w3 = holds w3_stored asks_stored (alone (bytes "[x = undefined && \"x\"]") Error (0 ∷ 1 ∷ 2 ∷ 1024 ∷ []) 0) [] [] [] (Error ∷ []) w3_read asks_read refl refl (refl, tt) ((2, refl, refl), tt) refl refl refl refl refl refl refl

w4_tree : Ad
w4_tree = defined_as (bytes "x") (binary Add (literal undefined) (literal (string (bytes "x")))) ∷ []

w4_stored : StoredAd (stored_words w4_tree) (stored_bytes w4_tree) w4_tree
unfolding w4_tree defined_as nodes size Named bytes
w4_stored = record { words = refl; bytes_are = refl; few_nodes = omega arith; few_definitions = omega arith; named = (omega arith, tt) }

w4_read : read (bytes "[x = undefined + \"x\"]") ≡ accepted w4_tree
unfolding w4_tree defined_as read parse ad_at definitions_at conditional_at count size defined tokens_from front_token name_front word_in reserved number_front integer_front real_front fraction_of value_from body_of escape_of front_of symbol_in begins spellings bytes is_blank is_digit is_letter starts_name continues_name lower_case same_name same_bytes
w4_read = refl

w4 : Holds (alone (bytes "[x = undefined + \"x\"]") Error (0 ∷ 1 ∷ 2 ∷ 1024 ∷ []) 0)
unfolding w4_tree asks defined_as attempt try_with enters enter_with behind among tree_links tree_from tree_nodes tree_roots up_to definition_at both stored_words stored_bytes ad_nodes ad_bytes expr_nodes expr_bytes literal_node literal_bytes scope_kind size nodes operands arity unary_of binary_of rule_at value_in bytes same_name same_bytes lower_case string_order bytes_order Tries wrap signed reached within closed_in tree_refers all_tried Lists
w4 = holds w4_stored asks_stored (alone (bytes "[x = undefined + \"x\"]") Error (0 ∷ 1 ∷ 2 ∷ 1024 ∷ []) 0) [] [] [] (Error ∷ []) w4_read asks_read refl refl (refl, tt) ((2, refl, refl), tt) refl refl refl refl refl refl refl

w5_tree : Ad
w5_tree = defined_as (bytes "x") (binary Add (literal undefined) (literal (integer 1))) ∷ []

w5_stored : StoredAd (stored_words w5_tree) (stored_bytes w5_tree) w5_tree
unfolding w5_tree defined_as nodes size Named bytes
w5_stored = record { words = refl; bytes_are = refl; few_nodes = omega arith; few_definitions = omega arith; named = (omega arith, tt) }

w5_read : read (bytes "[x = undefined + 1]") ≡ accepted w5_tree
unfolding w5_tree defined_as read parse ad_at definitions_at conditional_at count size defined tokens_from front_token name_front word_in reserved number_front integer_front real_front fraction_of value_from body_of escape_of front_of symbol_in begins spellings bytes is_blank is_digit is_letter starts_name continues_name lower_case same_name same_bytes
w5_read = refl

w5 : Holds (alone (bytes "[x = undefined + 1]") Undefined (0 ∷ 1 ∷ 2 ∷ 1024 ∷ []) 0)
unfolding w5_tree asks defined_as attempt try_with enters enter_with behind among tree_links tree_from tree_nodes tree_roots up_to definition_at both stored_words stored_bytes ad_nodes ad_bytes expr_nodes expr_bytes literal_node literal_bytes scope_kind size nodes operands arity unary_of binary_of rule_at value_in bytes same_name same_bytes lower_case string_order bytes_order Tries wrap signed reached within closed_in tree_refers all_tried Lists
w5 = holds w5_stored asks_stored (alone (bytes "[x = undefined + 1]") Undefined (0 ∷ 1 ∷ 2 ∷ 1024 ∷ []) 0) [] [] [] (Undefined ∷ []) w5_read asks_read refl refl (refl, tt) ((2, refl, refl), tt) refl refl refl refl refl refl refl

w6_tree : Ad
w6_tree = defined_as (bytes "x") (binary Add (literal (integer 2147483647)) (literal (integer 1))) ∷ []

w6_stored : StoredAd (stored_words w6_tree) (stored_bytes w6_tree) w6_tree
unfolding w6_tree defined_as nodes size Named bytes
w6_stored = record { words = refl; bytes_are = refl; few_nodes = omega arith; few_definitions = omega arith; named = (omega arith, tt) }

w6_read : read (bytes "[x = 2147483647 + 1]") ≡ accepted w6_tree
unfolding w6_tree defined_as read parse ad_at definitions_at conditional_at count size defined tokens_from front_token name_front word_in reserved number_front integer_front real_front fraction_of value_from body_of escape_of front_of symbol_in begins spellings bytes is_blank is_digit is_letter starts_name continues_name lower_case same_name same_bytes
w6_read = refl

w6 : Holds (alone (bytes "[x = 2147483647 + 1]") (table.integer (negsuc 2147483647)) (0 ∷ 1 ∷ 2 ∷ 1024 ∷ []) 0)
unfolding w6_tree asks defined_as attempt try_with enters enter_with behind among tree_links tree_from tree_nodes tree_roots up_to definition_at both stored_words stored_bytes ad_nodes ad_bytes expr_nodes expr_bytes literal_node literal_bytes scope_kind size nodes operands arity unary_of binary_of rule_at value_in bytes same_name same_bytes lower_case string_order bytes_order Tries wrap signed reached within closed_in tree_refers all_tried Lists
w6 = holds w6_stored asks_stored (alone (bytes "[x = 2147483647 + 1]") (table.integer (negsuc 2147483647)) (0 ∷ 1 ∷ 2 ∷ 1024 ∷ []) 0) [] [] [] (table.integer (negsuc 2147483647) ∷ []) w6_read asks_read refl refl (refl, tt) ((2, refl, refl), tt) refl refl refl refl refl refl refl

w7_tree : Ad
w7_tree = defined_as (bytes "x") (binary Remainder (unary Minus (literal (integer 7))) (literal (integer 3))) ∷ []

w7_stored : StoredAd (stored_words w7_tree) (stored_bytes w7_tree) w7_tree
unfolding w7_tree defined_as nodes size Named bytes
w7_stored = record { words = refl; bytes_are = refl; few_nodes = omega arith; few_definitions = omega arith; named = (omega arith, tt) }

w7_read : read (bytes "[x = -7 % 3]") ≡ accepted w7_tree
unfolding w7_tree defined_as read parse ad_at definitions_at conditional_at count size defined tokens_from front_token name_front word_in reserved number_front integer_front real_front fraction_of value_from body_of escape_of front_of symbol_in begins spellings bytes is_blank is_digit is_letter starts_name continues_name lower_case same_name same_bytes
w7_read = refl

w7 : Holds (alone (bytes "[x = -7 % 3]") (table.integer (negsuc 0)) (0 ∷ 1 ∷ 2 ∷ 3 ∷ 1024 ∷ []) 0)
unfolding w7_tree asks defined_as attempt try_with enters enter_with behind among tree_links tree_from tree_nodes tree_roots up_to definition_at both stored_words stored_bytes ad_nodes ad_bytes expr_nodes expr_bytes literal_node literal_bytes scope_kind size nodes operands arity unary_of binary_of rule_at value_in bytes same_name same_bytes lower_case string_order bytes_order Tries wrap signed reached within closed_in tree_refers all_tried Lists
w7 = holds w7_stored asks_stored (alone (bytes "[x = -7 % 3]") (table.integer (negsuc 0)) (0 ∷ 1 ∷ 2 ∷ 3 ∷ 1024 ∷ []) 0) [] [] [] (table.integer (negsuc 0) ∷ []) w7_read asks_read refl refl (refl, tt) ((3, refl, refl), tt) refl refl refl refl refl refl refl

w8_tree : Ad
w8_tree = defined_as (bytes "x") (binary Divide (literal (integer 1)) (literal (integer 0))) ∷ []

w8_stored : StoredAd (stored_words w8_tree) (stored_bytes w8_tree) w8_tree
unfolding w8_tree defined_as nodes size Named bytes
w8_stored = record { words = refl; bytes_are = refl; few_nodes = omega arith; few_definitions = omega arith; named = (omega arith, tt) }

w8_read : read (bytes "[x = 1 / 0]") ≡ accepted w8_tree
unfolding w8_tree defined_as read parse ad_at definitions_at conditional_at count size defined tokens_from front_token name_front word_in reserved number_front integer_front real_front fraction_of value_from body_of escape_of front_of symbol_in begins spellings bytes is_blank is_digit is_letter starts_name continues_name lower_case same_name same_bytes
w8_read = refl

w8 : Holds (alone (bytes "[x = 1 / 0]") Error (0 ∷ 1 ∷ 2 ∷ 1024 ∷ []) 0)
unfolding w8_tree asks defined_as attempt try_with enters enter_with behind among tree_links tree_from tree_nodes tree_roots up_to definition_at both stored_words stored_bytes ad_nodes ad_bytes expr_nodes expr_bytes literal_node literal_bytes scope_kind size nodes operands arity unary_of binary_of rule_at value_in bytes same_name same_bytes lower_case string_order bytes_order Tries wrap signed reached within closed_in tree_refers all_tried Lists
w8 = holds w8_stored asks_stored (alone (bytes "[x = 1 / 0]") Error (0 ∷ 1 ∷ 2 ∷ 1024 ∷ []) 0) [] [] [] (Error ∷ []) w8_read asks_read refl refl (refl, tt) ((2, refl, refl), tt) refl refl refl refl refl refl refl

w9_tree : Ad
w9_tree = defined_as (bytes "x") (binary Is (literal (integer 3)) (literal (real 30 1))) ∷ []

w9_stored : StoredAd (stored_words w9_tree) (stored_bytes w9_tree) w9_tree
unfolding w9_tree defined_as nodes size Named bytes
w9_stored = record { words = refl; bytes_are = refl; few_nodes = omega arith; few_definitions = omega arith; named = (omega arith, tt) }

w9_read : read (bytes "[x = 3 is 3.0]") ≡ accepted w9_tree
unfolding w9_tree defined_as read parse ad_at definitions_at conditional_at count size defined tokens_from front_token name_front word_in reserved number_front integer_front real_front fraction_of value_from body_of escape_of front_of symbol_in begins spellings bytes is_blank is_digit is_letter starts_name continues_name lower_case same_name same_bytes
w9_read = refl

w9 : Holds (alone (bytes "[x = 3 is 3.0]") (Boolean false) (0 ∷ 1 ∷ 2 ∷ 1024 ∷ []) 0)
unfolding w9_tree asks defined_as attempt try_with enters enter_with behind among tree_links tree_from tree_nodes tree_roots up_to definition_at both stored_words stored_bytes ad_nodes ad_bytes expr_nodes expr_bytes literal_node literal_bytes scope_kind size nodes operands arity unary_of binary_of rule_at value_in bytes same_name same_bytes lower_case string_order bytes_order Tries wrap signed reached within closed_in tree_refers all_tried Lists
w9 = holds w9_stored asks_stored (alone (bytes "[x = 3 is 3.0]") (Boolean false) (0 ∷ 1 ∷ 2 ∷ 1024 ∷ []) 0) [] [] [] (Boolean false ∷ []) w9_read asks_read refl refl (refl, tt) ((2, refl, refl), tt) refl refl refl refl refl refl refl

w10_tree : Ad
w10_tree = defined_as (bytes "x") (binary Equal (literal (string (bytes "One"))) (literal (string (bytes "one")))) ∷ []

w10_stored : StoredAd (stored_words w10_tree) (stored_bytes w10_tree) w10_tree
unfolding w10_tree defined_as nodes size Named bytes
w10_stored = record { words = refl; bytes_are = refl; few_nodes = omega arith; few_definitions = omega arith; named = (omega arith, tt) }

w10_read : read (bytes "[x = \"One\" == \"one\"]") ≡ accepted w10_tree
unfolding w10_tree defined_as read parse ad_at definitions_at conditional_at count size defined tokens_from front_token name_front word_in reserved number_front integer_front real_front fraction_of value_from body_of escape_of front_of symbol_in begins spellings bytes is_blank is_digit is_letter starts_name continues_name lower_case same_name same_bytes
w10_read = refl

w10 : Holds (alone (bytes "[x = \"One\" == \"one\"]") (Boolean true) (0 ∷ 1 ∷ 2 ∷ 1024 ∷ []) 0)
unfolding w10_tree asks defined_as attempt try_with enters enter_with behind among tree_links tree_from tree_nodes tree_roots up_to definition_at both stored_words stored_bytes ad_nodes ad_bytes expr_nodes expr_bytes literal_node literal_bytes scope_kind size nodes operands arity unary_of binary_of rule_at value_in bytes same_name same_bytes lower_case string_order bytes_order Tries wrap signed reached within closed_in tree_refers all_tried Lists
w10 = holds w10_stored asks_stored (alone (bytes "[x = \"One\" == \"one\"]") (Boolean true) (0 ∷ 1 ∷ 2 ∷ 1024 ∷ []) 0) [] [] [] (Boolean true ∷ []) w10_read asks_read refl refl (refl, tt) ((2, refl, refl), tt) refl refl refl refl refl refl refl

-- ---- W11: a and b are circular, d is not

w11_first : Ad
w11_first = defined_as (bytes "a") (reference own (bytes "b")) ∷ defined_as (bytes "b") (binary Is (reference own (bytes "a")) (literal undefined)) ∷ defined_as (bytes "d") (reference own (bytes "b")) ∷ []

w11_second : Ad
w11_second = defined_as (bytes "Requirements") (reference other (bytes "a")) ∷ defined_as (bytes "Rank") (reference other (bytes "d")) ∷ []

w11_first_stored : StoredAd (stored_words w11_first) (stored_bytes w11_first) w11_first
unfolding w11_first defined_as nodes size Named bytes
w11_first_stored = record { words = refl; bytes_are = refl; few_nodes = omega arith; few_definitions = omega arith; named = (omega arith, (omega arith, (omega arith, tt))) }

w11_second_stored : StoredAd (stored_words w11_second) (stored_bytes w11_second) w11_second
unfolding w11_second defined_as nodes size Named bytes
w11_second_stored = record { words = refl; bytes_are = refl; few_nodes = omega arith; few_definitions = omega arith; named = (omega arith, (omega arith, tt)) }

w11_first_read : read (bytes "[a = b; b = a is undefined; d = b]") ≡ accepted w11_first
unfolding w11_first defined_as read parse ad_at definitions_at conditional_at count size defined tokens_from front_token name_front word_in reserved number_front integer_front real_front fraction_of value_from body_of escape_of front_of symbol_in begins spellings bytes is_blank is_digit is_letter starts_name continues_name lower_case same_name same_bytes
w11_first_read = refl

w11_second_read : read (bytes "[Requirements = other.a; Rank = other.d]") ≡ accepted w11_second
unfolding w11_second defined_as read parse ad_at definitions_at conditional_at count size defined tokens_from front_token name_front word_in reserved number_front integer_front real_front fraction_of value_from body_of escape_of front_of symbol_in begins spellings bytes is_blank is_digit is_letter starts_name continues_name lower_case same_name same_bytes
w11_second_read = refl

w11_row : Row
w11_row = record { first = bytes "[a = b; b = a is undefined; d = b]"; second = bytes "[Requirements = other.a; Rank = other.d]"; gives = record { name = bytes "a"; value = Undefined } ∷ record { name = bytes "b"; value = Boolean true } ∷ record { name = bytes "d"; value = Boolean true } ∷ []; order = 0 ∷ 1024 ∷ 1 ∷ 2 ∷ 3 ∷ 4 ∷ 1025 ∷ []; matched = false; first_rank = 0; second_rank = 0 }

w11 : Holds w11_row
unfolding w11_row w11_first w11_second defined_as attempt try_with enters enter_with behind among tree_links tree_from tree_nodes tree_roots up_to definition_at both stored_words stored_bytes ad_nodes ad_bytes expr_nodes expr_bytes literal_node literal_bytes scope_kind size nodes operands arity unary_of binary_of rule_at value_in bytes same_name same_bytes lower_case string_order bytes_order Tries wrap signed reached within closed_in tree_refers all_tried Lists
w11 = holds w11_first_stored w11_second_stored w11_row [] (Undefined ∷ []) [] (Boolean true ∷ []) w11_first_read w11_second_read refl refl (refl, (refl, (refl, tt))) ((0, refl, refl), ((3, refl, refl), ((4, refl, refl), tt))) refl refl refl refl refl refl refl

-- ---- W12

w12_first : Ad
w12_first = defined_as (bytes "Requirements") (binary Greater (reference other (bytes "w")) (literal (integer 50))) ∷ []

w12_second : Ad
w12_second = defined_as (bytes "w") (literal (integer 60)) ∷ defined_as (bytes "Requirements") (literal (boolean true)) ∷ []

w12_first_stored : StoredAd (stored_words w12_first) (stored_bytes w12_first) w12_first
unfolding w12_first defined_as nodes size Named bytes
w12_first_stored = record { words = refl; bytes_are = refl; few_nodes = omega arith; few_definitions = omega arith; named = (omega arith, tt) }

w12_second_stored : StoredAd (stored_words w12_second) (stored_bytes w12_second) w12_second
unfolding w12_second defined_as nodes size Named bytes
w12_second_stored = record { words = refl; bytes_are = refl; few_nodes = omega arith; few_definitions = omega arith; named = (omega arith, (omega arith, tt)) }

w12_first_read : read (bytes "[Requirements = other.w > 50]") ≡ accepted w12_first
unfolding w12_first defined_as read parse ad_at definitions_at conditional_at count size defined tokens_from front_token name_front word_in reserved number_front integer_front real_front fraction_of value_from body_of escape_of front_of symbol_in begins spellings bytes is_blank is_digit is_letter starts_name continues_name lower_case same_name same_bytes
w12_first_read = refl

w12_second_read : read (bytes "[w = 60; Requirements = true]") ≡ accepted w12_second
unfolding w12_second defined_as read parse ad_at definitions_at conditional_at count size defined tokens_from front_token name_front word_in reserved number_front integer_front real_front fraction_of value_from body_of escape_of front_of symbol_in begins spellings bytes is_blank is_digit is_letter starts_name continues_name lower_case same_name same_bytes
w12_second_read = refl

w12_row : Row
w12_row = record { first = bytes "[Requirements = other.w > 50]"; second = bytes "[w = 60; Requirements = true]"; gives = record { name = bytes "Requirements"; value = Boolean true } ∷ []; order = 1024 ∷ 0 ∷ 1 ∷ 2 ∷ 1025 ∷ []; matched = true; first_rank = 0; second_rank = 0 }

w12 : Holds w12_row
unfolding w12_row w12_first w12_second defined_as attempt try_with enters enter_with behind among tree_links tree_from tree_nodes tree_roots up_to definition_at both stored_words stored_bytes ad_nodes ad_bytes expr_nodes expr_bytes literal_node literal_bytes scope_kind size nodes operands arity unary_of binary_of rule_at value_in bytes same_name same_bytes lower_case string_order bytes_order Tries wrap signed reached within closed_in tree_refers all_tried Lists
w12 = holds w12_first_stored w12_second_stored w12_row (Boolean true ∷ []) (Boolean true ∷ []) [] [] w12_first_read w12_second_read refl refl (refl, tt) ((2, refl, refl), tt) refl refl refl refl refl refl refl

-- ---- the table

-- W1 TO W12 HOLD, each from its texts: 'W1 to W12 stand as one statement over one table'
pub worked : AllHold table.table
unfolding AllHold table.table w11_row w12_row
worked = (w1, (w2, (w3, (w4, (w5, (w6, (w7, (w8, (w9, (w10, (w11, (w12, tt))))))))))))

-- ---- the fault of the matcher before ours

fault_first : Ad
fault_first = defined_as (bytes "Requirements") (unary Not (binary Greater (reference other (bytes "PulseWidth")) (literal (integer 50)))) ∷ []

fault_second : Ad
fault_second = defined_as (bytes "Requirements") (literal (boolean true)) ∷ []

fault_first_stored : StoredAd (stored_words fault_first) (stored_bytes fault_first) fault_first
unfolding fault_first defined_as nodes size Named bytes
fault_first_stored = record { words = refl; bytes_are = refl; few_nodes = omega arith; few_definitions = omega arith; named = (omega arith, tt) }

fault_second_stored : StoredAd (stored_words fault_second) (stored_bytes fault_second) fault_second
unfolding fault_second defined_as nodes size Named bytes
fault_second_stored = record { words = refl; bytes_are = refl; few_nodes = omega arith; few_definitions = omega arith; named = (omega arith, tt) }

fault_first_read : read (bytes "[Requirements = !(other.PulseWidth > 50)]") ≡ accepted fault_first
unfolding fault_first defined_as read parse ad_at definitions_at conditional_at count size defined tokens_from front_token name_front word_in reserved number_front integer_front real_front fraction_of value_from body_of escape_of front_of symbol_in begins spellings bytes is_blank is_digit is_letter starts_name continues_name lower_case same_name same_bytes
fault_first_read = refl

fault_second_read : read (bytes "[Requirements = true]") ≡ accepted fault_second
unfolding fault_second defined_as read parse ad_at definitions_at conditional_at count size defined tokens_from front_token name_front word_in reserved number_front integer_front real_front fraction_of value_from body_of escape_of front_of symbol_in begins spellings bytes is_blank is_digit is_letter starts_name continues_name lower_case same_name same_bytes
fault_second_read = refl

-- A MISSING ATTRIBUTE NEGATED IS NO MATCH: 'Matched: both Requirements are true, nothing else.'
pub fault_unmatched : Holds fault
unfolding fault fault_first fault_second defined_as attempt try_with enters enter_with behind among tree_links tree_from tree_nodes tree_roots up_to definition_at both stored_words stored_bytes ad_nodes ad_bytes expr_nodes expr_bytes literal_node literal_bytes scope_kind size nodes operands arity unary_of binary_of rule_at value_in bytes same_name same_bytes lower_case string_order bytes_order Tries wrap signed reached within closed_in tree_refers all_tried Lists
fault_unmatched = holds fault_first_stored fault_second_stored fault (Undefined ∷ []) (Boolean true ∷ []) [] [] fault_first_read fault_second_read refl refl (refl, tt) ((3, refl, refl), tt) refl refl refl refl refl refl refl
