-- How long an ad prints. Assumes nothing.
use Rattle.std.specs.Prelude.{◌+◌, ◌*◌, ◌≤◌, ◌≡◌, true, ◌&&◌, [], ◌∷◌, ◌++◌, length}
use Prim.Native.Char.{code}
use Rattle.std.proofs.Common.{arith, length-append}
use Rattle.text.specs.Laws.Booleans.{and_left, and_right}
use Rattle.text.specs.Bytes.{bytes}
use Rattle.syntax.specs.Tree.{Definition, Ad, nodes}
use Rattle.syntax.specs.Print.{printed, definition_text, definitions_text, printed_ad}
use Rattle.syntax.specs.Inner.Lexeme.{is_name}
use Rattle.ad.specs.Layout.{expr_bytes, ad_bytes}
use Rattle.round_trip.specs.Bounded.{is_writable, are_writable}
use Rattle.well_formed.specs.Inner.Decode.{rows_length}
use Rattle.tree_check.specs.Laws.Prints.{print_short}

pub length_definition : (d : Definition) → length (definition_text d) ≡ length d.name + 3 + length (printed d.expression)
unfolding bytes
length_definition d = omega (arith, length-append d.name (bytes " = " ++ printed d.expression))

pub rows_one : (d : Definition) (a : Ad) → rows_length (d ∷ a) ≡ length d.name + length (printed d.expression) + 5 + rows_length a
unfolding rows_length
rows_one d a = omega (arith, length_definition d)

pub rows_short : (a : Ad) → are_writable a ≡ true → rows_length a ≤ 5 * length a + 40 * nodes a + 2 * length (ad_bytes a)
unfolding rows_length nodes ad_bytes are_writable
rows_short [] h = omega arith
rows_short (d ∷ a) h =
    let e = d.expression in
    let m = and_right (is_name d.name) (is_writable e && are_writable a) h in
    omega (arith, length_definition d, print_short e (and_left (is_writable e) (are_writable a) m), rows_short a (and_right (is_writable e) (are_writable a) m), length-append d.name (expr_bytes e ++ ad_bytes a), length-append (expr_bytes e) (ad_bytes a))

pub length_definitions : (d : Definition) (a : Ad) → length (definitions_text (d ∷ a)) + 2 ≡ rows_length (d ∷ a)
unfolding definitions_text rows_length bytes
length_definitions d [] = omega arith
length_definitions d (e ∷ a) = omega (arith, length_definitions e a, length-append (definition_text d) (bytes "; " ++ definitions_text (e ∷ a)))

-- an ad prints as long as its definitions with two bytes behind each, for the brackets are two bytes too
pub length_ad_print : (d : Definition) (a : Ad) → length (printed_ad (d ∷ a)) ≡ rows_length (d ∷ a)
unfolding printed_ad
length_ad_print d a = omega (arith, length_definitions d a, length-append (definitions_text (d ∷ a)) (code "]" ∷ []))
