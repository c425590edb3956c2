-- Strings of bytes compared: byte for byte, and after ASCII lower case. Assumes nothing.
use Rattle.std.specs.Prelude.{ℕ, Bool, true, false, cond, ◌&&◌, List, [], ◌∷◌, map, ltb, eqb}
use Rattle.text.specs.Bytes.{lower_case}
use Rattle.std.specs.declared.cmp.Ordering.{Ordering}
use Rattle.std.specs.declared.cmp.Ordering.TheVariants.{Less, Equal, Greater}

-- 'byte for byte'
unfoldable pub same_bytes : List ℕ → List ℕ → Bool
same_bytes [] [] = true
same_bytes [] (y ∷ ys) = false
same_bytes (x ∷ xs) [] = false
same_bytes (x ∷ xs) (y ∷ ys) = eqb x y && same_bytes xs ys

-- 'Names match without regard to ASCII case'
unfoldable pub same_name : List ℕ → List ℕ → Bool
same_name xs ys = same_bytes (map lower_case xs) (map lower_case ys)

-- by the first difference; 'a proper beginning is smaller'
unfoldable pub bytes_order : List ℕ → List ℕ → Ordering
bytes_order [] [] = Equal
bytes_order [] (y ∷ ys) = Less
bytes_order (x ∷ xs) [] = Greater
bytes_order (x ∷ xs) (y ∷ ys) = cond (ltb x y) Less (cond (ltb y x) Greater (bytes_order xs ys))

-- 'Strings compare by bytes after ASCII lower case'
unfoldable pub string_order : List ℕ → List ℕ → Ordering
string_order xs ys = bytes_order (map lower_case xs) (map lower_case ys)
