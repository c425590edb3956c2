-- The fingerprint of a name, by which most names that do not match are told apart without being compared. Ours alone: document 01 has none,
-- and no answer goes by it. Assumes nothing.
use Rattle.std.specs.Prelude.{List, [], ◌∷◌, ℕ, ◌+◌, ◌*◌, ◌%◌}
use Rattle.text.specs.Bytes.{lower_case}

-- one more byte, without regard to ASCII case
unfoldable pub mixed : ℕ → ℕ → ℕ
mixed h b = (h * 31 + lower_case b) % 65536

-- the bytes one after another
unfoldable pub folded : ℕ → List ℕ → ℕ
folded h [] = h
folded h (b ∷ bs) = folded (mixed h b) bs

abbrev pub fingerprint_of : List ℕ → ℕ
fingerprint_of name = folded 0 name
