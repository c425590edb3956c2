-- The line feeds of a text. Assumes nothing.
use Rattle.std.specs.Prelude.{ℕ, suc, cond, List, [], ◌∷◌, eqb}
use Prim.Native.Char.{code}

-- how many bytes of a text are LF
unfoldable pub feeds_in : List ℕ → ℕ
feeds_in [] = 0
feeds_in (b ∷ s) = cond (eqb b (code "\n")) (suc (feeds_in s)) (feeds_in s)
