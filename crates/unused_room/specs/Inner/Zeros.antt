-- Whether a memory is zero behind its content. w are the words and b the bytes of an ad. Assumes nothing.
use Rattle.std.specs.Prelude.{ℕ, ◌+◌, ◌-◌, ◌*◌, Bool, ◌&&◌, List, take, drop, eqb}
use Rattle.syntax.specs.Inner.Lexeme.{every}

-- whether a word or a byte is zero
abbrev pub is_zero : ℕ → Bool
is_zero x = eqb x 0

-- all is zero behind d definitions, n nodes and k bytes: 'exactly this content, zeros included'
abbrev pub zero_behind : List ℕ → List ℕ → ℕ → ℕ → ℕ → Bool
zero_behind w b d n k =
    every is_zero (take (4096 - 4 * n) (drop (4 * n) w)) && (every is_zero (drop (4096 + 3 * d) w) && every is_zero (drop k b))
