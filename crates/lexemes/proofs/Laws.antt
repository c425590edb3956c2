-- What each way through the functions gives. Assumes nothing.
use Prim.Native.Nat.{ℕ, zero, suc, ◌+◌, ◌-◌, ◌/◌, ◌≤◌, ◌<◌}
use native.Mathlib.Omega.{arith}
use mathlib.Core.Path.{◌≡◌, refl, ◌∙◌, ap}
use mathlib.Core.Bool.{Bool, false, ◌&&◌}
use mathlib.Core.List.{List, [], ◌∷◌}
use lib.ListN.{length, get_or, drop, length-append, drop_of_length-le}
use Rattle.std.proofs.Common.{None}
use Rattle.std.specs.List.{list_all, slice_get}
use Rattle.text.specs.Bytes.{is_letter, starts_name}
use Rattle.text.specs.Parts.{drop_one}
use Rattle.syntax.specs.Tree.{real}
use Rattle.syntax.specs.Print.{escaped, escaped_all, literal_text}
use Rattle.lexemes.specs.Laws.Digits.{real_more}
use Rattle.syntax.specs.Inner.Lexeme.{every, is_name}

-- ---- all bytes of a class

pub every_all : (class : ℕ → Bool) (s : List ℕ) → list_all class s ≡ every class s
unfolding every
every_all class [] = refl
every_all class (b ∷ s) = ap (λ (t : Bool). class b && t) (every_all class s)

-- ---- how long a string prints

pub escaped_more : (s : List ℕ) (i : ℕ) → i < length s → length (escaped_all (drop i s)) ≡ length (escaped (get_or s i 0)) + length (escaped_all (drop (i + 1) s))
unfolding escaped_all
escaped_more s i h =
    ap (λ (l : List ℕ). length (escaped_all l)) (drop_one s i h)
    ∙ length-append (escaped (get_or s i 0)) (escaped_all (drop (i + 1) s))

pub escaped_end : (s : List ℕ) (i : ℕ) → length s ≤ i → length (escaped_all (drop i s)) ≡ 0
unfolding escaped_all
escaped_end s i h = ap (λ (l : List ℕ). length (escaped_all l)) (drop_of_length-le s h)

-- ---- names

pub name_empty : (w : List ℕ) → None ≡ slice_get w 0 → false ≡ is_name w
unfolding is_name starts_name is_letter
name_empty [] h = refl
name_empty (b ∷ w) h = cc

-- ---- a real with a digit more

pub real_step : (v p r : ℕ) → (p ≡ 0 → ⊥) → r ≡ length (literal_text (real (v / 10) (p - 1))) → r + 1 ≡ length (literal_text (real v p))
real_step v zero r n e = absurd (n refl)
real_step v (suc p) r n e =
    let i : suc p - 1 ≡ p = omega arith in
    let d : r ≡ length (literal_text (real (v / 10) p)) = e ∙ ap (λ (k : ℕ). length (literal_text (real (v / 10) k))) i in
    rw (real_more v p, length-append) (omega arith)
