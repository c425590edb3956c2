-- Names that match have one fingerprint. Assumes nothing.
use Rattle.std.specs.Prelude.{◌≡◌, refl, ◌≢◌, Bool, true, false, List, [], ◌∷◌, map, ℕ, ◌+◌, ◌*◌, ◌%◌, eqb}
use Rattle.std.proofs.Common.{ap, ◌∙◌, eqb-true}
use Rattle.std.proofs.lemmas.Bool.{false≢true}
use Rattle.text.specs.Laws.Booleans.{both}
use Rattle.text.specs.Bytes.{lower_case}
use Rattle.text.specs.Strings.{same_bytes, same_name}
use Rattle.names.specs.Inner.Fingerprint.{mixed, folded, fingerprint_of}

same_folded : (h : ℕ) (x y : List ℕ) → same_bytes (map lower_case x) (map lower_case y) ≡ true → folded h x ≡ folded h y
unfolding same_bytes folded mixed
same_folded h [] [] e = refl
same_folded h [] (c ∷ y) e = absurd (false≢true e)
same_folded h (b ∷ x) [] e = absurd (false≢true e)
same_folded h (b ∷ x) (c ∷ y) e =
    let q = both (eqb (lower_case b) (lower_case c)) (same_bytes (map lower_case x) (map lower_case y)) e in
    ap (λ (u : ℕ). folded ((h * 31 + u) % 65536) x) (eqb-true _ _ q.0) ∙ same_folded ((h * 31 + lower_case c) % 65536) x y q.1

-- NAMES THAT MATCH HAVE ONE FINGERPRINT
pub same_fingerprint : (x y : List ℕ) → same_name x y ≡ true → fingerprint_of x ≡ fingerprint_of y
unfolding same_name
same_fingerprint x y e = same_folded 0 x y e

-- so names of different fingerprints do not match
pub other_fingerprint : (x y : List ℕ) → fingerprint_of x ≢ fingerprint_of y → same_name x y ≡ false
other_fingerprint x y n = go (same_name x y) refl
  where
    go : (b : Bool) → same_name x y ≡ b → b ≡ false
    go true e = absurd (n (same_fingerprint x y e))
    go false e = refl
