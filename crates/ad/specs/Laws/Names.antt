-- The names of a stored ad, found again. Assumes nothing.
use Rattle.std.specs.Prelude.{ℕ, ◌+◌, ◌*◌, ◌≡◌, refl, List, [], ◌∷◌, ◌++◌, length, get_or, take, drop}
use Rattle.std.proofs.Common.{arith, sym, ◌∙◌, ap, append_assoc, drop-drop, get_or-drop}
use Rattle.std.proofs.Math.Seq.{take-append_seam, drop-append_seam}
use Rattle.syntax.specs.Tree.{Ad, size}
use Rattle.syntax.specs.Grammar.{defined}
use Rattle.ad.specs.Layout.{expr_bytes, ad_definitions, ad_bytes}
use Rattle.ad.specs.Inner.Names.{defined_in}

-- from the words and bytes of some definitions on
pub names_in : (w b name : List ℕ) (n o j : ℕ) (a : Ad) (W B : List ℕ) → drop (4096 + 3 * j) w ≡ ad_definitions n o a ++ W → drop o b ≡ ad_bytes a ++ B → defined_in w b name j (length a) ≡ defined name a
unfolding defined_in defined ad_definitions ad_bytes
names_in w b name n o j [] W B h h' = refl
names_in w b name n o j (x ∷ a) W B h h' =
    let e = x.expression in
    let i₀ : 4096 + 3 * j + 0 ≡ 4096 + 3 * j = omega arith in
    let p₀ : get_or w (4096 + 3 * j) 0 ≡ o = ap (λ (k : ℕ). get_or w k 0) (sym i₀) ∙ (sym (get_or-drop (4096 + 3 * j) w 0 0) ∙ ap (λ (l : List ℕ). get_or l 0 0) h) in
    let p₁ : get_or w (4096 + 3 * j + 1) 0 ≡ length x.name = sym (get_or-drop (4096 + 3 * j) w 1 0) ∙ ap (λ (l : List ℕ). get_or l 1 0) h in
    let i₁ : 4096 + 3 * j + 3 ≡ 4096 + 3 * (j + 1) = omega arith in
    let q : drop (4096 + 3 * (j + 1)) w ≡ ad_definitions (n + size e) (o + length x.name + length (expr_bytes e)) a ++ W = ap (λ (k : ℕ). drop k w) (sym i₁) ∙ (sym (drop-drop 3 (4096 + 3 * j) w) ∙ ap (drop 3) h) in
    let c : (x.name ++ (expr_bytes e ++ ad_bytes a)) ++ B ≡ x.name ++ (expr_bytes e ++ (ad_bytes a ++ B)) = append_assoc x.name (expr_bytes e ++ ad_bytes a) B ∙ ap (◌++◌ x.name) (append_assoc (expr_bytes e) (ad_bytes a) B) in
    let r₁ : drop (o + length x.name) b ≡ expr_bytes e ++ (ad_bytes a ++ B) = sym (drop-drop (length x.name) o b) ∙ (ap (drop (length x.name)) (h' ∙ c) ∙ drop-append_seam x.name (expr_bytes e ++ (ad_bytes a ++ B))) in
    let r₂ : drop (o + length x.name + length (expr_bytes e)) b ≡ ad_bytes a ++ B = sym (drop-drop (length (expr_bytes e)) (o + length x.name) b) ∙ (ap (drop (length (expr_bytes e))) r₁ ∙ drop-append_seam (expr_bytes e) (ad_bytes a ++ B)) in
    let s : take (length x.name) (drop o b) ≡ x.name = ap (take (length x.name)) (h' ∙ c) ∙ take-append_seam x.name (expr_bytes e ++ (ad_bytes a ++ B)) in
    rw (p₀, p₁, s, names_in w b name (n + size e) (o + length x.name + length (expr_bytes e)) (j + 1) a W B q r₂) refl
