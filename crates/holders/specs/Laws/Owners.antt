-- OF A STORED AD, THE DEFINITION FOUND IS THE ONE THAT THE NODE BELONGS TO. Assumes nothing.
use Rattle.std.specs.Prelude.{ℕ, Some, zero, suc, ◌+◌, ◌-◌, ◌≤◌, ◌<◌, ◌≡◌, refl, Bool, true, false, cond, List, [], ◌∷◌, length, eqb, ltb, leb}
use Rattle.std.proofs.Common.{arith, add-one, sym, ◌∙◌, ap, ltb-true, ltb-false, le-ltb, le-leb, ne_eqb}
use Rattle.std.proofs.lemmas.Bool.{lt-leb}
use Rattle.syntax.specs.Tree.{Ad, size, nodes}
use Rattle.ad.specs.Layout.{ad_bytes}
use Rattle.ad.specs.Stored.{length_at, root_at}
use Rattle.ad.specs.Laws.Content.{size_some}
use Rattle.well_formed.specs.WellFormed.{Holds}
use Rattle.well_formed.specs.Laws.Bounds.{bounded}
use Rattle.syntax.proofs.Laws.FrontTokens.{name_some}
use Rattle.well_formed.specs.Laws.Definitions.{Table, table_row}
use Rattle.well_formed.specs.Laws.Whole.{holds_table, stop_zero, holds_long}
use Rattle.holders.specs.Holders.{owner_from, owner, holder_from, holder}

-- definitions whose nodes begin at n, among k that may be there, behind which none is named
from : (a : Ad) (k : ℕ) (w b : List ℕ) (j n o i : ℕ) → Table w b j n o a → length a ≤ k → (length a < k → length_at w (j + length a) ≡ 0) → n ≤ i → holder_from w i j k ≡ owner_from j a (i - n)
unfolding holder_from owner_from
from [] zero w b j n o i t h z l = refl
from [] (suc k) w b j n o i t h z l =
    let e : length_at w j ≡ 0 = ap (length_at w) (let s : j ≡ j + 0 = omega arith in s) ∙ z (omega arith) in
    rw e refl
from (d ∷ a) zero w b j n o i t h z l = absurd (omega arith)
from (d ∷ a) (suc k) w b j n o i t h z l =
    let r = table_row t in
    let e : eqb (length_at w j) 0 ≡ false = ne_eqb (length_at w j) 0 (λ e. omega (arith, name_some d.name r.name_ok, r.long)) in
    rw e (go (ltb (i - n) (size d.expression)) refl (λ c. rest c (from a k w b (j + 1) (n + size d.expression) _ i r.rest (omega arith) (λ x. ap (length_at w) (let g : j + 1 + length a ≡ j + suc (length a) = omega arith in g) ∙ z (omega arith)) (omega arith))))
  where
    here : i - n < size d.expression → leb i (root_at w j) ≡ true
    here c = let s = size_some d.expression in le-leb i (root_at w j) (omega (arith, (table_row t).root))

    later : size d.expression ≤ i - n → leb i (root_at w j) ≡ false
    later c = let s = size_some d.expression in lt-leb i (root_at w j) (omega (arith, (table_row t).root))

    rest : size d.expression ≤ i - n → holder_from w i (j + 1) k ≡ owner_from (j + 1) a (i - (n + size d.expression)) → holder_from w i (suc j) k ≡ owner_from (suc j) a (i - n - size d.expression)
    rest c q = ap (λ (x : ℕ). holder_from w i x k) (sym (add-one j)) ∙ q ∙ ap (λ (x : ℕ). owner_from x a (i - (n + size d.expression))) (add-one j) ∙ ap (owner_from (suc j) a) (let e : i - (n + size d.expression) ≡ i - n - size d.expression = omega arith in e)

    go : (c : Bool) → ltb (i - n) (size d.expression) ≡ c →
        (size d.expression ≤ i - n → holder_from w i (suc j) k ≡ owner_from (suc j) a (i - n - size d.expression)) →
        cond (leb i (root_at w j)) (Some j) (holder_from w i (suc j) k)
        ≡ cond (ltb (i - n) (size d.expression)) (Some j) (owner_from (suc j) a (i - n - size d.expression))
    go true e f = let x : i - n < size d.expression = ltb-true _ _ e in rw (e, here x) refl
    go false e f = let x : size d.expression ≤ i - n = ltb-false _ _ e in rw (e, later x) (f x)

-- THE LAW
pub holder_owner : (w b : List ℕ) (a : Ad) (i : ℕ) → Holds w b a → holder w i ≡ owner a i
holder_owner w b a i h =
    let l = holds_long a h in
    let t = holds_table w b l.0 l.1 a h in
    let few : length a ≤ 256 = (bounded h).within.few_definitions in
    rw (le-ltb (length w) 4864 (omega arith)) (from a 256 w b 0 0 0 i t.0 few (λ x. stop_zero w b l.0 l.1 (length a) (nodes a) (length (ad_bytes a)) t.1 x) (omega arith) ∙ ap (owner_from 0 a) (let e : i - 0 ≡ i = omega arith in e))
