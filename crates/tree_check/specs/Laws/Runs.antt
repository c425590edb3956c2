-- Some numbers that stand in a memory from a place on. Assumes nothing.
use Rattle.std.specs.Prelude.{ℕ, suc, ◌+◌, ◌*◌, ◌≤◌, ◌<◌, ◌≡◌, List, [], ◌∷◌, ◌++◌, length, get_or, take, drop}
use Rattle.std.proofs.Common.{add-zero, arith, sym, ◌∙◌, ap, subst, append_assoc, length-append, length-drop, take-append-drop, drop-cons, drop-drop, get_or-drop}
use Rattle.std.proofs.Math.Seq.{drop-append_seam, take-append_seam}
use Rattle.ad.specs.Layout.{node}
use Rattle.ad.specs.Stored.{kind_at, operand_at, bytes_at}

-- xs stand in w from p on
pub record Stands (w : List ℕ) (p : ℕ) (xs : List ℕ) : Type 0 where
  pub is : drop p w ≡ xs ++ drop (p + length xs) w

pub stands_none : (w : List ℕ) (p : ℕ) → Stands w p []
stands_none w p = record { is = ap (λ (k : ℕ). drop k w) (sym (add-zero p)) }

pub stands_at_lem : {w xs : List ℕ} {p q : ℕ} → p ≡ q → Stands w p xs → Stands w q xs
stands_at_lem {w} {xs} e h = subst (λ (k : ℕ). Stands w k xs) e h

pub stands_as : {w xs ys : List ℕ} {p : ℕ} → xs ≡ ys → Stands w p xs → Stands w p ys
stands_as {w} {p = p} e h = subst (λ (l : List ℕ). Stands w p l) e h

-- whatever comes behind them
pub stands_front : (w xs ys : List ℕ) (p : ℕ) → drop p w ≡ xs ++ ys → Stands w p xs
stands_front w xs ys p h = record {
  is = h ∙ ap (◌++◌ xs) (sym (sym (drop-drop (length xs) p w) ∙ (ap (drop (length xs)) h ∙ drop-append_seam xs ys)));
}

pub stands_join : {w xs ys : List ℕ} {p : ℕ} → Stands w p xs → Stands w (p + length xs) ys → Stands w p (xs ++ ys)
stands_join {w} {xs} {ys} {p} h g =
    stands_front w (xs ++ ys) (drop (p + length xs + length ys) w) p
    (h.is ∙ (ap (◌++◌ xs) g.is ∙ sym (append_assoc xs ys (drop (p + length xs + length ys) w))))

module _ (w xs ys : List ℕ) (p : ℕ) (h : Stands w p (xs ++ ys)) where
  apart : drop p w ≡ xs ++ (ys ++ drop (p + length (xs ++ ys)) w)
  apart = h.is ∙ append_assoc xs ys (drop (p + length (xs ++ ys)) w)

  pub stands_left : Stands w p xs
  stands_left = stands_front w xs (ys ++ drop (p + length (xs ++ ys)) w) p apart

  pub stands_right : Stands w (p + length xs) ys
  stands_right = stands_front w ys (drop (p + length (xs ++ ys)) w) (p + length xs) (sym (drop-drop (length xs) p w) ∙ (ap (drop (length xs)) apart ∙ drop-append_seam xs (ys ++ drop (p + length (xs ++ ys)) w)))

-- what stands somewhere, if anything, is inside
pub stands_inside : (w xs : List ℕ) (p : ℕ) → Stands w p xs → 0 < length xs → p + length xs ≤ length w
stands_inside w xs p h some =
    let e = ap length h.is in
    omega (arith, length-drop p w, length-drop (p + length xs) w, length-append xs (drop (p + length xs) w))

-- ---- a node

pub node_of : (w : List ℕ) (i k x y z : ℕ) → 4 * i + 4 ≤ length w → kind_at w i ≡ k → operand_at w i 0 ≡ x → operand_at w i 1 ≡ y → operand_at w i 2 ≡ z → Stands w (4 * i) (node k x y z)
node_of w i k x y z h e₀ e₁ e₂ e₃ =
    let i₁ : suc (4 * i) ≡ 4 * i + 1 = omega arith in
    let i₂ : suc (4 * i + 1) ≡ 4 * i + 2 = omega arith in
    let i₃ : suc (4 * i + 2) ≡ 4 * i + 3 = omega arith in
    let i₄ : suc (4 * i + 3) ≡ 4 * i + 4 = omega arith in
    record {
      is = one (4 * i) (4 * i + 1) k (omega arith) i₁ e₀ ∙ ap (λ (l : List ℕ). k ∷ l)
          (one (4 * i + 1) (4 * i + 2) x (omega arith) i₂ (place 1 0 (omega arith) ∙ e₁) ∙ ap (λ (l : List ℕ). x ∷ l)
          (one (4 * i + 2) (4 * i + 3) y (omega arith) i₃ (place 2 1 (omega arith) ∙ e₂) ∙ ap (λ (l : List ℕ). y ∷ l)
          (one (4 * i + 3) (4 * i + 4) z (omega arith) i₄ (place 3 2 (omega arith) ∙ e₃))));
    }
  where
    one : (p q v : ℕ) → p < length w → suc p ≡ q → get_or w p 0 ≡ v → drop p w ≡ v ∷ drop q w
    one p q v lt e h = drop-cons w p 0 lt ∙ ap (λ (m : ℕ). m ∷ drop (suc p) w) h ∙ ap (λ (m : ℕ). v ∷ drop m w) e

    place : (m j : ℕ) → m ≡ 1 + j → get_or w (4 * i + m) 0 ≡ operand_at w i j
    place m j e = ap (λ (n : ℕ). get_or w n 0) (let q : 4 * i + m ≡ 4 * i + 1 + j = omega arith in q)

module _ (w : List ℕ) (i k x y z : ℕ) (h : Stands w (4 * i) (node k x y z)) where
  word : (m : ℕ) → get_or w (4 * i + m) 0 ≡ get_or (node k x y z ++ drop (4 * i + 4) w) m 0
  word m = sym (get_or-drop (4 * i) w m 0) ∙ ap (λ (l : List ℕ). get_or l m 0) h.is

  at : (m j : ℕ) → m ≡ 1 + j → operand_at w i j ≡ get_or (node k x y z ++ drop (4 * i + 4) w) m 0
  at m j e = ap (λ (n : ℕ). get_or w n 0) (let q : 4 * i + 1 + j ≡ 4 * i + m = omega arith in q) ∙ word m

  pub kind_is : kind_at w i ≡ k
  kind_is = ap (λ (n : ℕ). get_or w n 0) (sym (add-zero (4 * i))) ∙ word 0

  pub first_is : operand_at w i 0 ≡ x
  first_is = at 1 0 (omega arith)

  pub second_is : operand_at w i 1 ≡ y
  second_is = at 2 1 (omega arith)

  pub third_is : operand_at w i 2 ≡ z
  third_is = at 3 2 (omega arith)

-- ---- bytes

pub bytes_of : (b : List ℕ) (o n : ℕ) → Stands b o (bytes_at b o n)
bytes_of b o n = stands_front b (bytes_at b o n) (drop n (drop o b)) o (sym (take-append-drop n (drop o b)))

pub bytes_are : (b l : List ℕ) (o : ℕ) → Stands b o l → bytes_at b o (length l) ≡ l
bytes_are b l o h = ap (take (length l)) h.is ∙ take-append_seam l (drop (o + length l) b)
