-- The roots that are entered. Assumes nothing.
use Rattle.std.specs.Prelude.{◌≡◌, refl, ◌≢◌, Bool, true, false, ℕ, zero, suc, ◌+◌, ◌-◌, ◌≤◌, ◌<◌, length, take, set}
use Rattle.std.proofs.Common.{sym, ap, ◌∙◌, add-one, arith, take-suc-set}
use Rattle.std.proofs.Math.Path.{subst}
use mathlib.Core.List.{List, [], ◌∷◌, ◌++◌, append_assoc, append-nil}
use Rattle.std.proofs.Math.ListN.{get_or}
use Rattle.std.proofs.lemmas.List.{length-map}
use Rattle.graph.specs.Members.{◌∈◌}
use Rattle.graph.proofs.Laws.Members.{at_mem}
use Rattle.graph.specs.Transition.{marked}
use Rattle.ad.specs.Stored.{find}
use Rattle.links.specs.Pair.{numbered, roots_of, requirements, rank, pair_graph}
use Rattle.links.specs.Inner.Asked.{unmarked, Measured, RootMarks}
use Rattle.links.specs.Laws.Counting.{found_few}
use Rattle.links.specs.Laws.Soundness.{pair_sound}
use Rattle.links.specs.Laws.Numbering.{stands_small}

-- ---- one more root

pub root_none : (rs : List ℕ) (n : ℕ) {m : ℕ} → m ≡ 0 → take n rs ≡ take n rs ++ unmarked m
root_none rs n z = rw z (sym (append-nil (take n rs)))

pub root_one : (rs : List ℕ) (n : ℕ) (m : ℕ) → m ≢ 0 → n < length rs → take (n + 1) (set rs n (m - 1)) ≡ take n rs ++ unmarked m
root_one rs n zero z h = absurd (z refl)
root_one rs n (suc y) z h =
    ap (λ (u : ℕ). take u (set rs n (suc y - 1))) (add-one n) ∙ take-suc-set rs n (suc y - 1) h
    ∙ ap (λ (u : ℕ). take n rs ++ u ∷ []) (let q : suc y - 1 ≡ y = omega arith in q)

-- the four, one after the other
pub roots_four : (i j k l : ℕ) {t₁ t₂ t₃ t₄ : List ℕ} → t₁ ≡ unmarked i → t₂ ≡ t₁ ++ unmarked j → t₃ ≡ t₂ ++ unmarked k → t₄ ≡ t₃ ++ unmarked l →
    t₄ ≡ unmarked i ++ (unmarked j ++ (unmarked k ++ unmarked l))
roots_four i j k l e₁ e₂ e₃ e₄ =
    e₄ ∙ ap (λ (u : List ℕ). u ++ unmarked l) (e₃ ∙ ap (λ (u : List ℕ). u ++ unmarked k) (e₂ ∙ ap (λ (u : List ℕ). u ++ unmarked j) e₁))
    ∙ regroup (unmarked i) (unmarked j) (unmarked k) (unmarked l)
  where
    regroup : (p q s t : List ℕ) → ((p ++ q) ++ s) ++ t ≡ p ++ (q ++ (s ++ t))
    regroup p q s t = simp append_assoc

-- a mark of at most one node names it
pub unmarked_marked : (l : List ℕ) → length l ≤ 1 → unmarked (marked l) ≡ l
unmarked_marked [] h = refl
unmarked_marked (y ∷ []) h = refl
unmarked_marked (y ∷ x ∷ l) h = absurd (let q : suc (suc (length l)) ≤ 1 = h in let w : ⊥ = omega arith in w)

pub root_few : (second : Bool) (w b name : List ℕ) → length (roots_of second w b name) ≤ 1
root_few second w b name = rw (length-map (find w b name) (numbered second)) (found_few w b name)

-- THE ROOTS ARE THOSE THAT THE MARKS NAME
pub roots_listed : {v b w c : List ℕ} {i j k l : ℕ} → RootMarks v b w c i j k l → unmarked i ++ (unmarked j ++ (unmarked k ++ unmarked l)) ≡ (pair_graph v b w c).roots
unfolding pair_graph
roots_listed {v} {b} {w} {c} r = λ t. one false v b requirements r.first_required t ++ (one true w c requirements r.second_required t ++ (one false v b rank r.first_ranked t ++ one true w c rank r.second_ranked t))
  where
    one : (second : Bool) (u d name : List ℕ) {m : ℕ} → m ≡ marked (roots_of second u d name) → unmarked m ≡ roots_of second u d name
    one second u d name e = ap unmarked e ∙ unmarked_marked (roots_of second u d name) (root_few second u d name)

-- ---- what is known of them

module _ {v w : List ℕ} (b c : List ℕ) {roots : List ℕ} {n d n' d' : ℕ} (p : Measured v n d) (q : Measured w n' d') (e : roots ≡ (pair_graph v b w c).roots) where
  pub roots_few : length roots ≤ 4
  roots_few = subst (λ (l : List ℕ). length l ≤ 4) (sym e) (pair_sound v b w c p.formed q.formed).roots_few

  pub roots_small : (i : ℕ) → i < length roots → get_or roots i 0 < 2048
  unfolding pair_graph
  roots_small i h =
      let m : get_or roots i 0 ∈ (pair_graph v b w c).roots = subst (λ (l : List ℕ). get_or roots i 0 ∈ l) e (at_mem roots i h) in
      stands_small v w (get_or roots i 0) ((pair_sound v b w c p.formed q.formed).roots_in _ m)
