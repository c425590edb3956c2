-- Slices of marks with some changed, as the rule's functions. Assumes nothing.
use mathlib.Core.Path.{◌≡◌, refl, sym, ap, ◌∙◌, fun_ext}
use mathlib.Core.Logic.{◌≢◌, ◌⊎◌, inl, inr}
use mathlib.Core.Bool.{Bool, true, false, ◌||◌, or-true, or-false}
use mathlib.Core.List.{List, [], ◌∷◌}
use Prim.Native.Nat.{ℕ, zero, suc, ◌+◌, ◌-◌, ◌*◌, ◌≤◌, ◌<◌}
use native.Mathlib.Decide.{ℕ_discrete}
use native.Mathlib.Omega.{arith}
use lib.ListN.{length, get_or, set, length-set}
use lib.Seq.{get_or-set_same, get_or-set_other}
use lib.Dec.{eqb}
use borrow.Author.Tests.{eq-eqb, le-ltb}
use Rattle.graph.specs.Members.{put, numbers, raised}
use Rattle.graph.specs.Graph.{Graph}
use Rattle.graph.specs.Transition.{named}
use Rattle.graph.proofs.Laws.Transitions.{named_of, named_none}
use Rattle.graph.proofs.Laws.Members.{put_same, put_other}
use Rattle.marks.specs.Inner.Memory.{mark_at, marks_room, mark_words, fill, flagged_at, Flagged}

pub numbers_set : (l : List ℕ) (x v : ℕ) → x < length l → numbers (set l x v) ≡ put (numbers l) x v
numbers_set l x v h = fun_ext (λ i. case i (ℕ_discrete x i))
  where
    case : (i : ℕ) → Dec (x ≡ i) → get_or (set l x v) i 0 ≡ put (numbers l) x v i
    case i (yes e) = rw (← e) (get_or-set_same l x v 0 h) ∙ sym (put_same (numbers l) x v e)
    case i (no ne) = get_or-set_other l x i v 0 (λ e. ne (sym e)) ∙ sym (put_other (numbers l) x v ne)

-- ---- flags

raised_set : (l : List ℕ) (x : ℕ) → x < length l → raised (set l x 1) ≡ put (raised l) x true
raised_set l x h = fun_ext (λ i. case i (ℕ_discrete x i))
  where
    case : (i : ℕ) → Dec (x ≡ i) → eqb (get_or (set l x 1) i 0) 1 ≡ put (raised l) x true i
    case i (yes e) = let q : get_or (set l x 1) i 0 ≡ 1 = rw (← e) (get_or-set_same l x 1 0 h) in eq-eqb _ _ q ∙ sym (put_same (raised l) x true e)
    case i (no ne) = ap (λ (u : ℕ). eqb u 1) (get_or-set_other l x i 1 0 (λ e. ne (sym e))) ∙ sym (put_other (raised l) x true ne)

put_idle : (f : ℕ → Bool) (x : ℕ) → f ≡ put f x (f x)
put_idle f x = fun_ext (λ i. case i (ℕ_discrete x i))
  where
    case : (i : ℕ) → Dec (x ≡ i) → f i ≡ put f x (f x) i
    case i (yes e) = ap f (sym e) ∙ sym (put_same f x (f x) e)
    case i (no ne) = sym (put_other f x (f x) ne)

pub raised_flagged : (l : List ℕ) (x : ℕ) (b : Bool) → x < length l → raised (flagged_at l x b) ≡ put (raised l) x (raised l x || b)
unfolding flagged_at
raised_flagged l x true h = raised_set l x h ∙ ap (put (raised l) x) (sym (or-true (raised l x)))
raised_flagged l x false h = put_idle (raised l) x ∙ ap (put (raised l) x) (sym (or-false (raised l x)))

-- the flag that a link passed sets, or none
pub flagged_by : (before : List ℕ) (x : ℕ) (b : Bool) {after : List ℕ} → after ≡ flagged_at before x b → Flagged x before after
unfolding flagged_at
flagged_by before x true e = inr e
flagged_by before x false e = inl e

-- ---- what a mark names

module _ (G : Graph) (m : ℕ) (s : G.slots ≡ marks_room) where
  pub names_none : m < 1 → [] ≡ named G m
  names_none h = sym (named_none G (let q : m ≡ 0 = omega arith in q))

  pub names_far : 2048 < m → [] ≡ named G m
  unfolding named
  names_far h = let e : m ≡ suc (m - 1) = omega arith in rw (e, le-ltb _ _ (let q : G.slots ≤ m - 1 = omega arith in q)) refl

  pub names_some : 1 ≤ m → m ≤ 2048 → (m - 1) ∷ [] ≡ named G m
  names_some n h = sym (named_of G (let q : m ≡ suc (m - 1) = omega arith in q) (let q : m - 1 < G.slots = omega arith in q))

-- ---- marks

-- a mark's place in the slice is its own
module _ (x z i j : ℕ) (hi : i < 6) (hj : j < 6) where
  apart : (x ≢ z) ⊎ (j ≢ i) → z * 6 + i ≢ x * 6 + j
  apart (inl n) e = n (let q : x ≡ z = omega arith in q)
  apart (inr n) e = n (let q : j ≡ i = omega arith in q)

pub mark_set : (m : List ℕ) (x j a : ℕ) → j < 6 → x < 2048 → mark_words ≤ length m → mark_at (set m (x * 6 + j) a) j ≡ put (mark_at m j) x a
mark_set m x j a hj h k = fun_ext (λ z. case z (ℕ_discrete x z))
  where
    case : (z : ℕ) → Dec (x ≡ z) → get_or (set m (x * 6 + j) a) (z * 6 + j) 0 ≡ put (mark_at m j) x a z
    case z (yes e) = rw (← e) (get_or-set_same m (x * 6 + j) a 0 (omega arith)) ∙ sym (put_same (mark_at m j) x a e)
    case z (no ne) = get_or-set_other m (x * 6 + j) (z * 6 + j) a 0 (apart x z j j hj hj (inl ne)) ∙ sym (put_other (mark_at m j) x a ne)

pub mark_keep : (m : List ℕ) (x j i a : ℕ) → j < 6 → i < 6 → j ≢ i → mark_at (set m (x * 6 + j) a) i ≡ mark_at m i
mark_keep m x j i a hj hi n = fun_ext (λ z. get_or-set_other m (x * 6 + j) (z * 6 + i) a 0 (apart x z i j hi hj (inr n)))

pub length_fill : (m : List ℕ) (x j : ℕ) (vs : List ℕ) → length (fill m x j vs) ≡ length m
unfolding fill
length_fill m x j [] = refl
length_fill m x j (a ∷ vs) = length_fill (set m (x * 6 + j) a) x (suc j) vs ∙ length-set m (x * 6 + j) a

-- marks before and behind those written are kept
pub fill_before : (vs m : List ℕ) (x j i : ℕ) → i < j → j + length vs ≤ 6 → mark_at (fill m x j vs) i ≡ mark_at m i
unfolding fill
fill_before [] m x j i h k = refl
fill_before (a ∷ vs) m x j i h k = fill_before vs (set m (x * 6 + j) a) x (suc j) i (omega arith) (omega arith) ∙ mark_keep m x j i a (omega arith) (omega arith) (λ e. omega arith)

pub fill_behind : (vs m : List ℕ) (x j i : ℕ) → j + length vs ≤ i → i < 6 → mark_at (fill m x j vs) i ≡ mark_at m i
unfolding fill
fill_behind [] m x j i h k = refl
fill_behind (a ∷ vs) m x j i h k = fill_behind vs (set m (x * 6 + j) a) x (suc j) i (omega arith) k ∙ mark_keep m x j i a (omega arith) k (λ e. omega arith)

-- each mark written is the one given
pub fill_at : (vs m : List ℕ) (x j i : ℕ) → j + length vs ≤ 6 → x < 2048 → mark_words ≤ length m → i < length vs →
    mark_at (fill m x j vs) (j + i) ≡ put (mark_at m (j + i)) x (get_or vs i 0)
unfolding fill
fill_at [] m x j i h b r lt = absurd (let q : ⊥ = omega arith in q)
fill_at (a ∷ vs) m x j zero h b r lt =
    let e : j + 0 ≡ j = omega arith in
    ap (mark_at (fill (set m (x * 6 + j) a) x (suc j) vs)) e ∙ fill_before vs (set m (x * 6 + j) a) x (suc j) j (omega arith) (omega arith)
    ∙ mark_set m x j a (omega arith) b r ∙ ap (λ (u : ℕ). put (mark_at m u) x a) (sym e)
fill_at (a ∷ vs) m x j (suc i) h b r lt =
    let e : j + suc i ≡ suc j + i = omega arith in
    ap (mark_at (fill (set m (x * 6 + j) a) x (suc j) vs)) e
    ∙ fill_at vs (set m (x * 6 + j) a) x (suc j) i (omega arith) b (rw (length-set m (x * 6 + j) a) r) (omega arith)
    ∙ ap (λ (f : ℕ → ℕ). put f x (get_or vs i 0)) (mark_keep m x j (suc j + i) a (omega arith) (omega arith) (λ q. omega arith))
    ∙ ap (λ (u : ℕ). put (mark_at m u) x (get_or vs i 0)) (sym e)
