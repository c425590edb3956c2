-- What is counted and found in a stored ad. Assumes nothing.
use Rattle.std.specs.Prelude.{◌≡◌, refl, ◌≢◌, ◌⊎◌, Bool, true, false, cond, List, [], ◌∷◌, map, ℕ, zero, suc, ◌+◌, ◌≤◌, ◌<◌, length, eqb, ltb}
use Rattle.std.proofs.Common.{sym, ap, subst, inl, inr, le_refl, arith, eq-eqb, ne_eqb}
use Rattle.text.specs.Strings.{same_name}
use Rattle.syntax.specs.Bounds.{max_nodes, max_definitions}
use Rattle.graph.specs.Members.{◌∈◌, here, there, Each}
use Rattle.graph.proofs.Laws.Members.{mem_nil, mem_cons}
use Rattle.ad.specs.Stored.{leading, node_count, definition_count, kind_at, offset_at, length_at, root_at, bytes_at, find_from, find, roots_from, arity}

-- ---- what stands before the first 0

pub leading_le : (f : ℕ → ℕ) (i k : ℕ) → leading f i k ≤ k
unfolding leading
leading_le f i zero = le_refl 0
leading_le f i (suc k) = go (eqb (f i) 0) (leading_le f (suc i) k)
  where
    go : (b : Bool) → leading f (suc i) k ≤ k → cond b 0 (suc (leading f (suc i) k)) ≤ suc k
    go true h = omega arith
    go false h = omega arith

-- n numbers that are not 0, and then a 0 or no more room
pub leading_is : (f : ℕ → ℕ) (n i k : ℕ) → n ≤ k → ((j : ℕ) → j < n → f (i + j) ≢ 0) → (n < k → f (i + n) ≡ 0) → leading f i k ≡ n
unfolding leading
leading_is f zero i zero h a b = refl
leading_is f zero i (suc k) h a b =
    let e : f i ≡ 0 = subst (λ (u : ℕ). f u ≡ 0) (let q : i + 0 ≡ i = omega arith in q) (b (omega arith)) in
    rw (eq-eqb _ _ e) refl
leading_is f (suc n) i zero h a b = absurd (let q : ⊥ = omega arith in q)
leading_is f (suc n) i (suc k) h a b =
    let e : f i ≢ 0 = subst (λ (u : ℕ). f u ≢ 0) (let q : i + 0 ≡ i = omega arith in q) (a 0 (omega arith)) in
    let r : leading f (suc i) k ≡ n =
    leading_is f n (suc i) k (omega arith)
    (λ j lt. subst (λ (u : ℕ). f u ≢ 0) (let q : i + suc j ≡ suc i + j = omega arith in q) (a (suc j) (omega arith)))
    (λ lt. subst (λ (u : ℕ). f u ≡ 0) (let q : i + suc n ≡ suc i + n = omega arith in q) (b (omega arith))) in
    rw (ne_eqb _ _ e) (ap suc r)

pub nodes_few : (w : List ℕ) → node_count w ≤ max_nodes
unfolding node_count
nodes_few w = leading_le (kind_at w) 0 max_nodes

pub definitions_few : (w : List ℕ) → definition_count w ≤ max_definitions
unfolding definition_count
definitions_few w = leading_le (length_at w) 0 max_definitions

-- ---- the roots of definitions

-- each is the root of a definition
pub roots_each : (w : List ℕ) (P : ℕ → Type 0) (j k : ℕ) → ((i : ℕ) → i < k → P (root_at w (j + i))) → Each P (roots_from w j k)
unfolding roots_from
roots_each w P j zero f x m = absurd (mem_nil m)
roots_each w P j (suc k) f x m = go (λ n. roots_each w P (suc j) k (λ i h. next i h) x n) (mem_cons m)
  where
    next : (i : ℕ) → i < k → P (root_at w (suc j + i))
    next i h = subst (λ (u : ℕ). P (root_at w u)) (let q : j + suc i ≡ suc j + i = omega arith in q) (f (suc i) (omega arith))

    go : (x ∈ roots_from w (suc j) k → P x) → (x ≡ root_at w j) ⊎ (x ∈ roots_from w (suc j) k) → P x
    go ih (inl e) = subst P (sym e) (subst (λ (u : ℕ). P (root_at w u)) (let q : j + 0 ≡ j = omega arith in q) (f 0 (omega arith)))
    go ih (inr n) = ih n

-- ---- a name is found at one root at most, which is a definition's

pub find_few : (w b name : List ℕ) (j k : ℕ) → length (find_from w b name j k) ≤ 1
unfolding find_from
find_few w b name j zero = omega arith
find_few w b name j (suc k) = go (same_name (bytes_at b (offset_at w j) (length_at w j)) name) (find_few w b name (suc j) k)
  where
    go : (u : Bool) → length (find_from w b name (suc j) k) ≤ 1 → length (cond u (root_at w j ∷ []) (find_from w b name (suc j) k)) ≤ 1
    go true h = le_refl 1
    go false h = h

pub find_roots : (w b name : List ℕ) (j k : ℕ) (y : ℕ) → y ∈ find_from w b name j k → y ∈ roots_from w j k
unfolding find_from roots_from
find_roots w b name j zero y m = absurd (mem_nil m)
find_roots w b name j (suc k) y m = go (same_name (bytes_at b (offset_at w j) (length_at w j)) name) (λ n. find_roots w b name (suc j) k y n) m
  where
    only : (y ≡ root_at w j) ⊎ (y ∈ []) → y ∈ (root_at w j ∷ roots_from w (suc j) k)
    only (inl e) = here e
    only (inr n) = absurd (mem_nil n)

    go : (u : Bool) → (y ∈ find_from w b name (suc j) k → y ∈ roots_from w (suc j) k) → y ∈ cond u (root_at w j ∷ []) (find_from w b name (suc j) k) →
        y ∈ (root_at w j ∷ roots_from w (suc j) k)
    go true ih n = only (mem_cons n)
    go false ih n = there (ih n)

pub found_few : (w b name : List ℕ) → length (find w b name) ≤ 1
unfolding find
found_few w b name = find_few w b name 0 (definition_count w)

pub found_root : (w b name : List ℕ) (y : ℕ) → y ∈ find w b name → y ∈ roots_from w 0 (definition_count w)
unfolding find
found_root w b name y m = find_roots w b name 0 (definition_count w) y m

-- ---- a list of images

pub map_from : (f : ℕ → ℕ) (P : ℕ → Type 0) (l : List ℕ) → ((y : ℕ) → y ∈ l → P (f y)) → Each P (map f l)
map_from f P [] h x m = absurd (mem_nil m)
map_from f P (a ∷ l) h x m = go (λ n. map_from f P l (λ y k. h y (there k)) x n) (mem_cons m)
  where
    go : (x ∈ map f l → P x) → (x ≡ f a) ⊎ (x ∈ map f l) → P x
    go ih (inl e) = subst P (sym e) (h a (here refl))
    go ih (inr n) = ih n

-- ---- operands

pub arity_few : (k : ℕ) → arity k ≤ 3
unfolding arity
arity_few k = go (ltb k 9) (ltb k 12) (eqb k 12) (ltb k 28)
  where
    go : (a b c d : Bool) → cond a 0 (cond b 1 (cond c 3 (cond d 2 0))) ≤ 3
    go true b c d = omega arith
    go false true c d = omega arith
    go false false true d = omega arith
    go false false false true = omega arith
    go false false false false = omega arith
