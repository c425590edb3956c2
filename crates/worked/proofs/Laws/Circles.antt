-- Which nodes of a small graph lead back to themselves, found by trying. Assumes nothing.
use Prim.Native.Nat.{ℕ, zero, suc}
use Rattle.std.specs.Prelude.{◌≡◌, refl, ◌⊎◌, Bool, true, false, cond}
use Rattle.std.proofs.Common.{sym, subst, inl, inr}
use Rattle.std.proofs.lemmas.Bool.{false≢true}
use mathlib.Core.List.{List, [], ◌∷◌, ◌++◌}
use Rattle.graph.proofs.Laws.DepthFirst.{path_snoc}
use Rattle.graph.specs.Members.{◌∈◌, here, there, Each}
use Rattle.graph.proofs.Laws.Members.{mem_nil, mem_cons, mem_append}
use Rattle.graph.specs.Graph.{Path⁺, one, more}
use Rattle.worked.proofs.Laws.Solving.{among, among_in, among_out}

pub cond_both : (a b : Bool) → cond a b false ≡ true → (a ≡ true) × (b ≡ true)
cond_both true b e = (refl, e)
cond_both false b e = absurd (false≢true e)

pub either : {x z : ℕ} {xs : List ℕ} {P : Type 0} → (z ≡ x → P) → (z ∈ xs → P) → (z ≡ x) ⊎ (z ∈ xs) → P
either f g (inl q) = f q
either f g (inr k) = g k

module _ (go : ℕ → List ℕ) where
  -- what the nodes xs lead to, with what is found already; f bounds the search
  unfoldable pub reached : ℕ → List ℕ → List ℕ → List ℕ
  reached zero xs found = found
  reached (suc f) [] found = found
  reached (suc f) (x ∷ xs) found = cond (among x found) (reached f xs found) (reached f (go x ++ xs) (x ∷ found))

  -- each of xs is among ys
  unfoldable pub within : List ℕ → List ℕ → Bool
  within [] ys = true
  within (x ∷ xs) ys = cond (among x ys) (within xs ys) false

  -- each of xs leads to ys only
  unfoldable pub closed_in : List ℕ → List ℕ → Bool
  closed_in [] ys = true
  closed_in (x ∷ xs) ys = cond (within (go x) ys) (closed_in xs ys) false

  within_in : (xs ys : List ℕ) → within xs ys ≡ true → (z : ℕ) → z ∈ xs → z ∈ ys
  unfolding within
  within_in [] ys e z m = absurd (mem_nil m)
  within_in (x ∷ xs) ys e z m =
      let d = cond_both (among x ys) (within xs ys) e in
      either (λ q. rw q (among_in x ys d.0)) (λ k. within_in xs ys d.1 z k) (mem_cons m)

  closed_in_lem : (xs ys : List ℕ) → closed_in xs ys ≡ true → (y z : ℕ) → y ∈ xs → z ∈ go y → z ∈ ys
  unfolding closed_in
  closed_in_lem [] ys e y z m k = absurd (mem_nil m)
  closed_in_lem (x ∷ xs) ys e y z m k =
      let d = cond_both (within (go x) ys) (closed_in xs ys) e in
      either (λ q. within_in (go x) ys d.0 z (subst (λ (u : ℕ). z ∈ go u) q k)) (λ n. closed_in_lem xs ys d.1 y z n k) (mem_cons m)

  -- a path from within a closed list stays there
  stays : (ys : List ℕ) → closed_in ys ys ≡ true → {y z : ℕ} → y ∈ ys → Path⁺ go y z → z ∈ ys
  stays ys e {y} {z} m (one k) = closed_in_lem ys ys e y z m k
  stays ys e {y} m (more {y = u} k p) = stays ys e (closed_in_lem ys ys e y u m k) p

  leaves : (x : ℕ) (ys : List ℕ) → within (go x) ys ≡ true → closed_in ys ys ≡ true → {z : ℕ} → Path⁺ go x z → z ∈ ys
  leaves x ys a e {z} (one k) = within_in (go x) ys a z k
  leaves x ys a e (more {y = u} k p) = stays ys e (within_in (go x) ys a u k) p

  -- what is found is led to
  module _ (o : ℕ) where
    next_led : (x : ℕ) (xs : List ℕ) → Each (Path⁺ go o) (x ∷ xs) → Each (Path⁺ go o) (go x ++ xs)
    next_led x xs h z m = split (mem_append (go x) m)
      where
        split : (z ∈ go x) ⊎ (z ∈ xs) → Path⁺ go o z
        split (inl n) = path_snoc (h x (here refl)) n
        split (inr n) = h z (there n)

    also_led : (x : ℕ) (found : List ℕ) → Path⁺ go o x → Each (Path⁺ go o) found → Each (Path⁺ go o) (x ∷ found)
    also_led x found p k z m = either (λ q. subst (Path⁺ go o) (sym q) p) (λ n. k z n) (mem_cons m)

    either_led : (b : Bool) (l m : List ℕ) → Each (Path⁺ go o) l → Each (Path⁺ go o) m → Each (Path⁺ go o) (cond b l m)
    either_led true l m h k = h
    either_led false l m h k = k

    reached_led : (f : ℕ) (xs found : List ℕ) → Each (Path⁺ go o) xs → Each (Path⁺ go o) found → Each (Path⁺ go o) (reached f xs found)
    unfolding reached
    reached_led zero xs found h k = k
    reached_led (suc f) [] found h k = k
    reached_led (suc f) (x ∷ xs) found h k =
        either_led (among x found) _ _ (reached_led f xs found (λ z m. h z (there m)) k)
        (reached_led f (go x ++ xs) (x ∷ found) (next_led x xs h) (also_led x found (h x (here refl)) k))

  -- x leads back to itself, as far as 64 turns find
  abbrev pub returns : ℕ → Bool
  returns x = among x (reached 64 (go x) [])

  -- and 64 are enough
  abbrev pub enough : ℕ → Bool
  enough x = cond (within (go x) (reached 64 (go x) [])) (closed_in (reached 64 (go x) []) (reached 64 (go x) [])) false

  pub returns_path : (x : ℕ) → returns x ≡ true → Path⁺ go x x
  returns_path x e = reached_led x 64 (go x) [] (λ z m. one m) (λ z m. absurd (mem_nil m)) x (among_in x _ e)

  pub path_returns : (x : ℕ) → enough x ≡ true → Path⁺ go x x → returns x ≡ true
  path_returns x e p = case (returns x) refl
    where
      both : (within (go x) (reached 64 (go x) []) ≡ true) × (closed_in (reached 64 (go x) []) (reached 64 (go x) []) ≡ true)
      both = cond_both _ _ e

      case : (b : Bool) → returns x ≡ b → b ≡ true
      case true q = refl
      case false q = absurd (among_out x _ q (leaves x _ both.0 both.1 p))
