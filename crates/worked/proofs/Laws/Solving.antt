-- Values and the list of a small graph, found by trying. Assumes nothing.
use Prim.Native.Nat.{ℕ, zero, suc}
use Rattle.std.proofs.Math.Decide.{ℕ_discrete}
use Rattle.std.specs.Prelude.{◌≡◌, ◌⊎◌, Bool, eqb, ◌||◌, Option, Some, None}
use Rattle.std.proofs.Math.Path.{refl, subst}
use Rattle.std.proofs.Common.{sym, inl, inr, true≢false, eq-eqb, ne_eqb}
use Rattle.std.proofs.Math.Bool.{true, false}
use mathlib.Core.List.{List, [], ◌∷◌, ◌++◌}
use Rattle.syntax.specs.Token.{pick}
use Rattle.graph.specs.Members.{◌∈◌, here, there}
use Rattle.graph.proofs.Laws.Members.{mem_nil, mem_cons}
use Rattle.graph.specs.Graph.{Entered, none, again, fresh}
use Rattle.values.specs.declared.Value.{Value}
use Rattle.valuation.specs.Gives.{Give, nil, cons}

-- ---- values

-- the value of a node with needs of the values us, in front of other values; none where either failed
abbrev join : (List Value → Value) → Option (List Value) → Option (List Value) → Option (List Value)
join r None t = None
join r (Some us) None = None
join r (Some us) (Some vs) = Some (r us ∷ vs)

module _ (need : ℕ → List ℕ) (rule : ℕ → List Value → Value) where
  unfoldable pub try_with : (List ℕ → Option (List Value)) → List ℕ → Option (List Value)
  try_with go [] = Some []
  try_with go (x ∷ xs) = join (rule x) (go (need x)) (go xs)

  -- the values of the nodes xs, where no path from them is longer than f
  unfoldable pub attempt : ℕ → List ℕ → Option (List Value)
  attempt zero = try_with (λ xs. None)
  attempt (suc f) = try_with (attempt f)

  Good : List ℕ → Option (List Value) → Type 0
  Good xs None = Unit {0}
  Good xs (Some vs) = Give need rule xs vs

  join_good : (x : ℕ) (xs : List ℕ) (t u : Option (List Value)) → Good (need x) t → Good xs u → Good (x ∷ xs) (join (rule x) t u)
  unfolding Good
  join_good x xs None u a b = tt
  join_good x xs (Some us) None a b = tt
  join_good x xs (Some us) (Some vs) a b = cons a b

  try_good : (go : List ℕ → Option (List Value)) → ((xs : List ℕ) → Good xs (go xs)) → (xs : List ℕ) → Good xs (try_with go xs)
  unfolding try_with Good
  try_good go h [] = nil
  try_good go h (x ∷ xs) = join_good x xs (go (need x)) (go xs) (h (need x)) (h xs)

  none_good : (xs : List ℕ) → Good xs None
  unfolding Good
  none_good xs = tt

  attempt_good : (f : ℕ) (xs : List ℕ) → Good xs (attempt f xs)
  unfolding attempt
  attempt_good zero xs = try_good (λ xs. None) none_good xs
  attempt_good (suc f) xs = try_good (attempt f) (attempt_good f) xs

  pub attempted : (f : ℕ) (xs : List ℕ) (vs : List Value) → attempt f xs ≡ Some vs → Give need rule xs vs
  unfolding Good
  attempted f xs vs e = subst (Good xs) e (attempt_good f xs)

-- ---- the list

unfoldable pub among : ℕ → List ℕ → Bool
among x [] = false
among x (y ∷ ys) = eqb x y || among x ys

pub among_in : (x : ℕ) (l : List ℕ) → among x l ≡ true → x ∈ l
unfolding among
among_in x [] e = absurd (true≢false (sym e))
among_in x (y ∷ ys) e = go (λ k. among_in x ys k) (ℕ_discrete x y)
  where
    go : (among x ys ≡ true → x ∈ ys) → Dec (x ≡ y) → x ∈ (y ∷ ys)
    go h (yes q) = here q
    go h (no n) = there (h (rw (ne_eqb _ _ n) at e))

pub among_out : (x : ℕ) (l : List ℕ) → among x l ≡ false → ¬ (x ∈ l)
unfolding among
among_out x [] e m = mem_nil m
among_out x (y ∷ ys) e m = go (λ k. among_out x ys k) (ℕ_discrete x y)
  where
    rest : ¬ (x ≡ y) → ¬ (x ∈ ys) → (x ≡ y) ⊎ (x ∈ ys) → ⊥
    rest n f (inl q) = n q
    rest n f (inr k) = f k

    go : (among x ys ≡ false → ¬ (x ∈ ys)) → Dec (x ≡ y) → ⊥
    go h (yes q) = true≢false (rw (eq-eqb _ _ q) at e)
    go h (no n) = rest n (h (rw (ne_eqb _ _ n) at e)) (mem_cons m)

module _ (need : ℕ → List ℕ) where
  unfoldable pub behind : (List ℕ → List ℕ → Option (List ℕ)) → ℕ → List ℕ → Option (List ℕ) → Option (List ℕ)
  behind go x xs None = None
  behind go x xs (Some l) = go (l ++ x ∷ []) xs

  unfoldable pub enter_with : (List ℕ → List ℕ → Option (List ℕ)) → List ℕ → List ℕ → Option (List ℕ)
  enter_with go l [] = Some l
  enter_with go l (x ∷ xs) = pick (among x l) (λ _. go l xs) (λ _. behind go x xs (go l (need x)))

  -- the list so far and the nodes xs entered, where no path from them is longer than f
  unfoldable pub enters : ℕ → List ℕ → List ℕ → Option (List ℕ)
  enters zero = enter_with (λ l xs. None)
  enters (suc f) = enter_with (enters f)

  Fine : List ℕ → List ℕ → Option (List ℕ) → Type 0
  Fine l xs None = Unit {0}
  Fine l xs (Some l') = Entered need l xs l'

  fine_again : (x : ℕ) (l xs : List ℕ) (e : Option (List ℕ)) → x ∈ l → Fine l xs e → Fine l (x ∷ xs) e
  unfolding Fine
  fine_again x l xs None m k = tt
  fine_again x l xs (Some l') m k = again m k

  fine_fresh : (x : ℕ) (l l₁ xs : List ℕ) (e : Option (List ℕ)) → ¬ (x ∈ l) → Entered need l (need x) l₁ → Fine (l₁ ++ x ∷ []) xs e → Fine l (x ∷ xs) e
  unfolding Fine
  fine_fresh x l l₁ xs None n d k = tt
  fine_fresh x l l₁ xs (Some l') n d k = fresh n d k

  module _ (go : List ℕ → List ℕ → Option (List ℕ)) (h : (l xs : List ℕ) → Fine l xs (go l xs)) where
    behind_fine : (l : List ℕ) (x : ℕ) (xs : List ℕ) (e : Option (List ℕ)) → ¬ (x ∈ l) → Fine l (need x) e → Fine l (x ∷ xs) (behind go x xs e)
    unfolding behind Fine
    behind_fine l x xs None n k = tt
    behind_fine l x xs (Some l₁) n k = fine_fresh x l l₁ xs (go (l₁ ++ x ∷ []) xs) n k (h (l₁ ++ x ∷ []) xs)

    enter_fine : (l xs : List ℕ) → Fine l xs (enter_with go l xs)
    unfolding enter_with Fine
    enter_fine l [] = none
    enter_fine l (x ∷ xs) = case (among x l) refl
      where
        case : (t : Bool) → among x l ≡ t → Fine l (x ∷ xs) (pick t (λ _. go l xs) (λ _. behind go x xs (go l (need x))))
        case true e = fine_again x l xs (go l xs) (among_in x l e) (h l xs)
        case false e = behind_fine l x xs (go l (need x)) (among_out x l e) (h l (need x))

  lost_fine : (l xs : List ℕ) → Fine l xs None
  unfolding Fine
  lost_fine l xs = tt

  enters_fine : (f : ℕ) (l xs : List ℕ) → Fine l xs (enters f l xs)
  unfolding enters
  enters_fine zero l xs = enter_fine (λ l xs. None) lost_fine l xs
  enters_fine (suc f) l xs = enter_fine (enters f) (enters_fine f) l xs

  pub entered_by : (f : ℕ) (xs l : List ℕ) → enters f [] xs ≡ Some l → Entered need [] xs l
  unfolding Fine
  entered_by f xs l e = subst (Fine [] xs) e (enters_fine f [] xs)
