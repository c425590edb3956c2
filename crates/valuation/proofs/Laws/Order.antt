-- The list's order: what an entry needs stands before it, and no entry stands twice.
use Rattle.std.specs.Prelude.{◌≡◌, ◌⊎◌, List, [], ◌∷◌, ◌++◌, ℕ, zero, suc, take, drop}
use Rattle.std.proofs.Common.{sym, subst, inl, inr, append_assoc, append-nil}
use Rattle.graph.specs.Members.{◌∈◌}
use Rattle.graph.proofs.Laws.Members.{mem_nil, mem_cons, mem_cast, mem_left}
use Rattle.graph.specs.Graph.{Path⁺, one, more, Path⋆, Entered, none, again, fresh}
use Rattle.graph.proofs.Laws.DepthFirst.{entered_came}
use Rattle.valuation.proofs.Laws.Values.{entered_in}

-- Ordered need done xs: after the entries done, the entries xs can be worked out one after another
pub data Ordered (need : ℕ → List ℕ) : List ℕ → List ℕ → Type 0 where
  onil : {done : List ℕ} → Ordered need done []
  ocons : {done xs : List ℕ} {x : ℕ} → ((y : ℕ) → y ∈ need x → y ∈ done) → ¬ (x ∈ done) → Ordered need (done ++ x ∷ []) xs → Ordered need done (x ∷ xs)

module _ {need : ℕ → List ℕ} where
  pub ordered_snoc : {done xs : List ℕ} {x : ℕ} → Ordered need done xs → ((y : ℕ) → y ∈ need x → y ∈ (done ++ xs)) → ¬ (x ∈ (done ++ xs)) → Ordered need done (xs ++ x ∷ [])
  ordered_snoc {done} onil h f = ocons (λ y m. rw append-nil at (h y m)) (λ m. f (rw append-nil m)) onil
  ordered_snoc {done} (ocons {xs = xs} {x = z} a b d) h f =
      ocons a b (ordered_snoc d (λ y m. rw (append_assoc done (z ∷ []) xs) (h y m)) (λ m. f (rw (append_assoc done (z ∷ []) xs) at m)))

  pub ordered_take : (n : ℕ) {done xs : List ℕ} → Ordered need done xs → Ordered need done (take n xs)
  ordered_take zero onil = onil
  ordered_take zero (ocons a b d) = onil
  ordered_take (suc n) onil = onil
  ordered_take (suc n) (ocons a b d) = ocons a b (ordered_take n d)

  pub ordered_drop : (n : ℕ) {done xs : List ℕ} → Ordered need done xs → Ordered need (done ++ take n xs) (drop n xs)
  ordered_drop zero onil = onil
  ordered_drop zero (ocons {done = done} a b d) = rw (append-nil done) (ocons a b d)
  ordered_drop (suc n) onil = onil
  ordered_drop (suc n) (ocons {done = done} {xs = xs} {x = x} a b d) = subst (λ (l : List ℕ). Ordered need l (drop n xs)) (append_assoc done (x ∷ []) (take n xs)) (ordered_drop n d)

  -- what comes after is not done yet
  pub ordered_new : {done xs : List ℕ} → Ordered need done xs → (y : ℕ) → y ∈ done → ¬ (y ∈ xs)
  ordered_new onil y k m = mem_nil m
  ordered_new (ocons {done = done} {xs = xs} {x = x} a b d) y k m = go (λ n. ordered_new d y (mem_left _ k) n) (mem_cons m)
    where
      go : ¬ (y ∈ xs) → (y ≡ x) ⊎ (y ∈ xs) → ⊥
      go ih (inl e) = b (mem_cast (sym e) k)
      go ih (inr n) = ih n

module _ (need : ℕ → List ℕ) (acyclic : (x : ℕ) → ¬ (Path⁺ need x x)) where
  -- a node that is not in the list is not entered with its needs
  pub entered_new : {x : ℕ} {l l₁ : List ℕ} → ¬ (x ∈ l) → Entered need l (need x) l₁ → ¬ (x ∈ l₁)
  entered_new {x} {l} {l₁} f d m = go (entered_came need acyclic d x m)
    where
      go : (x ∈ l) ⊎ ((z : ℕ) × (z ∈ need x) × Path⋆ need z x) → ⊥
      go (inl k) = f k
      go (inr (z, p, inl e)) = acyclic x (one (mem_cast (sym e) p))
      go (inr (z, p, inr q)) = acyclic x (more p q)

  pub entered_ordered : {l xs l' : List ℕ} → Entered need l xs l' → Ordered need [] l → Ordered need [] l'
  entered_ordered none o = o
  entered_ordered (again _ d) o = entered_ordered d o
  entered_ordered (fresh {x = x} {l = l} {l₁ = l₁} f d d') o =
      entered_ordered d' (ordered_snoc (entered_ordered d o) (λ y m. entered_in d y m) (entered_new f d))
