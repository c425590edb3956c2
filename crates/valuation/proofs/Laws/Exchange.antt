-- Two lists of the same graph from roots in another order: the same entries, and as many.
use Rattle.std.specs.Prelude.{◌≡◌, refl, ◌⊎◌, List, [], ◌∷◌, ◌++◌, map, ℕ, ◌≤◌, length}
use Rattle.std.proofs.Common.{sym, subst, inl, inr, arith}
use Rattle.std.proofs.lemmas.List.{length-map}
use Rattle.graph.specs.Members.{◌∈◌, here, Each, Distinct, dnil, dcons}
use Rattle.graph.proofs.Laws.Members.{mem_nil, mem_cons, mem_cast, mem_left, mem_append, Less, less}
use Rattle.graph.specs.Graph.{Graph, Sound, Path⁺, one, more, Path⋆, needs, Entered, none, again, fresh, IsList}
use Rattle.graph.proofs.Laws.DepthFirst.{entered_came, entered_distinct}
use Rattle.graph.proofs.Laws.Traversal.{needs_acyclic}
use Rattle.valuation.proofs.Laws.Values.{entered_in}
use Rattle.valuation.proofs.Laws.Transfer.{Embeds, needs_closed, graph_needs, entered_goes, mem_map, map_mem}

pub fits_in : (b : List ℕ) {a : List ℕ} → Distinct a → ((y : ℕ) → y ∈ a → y ∈ b) → length a ≤ length b
fits_in [] dnil h = omega arith
fits_in [] (dcons {x = x} f d) h = absurd (mem_nil (h x (here refl)))
fits_in (y ∷ b) {a} d h =
    let r : Less y a = less y d in
    let i : length r.rest ≤ length b = fits_in b r.apart (λ z m. go z m (mem_cons (h z (r.old z m)))) in
    omega (arith, r.long)
  where
    go : (z : ℕ) → z ∈ (less y d).rest → (z ≡ y) ⊎ (z ∈ b) → z ∈ b
    go z m (inl e) = absurd ((less y d).other z m e)
    go z m (inr k) = k

module _ (need : ℕ → List ℕ) (acyclic : (x : ℕ) → ¬ (Path⁺ need x x)) where
  -- the list has, with each entry, what it needs
  pub entered_closed : {l xs l' : List ℕ} → Entered need l xs l' → ((y z : ℕ) → y ∈ l → z ∈ need y → z ∈ l) → (y z : ℕ) → y ∈ l' → z ∈ need y → z ∈ l'
  entered_closed none h = h
  entered_closed (again _ d) h = entered_closed d h
  entered_closed (fresh {x = x} {l₁ = l₁} _ d d') h = entered_closed d' (λ y z m n. go (entered_closed d h) y z (mem_append l₁ m) n)
    where
      go : ((y z : ℕ) → y ∈ l₁ → z ∈ need y → z ∈ l₁) → (y z : ℕ) → (y ∈ l₁) ⊎ (y ∈ (x ∷ [])) → z ∈ need y → z ∈ (l₁ ++ x ∷ [])
      go k y z (inl m) n = mem_left _ (k y z m n)
      go k y z (inr m) n = only (mem_cons m)
        where
          only : (y ≡ x) ⊎ (y ∈ []) → z ∈ (l₁ ++ x ∷ [])
          only (inl e) = mem_left _ (entered_in d z (subst (λ (u : ℕ). z ∈ need u) e n))
          only (inr q) = absurd (mem_nil q)

  walks : {l : List ℕ} → ((y z : ℕ) → y ∈ l → z ∈ need y → z ∈ l) → {x y : ℕ} → Path⁺ need x y → x ∈ l → y ∈ l
  walks h {x} {y} (one m) k = h x y k m
  walks h {x} {y} (more {y = z} m p) k = walks h p (h x z k m)

  pub entered_same : {xs ys l l' : List ℕ} → Entered need [] xs l → Entered need [] ys l' → ((y : ℕ) → y ∈ xs → y ∈ ys) → (y : ℕ) → y ∈ l → y ∈ l'
  entered_same {xs} {ys} {l} {l'} d d' h y m = go (entered_came need acyclic d y m)
    where
      go : (y ∈ []) ⊎ ((x : ℕ) × (x ∈ xs) × Path⋆ need x y) → y ∈ l'
      go (inl k) = absurd (mem_nil k)
      go (inr (x, k, inl e)) = mem_cast (sym e) (entered_in d' x (h x k))
      go (inr (x, k, inr p)) = walks (entered_closed d' (λ a b i j. absurd (mem_nil i))) p (entered_in d' x (h x k))

  pub as_long : {xs ys l l' : List ℕ} → Entered need [] xs l → Entered need [] ys l' → ((y : ℕ) → y ∈ xs → y ∈ ys) → length l ≤ length l'
  as_long d d' h = fits_in _ (entered_distinct need acyclic d dnil) (entered_same d d' h)

-- the roots are the same, in any order: the lists are as long, and have the same entries
pub record Exchanged (f : ℕ → ℕ) (l l' : List ℕ) : Type 0 where
  pub long : length l' ≡ length l
  pub to : (x : ℕ) → x ∈ l → f x ∈ l'
  pub from : (y : ℕ) → y ∈ l' → (x : ℕ) × (x ∈ l) × (y ≡ f x)

module _ {G G' : Graph} (w' : Sound G') {f : ℕ → ℕ} {R : ℕ → Type 0} (e : Embeds G G' f R) where
  pub list_exchanged : {l l' : List ℕ} → Each R G.roots → ((y : ℕ) → y ∈ G'.roots → y ∈ map f G.roots) → ((y : ℕ) → y ∈ map f G.roots → y ∈ G'.roots) →
      IsList G l → IsList G' l' → Exchanged f l l'
  list_exchanged {l} {l'} h q p (c, fl, d) (c', fl', d') =
      let ac = needs_acyclic G' w' c' fl' in
      let a : Entered (needs G' c') [] (map f G.roots) (map f l) = entered_goes (needs_closed e fl fl') (graph_needs e fl fl') e.apart d (λ y m. absurd (mem_nil m)) h in
      let u : length (map f l) ≤ length l' = as_long (needs G' c') ac a d' p in
      let v : length l' ≤ length (map f l) = as_long (needs G' c') ac d' a q in
      let s : length (map f l) ≡ length l = length-map l f in
      record {
        long = omega arith;
        to = λ x m. entered_same (needs G' c') ac a d' p (f x) (mem_map f m);
        from = λ y m. map_mem f l (entered_same (needs G' c') ac d' a q y m);
      }
