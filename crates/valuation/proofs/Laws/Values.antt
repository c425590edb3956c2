-- Every node has exactly one value. Assumes nothing.
use Rattle.std.specs.Prelude.{◌≡◌, refl, ◌⊎◌, Bool, List, [], ◌∷◌, ◌++◌, ℕ}
use Rattle.std.proofs.Common.{sym, ap, ap₂, ◌∙◌, subst, inl, inr}
use Rattle.graph.specs.Members.{◌∈◌, here, there, Each, Room}
use Rattle.graph.proofs.Laws.Members.{mem_nil, mem_cons, mem_cast, mem_left, mem_right, mem_append}
use Rattle.graph.specs.Graph.{Path⁺, Entered, none, again, fresh, Graph, Sound, Node, Flags, needs}
use Rattle.graph.proofs.Laws.DepthFirst.{found, ordered}
use Rattle.graph.proofs.Laws.Traversal.{needs_links, needs_acyclic}
use Rattle.valuation.specs.Gives.{Give, nil, cons, Gives, One}

module _ {need : ℕ → List ℕ} where
  pub entered_keeps : {l xs l' : List ℕ} → Entered need l xs l' → (y : ℕ) → y ∈ l → y ∈ l'
  entered_keeps none y m = m
  entered_keeps (again _ d) y m = entered_keeps d y m
  entered_keeps (fresh _ d d') y m = entered_keeps d' y (mem_left _ (entered_keeps d y m))

  pub entered_in : {l xs l' : List ℕ} → Entered need l xs l' → (y : ℕ) → y ∈ xs → y ∈ l'
  entered_in none y m = absurd (mem_nil m)
  entered_in (again {x = x} {xs = xs} {l' = l'} k d) y m = go (λ n. entered_in d y n) (mem_cons m)
    where
      go : (y ∈ xs → y ∈ l') → (y ≡ x) ⊎ (y ∈ xs) → y ∈ l'
      go ih (inl e) = entered_keeps d y (mem_cast e k)
      go ih (inr n) = ih n
  entered_in (fresh {x = x} {xs = xs} {l₁ = l₁} {l' = l'} f d d') y m = go (λ n. entered_in d' y n) (mem_cons m)
    where
      go : (y ∈ xs → y ∈ l') → (y ≡ x) ⊎ (y ∈ xs) → y ∈ l'
      go ih (inl e) = entered_keeps d' y (mem_right l₁ (here e))
      go ih (inr n) = ih n

module _ {A : Type 0} (need : ℕ → List ℕ) (rule : ℕ → List A → A) where
  abbrev pub Valued : ℕ → Type 0
  Valued x = (v : A) × Gives need rule x v

  pub give_unique : {xs : List ℕ} {us vs : List A} → Give need rule xs us → Give need rule xs vs → us ≡ vs
  give_unique nil nil = refl
  give_unique (cons {x = x} d e) (cons d' e') = ap₂ ◌∷◌ (ap (rule x) (give_unique d d')) (give_unique e e')

  -- one value at most
  pub gives_unique : {x : ℕ} {u v : A} → Gives need rule x u → Gives need rule x v → u ≡ v
  gives_unique {x} (us, d, e) (vs, d', e') = e ∙ ap (rule x) (give_unique d d') ∙ sym e'

  pub give_all : (xs : List ℕ) → Each Valued xs → (vs : List A) × Give need rule xs vs
  give_all [] h = ([], nil)
  give_all (x ∷ xs) h = go (h x (here refl)) (give_all xs (λ y m. h y (there m)))
    where
      go : Valued x → (vs : List A) × Give need rule xs vs → (vs : List A) × Give need rule (x ∷ xs) vs
      go (v, (us, d, e)) (vs, d') = (rule x us ∷ vs, cons d d')

  -- what is entered has values
  pub entered_valued : {l xs l' : List ℕ} → Entered need l xs l' → Each Valued l → Each Valued l'
  entered_valued none h = h
  entered_valued (again _ d) h = entered_valued d h
  entered_valued (fresh {x = x} {l₁ = l₁} _ d d') h = entered_valued d' (snoc (entered_valued d h))
    where
      top : Each Valued l₁ → Valued x
      top a = go (give_all (need x) (λ z m. a z (entered_in d z m)))
        where
          go : (vs : List A) × Give need rule (need x) vs → Valued x
          go (vs, e) = (rule x vs, (vs, e, refl))

      snoc : Each Valued l₁ → Each Valued (l₁ ++ x ∷ [])
      snoc a y m = go (mem_append l₁ m)
        where
          only : (y ≡ x) ⊎ (y ∈ []) → Valued y
          only (inl e) = subst (λ (u : ℕ). Valued u) (sym e) (top a)
          only (inr n) = absurd (mem_nil n)

          go : (y ∈ l₁) ⊎ (y ∈ (x ∷ [])) → Valued y
          go (inl n) = a y n
          go (inr n) = only (mem_cons n)

-- where no node leads back to itself, and there are at most n nodes
pub one_value : {A : Type 0} (need : ℕ → List ℕ) (rule : ℕ → List A → A) (P : ℕ → Type 0) (n : ℕ) → Room P n → ((x : ℕ) → Each P (need x)) → ((x : ℕ) → ¬ (Path⁺ need x x)) →
    (x : ℕ) → P x → One need rule x
one_value need rule P n room inside acyclic x h =
    let f = found need P n room inside (x ∷ []) [] (λ y m. go y (mem_cons m)) in
    let e : Entered need [] (x ∷ []) f.l' = ordered need acyclic f.dfs in
    let v : Valued need rule x = entered_valued need rule e (λ y m. absurd (mem_nil m)) x (entered_in e x (here refl)) in
    record { value = v.0; given = v.1; only = λ u g. gives_unique need rule g v.1 }
  where
    go : (y : ℕ) → (y ≡ x) ⊎ (y ∈ []) → P y
    go y (inl e) = rw e h
    go y (inr m) = absurd (mem_nil m)

-- EVERY NODE HAS EXACTLY ONE VALUE
pub one_value_graph : {A : Type 0} (G : Graph) → Sound G → (c : ℕ → Bool) → Flags G c → (rule : ℕ → List A → A) (x : ℕ) → Node G x → One (needs G c) rule x
one_value_graph G w c fl rule x h =
    one_value (needs G c) rule (Node G) G.size w.room (λ y z m. w.links_in y z (needs_links G w c fl y z m)) (needs_acyclic G w c fl) x h
