-- What a run comes to, from any entry and over any table, and from the first over a blank one. Assumes nothing.
use Rattle.std.specs.Prelude.{◌≡◌, ◌⊎◌, ℕ, take, drop}
use Rattle.std.proofs.Math.Path.{refl}
use Rattle.std.proofs.Common.{sym, ap, ap₂, ◌∙◌, subst, inl, inr}
use mathlib.Core.List.{List, [], ◌∷◌, ◌++◌, map, append_assoc}
use Rattle.graph.specs.Members.{◌∈◌, here, there, Each}
use Rattle.graph.proofs.Laws.Members.{mem_nil, mem_cons, mem_cast, mem_left, mem_right, mem_append, put_same, put_other}
use Rattle.graph.specs.Graph.{Path⁺, Entered}
use Rattle.valuation.specs.Gives.{Give, nil, cons, Gives}
use Rattle.valuation.specs.Run.{step_table, steps, run_from, Settled, Ran}
use Rattle.valuation.proofs.Laws.Order.{Ordered, onil, ocons, ordered_take, ordered_drop, ordered_new, entered_ordered}

module _ {A S : Type 0} (held : A → S) (seen : S → A) (need : ℕ → List ℕ) (rule : ℕ → List A → A) where
  abbrev after : List ℕ → (ℕ → S) → ℕ → S
  after = steps held seen need rule

  abbrev next : (ℕ → S) → ℕ → ℕ → S
  next = step_table held seen need rule

  -- ---- whatever the table holds

  pub steps_keep : (xs : List ℕ) (t : ℕ → S) (y : ℕ) → ¬ (y ∈ xs) → after xs t y ≡ t y
  unfolding steps step_table
  steps_keep [] t y f = refl
  steps_keep (x ∷ xs) t y f = steps_keep xs (next t x) y (λ m. f (there m)) ∙ put_other t x _ (λ e. f (here (sym e)))

  map_same : (t u : ℕ → S) (xs : List ℕ) → ((y : ℕ) → y ∈ xs → t y ≡ u y) → map (λ y. seen (t y)) xs ≡ map (λ y. seen (u y)) xs
  map_same t u [] h = refl
  map_same t u (x ∷ xs) h = ap₂ ◌∷◌ (ap seen (h x (here refl))) (map_same t u xs (λ y m. h y (there m)))

  -- an entry's slot then holds what the rule makes of what the table then holds for its needs
  pub steps_settle : {done xs : List ℕ} → Ordered need done xs → (t : ℕ → S) (y : ℕ) → y ∈ xs → after xs t y ≡ held (rule y (map (λ z. seen (after xs t z)) (need y)))
  unfolding steps step_table
  steps_settle onil t y m = absurd (mem_nil m)
  steps_settle (ocons {done = done} {xs = xs} {x = x} a b d) t y m = go (λ n. steps_settle d (next t x) y n) (mem_cons m)
    where
      later : ¬ (x ∈ xs)
      later = ordered_new d x (mem_right done (here refl))

      same : (z : ℕ) → z ∈ need x → t z ≡ after xs (next t x) z
      same z n = sym (steps_keep xs (next t x) z (ordered_new d z (mem_left _ (a z n))) ∙ put_other t x _ (λ e. b (mem_cast e (a z n))))

      top : after xs (next t x) x ≡ held (rule x (map (λ z. seen (after xs (next t x) z)) (need x)))
      top = steps_keep xs (next t x) x later ∙ put_same t x _ refl ∙ ap (λ vs. held (rule x vs)) (map_same t (after xs (next t x)) (need x) same)

      go : (y ∈ xs → after xs (next t x) y ≡ held (rule y (map (λ z. seen (after xs (next t x) z)) (need y)))) → (y ≡ x) ⊎ (y ∈ xs) →
          after xs (next t x) y ≡ held (rule y (map (λ z. seen (after xs (next t x) z)) (need y)))
      go ih (inl e) = subst (λ (u : ℕ). after xs (next t x) u ≡ held (rule u (map (λ z. seen (after xs (next t x) z)) (need u)))) (sym e) top
      go ih (inr n) = ih n

  -- ---- the right values

  abbrev Right : (ℕ → S) → ℕ → Type 0
  Right t x = (v : A) × Gives need rule x v × (t x ≡ held v)

  module _ (back : (v : A) → seen (held v) ≡ v) where
    reads : (t : ℕ → S) (xs : List ℕ) → Each (Right t) xs → Give need rule xs (map (λ y. seen (t y)) xs)
    reads t [] h = nil
    reads t (x ∷ xs) h = go (h x (here refl)) (reads t xs (λ y m. h y (there m)))
      where
        go : Right t x → Give need rule xs (map (λ y. seen (t y)) xs) → Give need rule (x ∷ xs) (seen (t x) ∷ map (λ y. seen (t y)) xs)
        go (v, (us, d, e), p) r =
            subst (λ (w : A). Give need rule (x ∷ xs) (w ∷ map (λ y. seen (t y)) xs)) (sym (ap seen p ∙ back v ∙ e)) (cons d r)

    pub steps_right : {done xs : List ℕ} → Ordered need done xs → (t : ℕ → S) → Each (Right t) done → Each (Right (after xs t)) (done ++ xs)
    unfolding steps step_table
    steps_right (onil {done = done}) t h y m = go (mem_append done m)
      where
        go : (y ∈ done) ⊎ (y ∈ []) → Right t y
        go (inl n) = h y n
        go (inr n) = absurd (mem_nil n)
    steps_right (ocons {done = done} {xs = xs} {x = x} a b d) t h y m =
        steps_right d (next t x) later y (rw (append_assoc done (x ∷ []) xs) m)
      where
        value : List A
        value = map (λ z. seen (t z)) (need x)

        later : Each (Right (next t x)) (done ++ x ∷ [])
        later z n = go (mem_append done n)
          where
            old : z ∈ done → Right t z → Right (next t x) z
            old k (v, g, p) = (v, g, put_other t x _ (λ e. b (mem_cast e k)) ∙ p)

            only : (z ≡ x) ⊎ (z ∈ []) → Right (next t x) z
            only (inl e) = subst (λ (u : ℕ). Right (next t x) u) (sym e) (rule x value, (value, reads t (need x) (λ u k. h u (a u k)), refl), put_same t x _ refl)
            only (inr k) = absurd (mem_nil k)

            go : (z ∈ done) ⊎ (z ∈ (x ∷ [])) → Right (next t x) z
            go (inl k) = old k (h z k)
            go (inr k) = only (mem_cons k)

  -- ---- THE RUN

  module _ (acyclic : (x : ℕ) → ¬ (Path⁺ need x x)) {roots l : List ℕ} (list : Entered need [] roots l) where
    in_order : Ordered need [] l
    in_order = entered_ordered need acyclic list onil

    part : (k budget : ℕ) → Ordered need (take k l) (take budget (drop k l))
    part k budget = ordered_take budget (ordered_drop k in_order)

    needs_before : {done xs : List ℕ} → Ordered need done xs → (x y : ℕ) → x ∈ xs → y ∈ need x → (y ∈ done) ⊎ (y ∈ xs)
    needs_before onil x y m n = absurd (mem_nil m)
    needs_before (ocons {done = done} {xs = xs} {x = z} a b d) x y m n = go (λ k. needs_before d x y k n) (mem_cons m)
      where
        mid : (y ∈ done) ⊎ (y ∈ (z ∷ [])) → (y ∈ done) ⊎ (y ∈ (z ∷ xs))
        mid (inl k) = inl k
        mid (inr k) = inr (mem_left xs k)

        fix : (y ∈ (done ++ z ∷ [])) ⊎ (y ∈ xs) → (y ∈ done) ⊎ (y ∈ (z ∷ xs))
        fix (inl k) = mid (mem_append done k)
        fix (inr k) = inr (there k)

        go : (x ∈ xs → (y ∈ (done ++ z ∷ [])) ⊎ (y ∈ xs)) → (x ≡ z) ⊎ (x ∈ xs) → (y ∈ done) ⊎ (y ∈ (z ∷ xs))
        go ih (inl e) = inl (a y (subst (λ (u : ℕ). y ∈ need u) e n))
        go ih (inr k) = fix (ih k)

    -- THE RUN, from any entry and over any table
    pub run_settled : (k budget : ℕ) (t : ℕ → S) → Settled held seen need rule l k budget t (run_from held seen need rule l k budget t)
    run_settled k budget t = record {
      worked = steps_settle (part k budget) t;
      others = steps_keep (take budget (drop k l)) t;
      needed = needs_before (part k budget);
    }

    -- A MATCH'S RUN, from the first entry and a blank table
    pub run_ran : ((v : A) → seen (held v) ≡ v) → (blank : S) (budget : ℕ) (t : ℕ → S) → ((x : ℕ) → t x ≡ blank) → Ran held seen need rule blank l budget (run_from held seen need rule l 0 budget t)
    run_ran back blank budget t clear = record {
      holds = steps_right back (ordered_take budget in_order) t (λ y m. absurd (mem_nil m));
      blanks = λ x f. steps_keep (take budget l) t x f ∙ clear x;
    }
