-- What carries over from one graph to another: f takes the nodes R of the first, a part that no link leaves, to nodes of the second, with their links, references and rules.
-- With R all nodes and f the exchange of the sides, this is the match with its ads exchanged. With R what is reached from the roots, it is a change of what is not reached.
use Rattle.std.specs.Prelude.{◌≡◌, ◌⊎◌, Bool, ℕ}
use Rattle.std.proofs.Math.Path.{refl, ap₂}
use Rattle.std.proofs.Common.{sym, ap, ◌∙◌, subst, inl, inr}
use Rattle.std.proofs.Math.Bool.{true, false, cond}
use mathlib.Core.List.{List, [], ◌∷◌, ◌++◌, map}
use Rattle.graph.specs.Members.{◌∈◌, here, there, Each}
use Rattle.graph.proofs.Laws.Members.{mem_nil, mem_cons, mem_cast, mem_append}
use Rattle.graph.specs.Graph.{Graph, Path⁺, one, more, Circular, Flags, needs, Entered, none, again, fresh}
use Rattle.valuation.specs.Gives.{Give, nil, cons, Gives}

-- one for one
pub data Alike {A B : Type 0} (Same : A → B → Type 0) : List A → List B → Type 0 where
  anil : Alike Same [] []
  acons : {a : A} {b : B} {us : List A} {vs : List B} → Same a b → Alike Same us vs → Alike Same (a ∷ us) (b ∷ vs)

module _ (f : ℕ → ℕ) where
  pub mem_map : {x : ℕ} {l : List ℕ} → x ∈ l → f x ∈ map f l
  mem_map (here e) = here (ap f e)
  mem_map (there m) = there (mem_map m)

  pub map_mem : {z : ℕ} (l : List ℕ) → z ∈ map f l → (y : ℕ) × (y ∈ l) × (z ≡ f y)
  map_mem [] m = absurd (mem_nil m)
  map_mem {z} (x ∷ xs) m = go (λ n. map_mem xs n) (mem_cons m)
    where
      up : (y : ℕ) × (y ∈ xs) × (z ≡ f y) → (y : ℕ) × (y ∈ (x ∷ xs)) × (z ≡ f y)
      up (y, k, e) = (y, there k, e)

      go : (z ∈ map f xs → (y : ℕ) × (y ∈ xs) × (z ≡ f y)) → (z ≡ f x) ⊎ (z ∈ map f xs) → (y : ℕ) × (y ∈ (x ∷ xs)) × (z ≡ f y)
      go ih (inl e) = (x, here refl, e)
      go ih (inr n) = up (ih n)

  pub map_join : (a b : List ℕ) → map f (a ++ b) ≡ map f a ++ map f b
  map_join [] b = refl
  map_join (x ∷ a) b = ap (λ l. f x ∷ l) (map_join a b)

-- ---- needs and rules

pub record Carries {A B : Type 0} (need need' : ℕ → List ℕ) (rule : ℕ → List A → A) (rule' : ℕ → List B → B) (Same : A → B → Type 0) (f : ℕ → ℕ) (R : ℕ → Type 0) : Type 0 where
  pub closed : (x : ℕ) → R x → Each R (need x)
  pub needs_go : (x : ℕ) → R x → need' (f x) ≡ map f (need x)
  pub rules_go : (x : ℕ) → R x → (us : List A) (vs : List B) → Alike Same us vs → Same (rule x us) (rule' (f x) vs)

module _ {A B : Type 0} {need need' : ℕ → List ℕ} {rule : ℕ → List A → A} {rule' : ℕ → List B → B} {Same : A → B → Type 0} {f : ℕ → ℕ} {R : ℕ → Type 0}
    (c : Carries need need' rule rule' Same f R) where
  pub give_goes : {xs : List ℕ} {us : List A} → Give need rule xs us → Each R xs → (vs : List B) × Give need' rule' (map f xs) vs × Alike Same us vs
  give_goes nil h = ([], nil, anil)
  give_goes (cons {x = x} {xs = xs} {us = us} {vs = ws} d e) h = go (give_goes d (c.closed x (h x (here refl)))) (give_goes e (λ y m. h y (there m)))
    where
      go : (vs : List B) × Give need' rule' (map f (need x)) vs × Alike Same us vs → (vs : List B) × Give need' rule' (map f xs) vs × Alike Same ws vs →
          (vs : List B) × Give need' rule' (map f (x ∷ xs)) vs × Alike Same (rule x us ∷ ws) vs
      go (vs, d', s) (vs', e', s') =
          (rule' (f x) vs ∷ vs', cons (subst (λ (l : List ℕ). Give need' rule' l vs) (sym (c.needs_go x (h x (here refl)))) d') e', acons (c.rules_go x (h x (here refl)) us vs s) s')

  -- the same values, up to Same
  pub gives_goes : {x : ℕ} {u : A} → R x → Gives need rule x u → (v : B) × Gives need' rule' (f x) v × Same u v
  gives_goes {x} {u} r (us, d, e) = go (give_goes d (c.closed x r))
    where
      go : (vs : List B) × Give need' rule' (map f (need x)) vs × Alike Same us vs → (v : B) × Gives need' rule' (f x) v × Same u v
      go (vs, d', s) =
          (rule' (f x) vs, (vs, subst (λ (l : List ℕ). Give need' rule' l vs) (sym (c.needs_go x r)) d', refl), subst (λ (w : A). Same w (rule' (f x) vs)) (sym e) (c.rules_go x r us vs s))

-- ---- the list

module _ {need : ℕ → List ℕ} {R : ℕ → Type 0} (closed : (x : ℕ) → R x → Each R (need x)) where
  each_snoc : {l : List ℕ} {x : ℕ} → Each R l → R x → Each R (l ++ x ∷ [])
  each_snoc {l} {x} k r y m = go (mem_append l m)
    where
      only : (y ≡ x) ⊎ (y ∈ []) → R y
      only (inl e) = rw e r
      only (inr n) = absurd (mem_nil n)

      go : (y ∈ l) ⊎ (y ∈ (x ∷ [])) → R y
      go (inl n) = k y n
      go (inr n) = only (mem_cons n)

  pub entered_part : {l xs l' : List ℕ} → Entered need l xs l' → Each R l → Each R xs → Each R l'
  entered_part none a b = a
  entered_part (again _ d) a b = entered_part d a (λ y m. b y (there m))
  entered_part (fresh {x = x} _ d d') a b = entered_part d' (each_snoc (entered_part d a (closed x (b x (here refl)))) (b x (here refl))) (λ y m. b y (there m))

module _ {f : ℕ → ℕ} {R : ℕ → Type 0} (apart : (x y : ℕ) → R x → R y → f x ≡ f y → x ≡ y) where
  new_goes : {x : ℕ} {l : List ℕ} → R x → Each R l → ¬ (x ∈ l) → ¬ (f x ∈ map f l)
  new_goes {x} {l} r a n m = go (map_mem f l m)
    where
      go : (y : ℕ) × (y ∈ l) × (f x ≡ f y) → ⊥
      go (y, k, e) = n (mem_cast (apart x y r (a y k) e) k)

module _ {need need' : ℕ → List ℕ} {f : ℕ → ℕ} {R : ℕ → Type 0}
    (closed : (x : ℕ) → R x → Each R (need x)) (needs_go : (x : ℕ) → R x → need' (f x) ≡ map f (need x)) (apart : (x y : ℕ) → R x → R y → f x ≡ f y → x ≡ y) where
  pub entered_goes : {l xs l' : List ℕ} → Entered need l xs l' → Each R l → Each R xs → Entered need' (map f l) (map f xs) (map f l')
  entered_goes none a b = none
  entered_goes (again m d) a b = again (mem_map f m) (entered_goes d a (λ y n. b y (there n)))
  entered_goes (fresh {x = x} {xs = xs} {l = l} {l₁ = l₁} {l' = l'} n d d') a b =
      fresh (new_goes apart (b x (here refl)) a n)
      (subst (λ (u : List ℕ). Entered need' (map f l) u (map f l₁)) (sym (needs_go x (b x (here refl)))) (entered_goes d a (closed x (b x (here refl)))))
      (subst (λ (u : List ℕ). Entered need' u (map f xs) (map f l')) (map_join f l₁ (x ∷ []))
      (entered_goes d' (each_snoc closed (entered_part closed d a (closed x (b x (here refl)))) (b x (here refl))) (λ y m. b y (there m))))

-- ---- links and circular references

pub record Embeds (G G' : Graph) (f : ℕ → ℕ) (R : ℕ → Type 0) : Type 0 where
  pub closed : (x : ℕ) → R x → Each R (G.links x)
  pub links_go : (x : ℕ) → R x → G'.links (f x) ≡ map f (G.links x)
  pub refs_go : (x : ℕ) → R x → G'.ref (f x) ≡ G.ref x
  pub apart : (x y : ℕ) → R x → R y → f x ≡ f y → x ≡ y

module _ {G G' : Graph} {f : ℕ → ℕ} {R : ℕ → Type 0} (e : Embeds G G' f R) where
  link_goes : {x y : ℕ} → R x → y ∈ G.links x → f y ∈ G'.links (f x)
  link_goes {x} {y} r m = subst (λ (l : List ℕ). f y ∈ l) (sym (e.links_go x r)) (mem_map f m)

  pub path_goes : {x y : ℕ} → Path⁺ G.links x y → R x → Path⁺ G'.links (f x) (f y)
  path_goes (one m) r = one (link_goes r m)
  path_goes {x} (more {y = y} m p) r = more (link_goes r m) (path_goes p (e.closed x r y m))

  link_back : (x z : ℕ) → R x → z ∈ G'.links (f x) → (y : ℕ) × (y ∈ G.links x) × (z ≡ f y)
  link_back x z r m = map_mem f (G.links x) (subst (λ (l : List ℕ). z ∈ l) (e.links_go x r) m)

  pub path_back : {a z : ℕ} → Path⁺ G'.links a z → (x : ℕ) → a ≡ f x → R x → (y : ℕ) × R y × (z ≡ f y) × Path⁺ G.links x y
  path_back {a} {z} (one m) x q r = go (link_back x z r (subst (λ (u : ℕ). z ∈ G'.links u) q m))
    where
      go : (y : ℕ) × (y ∈ G.links x) × (z ≡ f y) → (y : ℕ) × R y × (z ≡ f y) × Path⁺ G.links x y
      go (y, k, p) = (y, e.closed x r y k, p, one k)
  path_back {a} {z} (more {y = b} m p) x q r = go (link_back x b r (subst (λ (u : ℕ). b ∈ G'.links u) q m)) (λ y p' k. path_back p y p' k)
    where
      up : (y : ℕ) → y ∈ G.links x → (w : ℕ) × R w × (z ≡ f w) × Path⁺ G.links y w → (w : ℕ) × R w × (z ≡ f w) × Path⁺ G.links x w
      up y k (w, i, j, h) = (w, i, j, more k h)

      go : (y : ℕ) × (y ∈ G.links x) × (b ≡ f y) → ((y : ℕ) → b ≡ f y → R y → (w : ℕ) × R w × (z ≡ f w) × Path⁺ G.links y w) → (w : ℕ) × R w × (z ≡ f w) × Path⁺ G.links x w
      go (y, k, p') ih = up y k (ih y p' (e.closed x r y k))

  pub circular_goes : (x : ℕ) → R x → Circular G x → Circular G' (f x)
  circular_goes x r (a, p) = (e.refs_go x r ∙ a, path_goes p r)

  pub circular_back : (x : ℕ) → R x → Circular G' (f x) → Circular G x
  circular_back x r (a, p) = go (path_back p x refl r)
    where
      go : (y : ℕ) × R y × (f x ≡ f y) × Path⁺ G.links x y → Circular G x
      go (y, k, q, h) = (sym (e.refs_go x r) ∙ a, subst (λ (u : ℕ). Path⁺ G.links x u) (sym (e.apart x y r k q)) h)

  module _ {c c' : ℕ → Bool} (fl : Flags G c) (fl' : Flags G' c') where
    pub flags_go : (x : ℕ) → R x → c' (f x) ≡ c x
    flags_go x r = go (c x) (c' (f x)) refl refl
      where
        go : (b b' : Bool) → c x ≡ b → c' (f x) ≡ b' → b' ≡ b
        go true true p q = refl
        go false false p q = refl
        go true false p q = sym q ∙ (fl' (f x)).1 (circular_goes x r ((fl x).0 p))
        go false true p q = sym (sym p ∙ (fl x).1 (circular_back x r ((fl' (f x)).0 q)))

    pub graph_needs : (x : ℕ) → R x → needs G' c' (f x) ≡ map f (needs G c x)
    unfolding needs
    graph_needs x r = ap₂ (λ b (l : List ℕ). cond b [] l) (flags_go x r) (e.links_go x r) ∙ go (c x)
      where
        go : (b : Bool) → cond b [] (map f (G.links x)) ≡ map f (cond b [] (G.links x))
        go true = refl
        go false = refl

    pub needs_closed : (x : ℕ) → R x → Each R (needs G c x)
    unfolding needs
    needs_closed x r y m = go (c x) m
      where
        go : (b : Bool) → y ∈ cond b [] (G.links x) → R y
        go true k = absurd (mem_nil k)
        go false k = e.closed x r y k

    -- THE TRANSFER, values
    pub carries : {A B : Type 0} {rule : ℕ → List A → A} {rule' : ℕ → List B → B} {Same : A → B → Type 0} →
        ((x : ℕ) → R x → (us : List A) (vs : List B) → Alike Same us vs → Same (rule x us) (rule' (f x) vs)) → Carries (needs G c) (needs G' c') rule rule' Same f R
    carries h = record { closed = needs_closed; needs_go = graph_needs; rules_go = h }
