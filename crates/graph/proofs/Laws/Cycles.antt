-- What a loop search finds: the nodes with a link to what was open are those that lead back to themselves. Assumes nothing.
use Rattle.std.specs.Prelude.{◌≡◌, refl, ◌⊎◌, List, [], ◌∷◌, ℕ, suc, ◌≤◌, ◌<◌, min, length}
use Rattle.std.proofs.Common.{sym, ap, ◌∙◌, subst, inl, inr, arith}
use Rattle.std.proofs.Math.Decide.{dec_le}
use Rattle.graph.specs.Members.{◌∈◌, here, there, Distinct, dnil, dcons}
use Rattle.graph.proofs.Laws.Members.{mem_nil, mem_cons, mem_cast, mem_dec}
use Rattle.graph.specs.Graph.{Path⁺, one, more, Path⋆}
use Rattle.graph.proofs.Laws.DepthFirst.{paths_join, path_last, path_first}
use Rattle.graph.proofs.Laws.Components.{tall, tall_here, tall_some, tall_most, Over, over_in, over_under, over_tall, over_low, Tarjan, finished, crossed, tied, left, closed, tarjan_grows, tarjan_over, tarjan_low}

module _ (go : ℕ → List ℕ) where
  -- what is seen and not open leads to the same
  abbrev pub Shut : List ℕ → List ℕ → Type 0
  Shut v o = (z : ℕ) → z ∈ v → ¬ (z ∈ o) → (u : ℕ) → u ∈ go z → (u ∈ v) × ¬ (u ∈ o)

  pub shut_path : {v o : List ℕ} → Shut v o → {z u : ℕ} → Path⋆ go z u → z ∈ v → ¬ (z ∈ o) → (u ∈ v) × ¬ (u ∈ o)
  shut_path h (inl e) m f = (mem_cast (sym e) m, λ k. f (mem_cast e k))
  shut_path {v} {o} h (inr p) m f = along p m f
    where
      along : {a b : ℕ} → Path⁺ go a b → a ∈ v → ¬ (a ∈ o) → (b ∈ v) × ¬ (b ∈ o)
      along {a} {b} (one k) m f = h a m f b k
      along {a} (more {y = y} k p) m f = let q = h a m f y k in along p q.0 q.1

  -- At x, with v seen and o open and xs left to follow: each open node leads to x, what is closed leads to closed nodes.
  pub record Before (x : ℕ) (v o xs : List ℕ) : Type 0 where
    pub seen : (z : ℕ) → z ∈ o → z ∈ v
    pub once : Distinct o
    pub mine : x ∈ o
    pub leads : (z : ℕ) → z ∈ o → Path⋆ go z x
    pub shut : Shut v o
    pub ours : (u : ℕ) → u ∈ xs → u ∈ go x

  -- u is seen, and closed or no lower than low
  abbrev pub NotLower : List ℕ → List ℕ → ℕ → ℕ → Type 0
  NotLower v o low u = (u ∈ v) × (u ∈ o → low ≤ tall o u)

  pub record After (x : ℕ) (v o : List ℕ) (low : ℕ) (t xs v' o' : List ℕ) (low' : ℕ) (t' : List ℕ) : Type 0 where
    pub before : Before x v' o' []
    pub fresh : (z : ℕ) → z ∈ o' → (z ∈ o) ⊎ ¬ (z ∈ v)
    pub lowest : (low' ≡ low) ⊎ ((z : ℕ) × (z ∈ o) × (tall o z ≡ low') × Path⋆ go x z)
    pub open_links : (z : ℕ) → z ∈ o' → (z ∈ o) ⊎ ((u : ℕ) → u ∈ go z → NotLower v' o' low' u)
    pub links : (u : ℕ) → u ∈ xs → NotLower v' o' low' u
    -- a tied node leads back to itself, a new one that does is tied, and so is x if one of xs leads to it
    pub tied_kept : (z : ℕ) → z ∈ t → z ∈ t'
    pub tied_round : (z : ℕ) → z ∈ t' → (z ∈ t) ⊎ Path⁺ go z z
    pub tied_new : (z : ℕ) → z ∈ v' → (z ∈ v) ⊎ (Path⁺ go z z → z ∈ t')
    pub tied_here : (u : ℕ) → u ∈ xs → Path⋆ go u x → x ∈ t'

  -- ---- before each part

  pub before_tail : {x y : ℕ} {v o xs : List ℕ} → Before x v o (y ∷ xs) → Before x v o xs
  before_tail b = record { seen = b.seen; once = b.once; mine = b.mine; leads = b.leads; shut = b.shut; ours = λ u m. b.ours u (there m) }

  shut_enter : {y : ℕ} {v o : List ℕ} → Shut v o → ¬ (y ∈ v) → Shut (y ∷ v) (y ∷ o)
  shut_enter {y} {v} {o} h f z m n u k = shut (mem_cons m)
    where
      off : (u ∈ v) × ¬ (u ∈ o) → (u ≡ y) ⊎ (u ∈ o) → ⊥
      off q (inl e) = f (mem_cast (sym e) q.0)
      off q (inr i) = q.1 i

      shut : (z ≡ y) ⊎ (z ∈ v) → (u ∈ (y ∷ v)) × ¬ (u ∈ (y ∷ o))
      shut (inl e) = absurd (n (here e))
      shut (inr i) = let q = h z i (λ j. n (there j)) u k in (there q.0, λ j. off q (mem_cons j))

  pub before_enter : {x y : ℕ} {v o xs : List ℕ} → Before x v o (y ∷ xs) → ¬ (y ∈ v) → Before y (y ∷ v) (y ∷ o) (go y)
  before_enter {x} {y} {v} {o} b f = record {
    seen = λ z m. in_v z (mem_cons m);
    once = dcons (λ m. f (b.seen y m)) b.once;
    mine = here refl;
    leads = λ z m. leads z (mem_cons m);
    shut = shut_enter b.shut f;
    ours = λ u m. m;
  }
    where
      in_v : (z : ℕ) → (z ≡ y) ⊎ (z ∈ o) → z ∈ (y ∷ v)
      in_v z (inl e) = here e
      in_v z (inr m) = there (b.seen z m)

      leads : (z : ℕ) → (z ≡ y) ⊎ (z ∈ o) → Path⋆ go z y
      leads z (inl e) = inl e
      leads z (inr m) = inr (path_last (b.leads z m) (b.ours y (here refl)))

  -- where nothing is open
  pub before_root : {y : ℕ} {v : List ℕ} → Shut v [] → ¬ (y ∈ v) → Before y (y ∷ v) (y ∷ []) (go y)
  before_root {y} {v} h f = record {
    seen = λ z m. only (λ u. u ∈ (y ∷ v)) (here refl) z (mem_cons m);
    once = dcons mem_nil dnil;
    mine = here refl;
    leads = λ z m. only (λ u. Path⋆ go u y) (inl refl) z (mem_cons m);
    shut = shut_enter h f;
    ours = λ u m. m;
  }
    where
      only : (P : ℕ → Type 0) → P y → (z : ℕ) → (z ≡ y) ⊎ (z ∈ []) → P z
      only P p z (inl e) = subst P (sym e) p
      only P p z (inr m) = absurd (mem_nil m)

  -- a node that was left open leads to the node from which it was entered
  leads_up : {x y low₁ : ℕ} {v o xs v₁ o₁ t t₁ : List ℕ} → Before x v o (y ∷ xs) → low₁ < suc (length o) →
      After y (y ∷ v) (y ∷ o) (suc (length o)) t (go y) v₁ o₁ low₁ t₁ → Path⋆ go y x
  leads_up {x} {y} {low₁} {v} {o} b h a = case a.lowest
    where
      old : (z : ℕ) → tall (y ∷ o) z ≡ low₁ → Path⋆ go y z → (z ≡ y) ⊎ (z ∈ o) → Path⋆ go y x
      old z e p (inl q) = absurd (let k = tall_top in let r : ⊥ = omega arith in r)
        where
          tall_top : tall (y ∷ o) z ≡ suc (length o)
          tall_top = ap (tall (y ∷ o)) q ∙ tall_here y o
      old z e p (inr m) = paths_join p (b.leads z m)

      case : (low₁ ≡ suc (length o)) ⊎ ((z : ℕ) × (z ∈ (y ∷ o)) × (tall (y ∷ o) z ≡ low₁) × Path⋆ go y z) → Path⋆ go y x
      case (inl e) = absurd (let r : ⊥ = omega arith in r)
      case (inr (z, m, e, p)) = old z e p (mem_cons m)

  pub before_left : {x y low₁ : ℕ} {v o xs v₁ o₁ t t₁ : List ℕ} → Before x v o (y ∷ xs) → Over (y ∷ o) o₁ → low₁ < suc (length o) →
      After y (y ∷ v) (y ∷ o) (suc (length o)) t (go y) v₁ o₁ low₁ t₁ → Before x v₁ o₁ (y ∷ xs)
  before_left {x} b w h a = record {
    seen = a.before.seen;
    once = a.before.once;
    mine = over_in w x (there b.mine);
    leads = λ z m. paths_join (a.before.leads z m) (leads_up b h a);
    shut = a.before.shut;
    ours = b.ours;
  }

  -- what is closed with y leads to closed nodes only
  pub shut_closed : {y low₁ : ℕ} {v o v₁ o₁ t t₁ : List ℕ} → Over (y ∷ o) o₁ → suc (length o) ≤ low₁ →
      After y (y ∷ v) (y ∷ o) (suc (length o)) t (go y) v₁ o₁ low₁ t₁ → Shut v₁ o
  shut_closed {y} {low₁} {v} {o} {v₁} {o₁} w h a z m n u k = shut (mem_dec z o₁)
    where
      -- an old open node is lower than y
      low : u ∈ o → tall o₁ u ≤ length o
      low i = rw (over_tall (over_under w) a.before.once u i) (tall_most o u)

      good : (u ∈ v₁) × (u ∈ o₁ → low₁ ≤ tall o₁ u) → (u ∈ v₁) × ¬ (u ∈ o)
      good q = (q.0, λ i. let j = low i in let r = q.1 (over_in w u (there i)) in let e : ⊥ = omega arith in e)

      old : (z ≡ y) ⊎ (z ∈ o) → (u ∈ v₁) × ¬ (u ∈ o)
      old (inl e) = good (a.links u (subst (λ (i : ℕ). u ∈ go i) e k))
      old (inr i) = absurd (n i)

      opened : (z ∈ (y ∷ o)) ⊎ ((i : ℕ) → i ∈ go z → (i ∈ v₁) × (i ∈ o₁ → low₁ ≤ tall o₁ i)) → (u ∈ v₁) × ¬ (u ∈ o)
      opened (inl i) = old (mem_cons i)
      opened (inr q) = good (q u k)

      shut : Dec (z ∈ o₁) → (u ∈ v₁) × ¬ (u ∈ o)
      shut (yes i) = opened (a.open_links z i)
      shut (no i) = let q = a.before.shut z m i u k in (q.0, λ j. q.1 (over_in w u (there j)))

  pub before_closed : {x y low₁ : ℕ} {v o xs v₁ o₁ t t₁ : List ℕ} → Before x v o (y ∷ xs) → Over (y ∷ o) o₁ → ((z : ℕ) → z ∈ (y ∷ v) → z ∈ v₁) →
      suc (length o) ≤ low₁ → After y (y ∷ v) (y ∷ o) (suc (length o)) t (go y) v₁ o₁ low₁ t₁ → Before x v₁ o (y ∷ xs)
  before_closed b w g h a = record { seen = λ z m. g z (there (b.seen z m)); once = b.once; mine = b.mine; leads = b.leads; shut = shut_closed w h a; ours = b.ours }

  -- ---- after each part

  -- what is not lower stays so
  not_lower : {v o v' o' : List ℕ} {low low' : ℕ} → Over o o' → Distinct o' → ((z : ℕ) → z ∈ v → z ∈ v') → ((z : ℕ) → z ∈ o' → (z ∈ o) ⊎ ¬ (z ∈ v)) → low' ≤ low →
      (u : ℕ) → NotLower v o low u → NotLower v' o' low' u
  not_lower {v} {o} {v'} {o'} {low} {low'} w d g f h u q = (g u q.0, λ m. case (f u m))
    where
      case : (u ∈ o) ⊎ ¬ (u ∈ v) → low' ≤ tall o' u
      case (inl m) = let e = over_tall w d u m in let k = q.1 m in omega arith
      case (inr n) = absurd (n q.0)

  after_none : {x low : ℕ} {v o t : List ℕ} → Before x v o [] → After x v o low t [] v o low t
  after_none b = record {
    before = b;
    fresh = λ z m. inl m;
    lowest = inl refl;
    open_links = λ z m. inl m;
    links = λ u m. absurd (mem_nil m);
    tied_kept = λ z m. m;
    tied_round = λ z m. inl m;
    tied_new = λ z m. inl m;
    tied_here = λ u m. absurd (mem_nil m);
  }

  after_crossed : {x y low low' : ℕ} {v o t xs v' o' t' : List ℕ} → Before x v o (y ∷ xs) → y ∈ v → ¬ (y ∈ o) → ((z : ℕ) → z ∈ v → z ∈ v') →
      After x v o low t xs v' o' low' t' → After x v o low t (y ∷ xs) v' o' low' t'
  after_crossed {x} {y} {low} {low'} {v} {o} {t} {xs} {v'} {o'} {t'} b i n g a = record {
    before = a.before;
    fresh = a.fresh;
    lowest = a.lowest;
    open_links = a.open_links;
    links = λ u m. links u (mem_cons m);
    tied_kept = a.tied_kept;
    tied_round = a.tied_round;
    tied_new = a.tied_new;
    tied_here = λ u m p. back u p (mem_cons m);
  }
    where
      never : (u : ℕ) → u ≡ y → (u ∈ o) ⊎ ¬ (u ∈ v) → ⊥
      never u e (inl m) = n (mem_cast (sym e) m)
      never u e (inr f) = f (mem_cast e i)

      links : (u : ℕ) → (u ≡ y) ⊎ (u ∈ xs) → NotLower v' o' low' u
      links u (inl e) = (g u (mem_cast e i), λ m. absurd (never u e (a.fresh u m)))
      links u (inr m) = a.links u m

      -- a closed node leads to no open one
      back : (u : ℕ) → Path⋆ go u x → (u ≡ y) ⊎ (u ∈ xs) → x ∈ t'
      back u p (inl e) = absurd ((shut_path b.shut p (mem_cast e i) (λ m. n (mem_cast (sym e) m))).1 b.mine)
      back u p (inr m) = a.tied_here u m p

  after_tied : {x y low low' : ℕ} {v o t xs v' o' t' : List ℕ} → Before x v o (y ∷ xs) → y ∈ o → Over o o' → ((z : ℕ) → z ∈ v → z ∈ v') → low' ≤ min low (tall o y) →
      After x v o (min low (tall o y)) (x ∷ t) xs v' o' low' t' → After x v o low t (y ∷ xs) v' o' low' t'
  after_tied {x} {y} {low} {low'} {v} {o} {t} {xs} {v'} {o'} {t'} b i w g h a = record {
    before = a.before;
    fresh = a.fresh;
    lowest = lowest a.lowest;
    open_links = a.open_links;
    links = λ u m. links u (mem_cons m);
    tied_kept = λ z m. a.tied_kept z (there m);
    tied_round = λ z m. round z (a.tied_round z m);
    tied_new = a.tied_new;
    tied_here = λ u m p. a.tied_kept x (here refl);
  }
    where
      here_low : min low (tall o y) ≡ low' → Dec (low ≤ tall o y) → (low' ≡ low) ⊎ ((z : ℕ) × (z ∈ o) × (tall o z ≡ low') × Path⋆ go x z)
      here_low e (yes q) = inl (omega arith)
      here_low e (no q) = let r : tall o y ≡ low' = omega arith in inr (y, i, r, inr (one (b.ours y (here refl))))

      lowest : (low' ≡ min low (tall o y)) ⊎ ((z : ℕ) × (z ∈ o) × (tall o z ≡ low') × Path⋆ go x z) → (low' ≡ low) ⊎ ((z : ℕ) × (z ∈ o) × (tall o z ≡ low') × Path⋆ go x z)
      lowest (inl e) = here_low (sym e) (dec_le low (tall o y))
      lowest (inr q) = inr q

      links : (u : ℕ) → (u ≡ y) ⊎ (u ∈ xs) → NotLower v' o' low' u
      links u (inl e) = rw e (not_lower {v = v} w a.before.once g a.fresh h y (b.seen y i, λ m. let q : min low (tall o y) ≤ tall o y = omega arith in q))
      links u (inr m) = a.links u m

      first : (z : ℕ) → (z ≡ x) ⊎ (z ∈ t) → (z ∈ t) ⊎ Path⁺ go z z
      first z (inl e) = inr (subst (λ (u : ℕ). Path⁺ go u u) (sym e) (path_first (b.ours y (here refl)) (b.leads y i)))
      first z (inr m) = inl m

      round : (z : ℕ) → (z ∈ (x ∷ t)) ⊎ Path⁺ go z z → (z ∈ t) ⊎ Path⁺ go z z
      round z (inl m) = first z (mem_cons m)
      round z (inr p) = inr p

  -- of a new node, which was entered and searched
  pub entered_tied : {y low low₁ : ℕ} {v o t v₁ o₁ t₁ : List ℕ} → After y (y ∷ v) o low t (go y) v₁ o₁ low₁ t₁ → (z : ℕ) → z ∈ v₁ → (z ∈ v) ⊎ (Path⁺ go z z → z ∈ t₁)
  entered_tied {y} {v = v} {t₁ = t₁} a z m = case (a.tied_new z m)
    where
      around : Path⁺ go y y → y ∈ t₁
      around (one k) = a.tied_here y k (inl refl)
      around (more {y = u} k p) = a.tied_here u k (inr p)

      root : (z ≡ y) ⊎ (z ∈ v) → (z ∈ v) ⊎ (Path⁺ go z z → z ∈ t₁)
      root (inl e) = inr (λ p. mem_cast e (around (subst (λ (u : ℕ). Path⁺ go u u) e p)))
      root (inr k) = inl k

      case : (z ∈ (y ∷ v)) ⊎ (Path⁺ go z z → z ∈ t₁) → (z ∈ v) ⊎ (Path⁺ go z z → z ∈ t₁)
      case (inl k) = root (mem_cons k)
      case (inr k) = inr k

  -- and then the rest
  module _ {x y low₁ low₂ low' : ℕ} {v o t xs v₁ o₁ t₁ o₂ v' o' t' : List ℕ} where
    new_tied : After y (y ∷ v) (y ∷ o) (suc (length o)) t (go y) v₁ o₁ low₁ t₁ → After x v₁ o₂ low₂ t₁ (y ∷ xs) v' o' low' t' → (z : ℕ) → z ∈ v' → (z ∈ v) ⊎ (Path⁺ go z z → z ∈ t')
    new_tied a a' z m = case (a'.tied_new z m)
      where
        first : (z ∈ v) ⊎ (Path⁺ go z z → z ∈ t₁) → (z ∈ v) ⊎ (Path⁺ go z z → z ∈ t')
        first (inl k) = inl k
        first (inr k) = inr (λ p. a'.tied_kept z (k p))

        case : (z ∈ v₁) ⊎ (Path⁺ go z z → z ∈ t') → (z ∈ v) ⊎ (Path⁺ go z z → z ∈ t')
        case (inl k) = first (entered_tied a z k)
        case (inr k) = inr k

    new_round : After y (y ∷ v) (y ∷ o) (suc (length o)) t (go y) v₁ o₁ low₁ t₁ → After x v₁ o₂ low₂ t₁ (y ∷ xs) v' o' low' t' → (z : ℕ) → z ∈ t' → (z ∈ t) ⊎ Path⁺ go z z
    new_round a a' z m = case (a'.tied_round z m)
      where
        case : (z ∈ t₁) ⊎ Path⁺ go z z → (z ∈ t) ⊎ Path⁺ go z z
        case (inl k) = a.tied_round z k
        case (inr p) = inr p

  after_left : {x y low low₁ low' : ℕ} {v o t xs v₁ o₁ t₁ v' o' t' : List ℕ} → Before x v o (y ∷ xs) → ¬ (y ∈ v) → Over (y ∷ o) o₁ → Over o₁ o' →
      ((z : ℕ) → z ∈ (y ∷ v) → z ∈ v₁) → ((z : ℕ) → z ∈ v₁ → z ∈ v') → low₁ < suc (length o) → low' ≤ min low₁ low →
      After y (y ∷ v) (y ∷ o) (suc (length o)) t (go y) v₁ o₁ low₁ t₁ → After x v₁ o₁ (min low₁ low) t₁ (y ∷ xs) v' o' low' t' → After x v o low t (y ∷ xs) v' o' low' t'
  after_left {x} {y} {low} {low₁} {low'} {v} {o} {t} {xs} {v₁} {o₁} {t₁} {v'} {o'} {t'} b f w w' g g' h h' a a' = record {
    before = a'.before;
    fresh = λ z m. fresh z (a'.fresh z m);
    lowest = lowest a'.lowest;
    open_links = λ z m. opened z (a'.open_links z m);
    links = a'.links;
    tied_kept = λ z m. a'.tied_kept z (a.tied_kept z m);
    tied_round = new_round a a';
    tied_new = new_tied a a';
    tied_here = a'.tied_here;
  }
    where
      fresh₂ : (z : ℕ) → (z ≡ y) ⊎ (z ∈ o) → (z ∈ o) ⊎ ¬ (z ∈ v)
      fresh₂ z (inl e) = inr (λ m. f (mem_cast (sym e) m))
      fresh₂ z (inr m) = inl m

      fresh₁ : (z : ℕ) → (z ∈ (y ∷ o)) ⊎ ¬ (z ∈ (y ∷ v)) → (z ∈ o) ⊎ ¬ (z ∈ v)
      fresh₁ z (inl m) = fresh₂ z (mem_cons m)
      fresh₁ z (inr n) = inr (λ m. n (there m))

      fresh : (z : ℕ) → (z ∈ o₁) ⊎ ¬ (z ∈ v₁) → (z ∈ o) ⊎ ¬ (z ∈ v)
      fresh z (inl m) = fresh₁ z (a.fresh z m)
      fresh z (inr n) = inr (λ m. n (g z (there m)))

      -- an open node no higher than o is one of o
      old : (z : ℕ) → z ∈ o₁ → tall o₁ z ≡ low' → Path⋆ go x z → (low' ≡ low) ⊎ ((u : ℕ) × (u ∈ o) × (tall o u ≡ low') × Path⋆ go x u)
      old z m e p =
          let k : tall o₁ z ≤ length o = omega arith in
          let i : z ∈ o = over_low (over_under w) z m k in
          inr (z, i, sym (over_tall (over_under w) a.before.once z i) ∙ e, p)

      sub : low₁ ≡ low' → (low₁ ≡ suc (length o)) ⊎ ((z : ℕ) × (z ∈ (y ∷ o)) × (tall (y ∷ o) z ≡ low₁) × Path⋆ go y z) →
          (low' ≡ low) ⊎ ((u : ℕ) × (u ∈ o) × (tall o u ≡ low') × Path⋆ go x u)
      sub e (inl q) = absurd (let r : ⊥ = omega arith in r)
      sub e (inr (z, m, q, p)) = old z (over_in w z m) (over_tall w a.before.once z m ∙ q ∙ e) (inr (path_first (b.ours y (here refl)) p))

      least : low' ≡ min low₁ low → Dec (low ≤ low₁) → (low' ≡ low) ⊎ ((u : ℕ) × (u ∈ o) × (tall o u ≡ low') × Path⋆ go x u)
      least e (yes q) = inl (omega arith)
      least e (no q) = sub (omega arith) a.lowest

      lowest : (low' ≡ min low₁ low) ⊎ ((z : ℕ) × (z ∈ o₁) × (tall o₁ z ≡ low') × Path⋆ go x z) → (low' ≡ low) ⊎ ((u : ℕ) × (u ∈ o) × (tall o u ≡ low') × Path⋆ go x u)
      lowest (inl e) = least e (dec_le low low₁)
      lowest (inr (z, m, e, p)) = old z m e p

      up : (u : ℕ) → NotLower v₁ o₁ low₁ u → NotLower v' o' low' u
      up u q = not_lower w' a'.before.once g' a'.fresh (let r : low' ≤ low₁ = omega arith in r) u q

      opened₂ : (z : ℕ) → (z ≡ y) ⊎ (z ∈ o) → (z ∈ o) ⊎ ((u : ℕ) → u ∈ go z → NotLower v' o' low' u)
      opened₂ z (inl e) = inr (λ u k. up u (a.links u (subst (λ (i : ℕ). u ∈ go i) e k)))
      opened₂ z (inr m) = inl m

      opened₁ : (z : ℕ) → (z ∈ (y ∷ o)) ⊎ ((u : ℕ) → u ∈ go z → NotLower v₁ o₁ low₁ u) → (z ∈ o) ⊎ ((u : ℕ) → u ∈ go z → NotLower v' o' low' u)
      opened₁ z (inl m) = opened₂ z (mem_cons m)
      opened₁ z (inr q) = inr (λ u k. up u (q u k))

      opened : (z : ℕ) → (z ∈ o₁) ⊎ ((u : ℕ) → u ∈ go z → NotLower v' o' low' u) → (z ∈ o) ⊎ ((u : ℕ) → u ∈ go z → NotLower v' o' low' u)
      opened z (inl m) = opened₁ z (a.open_links z m)
      opened z (inr q) = inr q

  after_closed : {x y low low₁ low' : ℕ} {v o t xs v₁ o₁ t₁ v' o' t' : List ℕ} → ((z : ℕ) → z ∈ (y ∷ v) → z ∈ v₁) →
      After y (y ∷ v) (y ∷ o) (suc (length o)) t (go y) v₁ o₁ low₁ t₁ → After x v₁ o low t₁ (y ∷ xs) v' o' low' t' → After x v o low t (y ∷ xs) v' o' low' t'
  after_closed {v = v} {o = o} {v₁ = v₁} g a a' = record {
    before = a'.before;
    fresh = λ z m. fresh z (a'.fresh z m);
    lowest = a'.lowest;
    open_links = a'.open_links;
    links = a'.links;
    tied_kept = λ z m. a'.tied_kept z (a.tied_kept z m);
    tied_round = new_round a a';
    tied_new = new_tied a a';
    tied_here = a'.tied_here;
  }
    where
      fresh : (z : ℕ) → (z ∈ o) ⊎ ¬ (z ∈ v₁) → (z ∈ o) ⊎ ¬ (z ∈ v)
      fresh z (inl m) = inl m
      fresh z (inr n) = inr (λ m. n (g z (there m)))

  pub after : {x low low' c : ℕ} {v o t xs v' o' t' : List ℕ} → Tarjan go x v o low t xs v' o' low' t' c → Before x v o xs → After x v o low t xs v' o' low' t'
  after finished b = after_none b
  after (crossed m n d) b = after_crossed b m n (tarjan_grows d) (after d (before_tail b))
  after (tied m d) b = after_tied b m (tarjan_over d) (tarjan_grows d) (tarjan_low d) (after d (before_tail b))
  after (left f d h d') b =
      let a = after d (before_enter b f) in
      after_left b f (tarjan_over d) (tarjan_over d') (tarjan_grows d) (tarjan_grows d') h (tarjan_low d') a (after d' (before_left b (tarjan_over d) h a))
  after (closed f d h j e d') b =
      let a = after d (before_enter b f) in
      after_closed (tarjan_grows d) a (after d' (before_closed b (tarjan_over d) (tarjan_grows d) h a))

  -- a search that began where nothing was open leads to nothing lower than its root
  pub root_low : {y low₁ : ℕ} {v t xs v₁ o₁ t₁ : List ℕ} → After y v (y ∷ []) 1 t xs v₁ o₁ low₁ t₁ → 1 ≤ low₁
  root_low {y} {low₁} a = case a.lowest
    where
      case : (low₁ ≡ 1) ⊎ ((z : ℕ) × (z ∈ (y ∷ [])) × (tall (y ∷ []) z ≡ low₁) × Path⋆ go y z) → 1 ≤ low₁
      case (inl e) = omega arith
      case (inr (z, m, e, p)) = let h = tall_some (y ∷ []) z m in omega arith
