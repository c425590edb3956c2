-- A search, in the large: which nodes it has seen, the order in which it leaves them, and its transitions.
use Rattle.std.specs.Prelude.{◌≡◌, refl, ◌⊎◌, List, [], ◌∷◌, ◌++◌, ℕ, zero, suc, ◌+◌, ◌*◌, ◌≤◌, length}
use Rattle.std.proofs.Common.{sym, subst, arith, le_refl, length-append}
use Rattle.std.proofs.Math.Logic.{inl, inr}
use Rattle.graph.specs.Members.{◌∈◌, here, there, Each, Room, Distinct, dnil, dcons}
use Rattle.graph.proofs.Laws.Members.{mem_nil, mem_cons, mem_cast, mem_dec, mem_left, mem_right, mem_append}
use Rattle.graph.specs.Graph.{Path⁺, one, more, Path⋆, Entered, none, again, fresh}

-- Dfs go v l xs v' l' c: with v seen and l left, to go to each of xs in turn sees v', leaves l' and takes c transitions, one of them at each of xs
pub data Dfs (go : ℕ → List ℕ) : List ℕ → List ℕ → List ℕ → List ℕ → List ℕ → ℕ → Type 0 where
  stop : {v l : List ℕ} → Dfs go v l [] v l 0
  seen : {v l xs v' l' : List ℕ} {x c : ℕ} → x ∈ v → Dfs go v l xs v' l' c → Dfs go v l (x ∷ xs) v' l' (suc c)
  new : {v l xs v₁ l₁ v' l' : List ℕ} {x c c' : ℕ} →
      ¬ (x ∈ v) → Dfs go (x ∷ v) l (go x) v₁ l₁ c → Dfs go v₁ (l₁ ++ x ∷ []) xs v' l' c' → Dfs go v l (x ∷ xs) v' l' (suc (c + suc (suc c')))

module _ {go : ℕ → List ℕ} where
  pub grows : {v l xs v' l' : List ℕ} {c : ℕ} → Dfs go v l xs v' l' c → (y : ℕ) → y ∈ v → y ∈ v'
  grows stop y m = m
  grows (seen _ d) y m = grows d y m
  grows (new _ d d') y m = grows d' y (grows d y (there m))

  pub apart : {v l xs v' l' : List ℕ} {c : ℕ} → Dfs go v l xs v' l' c → Distinct v → Distinct v'
  apart stop a = a
  apart (seen _ d) a = apart d a
  apart (new h d d') a = apart d' (apart d (dcons h a))

  pub longer : {v l xs v' l' : List ℕ} {c : ℕ} → Dfs go v l xs v' l' c → length v ≤ length v'
  longer stop = le_refl _
  longer (seen _ d) = longer d
  longer (new {v = v} {v₁ = v₁} {v' = v'} {x = x} h d d') =
      let a : suc (length v) ≤ length v₁ = longer d in
      let b : length v₁ ≤ length v' = longer d' in
      omega arith

  pub below : (P : ℕ → Type 0) → ((x : ℕ) → Each P (go x)) → {v l xs v' l' : List ℕ} {c : ℕ} → Dfs go v l xs v' l' c → Each P v → Each P xs → Each P v'
  below P g stop a b = a
  below P g (seen _ d) a b = below P g d a (λ y m. b y (there m))
  below P g (new {v = v} {x = x} h d d') a b =
      below P g d' (below P g d (λ y m. case y (mem_cons m)) (g x)) (λ y m. b y (there m))
    where
      case : (y : ℕ) → (y ≡ x) ⊎ (y ∈ v) → P y
      case y (inl e) = rw e (b x (here refl))
      case y (inr m) = a y m

  -- each node seen is left once
  pub as_many : {v l xs v' l' : List ℕ} {c : ℕ} → Dfs go v l xs v' l' c → length v' + length l ≡ length v + length l'
  as_many stop = refl
  as_many (seen _ d) = as_many d
  as_many (new {v = v} {l = l} {v₁ = v₁} {l₁ = l₁} {v' = v'} {l' = l'} {x = x} h d d') =
      let a : length v₁ + length l ≡ suc (length v) + length l₁ = as_many d in
      let b : length v' + length (l₁ ++ x ∷ []) ≡ length v₁ + length l' = as_many d' in
      let e : length (l₁ ++ x ∷ []) ≡ length l₁ + 1 = length-append l₁ (x ∷ []) in
      omega arith

  -- transitions: one for each of xs, and for each node seen on the way one in, one out, and one for each of its links
  pub cost : ((x : ℕ) → length (go x) ≤ 3) → {v l xs v' l' : List ℕ} {c : ℕ} → Dfs go v l xs v' l' c → c + 5 * length v ≤ length xs + 5 * length v'
  cost few stop = omega arith
  cost few (seen _ d) = let h = cost few d in omega arith
  cost few (new {v = v} {xs = xs} {v₁ = v₁} {v' = v'} {x = x} {c = c} {c' = c'} h d d') =
      let a : c + 5 * suc (length v) ≤ length (go x) + 5 * length v₁ = cost few d in
      let b : c' + 5 * length v₁ ≤ length xs + 5 * length v' = cost few d' in
      let f = few x in
      omega arith

-- ---- there is such a search: f is no less than the number of nodes not yet seen

pub record Found (go : ℕ → List ℕ) (v l xs : List ℕ) : Type 0 where
  pub v' : List ℕ
  pub l' : List ℕ
  pub c : ℕ
  pub dfs : Dfs go v l xs v' l' c

module _ (go : ℕ → List ℕ) (P : ℕ → Type 0) (n : ℕ) (room : Room P n) (g : (x : ℕ) → Each P (go x)) where
  walk : (f : ℕ) → ((x : ℕ) (v l : List ℕ) → ¬ (x ∈ v) → P x → Distinct v → Each P v → n ≤ length v + f → Found go (x ∷ v) l (go x)) →
      (xs v l : List ℕ) → Distinct v → Each P v → Each P xs → n ≤ length v + f → Found go v l xs
  walk f ih [] v l a b bx h = record { v' = v; l' = l; c = 0; dfs = stop }
  walk f ih (x ∷ xs) v l a b bx h = case (mem_dec x v) (λ v' l' a' b' h'. walk f ih xs v' l' a' b' (λ y m. bx y (there m)) h')
    where
      case : Dec (x ∈ v) → ((v' l' : List ℕ) → Distinct v' → Each P v' → n ≤ length v' + f → Found go v' l' xs) → Found go v l (x ∷ xs)
      case (yes m) k =
          let r : Found go v l xs = k v l a b h in
          record { v' = r.v'; l' = r.l'; c = suc r.c; dfs = seen m r.dfs }
      case (no nm) k =
          let r : Found go (x ∷ v) l (go x) = ih x v l nm (bx x (here refl)) a b h in
          let long : suc (length v) ≤ length r.v' = longer r.dfs in
          let r' : Found go r.v' (r.l' ++ x ∷ []) xs =
          k r.v' (r.l' ++ x ∷ []) (apart r.dfs (dcons nm a)) (below P g r.dfs (λ y m. up y (mem_cons m)) (g x)) (omega arith) in
          record { v' = r'.v'; l' = r'.l'; c = suc (r.c + suc (suc r'.c)); dfs = new nm r.dfs r'.dfs }
        where
          up : (y : ℕ) → (y ≡ x) ⊎ (y ∈ v) → P y
          up y (inl e) = rw e (bx x (here refl))
          up y (inr m) = b y m

  pub below_cons : (x : ℕ) (v : List ℕ) → P x → Each P v → Each P (x ∷ v)
  below_cons x v h b y m = case (mem_cons m)
    where
      case : (y ≡ x) ⊎ (y ∈ v) → P y
      case (inl e) = rw e h
      case (inr m') = b y m'

  find : (f : ℕ) (xs v l : List ℕ) → Distinct v → Each P v → Each P xs → n ≤ length v + f → Found go v l xs
  find zero = walk 0 (λ x v l nm lt a b h. absurd (full x v nm lt a b h))
    where
      full : (x : ℕ) (v : List ℕ) → ¬ (x ∈ v) → P x → Distinct v → Each P v → n ≤ length v + 0 → ⊥
      full x v nm lt a b h = let p : suc (length v) ≤ n = room (x ∷ v) (dcons nm a) (below_cons x v lt b) in omega arith
  find (suc f) = walk (suc f) (λ x v l nm lt a b h. find f (go x) (x ∷ v) l (dcons nm a) (below_cons x v lt b) (g x) (omega arith))

  -- from nothing seen
  pub found : (xs l : List ℕ) → Each P xs → Found go [] l xs
  found xs l b = find n xs [] l dnil (λ y m. absurd (mem_nil m)) b (omega arith)

  -- from a node not yet seen
  pub found_on : (x : ℕ) (v l : List ℕ) → P x → ¬ (x ∈ v) → Distinct v → Each P v → Found go (x ∷ v) l (go x)
  found_on x v l h f d b = find n (go x) (x ∷ v) l (dcons f d) (below_cons x v h b) (g x) (omega arith)

-- ---- where no node leads back to itself, the nodes are left in the order of the list

-- a path with one more link
pub path_snoc : {go : ℕ → List ℕ} {x y z : ℕ} → Path⁺ go x y → z ∈ go y → Path⁺ go x z
path_snoc (one m) k = more m (one k)
path_snoc (more m p) k = more m (path_snoc p k)

pub path_join : {go : ℕ → List ℕ} {x y z : ℕ} → Path⁺ go x y → Path⋆ go y z → Path⁺ go x z
path_join {go} {x} p (inl e) = subst (λ (u : ℕ). Path⁺ go x u) e p
path_join (one m) (inr q) = more m q
path_join (more m p) (inr q) = more m (path_join p (inr q))

pub paths_join : {go : ℕ → List ℕ} {x y z : ℕ} → Path⋆ go x y → Path⋆ go y z → Path⋆ go x z
paths_join {go} {z = z} (inl e) q = subst (λ (u : ℕ). Path⋆ go u z) (sym e) q
paths_join (inr p) q = inr (path_join p q)

-- a link, after or before none or more steps
pub path_last : {go : ℕ → List ℕ} {x y z : ℕ} → Path⋆ go x y → z ∈ go y → Path⁺ go x z
path_last {go} {z = z} (inl e) m = one (subst (λ (u : ℕ). z ∈ go u) (sym e) m)
path_last (inr p) m = path_snoc p m

pub path_first : {go : ℕ → List ℕ} {x y z : ℕ} → y ∈ go x → Path⋆ go y z → Path⁺ go x z
path_first m q = path_join (one m) q

module _ (go : ℕ → List ℕ) (acyclic : (x : ℕ) → ¬ (Path⁺ go x x)) where
  -- a node seen and not left leads to all that is to be entered
  pub Open : List ℕ → List ℕ → List ℕ → Type 0
  Open v l xs = (y : ℕ) → y ∈ v → (y ∈ l) ⊎ ((z : ℕ) → z ∈ xs → Path⁺ go y z)

  pub Left : List ℕ → List ℕ → Type 0
  Left v l = (y : ℕ) → y ∈ l → y ∈ v

  record Order (v l xs v' l' : List ℕ) : Type 0 where
    entered : Entered go l xs l'
    -- what was seen on the way was left again
    out : (y : ℕ) → y ∈ v' → (y ∈ l') ⊎ (y ∈ v)
    left : Left v' l'
    kept : (y : ℕ) → y ∈ l → y ∈ l'

  order : {v l xs v' l' : List ℕ} {c : ℕ} → Dfs go v l xs v' l' c → Open v l xs → Left v l → Order v l xs v' l'
  unfolding Open Left
  order stop o f = record { entered = none; out = λ y m. inr m; left = f; kept = λ y m. m }
  order (seen {v = v} {l = l} {xs = xs} {v' = v'} {l' = l'} {x = x} h d) o f = done (order d (λ y m. shorter y (o y m)) f)
    where
      shorter : (y : ℕ) → (y ∈ l) ⊎ ((z : ℕ) → z ∈ (x ∷ xs) → Path⁺ go y z) → (y ∈ l) ⊎ ((z : ℕ) → z ∈ xs → Path⁺ go y z)
      shorter y (inl m) = inl m
      shorter y (inr p) = inr (λ z m. p z (there m))

      known : (x ∈ l) ⊎ ((z : ℕ) → z ∈ (x ∷ xs) → Path⁺ go x z) → x ∈ l
      known (inl m) = m
      known (inr p) = absurd (acyclic x (p x (here refl)))

      done : Order v l xs v' l' → Order v l (x ∷ xs) v' l'
      done r = record { entered = again (known (o x h)) r.entered; out = r.out; left = r.left; kept = r.kept }
  order (new {v = v} {l = l} {xs = xs} {v₁ = v₁} {l₁ = l₁} {v' = v'} {l' = l'} {x = x} h d d') o f =
      done (order d (λ y m. open₁ y (mem_cons m)) (λ y m. there (f y m))) (λ o' f'. order d' o' f')
    where
      lead : (y : ℕ) → (y ∈ l) ⊎ ((z : ℕ) → z ∈ (x ∷ xs) → Path⁺ go y z) → (y ∈ l) ⊎ ((z : ℕ) → z ∈ go x → Path⁺ go y z)
      lead y (inl m) = inl m
      lead y (inr p) = inr (λ z m. path_snoc (p x (here refl)) m)

      open₁ : (y : ℕ) → (y ≡ x) ⊎ (y ∈ v) → (y ∈ l) ⊎ ((z : ℕ) → z ∈ go x → Path⁺ go y z)
      open₁ y (inl e) = inr (λ z m. one {x = y} {y = z} (rw e m))
      open₁ y (inr m) = lead y (o y m)

      done : Order (x ∷ v) l (go x) v₁ l₁ → (Open v₁ (l₁ ++ x ∷ []) xs → Left v₁ (l₁ ++ x ∷ []) → Order v₁ (l₁ ++ x ∷ []) xs v' l') → Order v l (x ∷ xs) v' l'
      done r k = fill (k (λ y m. open₂ y (r.out y m)) (λ y m. left₂ y (mem_append l₁ m)))
        where
          rest : (y : ℕ) → (y ∈ l) ⊎ ((z : ℕ) → z ∈ (x ∷ xs) → Path⁺ go y z) → (y ∈ (l₁ ++ x ∷ [])) ⊎ ((z : ℕ) → z ∈ xs → Path⁺ go y z)
          rest y (inl m) = inl (mem_left _ (r.kept y m))
          rest y (inr p) = inr (λ z m. p z (there m))

          open₃ : (y : ℕ) → (y ≡ x) ⊎ (y ∈ v) → (y ∈ (l₁ ++ x ∷ [])) ⊎ ((z : ℕ) → z ∈ xs → Path⁺ go y z)
          open₃ y (inl e) = inl (mem_right l₁ (here e))
          open₃ y (inr m) = rest y (o y m)

          open₂ : (y : ℕ) → (y ∈ l₁) ⊎ (y ∈ (x ∷ v)) → (y ∈ (l₁ ++ x ∷ [])) ⊎ ((z : ℕ) → z ∈ xs → Path⁺ go y z)
          open₂ y (inl m) = inl (mem_left _ m)
          open₂ y (inr m) = open₃ y (mem_cons m)

          left₂ : (y : ℕ) → (y ∈ l₁) ⊎ (y ∈ (x ∷ [])) → y ∈ v₁
          left₂ y (inl m) = r.left y m
          left₂ y (inr m) = grows d y (only (mem_cons m))
            where
              only : (y ≡ x) ⊎ (y ∈ []) → y ∈ (x ∷ v)
              only (inl e) = here e
              only (inr n) = absurd (mem_nil n)

          fill : Order v₁ (l₁ ++ x ∷ []) xs v' l' → Order v l (x ∷ xs) v' l'
          fill r' = record {
            entered = fresh (λ m. h (f x m)) r.entered r'.entered;
            out = λ y m. back y (r'.out y m);
            left = r'.left;
            kept = λ y m. r'.kept y (mem_left _ (r.kept y m));
          }
            where
              back₃ : (y : ℕ) → (y ≡ x) ⊎ (y ∈ v) → (y ∈ l') ⊎ (y ∈ v)
              back₃ y (inl e) = inl (r'.kept y (mem_right l₁ (here e)))
              back₃ y (inr m) = inr m

              back₂ : (y : ℕ) → (y ∈ l₁) ⊎ (y ∈ (x ∷ v)) → (y ∈ l') ⊎ (y ∈ v)
              back₂ y (inl m) = inl (r'.kept y (mem_left _ m))
              back₂ y (inr m) = back₃ y (mem_cons m)

              back : (y : ℕ) → (y ∈ l') ⊎ (y ∈ v₁) → (y ∈ l') ⊎ (y ∈ v)
              back y (inl m) = inl m
              back y (inr m) = back₂ y (r.out y m)

  pub ordered : {xs v' l' : List ℕ} {c : ℕ} → Dfs go [] [] xs v' l' c → Entered go [] xs l'
  unfolding Open Left
  ordered d = (order d (λ y m. absurd (mem_nil m)) (λ y m. m)).entered

  -- ---- the list holds nodes that can be reached, each once

  abbrev pub Came : List ℕ → List ℕ → ℕ → Type 0
  Came l xs y = (y ∈ l) ⊎ ((x : ℕ) × (x ∈ xs) × Path⋆ go x y)

  pub entered_came : {l xs l' : List ℕ} → Entered go l xs l' → (y : ℕ) → y ∈ l' → Came l xs y
  entered_came none y m = inl m
  entered_came (again {x = x} {xs = xs} {l = l} _ d) y m = case (entered_came d y m)
    where
      case : Came l xs y → Came l (x ∷ xs) y
      case (inl k) = inl k
      case (inr (z, p, q)) = inr (z, there p, q)
  entered_came (fresh {x = x} {xs = xs} {l = l} {l₁ = l₁} _ d d') y m = case (entered_came d' y m) (λ k. entered_came d y k)
    where
      up : Came l (go x) y → Came l (x ∷ xs) y
      up (inl k) = inl k
      up (inr (z, p, inl e)) = inr (x, here refl, inr (one (mem_cast (sym e) p)))
      up (inr (z, p, inr q)) = inr (x, here refl, inr (more p q))

      last : (y ∈ l₁) ⊎ (y ∈ (x ∷ [])) → (y ∈ l₁ → Came l (go x) y) → Came l (x ∷ xs) y
      last (inl k) f = up (f k)
      last (inr k) f = only (mem_cons k)
        where
          only : (y ≡ x) ⊎ (y ∈ []) → Came l (x ∷ xs) y
          only (inl e) = inr (x, here refl, inl (sym e))
          only (inr n) = absurd (mem_nil n)

      case : Came (l₁ ++ x ∷ []) xs y → (y ∈ l₁ → Came l (go x) y) → Came l (x ∷ xs) y
      case (inl k) f = last (mem_append l₁ k) f
      case (inr (z, p, q)) f = inr (z, there p, q)

  pub distinct_snoc : (l : List ℕ) (x : ℕ) → Distinct l → ¬ (x ∈ l) → Distinct (l ++ x ∷ [])
  distinct_snoc [] x d f = dcons mem_nil dnil
  distinct_snoc (y ∷ ys) x (dcons g d) f = dcons (λ m. case (mem_append ys m)) (distinct_snoc ys x d (λ m. f (there m)))
    where
      case : (y ∈ ys) ⊎ (y ∈ (x ∷ [])) → ⊥
      case (inl m) = g m
      case (inr m) = only (mem_cons m)
        where
          only : (y ≡ x) ⊎ (y ∈ []) → ⊥
          only (inl e) = f (here (sym e))
          only (inr n) = mem_nil n

  pub entered_distinct : {l xs l' : List ℕ} → Entered go l xs l' → Distinct l → Distinct l'
  entered_distinct none a = a
  entered_distinct (again _ d) a = entered_distinct d a
  entered_distinct (fresh {x = x} {l = l} {l₁ = l₁} f d d') a = entered_distinct d' (distinct_snoc l₁ x (entered_distinct d a) (λ m. case (entered_came d x m)))
    where
      case : Came l (go x) x → ⊥
      case (inl k) = f k
      case (inr (z, p, inl e)) = acyclic x (one (mem_cast (sym e) p))
      case (inr (z, p, inr q)) = acyclic x (more p q)
