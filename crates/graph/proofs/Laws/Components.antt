-- A loop search, in the large: the strongly connected components as Tarjan finds them. Which nodes it has seen, which of them are
-- open, which have a link to an open node, and its transitions. Assumes nothing.
use Rattle.std.specs.Prelude.{◌≡◌, refl, ◌≢◌, ◌⊎◌, List, [], ◌∷◌, ℕ, suc, ◌+◌, ◌-◌, ◌*◌, ◌≤◌, ◌<◌, min, length}
use Rattle.std.proofs.Common.{sym, ap, ◌∙◌, inl, inr, arith, le_refl}
use Rattle.std.proofs.Math.Decide.{ℕ_discrete, dec_lt}
use Rattle.graph.specs.Members.{◌∈◌, here, there, Distinct, dcons, put}
use Rattle.graph.proofs.Laws.Members.{mem_nil, mem_cons, mem_cast, mem_dec, put_same, put_other}
use Rattle.graph.proofs.Laws.DepthFirst.{Dfs, stop, seen, new}

-- ---- the open nodes are a list, newest first: heights

-- the height of a node, 0 for one that is not open
unfoldable pub tall : List ℕ → ℕ → ℕ
tall [] z = 0
tall (y ∷ o) z = put (tall o) y (suc (length o)) z

pub tall_none : (o : List ℕ) (z : ℕ) → ¬ (z ∈ o) → tall o z ≡ 0
unfolding tall
tall_none [] z f = refl
tall_none (y ∷ o) z f = put_other (tall o) y _ (λ e. f (here (sym e))) ∙ tall_none o z (λ m. f (there m))

pub tall_here : (y : ℕ) (o : List ℕ) → tall (y ∷ o) y ≡ suc (length o)
unfolding tall
tall_here y o = put_same (tall o) y _ refl

pub tall_there : (y : ℕ) (o : List ℕ) (z : ℕ) → y ≢ z → tall (y ∷ o) z ≡ tall o z
unfolding tall
tall_there y o z ne = put_other (tall o) y _ ne

pub tall_some : (o : List ℕ) (z : ℕ) → z ∈ o → 1 ≤ tall o z
tall_some [] z m = absurd (mem_nil m)
tall_some (y ∷ o) z m = go (ℕ_discrete y z) (mem_cons m) (λ k. tall_some o z k)
  where
    go : Dec (y ≡ z) → (z ≡ y) ⊎ (z ∈ o) → (z ∈ o → 1 ≤ tall o z) → 1 ≤ tall (y ∷ o) z
    go (yes e) c k = let h : tall (y ∷ o) z ≡ suc (length o) = ap (tall (y ∷ o)) (sym e) ∙ tall_here y o in omega arith
    go (no ne) (inl e) k = absurd (ne (sym e))
    go (no ne) (inr n) k = let h = tall_there y o z ne in let q = k n in omega arith

pub tall_most : (o : List ℕ) (z : ℕ) → tall o z ≤ length o
unfolding tall
tall_most [] z = le_refl 0
tall_most (y ∷ o) z = go (ℕ_discrete y z) (tall_most o z)
  where
    go : Dec (y ≡ z) → tall o z ≤ length o → put (tall o) y (suc (length o)) z ≤ suc (length o)
    go (yes e) k = rw (put_same (tall o) y (suc (length o)) e) (le_refl _)
    go (no ne) k = rw (put_other (tall o) y (suc (length o)) ne) (omega arith)

-- o' is o with newer nodes before it
pub data Over (o : List ℕ) : List ℕ → Type 0 where
  level : Over o o
  newer : {y : ℕ} {o' : List ℕ} → Over o o' → Over o (y ∷ o')

pub over_in : {o o' : List ℕ} → Over o o' → (z : ℕ) → z ∈ o → z ∈ o'
over_in level z m = m
over_in (newer w) z m = there (over_in w z m)

pub over_under : {y : ℕ} {o o' : List ℕ} → Over (y ∷ o) o' → Over o o'
over_under level = newer level
over_under (newer w) = newer (over_under w)

pub over_join : {o o₁ o' : List ℕ} → Over o o₁ → Over o₁ o' → Over o o'
over_join w level = w
over_join w (newer u) = newer (over_join w u)

pub over_long : {o o' : List ℕ} → Over o o' → length o ≤ length o'
over_long level = le_refl _
over_long (newer w) = let h = over_long w in omega arith

-- an old node keeps its height
pub over_tall : {o o' : List ℕ} → Over o o' → Distinct o' → (z : ℕ) → z ∈ o → tall o' z ≡ tall o z
over_tall level d z m = refl
over_tall (newer {y = y} {o' = o'} w) (dcons f d) z m = tall_there y o' z (λ e. f (mem_cast e (over_in w z m))) ∙ over_tall w d z m

-- and a node that is no higher than the old ones is one of them
pub over_low : {o o' : List ℕ} → Over o o' → (z : ℕ) → z ∈ o' → tall o' z ≤ length o → z ∈ o
over_low level z m h = m
over_low {o} (newer {y = y} {o' = o'} w) z m h = go (ℕ_discrete y z) (mem_cons m) (λ k q. over_low w z k q)
  where
    go : Dec (y ≡ z) → (z ≡ y) ⊎ (z ∈ o') → (z ∈ o' → tall o' z ≤ length o → z ∈ o) → z ∈ o
    go (yes e) c k = absurd (let a : tall (y ∷ o') z ≡ suc (length o') = ap (tall (y ∷ o')) (sym e) ∙ tall_here y o' in let b = over_long w in let q : ⊥ = omega arith in q)
    go (no ne) (inl e) k = absurd (ne (sym e))
    go (no ne) (inr n) k = k n (let a = tall_there y o' z ne in let q : tall o' z ≤ length o = omega arith in q)

-- ---- the search

-- Tarjan go x v o low t xs v' o' low' t' c: at x, with v seen, o open, low the least height to which x is known to lead and t the
-- nodes with a link to what was open: to follow x's links xs in turn makes these v', o', low' and t', and takes c transitions
pub data Tarjan (go : ℕ → List ℕ) : ℕ → List ℕ → List ℕ → ℕ → List ℕ → List ℕ → List ℕ → List ℕ → ℕ → List ℕ → ℕ → Type 0 where
  finished : {v o t : List ℕ} {x low : ℕ} → Tarjan go x v o low t [] v o low t 0
  -- a link to a closed node
  crossed : {v o t xs v' o' t' : List ℕ} {x low low' y c : ℕ} → y ∈ v → ¬ (y ∈ o) →
      Tarjan go x v o low t xs v' o' low' t' c →
      Tarjan go x v o low t (y ∷ xs) v' o' low' t' (suc c)
  -- a link to an open node
  tied : {v o t xs v' o' t' : List ℕ} {x low low' y c : ℕ} → y ∈ o →
      Tarjan go x v o (min low (tall o y)) (x ∷ t) xs v' o' low' t' c →
      Tarjan go x v o low t (y ∷ xs) v' o' low' t' (suc c)
  -- a new node, which is entered, searched and left open; its link is then passed
  left : {v o t xs v₁ o₁ t₁ v' o' t' : List ℕ} {x low low₁ low' y c c' : ℕ} → ¬ (y ∈ v) →
      Tarjan go y (y ∷ v) (y ∷ o) (suc (length o)) t (go y) v₁ o₁ low₁ t₁ c →
      low₁ < suc (length o) →
      Tarjan go x v₁ o₁ (min low₁ low) t₁ (y ∷ xs) v' o' low' t' c' →
      Tarjan go x v o low t (y ∷ xs) v' o' low' t' (suc (c + suc c'))
  -- a new node, which is entered, searched and closed with the j newer ones; its link is then passed
  closed : {v o t xs v₁ o₁ t₁ v' o' t' : List ℕ} {x low low₁ low' y c c' : ℕ} → ¬ (y ∈ v) →
      Tarjan go y (y ∷ v) (y ∷ o) (suc (length o)) t (go y) v₁ o₁ low₁ t₁ c →
      suc (length o) ≤ low₁ →
      (j : ℕ) → length o₁ ≡ j + suc (length o) →
      Tarjan go x v₁ o low t₁ (y ∷ xs) v' o' low' t' c' →
      Tarjan go x v o low t (y ∷ xs) v' o' low' t' (suc (c + suc (suc j + c')))

module _ {go : ℕ → List ℕ} where
  pub tarjan_grows : {x low low' c : ℕ} {v o t xs v' o' t' : List ℕ} → Tarjan go x v o low t xs v' o' low' t' c → (z : ℕ) → z ∈ v → z ∈ v'
  tarjan_grows finished z m = m
  tarjan_grows (crossed _ _ d) z m = tarjan_grows d z m
  tarjan_grows (tied _ d) z m = tarjan_grows d z m
  tarjan_grows (left _ d _ d') z m = tarjan_grows d' z (tarjan_grows d z (there m))
  tarjan_grows (closed _ d _ _ _ d') z m = tarjan_grows d' z (tarjan_grows d z (there m))

  pub tarjan_over : {x low low' c : ℕ} {v o t xs v' o' t' : List ℕ} → Tarjan go x v o low t xs v' o' low' t' c → Over o o'
  tarjan_over finished = level
  tarjan_over (crossed _ _ d) = tarjan_over d
  tarjan_over (tied _ d) = tarjan_over d
  tarjan_over (left _ d _ d') = over_join (over_under (tarjan_over d)) (tarjan_over d')
  tarjan_over (closed _ d _ _ _ d') = tarjan_over d'

  pub tarjan_low : {x low low' c : ℕ} {v o t xs v' o' t' : List ℕ} → Tarjan go x v o low t xs v' o' low' t' c → low' ≤ low
  tarjan_low finished = le_refl _
  tarjan_low (crossed _ _ d) = tarjan_low d
  tarjan_low (tied _ d) = let h = tarjan_low d in omega arith
  tarjan_low (left _ d _ d') = let h = tarjan_low d' in omega arith
  tarjan_low (closed _ d _ _ _ d') = tarjan_low d'

  -- transitions: one for each of xs, and for each node seen on the way one in, one out, one to close it, and one for each of its links
  pub tarjan_cost : ((x : ℕ) → length (go x) ≤ 3) → {x low low' c : ℕ} {v o t xs v' o' t' : List ℕ} → Tarjan go x v o low t xs v' o' low' t' c →
      c + 6 * length v + length o' ≤ length xs + 6 * length v' + length o
  tarjan_cost few finished = omega arith
  tarjan_cost few (crossed _ _ d) = let h = tarjan_cost few d in omega arith
  tarjan_cost few (tied _ d) = let h = tarjan_cost few d in omega arith
  tarjan_cost few (left {y = y} _ d _ d') = let a = tarjan_cost few d in let b = tarjan_cost few d' in let f = few y in omega arith
  tarjan_cost few (closed {y = y} _ d _ j e d') = let a = tarjan_cost few d in let b = tarjan_cost few d' in let f = few y in omega arith

-- ---- there is such a search, wherever there is one depth first

pub record Run (go : ℕ → List ℕ) (x : ℕ) (v o : List ℕ) (low : ℕ) (t xs v' : List ℕ) : Type 0 where
  pub o' : List ℕ
  pub low' : ℕ
  pub t' : List ℕ
  pub c : ℕ
  pub tarjan : Tarjan go x v o low t xs v' o' low' t' c

module _ {go : ℕ → List ℕ} where
  -- the link to a node that was seen
  run_seen : {x y low : ℕ} {v o t xs v' : List ℕ} → y ∈ v → ((low₁ : ℕ) (t₁ : List ℕ) → Run go x v o low₁ t₁ xs v') → Run go x v o low t (y ∷ xs) v'
  run_seen {x} {y} {low} {v} {o} {t} {xs} {v'} m k = case (mem_dec y o)
    where
      case : Dec (y ∈ o) → Run go x v o low t (y ∷ xs) v'
      case (yes i) =
          let r : Run go x v o (min low (tall o y)) (x ∷ t) xs v' = k (min low (tall o y)) (x ∷ t) in
          record { o' = r.o'; low' = r.low'; t' = r.t'; c = suc r.c; tarjan = tied i r.tarjan }
      case (no f) =
          let r : Run go x v o low t xs v' = k low t in
          record { o' = r.o'; low' = r.low'; t' = r.t'; c = suc r.c; tarjan = crossed m f r.tarjan }

  pub run : {v l xs v' l' : List ℕ} {c : ℕ} → Dfs go v l xs v' l' c → (x : ℕ) (o : List ℕ) (low : ℕ) (t : List ℕ) → Run go x v o low t xs v'
  run stop x o low t = record { o' = o; low' = low; t' = t; c = 0; tarjan = finished }
  run (seen m d) x o low t = run_seen m (λ low₁ t₁. run d x o low₁ t₁)
  run (new {v = v} {xs = xs} {v₁ = v₁} {v' = v'} {x = y} f d d') x o low t =
      let r : Run go y (y ∷ v) (y ∷ o) (suc (length o)) t (go y) v₁ = run d y (y ∷ o) (suc (length o)) t in
      case r (dec_lt r.low' (suc (length o))) (λ o₁ low₁ t₁. run_seen (tarjan_grows r.tarjan y (here refl)) (λ low₂ t₂. run d' x o₁ low₂ t₂))
    where
      case : (r : Run go y (y ∷ v) (y ∷ o) (suc (length o)) t (go y) v₁) → Dec (r.low' < suc (length o)) →
          ((o₁ : List ℕ) (low₁ : ℕ) (t₁ : List ℕ) → Run go x v₁ o₁ low₁ t₁ (y ∷ xs) v') → Run go x v o low t (y ∷ xs) v'
      case r (yes h) k =
          let q = k r.o' (min r.low' low) r.t' in
          record { o' = q.o'; low' = q.low'; t' = q.t'; c = suc (r.c + suc q.c); tarjan = left f r.tarjan h q.tarjan }
      case r (no n) k =
          let q = k o low r.t' in
          let g : suc (length o) ≤ length r.o' = over_long (tarjan_over r.tarjan) in
          let j : ℕ = length r.o' - suc (length o) in
          record { o' = q.o'; low' = q.low'; t' = q.t'; c = suc (r.c + suc (suc j + q.c)); tarjan = closed f r.tarjan (omega arith) j (omega arith) q.tarjan }
