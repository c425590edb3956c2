-- The graph of two ads by the numbers of its nodes: each way through the functions that read it. Assumes nothing.
use Rattle.std.proofs.Math.Path.{◌≡◌, refl, sym, ap}
use Rattle.std.proofs.Common.{◌∙◌, subst, get_or-take, length-take-le}
use Rattle.std.specs.Prelude.{◌≢◌, Bool, not, ◌&&◌, ltb}
use Rattle.std.proofs.Math.Bool.{true, false, cond}
use mathlib.Core.List.{List, [], ◌∷◌, map}
use Prim.Native.Nat.{ℕ, zero, suc, ◌+◌, ◌-◌, ◌≤◌, ◌<◌}
use Rattle.std.proofs.Math.Decide.{dec_lt}
use native.Mathlib.Omega.{arith}
use Rattle.std.proofs.Math.ListN.{length, get_or}
use Rattle.std.proofs.lemmas.List.{length-map}
use borrow.Author.Tests.{eq-eqb, le-ltb, lt-ltb, ltb-true, ne_eqb}
use Rattle.text.specs.Laws.Booleans.{neither}
use Rattle.graph.specs.Members.{◌∈◌}
use Rattle.graph.proofs.Laws.Members.{at_mem}
use Rattle.graph.specs.Graph.{Graph}
use Rattle.graph.specs.Transition.{led, needed, named, marked}
use Rattle.ad.specs.Stored.{kind_at, operand_at, name_at, node_count, arity, operands, is_own, is_other, is_reference, find}
use Rattle.links.specs.Pair.{numbered, linked, inside, across, links_from, refers_at, both, pair_graph}
use Rattle.links.specs.Inner.Asked.{Formed, Measured, Stands}
use Rattle.links.specs.Laws.Counting.{nodes_few, definitions_few, arity_few}
use Rattle.links.specs.Laws.Soundness.{both_low, both_high}
use Rattle.graph.specs.Members.{numbers, raised}

-- ---- a fact of either side's node

module _ (v w : List ℕ) (x : ℕ) where
  pub kind_first : {r : ℕ} → x < 1024 → r ≡ kind_at v x → r ≡ both (kind_at v) (kind_at w) x
  kind_first h e = e ∙ sym (both_low (kind_at v) (kind_at w) x h)

  pub kind_second : {r : ℕ} → 1024 ≤ x → r ≡ kind_at w (x - 1024) → r ≡ both (kind_at v) (kind_at w) x
  kind_second h e = e ∙ sym (both_high (kind_at v) (kind_at w) x h)

  pub operand_first : (i : ℕ) {r : ℕ} → x < 1024 → r ≡ operand_at v x i → r ≡ both (λ j. operand_at v j i) (λ j. 1024 + operand_at w j i) x
  operand_first i h e = e ∙ sym (both_low (λ j. operand_at v j i) (λ j. 1024 + operand_at w j i) x h)

  pub operand_second : (i : ℕ) {r : ℕ} → 1024 ≤ x → r ≡ operand_at w (x - 1024) i → 1024 + r ≡ both (λ j. operand_at v j i) (λ j. 1024 + operand_at w j i) x
  operand_second i h e = ap (λ (u : ℕ). 1024 + u) e ∙ sym (both_high (λ j. operand_at v j i) (λ j. 1024 + operand_at w j i) x h)

  module _ (s : Stands v w x) where
    pub stands_first : x < 1024 → x < node_count v
    stands_first h = ltb-true _ _ (sym (both_low (λ i. ltb i (node_count v)) (λ i. ltb i (node_count w)) x h) ∙ s)

    pub stands_second : 1024 ≤ x → x - 1024 < node_count w
    stands_second h = ltb-true _ _ (sym (both_high (λ i. ltb i (node_count v)) (λ i. ltb i (node_count w)) x h) ∙ s)

    pub stands_small : x < 2048
    stands_small = go (dec_lt x 1024)
      where
        go : Dec (x < 1024) → x < 2048
        go (yes h) = omega arith
        go (no n) = let k : 1024 ≤ x = let a : ¬ (x < 1024) = n in omega arith in let b = stands_second k in let c = nodes_few w in omega arith

-- ---- operands

operands_long : (w : List ℕ) (j : ℕ) → length (operands w j) ≡ arity (kind_at w j)
unfolding operands
operands_long w j = length-take-le (arity (kind_at w j)) (operand_at w j 0 ∷ operand_at w j 1 ∷ operand_at w j 2 ∷ []) (arity_few (kind_at w j))

operands_at : (w : List ℕ) (j i : ℕ) → i < arity (kind_at w j) → get_or (operands w j) i 0 ≡ operand_at w j i
unfolding operands
operands_at w j i h =
    get_or-take (arity (kind_at w j)) (operand_at w j 0 ∷ operand_at w j 1 ∷ operand_at w j 2 ∷ []) i 0 h ∙ go i (let a = arity_few (kind_at w j) in let q : i < 3 = omega arith in q)
  where
    go : (i : ℕ) → i < 3 → get_or (operand_at w j 0 ∷ operand_at w j 1 ∷ operand_at w j 2 ∷ []) i 0 ≡ operand_at w j i
    go zero k = refl
    go (suc zero) k = refl
    go (suc (suc zero)) k = refl
    go (suc (suc (suc n))) k = absurd (let q : ⊥ = omega arith in q)

-- a slot with operands has a node
arity_stands : (w : List ℕ) → Formed w → (j i : ℕ) → j < 1024 → i < arity (kind_at w j) → j < node_count w
unfolding arity
arity_stands w f j i h k = go (dec_lt j (node_count w))
  where
    go : Dec (j < node_count w) → j < node_count w
    go (yes l) = l
    go (no n) =
        let e : kind_at w j ≡ 0 = f.unused_clear j (let a : ¬ (j < node_count w) = n in omega arith) h in
        absurd (let z : i < 0 = rw e at k in let q : ⊥ = omega arith in q)

operand_below : (w : List ℕ) → Formed w → (j i : ℕ) → j < 1024 → i < arity (kind_at w j) → operand_at w j i < j
operand_below w f j i l k =
    let h = arity_stands w f j i l k in
    let m : get_or (operands w j) i 0 ∈ operands w j = at_mem (operands w j) i (rw (operands_long w j) k) in
    rw (operands_at w j i k) at (f.operands_below j h _ m)

-- ---- links as numbers

pub inside_numbers : (s : Bool) (l : List ℕ) → map (linked s) (map inside l) ≡ map (numbered s) l
inside_numbers s [] = refl
inside_numbers s (y ∷ l) = ap (λ (u : List ℕ). numbered s y ∷ u) (inside_numbers s l)

pub across_numbers : (s : Bool) (l : List ℕ) → map (linked s) (map across l) ≡ map (numbered (not s)) l
across_numbers s [] = refl
across_numbers s (y ∷ l) = ap (λ (u : List ℕ). numbered (not s) y ∷ u) (across_numbers s l)

map_at : (f : ℕ → ℕ) (l : List ℕ) (i : ℕ) → i < length l → get_or (map f l) i 0 ≡ f (get_or l i 0)
map_at f [] i h = absurd (let q : ⊥ = omega arith in q)
map_at f (y ∷ l) zero h = refl
map_at f (y ∷ l) (suc i) h = map_at f l i (omega arith)

module _ (w b w' b' : List ℕ) (s : Bool) (j : ℕ) (h : j < node_count w) where
  links_operator : is_reference (kind_at w j) ≡ false → map (linked s) (links_from w b w' b' j) ≡ map (numbered s) (operands w j)
  unfolding links_from
  links_operator e =
      let q = neither (is_own (kind_at w j)) (is_other (kind_at w j)) e in
      rw (lt-ltb _ _ h, q.0, q.1) (inside_numbers s (operands w j))

  pub links_own : kind_at w j ≡ 7 → map (linked s) (links_from w b w' b' j) ≡ map (numbered s) (find w b (name_at w b j))
  unfolding links_from
  links_own e = rw (lt-ltb _ _ h, eq-eqb _ _ e) (inside_numbers s (find w b (name_at w b j)))

  links_other : kind_at w j ≡ 8 → map (linked s) (links_from w b w' b' j) ≡ map (numbered (not s)) (find w' b' (name_at w b j))
  unfolding links_from
  links_other e =
      let n : kind_at w j ≢ 7 = λ q. (let z : ◌≡◌ {A = ℕ} 7 8 = sym q ∙ e in omega arith) in
      rw (lt-ltb _ _ h, ne_eqb _ _ n, eq-eqb _ _ e) (across_numbers s (find w' b' (name_at w b j)))

  -- what is to be recorded of node j
  pub found_own : {kd r : ℕ} {name : List ℕ} → kd ≡ kind_at w j → kd ≡ 7 → name ≡ name_at w b j → r ≡ marked (map (numbered s) (find w b name)) →
      r ≡ cond (is_reference (kind_at w j)) (marked (map (linked s) (links_from w b w' b' j))) 0
  found_own {kd} {r} {name} p e q k =
      let e' : kind_at w j ≡ 7 = sym p ∙ e in
      k ∙ ap (λ (n : List ℕ). marked (map (numbered s) (find w b n))) q ∙ ap marked (sym (links_own e')) ∙ rw (eq-eqb _ _ e') refl

  pub found_other : {kd r : ℕ} {name : List ℕ} {far : Bool} → kd ≡ kind_at w j → kd ≡ 8 → name ≡ name_at w b j → far ≡ not s → r ≡ marked (map (numbered far) (find w' b' name)) →
      r ≡ cond (is_reference (kind_at w j)) (marked (map (linked s) (links_from w b w' b' j))) 0
  found_other {kd} {r} {name} {far} p e q f k =
      let e' : kind_at w j ≡ 8 = sym p ∙ e in
      let n : kind_at w j ≢ 7 = λ q. (let z : ◌≡◌ {A = ℕ} 7 8 = sym q ∙ e' in omega arith) in
      k ∙ ap (λ (t : Bool). marked (map (numbered t) (find w' b' name))) f ∙ ap (λ (n : List ℕ). marked (map (numbered (not s)) (find w' b' n))) q
      ∙ ap marked (sym (links_other e')) ∙ rw (ne_eqb _ _ n, eq-eqb _ _ e') refl

  pub found_none : {kd : ℕ} → kd ≡ kind_at w j → kd ≢ 7 → kd ≢ 8 → 0 ≡ cond (is_reference (kind_at w j)) (marked (map (linked s) (links_from w b w' b' j))) 0
  found_none {kd} p e f =
      let e' : kind_at w j ≢ 7 = λ q. e (p ∙ q) in
      let f' : kind_at w j ≢ 8 = λ q. f (p ∙ q) in
      rw (ne_eqb _ _ e', ne_eqb _ _ f') refl

-- ---- any slot

-- a slot without a node has no operands, and refers to nothing
unused_operands : (w : List ℕ) (j : ℕ) → kind_at w j ≡ 0 → operands w j ≡ []
unfolding operands arity
unused_operands w j e = rw e refl

unused_links : (w b w' b' : List ℕ) (j : ℕ) → node_count w ≤ j → links_from w b w' b' j ≡ []
unfolding links_from
unused_links w b w' b' j h = rw (le-ltb _ _ h) refl

module _ (w : List ℕ) (f : Formed w) (j : ℕ) (h : j < 1024) where
  refers_is : refers_at w j ≡ is_reference (kind_at w j)
  unfolding refers_at
  refers_is = go (dec_lt j (node_count w))
    where
      go : Dec (j < node_count w) → (ltb j (node_count w) && is_reference (kind_at w j)) ≡ is_reference (kind_at w j)
      go (yes l) = rw (lt-ltb _ _ l) refl
      go (no n) = let l : node_count w ≤ j = let a : ¬ (j < node_count w) = n in omega arith in rw (le-ltb _ _ l, f.unused_clear j l h) refl

  links_slot : (b w' b' : List ℕ) (s : Bool) → is_reference (kind_at w j) ≡ false → map (linked s) (links_from w b w' b' j) ≡ map (numbered s) (operands w j)
  links_slot b w' b' s e = go (dec_lt j (node_count w))
    where
      go : Dec (j < node_count w) → map (linked s) (links_from w b w' b' j) ≡ map (numbered s) (operands w j)
      go (yes l) = links_operator w b w' b' s j l e
      go (no n) =
          let l : node_count w ≤ j = let a : ¬ (j < node_count w) = n in omega arith in
          ap (map (linked s)) (unused_links w b w' b' j l) ∙ sym (ap (map (numbered s)) (unused_operands w j (f.unused_clear j l h)))

-- ---- the pair's graph

module _ (v b w c : List ℕ) (x : ℕ) (fv : Formed v) (fw : Formed w) (small : x < 2048) where
  pub ref_is : (pair_graph v b w c).ref x ≡ is_reference (both (kind_at v) (kind_at w) x)
  unfolding pair_graph
  ref_is = go (dec_lt x 1024)
    where
      go : Dec (x < 1024) → both (refers_at v) (refers_at w) x ≡ is_reference (both (kind_at v) (kind_at w) x)
      go (yes h) =
          both_low _ _ x h ∙ refers_is v fv x h ∙ ap is_reference (sym (both_low (kind_at v) (kind_at w) x h))
      go (no n) =
          let h : 1024 ≤ x = let a : ¬ (x < 1024) = n in omega arith in
          both_high _ _ x h ∙ refers_is w fw (x - 1024) (omega arith) ∙ ap is_reference (sym (both_high (kind_at v) (kind_at w) x h))

  -- the recorded target of a reference
  pub found_first : {r : ℕ} → x < 1024 → r ≡ cond (is_reference (kind_at v x)) (marked (map (linked false) (links_from v b w c x))) 0 →
      r ≡ cond ((pair_graph v b w c).ref x) (marked ((pair_graph v b w c).links x)) 0
  unfolding pair_graph
  found_first {r} h e =
      e ∙ ap (λ (t : Bool). cond t (marked (map (linked false) (links_from v b w c x))) 0) (ap is_reference (sym (both_low (kind_at v) (kind_at w) x h)) ∙ sym ref_is)
      ∙ ap (λ (l : List ℕ). cond ((pair_graph v b w c).ref x) (marked l) 0) (sym (both_low (λ i. map (linked false) (links_from v b w c i)) (λ i. map (linked true) (links_from w c v b i)) x h))

  pub found_second : {r : ℕ} → 1024 ≤ x → r ≡ cond (is_reference (kind_at w (x - 1024))) (marked (map (linked true) (links_from w c v b (x - 1024)))) 0 →
      r ≡ cond ((pair_graph v b w c).ref x) (marked ((pair_graph v b w c).links x)) 0
  unfolding pair_graph
  found_second {r} h e =
      e ∙ ap (λ (t : Bool). cond t (marked (map (linked true) (links_from w c v b (x - 1024)))) 0) (ap is_reference (sym (both_high (kind_at v) (kind_at w) x h)) ∙ sym ref_is)
      ∙ ap (λ (l : List ℕ). cond ((pair_graph v b w c).ref x) (marked l) 0) (sym (both_high (λ i. map (linked false) (links_from v b w c i)) (λ i. map (linked true) (links_from w c v b i)) x h))

  pub ref_test : {k : ℕ} {t : Bool} → k ≡ both (kind_at v) (kind_at w) x → t ≡ is_reference k → t ≡ (pair_graph v b w c).ref x
  ref_test ke te = te ∙ ap is_reference ke ∙ sym ref_is

  module _ {k : ℕ} {t : Bool} (ke : k ≡ both (kind_at v) (kind_at w) x) (te : t ≡ is_reference k) (ta : List ℕ) where
    led_recorded : t ≡ true → led (pair_graph v b w c) (numbers ta) x ≡ named (pair_graph v b w c) (get_or ta x 0)
    unfolding led
    led_recorded e = rw (sym (ref_test ke te) ∙ e) refl

    led_links : t ≡ false → led (pair_graph v b w c) (numbers ta) x ≡ (pair_graph v b w c).links x
    unfolding led
    led_links e = rw (sym (ref_test ke te) ∙ e) refl

    recorded_far : (u : ℕ) → 2048 < u → named (pair_graph v b w c) u ≡ []
    unfolding named pair_graph
    recorded_far zero h = refl
    recorded_far (suc y) h = rw (le-ltb _ _ (let q : 2048 ≤ y = omega arith in q)) refl

    recorded_near : (u : ℕ) → u ≢ 0 → u ≤ 2048 → named (pair_graph v b w c) u ≡ (u - 1) ∷ []
    unfolding named pair_graph
    recorded_near zero n h = absurd (n refl)
    recorded_near (suc y) n h = rw (lt-ltb _ _ (let q : y < 2048 = omega arith in q)) (ap (λ (z : ℕ). z ∷ []) (let q : y ≡ suc y - 1 = omega arith in q))

    pub count_none : t ≡ true → get_or ta x 0 ≡ 0 → 0 ≡ length (led (pair_graph v b w c) (numbers ta) x)
    unfolding named
    count_none e z = sym (ap length (led_recorded e ∙ ap (named (pair_graph v b w c)) z))

    pub count_far : t ≡ true → 2048 < get_or ta x 0 → 0 ≡ length (led (pair_graph v b w c) (numbers ta) x)
    count_far e z = sym (ap length (led_recorded e ∙ recorded_far (get_or ta x 0) z))

    pub count_one : t ≡ true → get_or ta x 0 ≢ 0 → get_or ta x 0 ≤ 2048 → 1 ≡ length (led (pair_graph v b w c) (numbers ta) x)
    count_one e z h = sym (ap length (led_recorded e ∙ recorded_near (get_or ta x 0) z h))

    -- a target that leads somewhere is the number of a slot
    target_at : (u i : ℕ) → i < length (named (pair_graph v b w c) u) → (1 ≤ u) × (u ≤ 2048) × (u - 1 ≡ get_or (named (pair_graph v b w c) u) i 0)
    unfolding named pair_graph
    target_at zero i h = absurd (let q : ⊥ = omega arith in q)
    target_at (suc y) i h = go (dec_lt y 2048) i h
      where
        go : Dec (y < 2048) → (i : ℕ) → i < length (cond (ltb y 2048) (y ∷ []) []) → (1 ≤ suc y) × (suc y ≤ 2048) × (suc y - 1 ≡ get_or (cond (ltb y 2048) (y ∷ []) []) i 0)
        go (yes l) zero k = (omega arith, omega arith, rw (lt-ltb _ _ l) (omega arith))
        go (yes l) (suc j) k = absurd (let z : suc j < 1 = rw (lt-ltb _ _ l) at k in let q : ⊥ = omega arith in q)
        go (no n) j k = absurd (let l : 2048 ≤ y = let a : ¬ (y < 2048) = n in omega arith in let z : j < 0 = rw (le-ltb _ _ l) at k in let q : ⊥ = omega arith in q)

    pub to_some : (i : ℕ) → t ≡ true → i < length (led (pair_graph v b w c) (numbers ta) x) → (1 ≤ get_or ta x 0) × (get_or ta x 0 ≤ 2048)
    to_some i e h = let a = target_at (get_or ta x 0) i (subst (λ (l : List ℕ). i < length l) (led_recorded e) h) in (a.0, a.1)

    pub to_target : (i : ℕ) → t ≡ true → i < length (led (pair_graph v b w c) (numbers ta) x) → get_or ta x 0 - 1 ≡ get_or (led (pair_graph v b w c) (numbers ta) x) i 0
    to_target i e h =
        (target_at (get_or ta x 0) i (subst (λ (l : List ℕ). i < length l) (led_recorded e) h)).2 ∙ sym (ap (λ (l : List ℕ). get_or l i 0) (led_recorded e))

    links_first : t ≡ false → x < 1024 → led (pair_graph v b w c) (numbers ta) x ≡ map (numbered false) (operands v x)
    unfolding pair_graph
    links_first e h =
        led_links e ∙ both_low _ _ x h
        ∙ links_slot v fv x h b w c false (ap is_reference (sym (ke ∙ both_low (kind_at v) (kind_at w) x h)) ∙ sym te ∙ e)

    links_second : t ≡ false → 1024 ≤ x → led (pair_graph v b w c) (numbers ta) x ≡ map (numbered true) (operands w (x - 1024))
    unfolding pair_graph
    links_second e h =
        led_links e ∙ both_high _ _ x h
        ∙ links_slot w fw (x - 1024) (omega arith) c v b true (ap is_reference (sym (ke ∙ both_high (kind_at v) (kind_at w) x h)) ∙ sym te ∙ e)

    numbers_long : (f : ℕ → ℕ) (u : List ℕ) (j : ℕ) → length (map f (operands u j)) ≡ arity (kind_at u j)
    numbers_long f u j = length-map (operands u j) f ∙ operands_long u j

    pub count_operands : {r : ℕ} → t ≡ false → r ≡ arity k → r ≡ length (led (pair_graph v b w c) (numbers ta) x)
    count_operands {r} e q = go (dec_lt x 1024)
      where
        go : Dec (x < 1024) → r ≡ length (led (pair_graph v b w c) (numbers ta) x)
        go (yes h) = q ∙ ap arity (ke ∙ both_low (kind_at v) (kind_at w) x h) ∙ sym (ap length (links_first e h) ∙ numbers_long (numbered false) v x)
        go (no n) =
            let h : 1024 ≤ x = let a : ¬ (x < 1024) = n in omega arith in
            q ∙ ap arity (ke ∙ both_high (kind_at v) (kind_at w) x h) ∙ sym (ap length (links_second e h) ∙ numbers_long (numbered true) w (x - 1024))

    module _ (i : ℕ) (e : t ≡ false) (lt : i < length (led (pair_graph v b w c) (numbers ta) x)) where
      first_lt : (h : x < 1024) → i < arity (kind_at v x)
      first_lt h = rw (ap length (links_first e h) ∙ numbers_long (numbered false) v x) at lt

      second_lt : (h : 1024 ≤ x) → i < arity (kind_at w (x - 1024))
      second_lt h = rw (ap length (links_second e h) ∙ numbers_long (numbered true) w (x - 1024)) at lt

      pub to_few : i < 3
      to_few = go (dec_lt x 1024)
        where
          go : Dec (x < 1024) → i < 3
          go (yes h) = let a = first_lt h in let d = arity_few (kind_at v x) in omega arith
          go (no n) =
              let h : 1024 ≤ x = let a : ¬ (x < 1024) = n in omega arith in
              let a = second_lt h in
              let d = arity_few (kind_at w (x - 1024)) in
              omega arith

      pub to_below : 1024 ≤ x → operand_at w (x - 1024) i < 1024
      to_below h = let a = operand_below w fw (x - 1024) i (omega arith) (second_lt h) in omega arith

      pub to_small : {r : ℕ} → r ≡ both (λ j. operand_at v j i) (λ j. 1024 + operand_at w j i) x → r < 2048
      to_small {r} q = go (dec_lt x 1024)
        where
          go : Dec (x < 1024) → r < 2048
          go (yes h) =
              let a : r ≡ operand_at v x i = q ∙ both_low _ _ x h in
              let d = operand_below v fv x i h (first_lt h) in
              omega arith
          go (no n) =
              let h : 1024 ≤ x = let a : ¬ (x < 1024) = n in omega arith in
              let a : r ≡ 1024 + operand_at w (x - 1024) i = q ∙ both_high _ _ x h in
              let d = to_below h in
              omega arith

      pub to_operand : {r : ℕ} → r ≡ both (λ j. operand_at v j i) (λ j. 1024 + operand_at w j i) x → r ≡ get_or (led (pair_graph v b w c) (numbers ta) x) i 0
      to_operand {r} q = go (dec_lt x 1024)
        where
          go : Dec (x < 1024) → r ≡ get_or (led (pair_graph v b w c) (numbers ta) x) i 0
          go (yes h) =
              q ∙ both_low _ _ x h ∙ sym (operands_at v x i (first_lt h))
              ∙ sym (ap (λ (l : List ℕ). get_or l i 0) (links_first e h) ∙ map_at (numbered false) (operands v x) i (rw (operands_long v x) (first_lt h)))
          go (no n) =
              let h : 1024 ≤ x = let a : ¬ (x < 1024) = n in omega arith in
              q ∙ both_high _ _ x h ∙ ap (λ (u : ℕ). 1024 + u) (sym (operands_at w (x - 1024) i (second_lt h)))
              ∙ sym (ap (λ (l : List ℕ). get_or l i 0) (links_second e h) ∙ map_at (numbered true) (operands w (x - 1024)) i (rw (operands_long w (x - 1024)) (second_lt h)))

named_any : (v b w c b' c' : List ℕ) (u : ℕ) → named (pair_graph v b w c) u ≡ named (pair_graph v b' w c') u
unfolding named pair_graph
named_any v b w c b' c' zero = refl
named_any v b w c b' c' (suc y) = refl

-- what a node leads to goes by the words alone
pub led_any : {v w : List ℕ} (b c b' c' : List ℕ) {x : ℕ} → Formed v → Formed w → x < 2048 → (ta : List ℕ) →
    led (pair_graph v b w c) (numbers ta) x ≡ led (pair_graph v b' w c') (numbers ta) x
led_any {v} {w} b c b' c' {x} fv fw small ta = go (is_reference (both (kind_at v) (kind_at w) x)) refl
  where
    go : (t : Bool) → t ≡ is_reference (both (kind_at v) (kind_at w) x) → led (pair_graph v b w c) (numbers ta) x ≡ led (pair_graph v b' w c') (numbers ta) x
    go true e = led_recorded v b w c x fv fw small refl e ta refl ∙ named_any v b w c b' c' (get_or ta x 0) ∙ sym (led_recorded v b' w c' x fv fw small refl e ta refl)
    go false e = side (dec_lt x 1024)
      where
        side : Dec (x < 1024) → led (pair_graph v b w c) (numbers ta) x ≡ led (pair_graph v b' w c') (numbers ta) x
        side (yes h) = links_first v b w c x fv fw small refl e ta refl h ∙ sym (links_first v b' w c' x fv fw small refl e ta refl h)
        side (no n) =
            let h : 1024 ≤ x = let a : ¬ (x < 1024) = n in omega arith in
            links_second v b w c x fv fw small refl e ta refl h ∙ sym (links_second v b' w c' x fv fw small refl e ta refl h)

-- ---- what a node needs, by its marks

module _ (H : Graph) (x : ℕ) (ta fl : List ℕ) where
  pub need_none : get_or fl x 0 ≡ 1 → 0 ≡ length (needed H (numbers ta) (raised fl) x)
  unfolding needed
  need_none e = rw (eq-eqb _ _ e) refl

  pub need_led : {r : ℕ} → get_or fl x 0 ≢ 1 → r ≡ length (led H (numbers ta) x) → r ≡ length (needed H (numbers ta) (raised fl) x)
  unfolding needed
  need_led n e = e ∙ rw (ne_eqb _ _ n) refl

-- a node that needs any needs all that it leads to
needed_led : (H : Graph) (x i : ℕ) (ta fl : List ℕ) → i < length (needed H (numbers ta) (raised fl) x) → needed H (numbers ta) (raised fl) x ≡ led H (numbers ta) x
unfolding needed
needed_led H x i ta fl h = go (raised fl x) h
  where
    go : (q : Bool) → i < length (cond q [] (led H (numbers ta) x)) → cond q [] (led H (numbers ta) x) ≡ led H (numbers ta) x
    go true z = absurd (let a : i < 0 = z in let b : ⊥ = omega arith in b)
    go false z = refl

pub needed_in : (H : Graph) (x i : ℕ) (ta fl : List ℕ) → i < length (needed H (numbers ta) (raised fl) x) → i < length (led H (numbers ta) x)
needed_in H x i ta fl h = subst (λ (l : List ℕ). i < length l) (needed_led H x i ta fl h) h

pub needed_next : (H : Graph) (x i y : ℕ) (ta fl : List ℕ) → i < length (needed H (numbers ta) (raised fl) x) → y ≡ get_or (led H (numbers ta) x) i 0 → y ≡ get_or (needed H (numbers ta) (raised fl) x) i 0
needed_next H x i y ta fl h e = e ∙ sym (ap (λ (l : List ℕ). get_or l i 0) (needed_led H x i ta fl h))

-- ---- small facts of the counts

pub below_yes : {k m x : ℕ} (y : ℕ) → k < m → x ≡ cond (ltb k m) x y
below_yes y h = rw (lt-ltb _ _ h) refl

pub below_no : {k m y : ℕ} (x : ℕ) → m ≤ k → y ≡ cond (ltb k m) x y
below_no x h = rw (le-ltb _ _ h) refl

pub arity_fits : (k : ℕ) {r : ℕ} → r ≡ arity k → r ≤ 3
arity_fits k e = let a = arity_few k in omega arith

module _ {w : List ℕ} {n d : ℕ} (p : Measured w n d) where
  pub definitions_fit : d ≤ 256
  definitions_fit = let a = p.definitions_are in let b = definitions_few w in omega arith

  pub nodes_fit : n ≤ 1024
  nodes_fit = let a = p.nodes_are in let b = nodes_few w in omega arith

pub measured_self : {w : List ℕ} {n d : ℕ} → Measured w n d → Measured w (node_count w) d
measured_self p = record { formed = p.formed; nodes_are = refl; definitions_are = p.definitions_are }

pub pair_size : (v b w c : List ℕ) → (pair_graph v b w c).size ≡ node_count v + node_count w
unfolding pair_graph
pair_size v b w c = refl
