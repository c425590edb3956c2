-- The values of a node's needs, and a step and a run over packed words as those over slots. Assumes nothing.
use Rattle.std.specs.Prelude.{ℕ, zero, suc, ◌+◌, ◌-◌, ◌*◌, ◌≤◌, ◌<◌, ◌≡◌, ◌≢◌, true, false, get_or, take, drop, set}
use Rattle.std.proofs.Math.Decide.{ℕ_discrete}
use Rattle.std.proofs.Common.{arith, ◌∙◌, length-drop, length-set, take-suc, take_all, get_or-drop, eq-eqb, ne_eqb}
use Rattle.std.proofs.Math.Path.{refl, sym, ap, fun_ext}
use mathlib.Core.List.{List, [], ◌∷◌, ◌++◌, map}
use Rattle.std.proofs.Math.ListN.{length}
use Rattle.graph.specs.Members.{numbers}
use Rattle.graph.proofs.Laws.Members.{put_same, put_other}
use Rattle.graph.specs.Graph.{Graph}
use Rattle.graph.specs.Transition.{led}
use Rattle.values.specs.declared.Value.{Value}
use Rattle.values.specs.declared.Value.TheVariants.{Undefined}
use Rattle.slots.specs.declared.Slot.{Slot}
use Rattle.slots.specs.declared.Slot.TheVariants.{Held}
use Rattle.slots.specs.Packed.{kind_word, load_word, slot_at, put_at, Stored}
use Rattle.nodes.specs.declared.Node.{Node}
use Rattle.nodes.specs.Nodes.{applied, value_in}
use Rattle.links.specs.Laws.Soundness.{both_low, both_high}
use Rattle.valuation.specs.Run.{step_table, steps}
use Rattle.evaluation.specs.Evaluation.{node_from, node_at, rule_at, seen, needed, step_words, steps_words, Stepped, RunTo}

-- ---- the values of needs

value_at : (f : ℕ → Value) (l : List ℕ) (i : ℕ) → i < length l → value_in (map f l) i ≡ f (get_or l i 0)
unfolding value_in
value_at f [] i h = absurd (let q : ⊥ = omega arith in q)
value_at f (y ∷ l) zero h = refl
value_at f (y ∷ l) (suc i) h = value_at f l i (let k : suc i < suc (length l) = h in omega arith)

value_beyond : (f : ℕ → Value) (l : List ℕ) (i : ℕ) → length l ≤ i → value_in (map f l) i ≡ Undefined
unfolding value_in
value_beyond f [] i h = refl
value_beyond f (y ∷ l) zero h = absurd (let k : suc (length l) ≤ 0 = h in let q : ⊥ = omega arith in q)
value_beyond f (y ∷ l) (suc i) h = value_beyond f l i (let k : suc (length l) ≤ suc i = h in omega arith)

module _ (G : Graph) (ta fl : List ℕ) (x i : ℕ) (f : ℕ → Value) where
  needed_plain : get_or fl x 0 ≢ 1 → needed G ta fl x ≡ led G (numbers ta) x
  unfolding needed
  needed_plain n = rw (ne_eqb _ _ n) refl

  pub need_circular : get_or fl x 0 ≡ 1 → Undefined ≡ value_in (map f (needed G ta fl x)) i
  unfolding needed value_in
  need_circular e = rw (eq-eqb _ _ e) refl

  pub need_found : {y : ℕ} {r : Value} → get_or fl x 0 ≢ 1 → i < length (led G (numbers ta) x) → y ≡ get_or (led G (numbers ta) x) i 0 → r ≡ f y →
      r ≡ value_in (map f (needed G ta fl x)) i
  need_found n h e q = q ∙ ap f e ∙ sym (value_at f (led G (numbers ta) x) i h) ∙ ap (λ (l : List ℕ). value_in (map f l) i) (sym (needed_plain n))

  pub need_beyond : get_or fl x 0 ≢ 1 → length (led G (numbers ta) x) ≤ i → Undefined ≡ value_in (map f (needed G ta fl x)) i
  need_beyond n h = sym (value_beyond f (led G (numbers ta) x) i h) ∙ ap (λ (l : List ℕ). value_in (map f l) i) (sym (needed_plain n))

-- ---- a step

module _ (need : ℕ → List ℕ) (rule : ℕ → List Value → Value) where
  pub step_stored : {before after : List ℕ} {x : ℕ} {u : Value} → u ≡ rule x (map (λ y. seen (slot_at before y)) (need x)) → Stored before after x (Held u) →
      Stepped need rule x before after
  unfolding step_words step_table
  step_stored {before} {after} {x} {u} e s = record {
    words = s.whole ∙ ap (λ (v : Value). put_at before x (Held v)) e;
    slots = λ h. fun_ext (at h);
  }
    where
      at : x * 2 + 1 < length before → (y : ℕ) → slot_at after y ≡ step_table Held seen need rule (slot_at before) x y
      at h y = go (ℕ_discrete x y)
        where
          go : Dec (x ≡ y) → slot_at after y ≡ step_table Held seen need rule (slot_at before) x y
          go (yes q) = ap (slot_at after) (sym q) ∙ s.holds h ∙ ap Held e ∙ sym (put_same (slot_at before) x _ q)
          go (no n) = s.keeps y (λ q. n (sym q)) ∙ sym (put_other (slot_at before) x _ n)

  -- ---- a run

  words_snoc : (xs : List ℕ) (y : ℕ) (t : List ℕ) → steps_words need rule (xs ++ y ∷ []) t ≡ step_words need rule (steps_words need rule xs t) y
  unfolding steps_words
  words_snoc [] y t = refl
  words_snoc (x ∷ xs) y t = words_snoc xs y (step_words need rule t x)

  steps_snoc : (xs : List ℕ) (y : ℕ) (t : ℕ → Slot) → steps Held seen need rule (xs ++ y ∷ []) t ≡ step_table Held seen need rule (steps Held seen need rule xs t) y
  unfolding steps
  steps_snoc [] y t = refl
  steps_snoc (x ∷ xs) y t = steps_snoc xs y (step_table Held seen need rule t x)

  length_put : (t : List ℕ) (x : ℕ) (u : Slot) → length (put_at t x u) ≡ length t
  length_put t x u = length-set (set t (x * 2) (kind_word u)) (x * 2 + 1) (load_word u) ∙ length-set t (x * 2) (kind_word u)

  length_words : (xs : List ℕ) (t : List ℕ) → length (steps_words need rule xs t) ≡ length t
  unfolding steps_words step_words
  length_words [] t = refl
  length_words (x ∷ xs) t = length_words xs (step_words need rule t x) ∙ length_put t x (Held (rule x (map (λ y. seen (slot_at t y)) (need x))))

  -- after n steps from entry k on
  pub record Run (l : List ℕ) (k n : ℕ) (before after : List ℕ) : Type 0 where
    pub words : after ≡ steps_words need rule (take n (drop k l)) before
    pub slots : slot_at after ≡ steps Held seen need rule (take n (drop k l)) (slot_at before)

  pub run_long : {l : List ℕ} {k n : ℕ} {before after : List ℕ} → Run l k n before after → length after ≡ length before
  run_long {l} {k} {n} {before} r = ap length r.words ∙ length_words (take n (drop k l)) before

  pub run_first : (l : List ℕ) (k : ℕ) (t : List ℕ) → Run l k 0 t t
  unfolding steps_words steps
  run_first l k t = record { words = refl; slots = refl }

  pub run_next : {l : List ℕ} {k n : ℕ} {before mid after : List ℕ} {x : ℕ} → Run l k n before mid → k + n < length l → x ≡ get_or l (k + n) 0 → x * 2 + 1 < length mid →
      Stepped need rule x mid after → Run l k (n + 1) before after
  run_next {l} {k} {n} {before} {mid} {after} {x} r h e room s =
      let g : take (n + 1) (drop k l) ≡ take n (drop k l) ++ x ∷ [] =
      ap (λ (u : ℕ). take u (drop k l)) (let q : n + 1 ≡ suc n = omega arith in q) ∙ take-suc (drop k l) n 0 (let z = length-drop k l in omega arith)
      ∙ ap (λ (u : ℕ). take n (drop k l) ++ u ∷ []) (get_or-drop k l n 0 ∙ sym e) in
      record {
        words = s.words ∙ ap (λ (t : List ℕ). step_words need rule t x) r.words ∙ sym (words_snoc (take n (drop k l)) x before) ∙ ap (λ (u : List ℕ). steps_words need rule u before) (sym g);
        slots = s.slots room ∙ ap (λ (t : ℕ → Slot). step_table Held seen need rule t x) r.slots ∙ sym (steps_snoc (take n (drop k l)) x (slot_at before)) ∙ ap (λ (u : List ℕ). steps Held seen need rule u (slot_at before)) (sym g);
      }

  -- the budget is spent
  pub run_spent : {l : List ℕ} {k budget n : ℕ} {before after : List ℕ} → Run l k n before after → n ≡ budget → (n ≤ length l - k) → RunTo need rule l k budget before after n
  run_spent {l} {k} {budget} {n} {before} {after} r e h = record {
    counts = omega arith;
    words = r.words ∙ ap (λ (u : ℕ). steps_words need rule (take u (drop k l)) before) e;
    slots = r.slots ∙ ap (λ (u : ℕ). steps Held seen need rule (take u (drop k l)) (slot_at before)) e;
  }

  -- the list ends
  pub run_over : {l : List ℕ} {k budget n : ℕ} {before after : List ℕ} → Run l k n before after → n ≤ budget → n ≡ length l - k → RunTo need rule l k budget before after n
  run_over {l} {k} {budget} {n} {before} {after} r h e =
      let long = length-drop k l in
      let g : take n (drop k l) ≡ take budget (drop k l) = take_all n (drop k l) (omega arith) ∙ sym (take_all budget (drop k l) (omega arith)) in
      record {
        counts = omega arith;
        words = r.words ∙ ap (λ (u : List ℕ). steps_words need rule u before) g;
        slots = r.slots ∙ ap (λ (u : List ℕ). steps Held seen need rule u (slot_at before)) g;
      }

-- ---- the rule of a node, of the values of its needs

pub rule_of_lem : (v b w c : List ℕ) (x : ℕ) (us : List Value) {node : Node} {p q r u : Value} → u ≡ applied b c node p q r → node ≡ node_at v w x →
    p ≡ value_in us 0 → q ≡ value_in us 1 → r ≡ value_in us 2 → u ≡ rule_at v b w c x us
unfolding rule_at
rule_of_lem v b w c x us {node} {p} {q} {r} e n ep eq er =
    e ∙ ap (λ (m : Node). applied b c m p q r) n ∙ ap (λ (z : Value). applied b c (node_at v w x) z q r) ep
    ∙ ap (λ (z : Value). applied b c (node_at v w x) (value_in us 0) z r) eq ∙ ap (λ (z : Value). applied b c (node_at v w x) (value_in us 0) (value_in us 1) z) er

-- ---- which node

pub node_first : (v w : List ℕ) (x : ℕ) {r : Node} → x < 1024 → r ≡ node_from false v x → r ≡ node_at v w x
node_first v w x h e = e ∙ sym (both_low (node_from false v) (node_from true w) x h)

pub node_second : (v w : List ℕ) (x : ℕ) {r : Node} → 1024 ≤ x → r ≡ node_from true w (x - 1024) → r ≡ node_at v w x
node_second v w x h e = e ∙ sym (both_high (node_from false v) (node_from true w) x h)
