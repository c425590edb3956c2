-- THE CONTRACT OF A MATCH LEAVES ONE ANSWER: two programs that keep it answer the same and leave the same memory, whatever they are
-- lent. Assumes nothing.
use Rattle.std.specs.Prelude.{ℕ, suc, ◌-◌, ◌≤◌, ◌<◌, ◌≡◌, Bool, Result, Ok, Err, List, [], ◌++◌, map, length, take, drop, replicate}
use Rattle.std.proofs.Math.Decide.{dec_lt}
use Rattle.std.proofs.Common.{arith, sym, ap, ◌∙◌, subst}
use Rattle.syntax.specs.Refusals.{refusal}
use Rattle.syntax.specs.declared.Refusal.{Refusal}
use Rattle.graph.specs.Graph.{Graph, needs, Entered}
use Rattle.graph.proofs.Laws.Order.{entered_unique}
use Rattle.links.specs.Pair.{pair_graph, pair_slots}
use Rattle.evaluation.specs.Evaluation.{rule_at, steps_words}
use Rattle.matching.specs.Matching.{Concluded, Counted, Match, table_words, Matched, refused, matches}
use Rattle.admission.specs.Laws.Refusing.{refuses_one, refused_not_admitted}
use Rattle.matching.proofs.Laws.Concluding.{flags_same, worth_unique}
use Rattle.matching.specs.declared.Outcome.{Outcome}
use Rattle.matching.specs.declared.Outcome.TheVariants.{Unfinished}

-- the same answer and the same memory after it
pub record Same {A : Type 0} (table list : List ℕ) (r : A) (table' list' : List ℕ) (r' : A) : Type 0 where
  pub tables : table ≡ table'
  pub lists : list ≡ list'
  pub answers : r ≡ r'

-- the transitions are counted exactly
pub count_one : (G : Graph) (i j : ℕ) → Counted G i → Counted G j → i ≡ j
count_one G i j p q = go (dec_lt i j) (dec_lt j i)
  where
    go : Dec (i < j) → Dec (j < i) → i ≡ j
    go (yes l) e = absurd (q.exact i l p.ends)
    go (no k) (yes l) = absurd (p.exact j l q.ends)
    go (no k) (no l) = let k' : ¬ (i < j) = k in let l' : ¬ (j < i) = l in omega arith

concluded_one : {need : ℕ → List ℕ} {v b w c : List ℕ} {steps count : ℕ} {r r' : Outcome} → Concluded need v b w c steps count r → Concluded need v b w c steps count r' → r ≡ r'
concluded_one {steps = steps} {count} p q =
    let x = worth_unique p.first_required q.first_required in
    let y = worth_unique p.second_required q.second_required in
    let i = worth_unique p.first_ranked q.first_ranked in
    let j = worth_unique p.second_ranked q.second_ranked in
    p.answers ∙ (rw (x, y, i, j) (sym q.answers))

module _ (v b w c : List ℕ) (budget : ℕ) where
  abbrev G : Graph
  G = pair_graph v b w c

  -- from one set of circular references
  from : (f : ℕ → Bool) (o o' : List ℕ) (n n' : ℕ) {table list table' list' : List ℕ} {r r' : Outcome} →
      Entered (needs G f) [] G.roots o → Entered (needs G f) [] G.roots o' → Counted G n → Counted G n' →
      list ≡ map suc o ++ replicate (2048 - length o) 0 → list' ≡ map suc o' ++ replicate (2048 - length o') 0 →
      table ≡ steps_words (needs G f) (rule_at v b w c) (take budget o) (replicate 4096 0) → table' ≡ steps_words (needs G f) (rule_at v b w c) (take budget o') (replicate 4096 0) →
      (length o ≤ budget → Concluded (needs G f) v b w c (length o) n r) → (length o' ≤ budget → Concluded (needs G f) v b w c (length o') n' r') →
      (budget < length o → r ≡ Unfinished budget n) → (budget < length o' → r' ≡ Unfinished budget n') → Same table list r table' list' r'
  from f o o' n n' {table} {list} {table'} {list'} {r} {r'} e e' k k' l l' t t' p p' u u' =
      let s = entered_unique e e' in
      let m = count_one G n n' k k' in
      record {
        tables = t ∙ ap (λ (x : List ℕ). steps_words (needs G f) (rule_at v b w c) (take budget x) (replicate 4096 0)) s ∙ sym t';
        lists = l ∙ ap (λ (x : List ℕ). map suc x ++ replicate (2048 - length x) 0) s ∙ sym l';
        answers = answer s m (dec_lt budget (length o));
      }
    where
      answer : o ≡ o' → n ≡ n' → Dec (budget < length o) → r ≡ r'
      answer s m (yes h) = u h ∙ ap (Unfinished budget) m ∙ sym (u' (subst (λ (x : List ℕ). budget < length x) s h))
      answer s m (no h) =
          let h' : ¬ (budget < length o) = h in
          let few : length o ≤ budget = omega arith in
          let q = p' (subst (λ (x : List ℕ). length x ≤ budget) s few) in
          concluded_one (subst (λ (x : ℕ). Concluded (needs G f) v b w c (length o') x r) m (subst (λ (x : List ℕ). Concluded (needs G f) v b w c (length x) n r) s (p few))) q

  -- OF TWO WELL-FORMED ADS
  pub match_one : {table list table' list' : List ℕ} {r r' : Outcome} → Match v b w c budget table list r → Match v b w c budget table' list' r' → Same table list r table' list' r'
  match_one {table' = table'} {r' = r'} m n =
      let e = sym (flags_same G m.flagged n.flagged) in
      from m.circular m.order n.order m.count n.count m.entered (subst (λ (f : ℕ → Bool). Entered (needs G f) [] G.roots n.order) e n.entered) m.counted n.counted m.listed n.listed m.words
      (subst (λ (f : ℕ → Bool). table' ≡ steps_words (needs G f) (rule_at v b w c) (take budget n.order) (replicate 4096 0)) e n.words) m.finished
      (subst (λ (f : ℕ → Bool). length n.order ≤ budget → Concluded (needs G f) v b w c (length n.order) n.count r') e n.finished) m.unfinished n.unfinished

-- IN ANY MEMORY
pub matched_one : {v b w c : List ℕ} {budget : ℕ} {table list table₁ list₁ table₂ list₂ : List ℕ} {r s : Result Outcome Refusal} → Matched v b w c budget table list table₁ list₁ r → Matched v b w c budget table list table₂ list₂ s → Same table₁ list₁ r table₂ list₂ s
matched_one (refused x r t l) (refused x' r' t' l') = record { tables = t ∙ sym t'; lists = l ∙ sym l'; answers = r ∙ ap (λ (k : ℕ). Err (refusal k 0)) (refuses_one x x') ∙ sym r' }
matched_one (refused x r t l) (matches a e values entries m t' l') = absurd (refused_not_admitted x a)
matched_one (matches a e values entries m t l) (refused x r' t' l') = absurd (refused_not_admitted x a)
matched_one {table = table} {list} (matches a e values entries m t l) (matches a' e' values' entries' m' t' l') =
    let x = match_one _ _ _ _ _ m m' in
    record {
      tables = t ∙ ap (λ (y : List ℕ). y ++ drop table_words table) x.tables ∙ sym t';
      lists = l ∙ ap (λ (y : List ℕ). y ++ drop pair_slots list) x.lists ∙ sym l';
      answers = e ∙ ap (λ (o : Outcome). Ok o) x.answers ∙ sym e';
    }
