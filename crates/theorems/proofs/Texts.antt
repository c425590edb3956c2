-- WHAT READING LEAVES AND A MATCH FINDS, from two texts: the match is that of the trees read, and document 01's worked examples hold of
-- what `read` and `match_ads` leave. Assumes nothing.
use Rattle.std.specs.Prelude.{ℕ, suc, ◌+◌, ◌-◌, ◌≤◌, ◌≡◌, refl, Result, Ok, Err, List, [], ◌∷◌, ◌++◌, map, length, take, drop, replicate}
use Rattle.std.proofs.Common.{arith, sym, ap, ap₂, ◌∙◌, subst}
use Rattle.links.specs.Pair.{pair_slots}
use Rattle.syntax.specs.Tree.{Ad, nodes}
use Rattle.syntax.specs.Reader as R
use Rattle.ad.specs.Layout.{ad_words, stored_words, stored_bytes}
use Rattle.ad.specs.Stored.{node_count}
use Rattle.printer.specs.Prints.{Roomy}
use Rattle.ad.specs.declared.Counts.{Counts}
use Rattle.syntax.specs.declared.Refusal.{Refusal}
use Rattle.reader.specs.Content.{Answered}
use Rattle.matching.specs.Matching.{Match, Matched, refused, matches, table_words}
use Rattle.matching.specs.declared.Outcome.{Outcome}
use Rattle.acceptance.proofs.Acceptance.{read_matches}
use Rattle.worked.specs.Table.{Row, Holds, AllHold, table, fault}
use Rattle.worked.proofs.Examples.{worked, fault_unmatched}
use Rattle.theorems.specs.Listing.{Within}
use Rattle.theorems.proofs.Listing.{matched_list}
use Rattle.theorems.specs.Existing.{answer_at}
use Rattle.theorems.proofs.Existing.{answer_exists}
use Rattle.text_theorems.specs.Reading.{ReadAs, read_answered, accepted_tree, read_formed, front_words, front_bytes, front_nodes}
use Rattle.theorems.specs.Texts.{TreesMatch, TextsMatch, TextsAnswer}
use Rattle.theorems.proofs.Shown.{Shown, Shows, AllShow}

pub match_cast : {v b w c v' b' w' c' : List ℕ} {budget : ℕ} {table list : List ℕ} {r : Outcome} → v ≡ v' → b ≡ b' → w ≡ w' → c ≡ c' → Match v b w c budget table list r → Match v' b' w' c' budget table list r
match_cast {v} {b} {w} {c} {v'} {b'} {w'} {c'} {budget} {table} {list} {r} p q i j m =
    subst (λ (z : List ℕ). Match z b' w' c' budget table list r) p
    (subst (λ (z : List ℕ). Match v z w' c' budget table list r) q
    (subst (λ (z : List ℕ). Match v b z c' budget table list r) i
    (subst (λ (z : List ℕ). Match v b w z budget table list r) j m)))

-- a match that is not refused answers an outcome
pub outcome_of : (r : Result Outcome Refusal) → ((e : Refusal) → r ≡ Err e → ⊥) → (o : Outcome) × (r ≡ Ok o)
outcome_of (Ok o) n = (o, refl)
outcome_of (Err e) n = absurd (n e refl)

-- THE MATCH IS THAT OF THE TREES that were read
pub trees_match : {s t v₀ b₀ w₀ c₀ v b w c : List ℕ} {x y : Result Counts Refusal} {a e : Ad} {budget : ℕ} {table list table' list' : List ℕ} {r : Result Outcome Refusal} →
    ReadAs s v₀ b₀ v b x a → ReadAs t w₀ c₀ w c y e → Matched v b w c budget table list table' list' r → (o : Outcome) → r ≡ Ok o → TreesMatch a e budget table list table' list' o
trees_match x y (refused f q t l) o u = let g = sym q ∙ u in let z : ◌≡◌ {A = ℕ} 0 1 = cc in absurd (omega arith)
trees_match {a = a} {e} {budget} {table} {list} {table'} {list'} x y (matches {o = o'} f q values entries m t l) o u =
    let same : o' ≡ o = cc in
    subst (λ (z : Outcome). TreesMatch a e budget table list table' list' z) same (record {
      values = values;
      entries = entries;
      is_match = match_cast (front_words x) (front_bytes x) (front_words y) (front_bytes y) m;
      table_is = t;
      list_is = l;
    })

-- TWO TEXTS THAT ARE ACCEPTED: the match of what reading left is that of the trees that they read as
pub texts_match : {s t v₀ b₀ w₀ c₀ v b w c : List ℕ} {counts counts' : Counts} {budget : ℕ} {table list table' list' : List ℕ} {r : Result Outcome Refusal} →
    Answered s v₀ b₀ v b (Ok counts) → Answered t w₀ c₀ w c (Ok counts') → table_words ≤ length table → pair_slots ≤ length list →
    Matched v b w c budget table list table' list' r → (o : Outcome) × (r ≡ Ok o) × TextsMatch s t budget table list table' list' o
texts_match {r = r} x y h l m =
    let p = accepted_tree x in
    let q = accepted_tree y in
    let o = outcome_of r (read_matches x y h l m) in
    (o.0, o.1, record { first = p.0; second = q.0; first_read = p.1.reads; second_read = q.1.reads; trees = trees_match p.1 q.1 m o.0 o.1 })

-- the trees are those that the texts read as
pub of_trees : {s t : List ℕ} {a e : Ad} {budget : ℕ} {table list table' list' : List ℕ} {r : Outcome} → R.read s ≡ R.accepted a → R.read t ≡ R.accepted e →
    TextsMatch s t budget table list table' list' r → TreesMatch a e budget table list table' list' r
of_trees {a = a} {e} {budget} {table} {list} {table'} {list'} {r} p q m =
    let i : m.first ≡ a = cc m.first_read in
    let j : m.second ≡ e = cc m.second_read in
    subst (λ (x : Ad). TreesMatch x e budget table list table' list' r) i (subst (λ (x : Ad). TreesMatch m.first x budget table list table' list' r) j m.trees)

-- the counts of an accepted reading
pub counted_nodes : {s w b w' b' : List ℕ} {counts : Counts} {a : Ad} → ReadAs s w b w' b' (Ok counts) a → nodes a ≡ counts.nodes
counted_nodes {counts = counts} {a} x =
    let e : ◌≡◌ {A = Result Counts Refusal} (Ok counts) (Ok (record { definitions = length a; nodes = nodes a })) = x.answers in
    let f : counts ≡ record { definitions = length a; nodes = nodes a } = cc in
    sym (ap (λ (k : Counts). k.nodes) f)

-- and it takes no more steps than the texts have nodes, so that a budget of as many, or of 2,048, is always enough
pub texts_list : {s t v₀ b₀ w₀ c₀ v b w c : List ℕ} {counts counts' : Counts} {budget : ℕ} {table list table' list' : List ℕ} {r : Result Outcome Refusal} →
    Answered s v₀ b₀ v b (Ok counts) → Answered t w₀ c₀ w c (Ok counts') → table_words ≤ length table → pair_slots ≤ length list →
    Matched v b w c budget table list table' list' r → Within (counts.nodes + counts'.nodes) budget r
texts_list {v = v} {w = w} {counts = counts} {counts'} {budget = budget} {r = r} x y h l m =
    let p = accepted_tree x in
    let q = accepted_tree y in
    let i : node_count (take ad_words v) ≡ counts.nodes = front_nodes p.1 ∙ counted_nodes p.1 in
    let j : node_count (take ad_words w) ≡ counts'.nodes = front_nodes q.1 ∙ counted_nodes q.1 in
    subst (λ (k : ℕ). Within k budget r) (ap₂ ◌+◌ i j) (matched_list m (read_matches x y h l m))

-- VERDICT, RANKS, STEPS AND MOVES ARE FUNCTIONS OF THE TWO TEXTS
pub texts_answer : {s t : List ℕ} {a e : Ad} → R.read s ≡ R.accepted a → R.read t ≡ R.accepted e → TextsAnswer s t
texts_answer {s} {t} {a} {e} p q =
    let x = answer_exists (stored_words a) (stored_bytes a) (stored_words e) (stored_bytes e) (read_formed s a p) (read_formed t e q) in
    record {
      verdict = x.verdict;
      first_rank = x.first_rank;
      second_rank = x.second_rank;
      steps = x.steps;
      count = x.count;
      has_match = λ budget table list.
          let y = x.has_match budget in
          let m : TreesMatch a e budget table list (y.0 ++ drop table_words table) (y.1 ++ drop pair_slots list) (answer_at x.verdict x.first_rank x.second_rank x.steps x.count budget) =
          record { values = y.0; entries = y.1; is_match = y.2; table_is = refl; list_is = refl } in
          (y.0 ++ drop table_words table, y.1 ++ drop pair_slots list, record { first = a; second = e; first_read = p; second_read = q; trees = m });
      only = λ m. x.only (of_trees p q m).is_match;
    }

module _ (row : Row) (h : Holds row) where
  row_shown : {v₀ b₀ w₀ c₀ v b w c : List ℕ} {x y : Result Counts Refusal} {budget : ℕ} {table list table' list' : List ℕ} {r : Result Outcome Refusal} → Roomy v₀ b₀ → Roomy w₀ c₀ →
      Answered row.first v₀ b₀ v b x → Answered row.second w₀ c₀ w c y → table_words ≤ length table → pair_slots ≤ length list →
      Matched v b w c budget table list table' list' r → (o : Outcome) × (r ≡ Ok o) × Shown row budget table list table' list' o
  row_shown {v₀} {b₀} {w₀} {c₀} {v} {b} {w} {c} {list = list} {r = r} p q x y i j m =
      let a = read_answered h.first_ad p h.first_read x in
      let e = read_answered h.second_ad q h.second_read y in
      let x' = subst (λ (z : Result Counts Refusal). Answered row.first v₀ b₀ v b z) a.answers x in
      let y' = subst (λ (z : Result Counts Refusal). Answered row.second w₀ c₀ w c z) e.answers y in
      let o = outcome_of r (read_matches x' y' i j m) in
      let t = trees_match a e m o.0 o.1 in
      let k = h.comes t.is_match in (
        o.0,
        o.1,
        record {
          first = h.first_ad;
          second = h.second_ad;
          trees = t;
          comes = k;
          listed = t.list_is ∙ ap (λ (l : List ℕ). l ++ drop pair_slots list) (t.is_match.listed ∙ ap (λ (l : List ℕ). map suc l ++ replicate (2048 - length l) 0) k.lists);
        },
      )

  row_shows : Shows row
  row_shows = record { shows = row_shown }

all_show : (rs : List Row) → AllHold rs → AllShow rs
unfolding AllHold AllShow
all_show [] h = tt
all_show (r ∷ rs) h = (row_shows r h.0, all_show rs h.1)

-- W1 TO W12 HOLD OF WHAT `read` AND `match_ads` LEAVE
pub worked_shown : AllShow table
worked_shown = all_show table worked

-- AND SO DOES THE FAULT of the matcher before ours: a missing PulseWidth, negated, does not match
pub fault_shown : Shows fault
fault_shown = row_shows fault fault_unmatched
