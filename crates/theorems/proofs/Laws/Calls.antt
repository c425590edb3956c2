-- The contracts of the calls in the forms that Statements.antt states them: short compositions of laws that stand elsewhere. Assumes
-- nothing.
use Rattle.std.specs.Prelude.{ℕ, zero, suc, ◌+◌, ◌-◌, ◌*◌, ◌≤◌, ◌<◌, min, ◌≡◌, ◌↔◌, ◌⊎◌, ◌≢◌, Bool, true, false, ◌&&◌, ◌||◌, Some, Result, Ok, Err, List, ◌++◌, map, length, take, drop, replicate, ltb}
use Rattle.std.proofs.Math.Decide.{dec_lt}
use Rattle.std.proofs.Common.{arith, sym, ap, ap₂, ◌∙◌, inl, inr}
use Rattle.std.proofs.Math.Path.{refl, subst}
use borrow.Author.Tests.{lt-ltb, le-ltb, ltb-true, ltb-false}
use Rattle.syntax.specs.Bounds.{text_bytes}
use Rattle.syntax.specs.Tree.{Expr, Ad, nodes}
use Rattle.syntax.specs.Token.{Token, pick, tokens}
use Rattle.syntax.specs.Grammar.{IsAd, Within, Whole}
use Rattle.syntax.specs.Reader as R
use Rattle.syntax.specs.Print.{printed_ad}
use Rattle.syntax.proofs.Laws.Accepts.{accepts, refusals}
use Rattle.ad.specs.Layout.{small_ad, ad_words, ad_bytes_room, stored_words, stored_bytes}
use Rattle.ad.specs.Stored.{node_count}
use Rattle.grammar.specs.Refusal as grammar
use Rattle.grammar.proofs.Laws.Refusals.{read_refusal}
use Rattle.well_formed.specs.WellFormed.{Holds, Answers}
use Rattle.printer.specs.Prints.{Roomy}
use Rattle.ad.specs.declared.Counts.{Counts}
use Rattle.syntax.specs.Refusals.{number_of, refusal}
use Rattle.syntax.specs.declared.Refusal.{Refusal}
use Rattle.reader.specs.Content.{answer_of, answer, words_after, bytes_after, Answered}
use Rattle.graph.specs.Members.{◌∈◌, Distinct}
use Rattle.graph.specs.Graph.{Graph, IsList}
use Rattle.graph.proofs.Laws.Members.{put_same, put_other}
use Rattle.links.specs.Pair.{numbered, requirements, rank, pair_graph, pair_slots}
use Rattle.values.specs.declared.Value.{Value}
use Rattle.slots.specs.declared.Slot.{Slot}
use Rattle.slots.specs.declared.Slot.TheVariants.{Blank, Held}
use Rattle.slots.specs.Packed.{slot_at}
use Rattle.valuation.specs.Run.{step_table}
use Rattle.evaluation.specs.Evaluation.{seen, Stepped}
use Rattle.matching.specs.Matching as M
use Rattle.verdict.specs.Verdict.{is_true, rank_of}
use Rattle.matching.specs.Matching.{Counted, Match, Matched, refused, matches, table_words}
use Rattle.admission.specs.Admission.{Well, no_room, first_malformed, second_malformed}
use Rattle.matching.specs.declared.Outcome.{Outcome}
use Rattle.matching.specs.declared.Outcome.TheVariants as outcome
use Rattle.ordering.specs.Ordering as O
use Rattle.ordering.specs.Ordering.{Orders, Ordered}
use Rattle.ordering.specs.declared.Order.{Order}
use Rattle.acceptance.proofs.Acceptance.{read_matches}
use Rattle.trees.specs.Nodes.{last_of}
use Rattle.trees.specs.Links.{tree_graph}
use Rattle.trees.specs.Values.{ad_of, Means, Worths, Part}
use Rattle.trees.proofs.Theorems.{graph_is, list_is, entry_is, answer_is}
use Rattle.theorems.specs.Refusing.{RefusedWith}
use Rattle.theorems.specs.Listing.{steps_of, count_of}
use Rattle.theorems.proofs.Listing.{match_list}
use Rattle.text_theorems.specs.Reading.{ReadAs, accepted_tree, read_formed, tree_holds, front_words, front_bytes, front_nodes}
use Rattle.theorems.specs.Texts.{TreesMatch}
use Rattle.theorems.proofs.Texts.{outcome_of, trees_match, counted_nodes}
use Rattle.theorems.proofs.Exchanging.{covers}

-- ---- reading

-- A TEXT READS AS A TREE EXACTLY IF IT IS SHORT ENOUGH AND AN AD OF THE GRAMMAR WITHIN THE BOUNDS
pub read_accepts : (s : List ℕ) (a : Ad) → (R.read s ≡ R.accepted a) ↔ ((length s ≤ text_bytes) × (ts : List Token) × Whole (tokens s) ts × IsAd ts a × Within a)
unfolding R.read
read_accepts s a = go (ltb text_bytes (length s)) refl
  where
    never : R.denied 2 0 ≡ R.accepted a → ⊥
    never e = let z : ◌≡◌ {A = ℕ} 0 1 = cc in omega arith

    go : (t : Bool) → ltb text_bytes (length s) ≡ t → (pick t (λ _. R.denied 2 0) (λ _. R.parse s) ≡ R.accepted a) ↔ ((length s ≤ text_bytes) × (ts : List Token) × Whole (tokens s) ts × IsAd ts a × Within a)
    go true e = ((λ h. absurd (never h)), λ x. absurd (let l = ltb-true text_bytes (length s) e in let k = x.0 in let z : ⊥ = omega arith in z))
    go false e = ((λ h. let x = (accepts s a).0 h in (ltb-false text_bytes (length s) e, x.0, x.1, x.2, x.3)), λ x. (accepts s a).1 (x.1, x.2, x.3, x.4))

-- the numbers of reading are numbers of a reason
numbers : (k p : ℕ) → 2 ≤ k → k ≤ 9 → number_of (refusal k p).reason ≡ k
numbers zero p l h = absurd (let z : ⊥ = omega arith in z)
numbers (suc zero) p l h = refl
numbers (suc (suc zero)) p l h = refl
numbers (suc (suc (suc zero))) p l h = refl
numbers (suc (suc (suc (suc zero)))) p l h = refl
numbers (suc (suc (suc (suc (suc zero))))) p l h = refl
numbers (suc (suc (suc (suc (suc (suc zero)))))) p l h = refl
numbers (suc (suc (suc (suc (suc (suc (suc zero))))))) p l h = refl
numbers (suc (suc (suc (suc (suc (suc (suc (suc zero)))))))) p l h = refl
numbers (suc (suc (suc (suc (suc (suc (suc (suc (suc zero))))))))) p l h = refl
numbers (suc (suc (suc (suc (suc (suc (suc (suc (suc (suc k)))))))))) p l h = absurd (let z : ⊥ = omega arith in z)

known : (s : List ℕ) (k p : ℕ) → R.read s ≡ R.denied k p → number_of (refusal k p).reason ≡ k
unfolding R.read
known s k p = go (ltb text_bytes (length s))
  where
    go : (t : Bool) → pick t (λ _. R.denied 2 0) (λ _. R.parse s) ≡ R.denied k p → number_of (refusal k p).reason ≡ k
    go true e = let i : 2 ≡ k = cc in numbers k p (omega arith) (omega arith)
    go false e = let x = refusals s k p e in numbers k p (omega (arith, x.low)) (omega (arith, x.high))

-- what reading answers of a text that is refused
record Back (s : List ℕ) (e : Refusal) : Type 0 where
  pub number : ℕ
  pub place : ℕ
  pub denied : R.read s ≡ R.denied number place
  pub is : e ≡ refusal number place

module _ {s w b w' b' : List ℕ} {r : Result Counts Refusal} (x : Answered s w b w' b' r) where
  answer_is_read : Roomy w b → r ≡ answer_of (R.read s)
  unfolding answer
  answer_is_read h = x.answers ∙ rw (le-ltb (length w) ad_words h.words, le-ltb (length b) ad_bytes_room h.bytes) refl

  back : (e : Refusal) (q : R.Answer) → R.read s ≡ q → answer_of q ≡ Err e → Back s e
  back e (R.accepted a) f g = let z : ◌≡◌ {A = ℕ} 0 1 = cc in absurd (omega arith)
  back e (R.denied k p) f g = let h : ◌≡◌ {A = Result Counts Refusal} (Err (refusal k p)) (Err e) = g in record { number = k; place = p; denied = f; is = cc }

  denied_back : Roomy w b → {k p : ℕ} → RefusedWith r k p → R.read s ≡ R.denied k p
  denied_back h {k} {p} y =
      let d = back y.told (R.read s) refl (sym (answer_is_read h) ∙ y.answers) in
      let i : d.number ≡ k = sym (known s d.number d.place d.denied) ∙ ap (λ (e : Refusal). number_of e.reason) (sym d.is) ∙ y.number in
      let j : d.place ≡ p = ap (λ (e : Refusal). e.place) (sym d.is) ∙ y.at in
      d.denied ∙ ap₂ R.denied i j

  -- `read` REFUSES WITH A NUMBER AND A PLACE EXACTLY IF DOCUMENT 01 SAYS SO, where there is room
  pub answered_refusal : Roomy w b → (k p : ℕ) → RefusedWith r k p ↔ grammar.Refused s k p
  answered_refusal h k p = (
    (λ y. (read_refusal s k p).0 (denied_back h y)),
    λ d. let e = (read_refusal s k p).1 d in record { told = refusal k p; answers = answer_is_read h ∙ ap answer_of e; number = known s k p e; at = refl },
  )

  is_small : ¬ (Roomy w b) → small_ad w b ≡ true
  is_small n = go (ltb (length w) ad_words) refl (ltb (length b) ad_bytes_room) refl
    where
      go : (t : Bool) → ltb (length w) ad_words ≡ t → (u : Bool) → ltb (length b) ad_bytes_room ≡ u → (t || u) ≡ true
      go true e u f = refl
      go false e true f = refl
      go false e false f = absurd (n (record { words = ltb-false (length w) ad_words e; bytes = ltb-false (length b) ad_bytes_room f }))

  -- too little room: refusal 1, 'all unchanged'
  pub small_leaves : ¬ (Roomy w b) → RefusedWith r 1 0 × (w' ≡ w) × (b' ≡ b)
  unfolding answer words_after bytes_after
  small_leaves n = let e = is_small n in (record { told = refusal 1 0; answers = x.answers ∙ rw e refl; number = refl; at = refl }, x.words ∙ rw e refl, x.bytes ∙ rw e refl)

  -- too long a text: refusal 2, 'all unchanged'
  pub long_leaves : Roomy w b → text_bytes < length s → RefusedWith r 2 0 × (w' ≡ w) × (b' ≡ b)
  unfolding words_after bytes_after
  long_leaves h l =
      let p = le-ltb (length w) ad_words h.words in
      let q = le-ltb (length b) ad_bytes_room h.bytes in
      let e = lt-ltb text_bytes (length s) l in
      ((answered_refusal h 2 0).1 (grammar.long l), x.words ∙ rw (p, q, e) refl, x.bytes ∙ rw (p, q, e) refl)

  -- any other refusal: 'ad memory zero'
  pub refused_leaves : Roomy w b → length s ≤ text_bytes → (k p : ℕ) → RefusedWith r k p → (w' ≡ replicate ad_words 0 ++ drop ad_words w) × (b' ≡ replicate ad_bytes_room 0 ++ drop ad_bytes_room b)
  unfolding words_after bytes_after
  refused_leaves h l k p i =
      let u = le-ltb (length w) ad_words h.words in
      let v = le-ltb (length b) ad_bytes_room h.bytes in
      let e = le-ltb text_bytes (length s) l in
      let d = denied_back h i in
      (x.words ∙ rw (u, v, e, d) refl, x.bytes ∙ rw (u, v, e, d) refl)

-- WHAT `read` ACCEPTS, `check` PASSES, with the same counts
pub read_then_check : {s w b w' b' : List ℕ} {counts : Counts} → Answered s w b w' b' (Ok counts) → (k : ℕ) × Answers w' b' (Some (record { counts = counts; print_length = k }))
read_then_check {w' = w'} {b'} {counts} x =
    let t = accepted_tree x in
    let a : Ad = t.0 in
    let e : ◌≡◌ {A = Result Counts Refusal} (Ok counts) (Ok (record { definitions = length a; nodes = nodes a })) = t.1.answers in
    let f : counts ≡ record { definitions = length a; nodes = nodes a } = cc in
    let h : Holds (take ad_words w') (take ad_bytes_room b') a = subst (λ (z : List ℕ). Holds z (take ad_bytes_room b') a) (sym (front_words t.1)) (subst (λ (z : List ℕ). Holds (stored_words a) z a) (sym (front_bytes t.1)) (tree_holds t.1)) in
    (length (printed_ad a), (a, h, ap (λ (k : Counts). k.definitions) f, ap (λ (k : Counts). k.nodes) f, refl))

-- ---- order_ads

-- what `order_ads` shows of two ads that it does not refuse
pub ordered_found : {v b w c flags list flags' list' : List ℕ} {o : Order} → Ordered v b w c flags list flags' list' (Ok o) →
    (marks entries : List ℕ) × (flags' ≡ marks ++ drop pair_slots flags) × (list' ≡ entries ++ drop pair_slots list) ×
    Orders (take ad_words v) (take ad_bytes_room b) (take ad_words w) (take ad_bytes_room c) marks entries o.transitions o.length
ordered_found (O.refused e a f l) = let z : ◌≡◌ {A = ℕ} 0 1 = cc in absurd (omega arith)
ordered_found {v} {b} {w} {c} {o = o} (O.orders {o = o'} e a marks entries x f l) =
    let same : o' ≡ o = cc in
    (marks, entries, f, l, subst (λ (z : Order). Orders (take ad_words v) (take ad_bytes_room b) (take ad_words w) (take ad_bytes_room c) marks entries z.transitions z.length) same x)

-- ---- a step

-- A STEP puts into its node's slot what the rules make of the slots of its needs, and changes no other slot
pub step_slots : {need : ℕ → List ℕ} {rule : ℕ → List Value → Value} {x : ℕ} {before after : List ℕ} → Stepped need rule x before after → x * 2 + 1 < length before →
    (slot_at after x ≡ Held (rule x (map (λ y. seen (slot_at before y)) (need x)))) × ((y : ℕ) → x ≢ y → slot_at after y ≡ slot_at before y)
unfolding step_table
step_slots {x = x} {before} t h =
    let e = t.slots h in
    (ap (λ (f : ℕ → Slot). f x) e ∙ put_same (slot_at before) x _ refl, λ y n. ap (λ (f : ℕ → Slot). f y) e ∙ put_other (slot_at before) x _ n)

-- ---- a match

-- a refusal has one number and one place
told_is : {r : Result Outcome Refusal} {e : Refusal} {k p : ℕ} → r ≡ Err e → RefusedWith r k p → (number_of e.reason ≡ k) × (e.place ≡ p)
told_is {r} {e} a q =
    let f : ◌≡◌ {A = Result Outcome Refusal} (Err e) (Err q.told) = sym a ∙ q.answers in
    let g : e ≡ q.told = cc in
    (ap (λ (x : Refusal). number_of x.reason) g ∙ q.number, ap (λ (x : Refusal). x.place) g ∙ q.at)

-- A REFUSED MATCH: its number and place, and 'all unchanged'
pub match_refuses : {v b w c : List ℕ} {budget : ℕ} {table list table' list' : List ℕ} {r : Result Outcome Refusal} {k p : ℕ} → Matched v b w c budget table list table' list' r → RefusedWith r k p →
    (((k ≡ 1) × (M.small v b w c table list ≡ true)) ⊎ ((k ≡ 10) × (M.small v b w c table list ≡ false) × ¬ (Well v b × Well w c))) × (p ≡ 0) × (table' ≡ table) × (list' ≡ list)
match_refuses {k = k} {p} (refused (no_room e) a t l) q = let i = told_is a q in (inl (sym i.0, e), sym i.1, t, l)
match_refuses {k = k} {p} (refused (first_malformed e n) a t l) q = let i = told_is a q in (inr (sym i.0, e, λ x. n x.0), sym i.1, t, l)
match_refuses {k = k} {p} (refused (second_malformed e h n) a t l) q = let i = told_is a q in (inr (sym i.0, e, λ x. n x.1), sym i.1, t, l)
match_refuses (matches e f values entries m t l) q = let g = sym f ∙ q.answers in let z : ◌≡◌ {A = ℕ} 0 1 = cc in absurd (omega arith)

count_of_lem : {v b w c : List ℕ} {budget : ℕ} {table list : List ℕ} {r : Outcome} (m : Match v b w c budget table list r) → count_of r ≡ m.count
count_of_lem {budget = budget} {r = r} m = go (dec_lt budget (length m.order))
  where
    go : Dec (budget < length m.order) → count_of r ≡ m.count
    go (yes h) = ap count_of (m.unfinished h)
    go (no h) = let h' : ¬ (budget < length m.order) = h in ap count_of (m.finished (omega arith)).answers

-- two texts that are accepted, and the match of what reading left
module _ {s t v₀ b₀ w₀ c₀ v b w c : List ℕ} {counts counts' : Counts} {budget : ℕ} {table list table' list' : List ℕ} {r : Result Outcome Refusal}
    (x : Answered s v₀ b₀ v b (Ok counts)) (y : Answered t w₀ c₀ w c (Ok counts')) (h : table_words ≤ length table) (l : pair_slots ≤ length list)
    (m : Matched v b w c budget table list table' list' r) where
  abbrev one : Ad
  one = (accepted_tree x).0

  abbrev two : Ad
  two = (accepted_tree y).0

  one_read : ReadAs s v₀ b₀ v b (Ok counts) one
  one_read = (accepted_tree x).1

  two_read : ReadAs t w₀ c₀ w c (Ok counts') two
  two_read = (accepted_tree y).1

  answered : (o : Outcome) × (r ≡ Ok o)
  answered = outcome_of r (read_matches x y h l m)

  abbrev o : Outcome
  o = answered.0

  match_of : TreesMatch one two budget table list table' list' o
  match_of = trees_match one_read two_read m o answered.1

  one_nodes : node_count (stored_words one) ≡ counts.nodes
  one_nodes = ap node_count (sym (front_words one_read)) ∙ front_nodes one_read ∙ counted_nodes one_read

  two_nodes : node_count (stored_words two) ≡ counts'.nodes
  two_nodes = ap node_count (sym (front_words two_read)) ∙ front_nodes two_read ∙ counted_nodes two_read

  -- THE LIST OF TWO TEXTS is that of their trees, stands whole in its room, and its first entries are worked out, as many as the steps
  pub texts_listed : (first second : Ad) × (R.read s ≡ R.accepted first) × (R.read t ≡ R.accepted second) × (order : List ℕ) × IsList (tree_graph first second) order ×
      (list' ≡ (map suc order ++ replicate (2048 - length order) 0) ++ drop pair_slots list) × Distinct order × (length order ≤ counts.nodes + counts'.nodes) × (outcome : Outcome) × (r ≡ Ok outcome) × (steps_of outcome ≡ min budget (length order))
  texts_listed =
      let k = match_of.is_match in
      let f = match_list (read_formed s one one_read.reads) (read_formed t two two_read.reads) k in
      let few : length k.order ≤ counts.nodes + counts'.nodes = let a = f.short in let p = one_nodes in let q = two_nodes in omega arith in (
        one,
        two,
        one_read.reads,
        two_read.reads,
        k.order,
        (list_is (tree_holds one_read) (tree_holds two_read) k.order).0 (k.circular, k.flagged, k.entered),
        match_of.list_is ∙ ap (λ (z : List ℕ). z ++ drop pair_slots list) k.listed,
        f.once,
        few,
        o,
        answered.1,
        f.steps,
      )

  -- THE VALUES OF TWO TEXTS: the slot of each entry worked out holds the value of its expression on the trees, and every other is blank
  pub texts_valued : (first second : Ad) × (R.read s ≡ R.accepted first) × (R.read t ≡ R.accepted second) × (order values : List ℕ) × IsList (tree_graph first second) order ×
      (table' ≡ values ++ drop table_words table) ×
      ((node : ℕ) → node ∈ take budget order → (side : Bool) × (from : ℕ) × (expression : Expr) × (value : Value) × Part (ad_of first second side) from expression ×
      (node ≡ numbered side (last_of from expression)) × Means first second side from expression value × (slot_at values node ≡ Held value)) ×
      ((node : ℕ) → ¬ (node ∈ take budget order) → slot_at values node ≡ Blank)
  texts_valued =
      let k = match_of.is_match in (
        one,
        two,
        one_read.reads,
        two_read.reads,
        k.order,
        match_of.values,
        (list_is (tree_holds one_read) (tree_holds two_read) k.order).0 (k.circular, k.flagged, k.entered),
        match_of.table_is,
        λ node i. let e = entry_is (tree_holds one_read) (tree_holds two_read) k node i in (e.second, e.from, e.expression, e.value, e.part, e.is, e.means, e.slot),
        k.ran.blanks,
      )

  -- ITS MOVES are counted exactly, and are at most sixteen times the nodes
  pub texts_counted : (first second : Ad) × (R.read s ≡ R.accepted first) × (R.read t ≡ R.accepted second) × (outcome : Outcome) × (r ≡ Ok outcome) × Counted (tree_graph first second) (count_of outcome) × (count_of outcome ≤ 16 * (counts.nodes + counts'.nodes))
  unfolding pair_graph
  texts_counted =
      let k = match_of.is_match in
      let G : Graph = pair_graph (stored_words one) (stored_bytes one) (stored_words two) (stored_bytes two) in
      let e = count_of_lem k in
      let c : Counted G (count_of o) = subst (λ (z : ℕ). Counted G z) (sym e) k.counted in
      let few : count_of o ≤ 16 * (counts.nodes + counts'.nodes) = let p = one_nodes in let q = two_nodes in omega (arith, c.linear) in
      (one, two, one_read.reads, two_read.reads, o, answered.1, subst (λ (z : Graph). Counted z (count_of o)) (graph_is (tree_holds one_read) (tree_holds two_read)) c, few)

  -- VERDICT AND RANKS OF TWO TEXTS, on their trees
  pub texts_verdict : {verdict : Bool} {i j steps count : ℕ} → r ≡ Ok (outcome.Finished verdict i j steps count) →
      (first second : Ad) × (R.read s ≡ R.accepted first) × (R.read t ≡ R.accepted second) × (p q e f : Value) × Worths first second false requirements p × Worths first second true requirements q ×
      Worths first second false rank e × Worths first second true rank f × (verdict ≡ (is_true p && is_true q)) × (i ≡ rank_of e) × (j ≡ rank_of f)
  texts_verdict {verdict} {i} {j} {steps} {count} q =
      let k = match_of.is_match in
      let f : ◌≡◌ {A = Result Outcome Refusal} (Ok o) (Ok (outcome.Finished verdict i j steps count)) = sym answered.1 ∙ q in
      let p : o ≡ outcome.Finished verdict i j steps count = cc in
      let a = answer_is (tree_holds one_read) (tree_holds two_read) k (covers k (count, p)) in
      let z = a.8 in
      let e : verdict ≡ (is_true a.0 && is_true a.1) = cc in
      let g : i ≡ rank_of a.2 = cc in
      let u : j ≡ rank_of a.3 = cc in
      (one, two, one_read.reads, two_read.reads, a.0, a.1, a.2, a.3, a.4, a.5, a.6, a.7, e, g, u)
