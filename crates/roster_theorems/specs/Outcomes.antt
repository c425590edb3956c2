-- THE OUTCOMES OF LINES: each line has one, which depends on its own line alone and is a refusal or a finished match. v and b are the
-- words and bytes of the job. Assumes nothing.
use Rattle.std.specs.Prelude.{ℕ, ◌+◌, ◌*◌, ◌^◌, ◌≤◌, ◌≡◌, refl, Bool, true, false, cond, not, Result, Ok, Err, List, [], ◌∷◌, ◌++◌, length, ltb}
use Rattle.std.proofs.Common.{arith, sym, ap, ◌∙◌, subst, ltb-true}
use Rattle.lines.specs.Lines as lines
use Rattle.syntax.specs.Tree.{Ad}
use Rattle.syntax.specs.Reader.{read, accepted, denied}
use Rattle.ad.specs.Layout.{stored_words, stored_bytes}
use Rattle.links.specs.Inner.Asked.{Formed}
use Rattle.values.specs.declared.Value.{Value}
use Rattle.values.specs.declared.Value.TheVariants.{Undefined, Error, Boolean, Integer, Real, String}
use Rattle.verdict.specs.Verdict.{rank_of}
use Rattle.matching.specs.Matching.{Match}
use Rattle.matching.proofs.Laws.OneAnswer.{match_one}
use Rattle.matching.specs.declared.Outcome.{Outcome}
use Rattle.matching.specs.declared.Outcome.TheVariants.{Finished}
use Rattle.syntax.specs.Refusals as numbers
use Rattle.syntax.specs.declared.Refusal.{Refusal}
use Rattle.text_theorems.specs.Reading.{read_formed}
use Rattle.theorems.proofs.Listing.{match_list}
use Rattle.line_match.specs.LineMatch.{LineLeaves, untabbed, refused, matched, LineGives, line_budget}
use Rattle.tally.specs.Tally.{is_matched, is_unmatched, is_refused, job_rank, total, many}
use Rattle.roster.specs.Roster.{Give, none, next}

-- ---- one outcome for a line

same_refusal : {x : lines.Entry} {r q : Result Outcome Refusal} {s t : List ℕ} {k p i j : ℕ} → x ≡ lines.ad s → read s ≡ denied k p → r ≡ Err (numbers.refusal k p) → x ≡ lines.ad t → read t ≡ denied i j → q ≡ Err (numbers.refusal i j) → r ≡ q
same_refusal {s = s} {t} {k} {p} {i} {j} e f g e' f' g' =
    let same : s ≡ t = cc in
    let h : read t ≡ denied k p = subst (λ (x : List ℕ). read x ≡ denied k p) same f in
    let m : k ≡ i = cc in
    let n : p ≡ j = cc in
    g ∙ (λ x. Err (numbers.refusal (m x) (n x))) ∙ sym g'

same_match : {v b : List ℕ} {x : lines.Entry} {r q : Outcome} {s t table list table' list' : List ℕ} {a c : Ad} → x ≡ lines.ad s → read s ≡ accepted a →
    Match v b (stored_words a) (stored_bytes a) line_budget table list r → x ≡ lines.ad t → read t ≡ accepted c → Match v b (stored_words c) (stored_bytes c) line_budget table' list' q → r ≡ q
same_match {v} {b} {r = r} {s = s} {t} {table} {list} {a = a} {c} e f m e' f' m' =
    let same : s ≡ t = cc in
    let h : read t ≡ accepted a = subst (λ (x : List ℕ). read x ≡ accepted a) same f in
    let tree : a ≡ c = cc in
    (match_one v b (stored_words c) (stored_bytes c) line_budget (subst (λ (x : Ad). Match v b (stored_words x) (stored_bytes x) line_budget table list r) tree m) m').answers

not_both : {x : lines.Entry} {s t : List ℕ} {a : Ad} {k p : ℕ} → x ≡ lines.ad s → read s ≡ accepted a → x ≡ lines.ad t → read t ≡ denied k p → ⊥
not_both {s = s} {t} {a} e f e' f' =
    let same : s ≡ t = cc in
    let h : read t ≡ accepted a = subst (λ (x : List ℕ). read x ≡ accepted a) same f in
    let z : ◌≡◌ {A = ℕ} 0 1 = cc in
    omega arith

leaves_one : {v b line w c table list w' c' table' list' : List ℕ} {r q : Result Outcome Refusal} → LineLeaves v b line w c table list r → LineLeaves v b line w' c' table' list' q → r ≡ q
leaves_one (untabbed e f) (untabbed e' f') = f ∙ sym f'
leaves_one (untabbed e f) (refused e' f' g') = let z : ◌≡◌ {A = ℕ} 0 1 = cc in absurd (omega arith)
leaves_one (untabbed e f) (matched e' f' i' j' a' m') = let z : ◌≡◌ {A = ℕ} 0 1 = cc in absurd (omega arith)
leaves_one (refused e f g) (untabbed e' f') = let z : ◌≡◌ {A = ℕ} 0 1 = cc in absurd (omega arith)
leaves_one (refused e f g) (refused e' f' g') = same_refusal e f g e' f' g'
leaves_one (refused e f g) (matched e' f' i' j' a' m') = absurd (not_both e' f' e f)
leaves_one (matched e f i j a m) (untabbed e' f') = let z : ◌≡◌ {A = ℕ} 0 1 = cc in absurd (omega arith)
leaves_one (matched e f i j a m) (refused e' f' g') = absurd (not_both e f e' f')
leaves_one (matched e f i j a m) (matched e' f' i' j' a' m') = a ∙ ap Ok (same_match e f m e' f' m') ∙ sym a'

-- A LINE GIVES ONE OUTCOME
pub line_one : {v b line : List ℕ} {r q : Result Outcome Refusal} → LineGives v b line r → LineGives v b line q → r ≡ q
line_one x y = leaves_one x.leaves y.leaves

-- SOME LINES GIVE ONE LIST OF OUTCOMES
pub give_one : {v b : List ℕ} {ls : List (List ℕ)} {rs qs : List (Result Outcome Refusal)} → Give v b ls rs → Give v b ls qs → rs ≡ qs
give_one none none = refl
give_one (next g gs) (next h hs) = let e = line_one g h in let f = give_one gs hs in λ i. e i ∷ f i

-- ---- one line among others

-- the outcomes around that of the line l
pub record Around (v b : List ℕ) (xs : List (List ℕ)) (l : List ℕ) (ys : List (List ℕ)) (rs : List (Result Outcome Refusal)) : Type 0 where
  pub before : List (Result Outcome Refusal)
  pub own : Result Outcome Refusal
  pub behind : List (Result Outcome Refusal)
  pub all : rs ≡ before ++ own ∷ behind
  pub before_give : Give v b xs before
  pub own_gives : LineGives v b l own
  pub behind_give : Give v b ys behind

pub give_around : {v b : List ℕ} (xs : List (List ℕ)) {l : List ℕ} {ys : List (List ℕ)} {rs : List (Result Outcome Refusal)} → Give v b (xs ++ l ∷ ys) rs → Around v b xs l ys rs
give_around [] (next {r = r} {rs} g gs) = record { before = []; own = r; behind = rs; all = refl; before_give = none; own_gives = g; behind_give = gs }
give_around (x ∷ xs) (next {r = r} g gs) =
    let k = give_around xs gs in
    record {
      before = r ∷ k.before;
      own = k.own;
      behind = k.behind;
      all = ap (λ (l : List (Result Outcome Refusal)). r ∷ l) k.all;
      before_give = next g k.before_give;
      own_gives = k.own_gives;
      behind_give = k.behind_give;
    }

-- ---- no third kind

-- an outcome is a refusal, or a finished match whose first rank is an Integer of 31 bits
pub data Ends (o : Result Outcome Refusal) : Type 0 where
  refusal : {e : Refusal} → o ≡ Err e → Ends o
  conclusion : {verdict : Bool} {i j steps count : ℕ} → o ≡ Ok (Finished verdict i j steps count) → i ≤ 2147483647 → Ends o

rank_small : (u : Value) → rank_of u ≤ 2147483647
rank_small Undefined = omega arith
rank_small Error = omega arith
rank_small (Boolean t) = omega arith
rank_small (Integer x) = go (ltb x (2 ^ 31)) refl
  where
    go : (t : Bool) → ltb x (2 ^ 31) ≡ t → cond t x 0 ≤ 2147483647
    go true e = omega (arith, ltb-true x (2 ^ 31) e)
    go false e = omega arith
rank_small (Real x) = omega arith
rank_small (String side offset len) = omega arith

module _ {v b : List ℕ} (f : Formed v) where
  match_ends : {w c table list : List ℕ} {o : Outcome} → Formed w → Match v b w c line_budget table list o → Ends (Ok o)
  match_ends g m =
      let room = (match_list f g m).room in
      let d = m.finished (omega arith) in
      conclusion (ap Ok d.answers) (rank_small d.first_rank)

  leaves_ends : {l w c table list : List ℕ} {o : Result Outcome Refusal} → LineLeaves v b l w c table list o → Ends o
  leaves_ends (untabbed e g) = refusal g
  leaves_ends (refused e g h) = refusal h
  leaves_ends (matched {s = s} {a = a} e g i j q m) = subst Ends (sym q) (match_ends (read_formed s a g) m)

  -- NO LINE'S MATCH IS UNFINISHED: its budget covers every list
  pub line_ends : {l : List ℕ} {o : Result Outcome Refusal} → LineGives v b l o → Ends o
  line_ends x = leaves_ends x.leaves

-- how a line counts: as matched, as unmatched or as refused
counts : Result Outcome Refusal → ℕ
counts o = cond (is_matched o) 1 0 + cond (is_unmatched o) 1 0 + cond (is_refused o) 1 0

ends_once : {o : Result Outcome Refusal} → Ends o → (counts o ≡ 1) × (job_rank o ≤ 2147483647)
unfolding counts
ends_once (refusal e) = rw e (refl, omega arith)
ends_once (conclusion {verdict = verdict} e h) = rw e (go verdict h)
  where
    go : (t : Bool) {n : ℕ} → n ≤ 2147483647 → (cond t 1 0 + cond (not t) 1 0 + 0 ≡ 1) × (cond t n 0 ≤ 2147483647)
    go true h = (refl, h)
    go false h = (refl, omega arith)

-- THEY ADD UP, and the sum of the ranks is small
pub give_counts : {v b : List ℕ} → Formed v → {ls : List (List ℕ)} {os : List (Result Outcome Refusal)} → Give v b ls os →
    (many is_matched os + many is_unmatched os + many is_refused os ≡ length os) × (total job_rank os ≤ length os * 2147483647)
unfolding total counts
give_counts f none = (refl, omega arith)
give_counts f (next g gs) =
    let h = ends_once (line_ends f g) in
    let k = give_counts f gs in
    let h₀ = h.0 in
    let h₁ = h.1 in
    let k₀ = k.0 in
    let k₁ = k.1 in
    (omega arith, omega arith)
