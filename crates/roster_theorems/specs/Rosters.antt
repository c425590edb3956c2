-- WHAT CALLERS OF `match_roster` HOLD, from its contract and those of `read` and `match_ads`. v and b are the words and bytes of the job,
-- s is the roster's text; w, c, table and list are the working memory, rows is the room for the outcomes, and ' is what they hold after
-- the call. Assumes nothing.
use Rattle.std.specs.Prelude.{ℕ, ◌+◌, ◌*◌, ◌≤◌, ◌≡◌, refl, Result, Ok, Err, List, [], ◌∷◌, ◌++◌, length, take, drop}
use Rattle.std.proofs.Common.{arith, sym, ap, ◌∙◌, subst, true≢false}
use Rattle.lines.specs.Lines as lines
use Rattle.lines.specs.Lines.{lines_of, entry_of}
use Rattle.ad.specs.Layout.{ad_words, ad_bytes_room, stored_words, padded}
use Rattle.ad.specs.declared.Counts.{Counts}
use Rattle.syntax.specs.Refusals.{refusal}
use Rattle.syntax.specs.declared.Refusal.{Refusal}
use Rattle.reader.specs.Content.{Answered}
use Rattle.admission.specs.Laws.Wells.{formed_of}
use Rattle.text_theorems.specs.Reading.{accepted_tree, front_words, front_bytes}
use Rattle.matching.specs.Matching as M
use Rattle.matching.specs.Matching.{Match, Matched}
use Rattle.matching.specs.declared.Outcome.{Outcome}
use Rattle.tally.specs.declared.Report.{Report}
use Rattle.tally.specs.Tally.{report_of, rows_of}
use Rattle.line_match.specs.LineMatch as line
use Rattle.line_match.specs.LineMatch.{LineGives, line_budget}
use Rattle.line_match.proofs.Reading.{was_refused}
use Rattle.roster.specs.Roster.{rows_words, RosterRefuses, no_room, bad_job, long, Matches, Rostered, refused, matches}
use Rattle.roster.proofs.Laws.Lines.{line_gives, give_length}
use Rattle.roster_theorems.specs.Outcomes.{give_one, give_around, give_counts, line_one}

module _ {v b s w c table list rows w' c' table' list' rows' : List ℕ} {r : Result Report Refusal} (x : Matches v b s w c table list rows w' c' table' list' rows' r) where
  -- THE NUMBERS ADD UP: 'Matched, unmatched and refused add up to the lines'
  pub adds_up : (report : Report) → r ≡ Ok report → (report.matched + report.unmatched + report.refused ≡ report.lines) × (report.lines ≡ length (lines_of s))
  adds_up report e =
      let a : ◌≡◌ {A = Result Report Refusal} (Ok report) (Ok (report_of x.outcomes)) = sym e ∙ x.answers in
      let is : report ≡ report_of x.outcomes = cc in
      let k = give_counts (formed_of v b x.job_well) x.gives in
      rw is (k.0, sym (give_length x.gives))

  -- THE SUM IS SMALL: with ranks of 31 bits and 256 lines it is far below 2 ^ 64
  pub sum_small : (report : Report) → r ≡ Ok report → report.rank_sum ≤ 256 * 2147483647
  sum_small report e =
      let a : ◌≡◌ {A = Result Report Refusal} (Ok report) (Ok (report_of x.outcomes)) = sym e ∙ x.answers in
      let is : report ≡ report_of x.outcomes = cc in
      let k = (give_counts (formed_of v b x.job_well) x.gives).1 in
      let l = give_length x.gives in
      let f = x.few_lines in
      rw is (omega arith)

-- two lists of outcomes that differ at one place at most
pub record OneApart (n : ℕ) (rs qs : List (Result Outcome Refusal)) : Type 0 where
  pub before : List (Result Outcome Refusal)
  pub own : Result Outcome Refusal
  pub own' : Result Outcome Refusal
  pub behind : List (Result Outcome Refusal)
  pub place : length before ≡ n
  pub first_are : rs ≡ before ++ own ∷ behind
  pub second_are : qs ≡ before ++ own' ∷ behind

-- 'a refused line changes no other', AND NO LINE DOES: two rosters that differ in one line, the lines xs before it and ys behind it, give
-- the same job the same outcomes but for that line's, whatever memory each call was lent
pub others_stay : {v b s t w c table list rows w₁ c₁ table₁ list₁ rows₁ w' c' table' list' rows' w₁' c₁' table₁' list₁' rows₁' : List ℕ} {r q : Result Report Refusal} (xs ys : List (List ℕ)) (l m : List ℕ)
    (x : Matches v b s w c table list rows w' c' table' list' rows' r) (y : Matches v b t w₁ c₁ table₁ list₁ rows₁ w₁' c₁' table₁' list₁' rows₁' q) →
    lines_of s ≡ xs ++ l ∷ ys → lines_of t ≡ xs ++ m ∷ ys → OneApart (length xs) x.outcomes y.outcomes
others_stay xs ys l m x y e f =
    let p = give_around xs (rw e at x.gives) in
    let q = give_around xs (rw f at y.gives) in
    record {
      before = p.before;
      own = p.own;
      own' = q.own;
      behind = p.behind;
      place = sym (give_length p.before_give);
      first_are = p.all;
      second_are = q.all ∙ (let g = give_one q.before_give p.before_give in let h = give_one q.behind_give p.behind_give in λ i. g i ++ q.own ∷ h i);
    }

-- ---- single calls

module _ {v b l s w c w' c' : List ℕ} {o : Result Outcome Refusal} (g : LineGives (take ad_words v) (take ad_bytes_room b) l o) (e : entry_of l ≡ lines.ad s) where
  -- A LINE'S OUTCOME IS THAT OF SINGLE CALLS, 'what a single match, job first, with budget 65,535 gives': `read` of the text behind its
  -- tab, in any memory, and `match_ads` of the job and what that left, with any table and list that it does not refuse
  pub as_single_calls : {table list table' list' : List ℕ} {r : Result Outcome Refusal} {counts : Counts} → Answered s w c w' c' (Ok counts) → Matched v b w' c' line_budget table list table' list' r →
      ((e : Refusal) → r ≡ Err e → ⊥) → o ≡ r
  as_single_calls {r = r} a (M.refused x t _ _) h = absurd (h _ t)
  as_single_calls {r = r} a (M.matches {o = q} x f values entries m _ _) h =
      let k = accepted_tree a in
      let stored = k.1 in
      line_one g (line_gives (line.matched e stored.reads refl refl f
      (subst (λ (z : List ℕ). Match (take ad_words v) (take ad_bytes_room b) (stored_words k.0) z line_budget values entries q) (front_bytes stored)
      (subst (λ (z : List ℕ). Match (take ad_words v) (take ad_bytes_room b) z (take ad_bytes_room c') line_budget values entries q) (front_words stored) m))))

-- A REFUSED LINE'S OUTCOME IS 'the line's refusal': that of `read`, in memory with room for an ad
pub as_single_refusal : {v b l s w c w' c' : List ℕ} {o : Result Outcome Refusal} {e : Refusal} → LineGives v b l o → entry_of l ≡ lines.ad s → ad_words ≤ length w → ad_bytes_room ≤ length c →
    Answered s w c w' c' (Err e) → o ≡ Err e
as_single_refusal g e h h' a = let x = was_refused h h' a refl in line_one g (line_gives {w = []} {c = []} {table = []} {list = []} (line.refused e x.reads (ap Err x.is)))

-- ---- one answer

-- the same answer, and the same memory after it
pub record SameCall (w c table list rows : List ℕ) (r : Result Report Refusal) (w' c' table' list' rows' : List ℕ) (q : Result Report Refusal) : Type 0 where
  pub answers : r ≡ q
  pub words : w ≡ w'
  pub bytes : c ≡ c'
  pub values : table ≡ table'
  pub entries : list ≡ list'
  pub outcomes : rows ≡ rows'

refuses_one : {v b s w c table list rows : List ℕ} {k l : ℕ} → RosterRefuses v b s w c table list rows k → RosterRefuses v b s w c table list rows l → k ≡ l
refuses_one (no_room e) (no_room f) = refl
refuses_one (no_room e) (bad_job f n) = absurd (true≢false (sym e ∙ f))
refuses_one (no_room e) (long f h n) = absurd (true≢false (sym e ∙ f))
refuses_one (bad_job e m) (no_room f) = absurd (true≢false (sym f ∙ e))
refuses_one (bad_job e m) (bad_job f n) = refl
refuses_one (bad_job e m) (long f h n) = absurd (m h)
refuses_one (long e g m) (no_room f) = absurd (true≢false (sym f ∙ e))
refuses_one (long e g m) (bad_job f n) = absurd (n g)
refuses_one (long e g m) (long f h n) = refl

not_refused : {v b s w c table list rows w' c' table' list' rows' : List ℕ} {r : Result Report Refusal} {k : ℕ} → RosterRefuses v b s w c table list rows k → Matches v b s w c table list rows w' c' table' list' rows' r → ⊥
not_refused (no_room e) x = true≢false (sym e ∙ x.roomy)
not_refused (bad_job e m) x = m x.job_well
not_refused (long e g m) x = let h = x.few_lines in omega arith

-- THE CONTRACT OF `match_roster` LEAVES ONE ANSWER: two programs that keep it answer the same and leave the same memory
pub roster_one : {v b s w c table list rows w₁ c₁ table₁ list₁ rows₁ w₂ c₂ table₂ list₂ rows₂ : List ℕ} {r q : Result Report Refusal} →
    Rostered v b s w c table list rows w₁ c₁ table₁ list₁ rows₁ r → Rostered v b s w c table list rows w₂ c₂ table₂ list₂ rows₂ q → SameCall w₁ c₁ table₁ list₁ rows₁ r w₂ c₂ table₂ list₂ rows₂ q
roster_one (refused x e f g h i j) (refused x' e' f' g' h' i' j') =
    record { answers = e ∙ ap (λ (n : ℕ). Err (refusal n 0)) (refuses_one x x') ∙ sym e'; words = f ∙ sym f'; bytes = g ∙ sym g'; values = h ∙ sym h'; entries = i ∙ sym i'; outcomes = j ∙ sym j' }
roster_one (refused x e f g h i j) (matches y) = absurd (not_refused x y)
roster_one (matches x) (refused y e f g h i j) = absurd (not_refused y x)
roster_one {rows = rows} (matches x) (matches y) =
    let o = give_one x.gives y.gives in
    let z = x.zeroed in
    let u = y.zeroed in
    record {
      answers = x.answers ∙ ap (λ (os : List (Result Outcome Refusal)). Ok (report_of os)) o ∙ sym y.answers;
      words = z.words ∙ sym u.words;
      bytes = z.bytes ∙ sym u.bytes;
      values = z.values ∙ sym u.values;
      entries = z.entries ∙ sym u.entries;
      outcomes = x.rows_are ∙ ap (λ (os : List (Result Outcome Refusal)). padded rows_words (rows_of os) ++ drop rows_words rows) o ∙ sym y.rows_are;
    }
