-- One line more. Assumes nothing.
use Rattle.std.specs.Prelude.{Result, ◌≡◌, refl, List, [], ◌∷◌, ◌++◌, ℕ, ◌+◌, ◌-◌, ◌*◌, ◌≤◌, ◌<◌, min, length, take, drop, replicate}
use Rattle.std.proofs.Common.{sym, ap, ◌∙◌, subst, append_assoc, append-nil, arith, length-append, drop_of_length-le}
use Prim.Native.Char.{code}
use Rattle.std.proofs.lemmas.List.Edits.{sets}
use Rattle.lines.specs.Lines.{lines_of, up_to}
use Rattle.lines.proofs.Laws.Cutting.{found_inside, behind_later, lines_from}
use Rattle.ad.specs.Layout.{padded}
use Rattle.matching.specs.declared.Outcome.{Outcome}
use Rattle.syntax.specs.declared.Refusal.{Refusal}
use Rattle.line_match.specs.LineMatch.{LineLeaves, LineGives}
use Rattle.tally.specs.declared.Report.{Report}
use Rattle.tally.specs.Tally.{row_of, rows_of}
use Rattle.tally.specs.Inner.Counting.{Plus}
use Rattle.tally.proofs.Laws.Totals.{tallied_more, tallied_report, tallied_none}
use Rattle.tally.proofs.Laws.Rows.{rows_stored}
use Rattle.roster.specs.Roster.{max_lines, rows_words, Give, none, next}
use Rattle.roster.specs.Inner.Progress.{Listed, Reached}

-- what a line leaves, it gives
pub line_gives : {v b line w c table list : List ℕ} {r : Result Outcome Refusal} → LineLeaves v b line w c table list r → LineGives v b line r
line_gives {w = w} {c} {table} {list} x = record { words = w; bytes = c; values = table; entries = list; leaves = x }

-- an outcome for each line
pub give_length : {v b : List ℕ} {ls : List (List ℕ)} {os : List (Result Outcome Refusal)} → Give v b ls os → length ls ≡ length os
give_length none = refl
give_length (next g gs) = let h = give_length gs in omega arith

give_more : {v b : List ℕ} {ls : List (List ℕ)} {os : List (Result Outcome Refusal)} {l : List ℕ} {o : Result Outcome Refusal} → Give v b ls os → LineGives v b l o → Give v b (ls ++ l ∷ []) (os ++ o ∷ [])
give_more none g = next g none
give_more (next f fs) g = next f (give_more fs g)

-- before the first line
pub reached_none : (v b s rows : List ℕ) → rows ≡ replicate rows_words 0 → Reached v b s 0 rows (record { lines = 0; matched = 0; unmatched = 0; refused = 0; rank_sum = 0 })
unfolding rows_of
reached_none v b s rows e = record {
  passed = [];
  outcomes = [];
  inside = omega arith;
  split = refl;
  gives = none;
  rows_are = e;
  tallied = tallied_none;
}

-- behind the last
pub reached_all : {v b s rows : List ℕ} {at : ℕ} {r : Report} → Reached v b s at rows r → length s ≤ at → Listed v b s rows r
unfolding lines_of
reached_all {v} {b} {s} x h = record {
  outcomes = x.outcomes;
  gives = subst (λ (ls : List (List ℕ)). Give v b ls x.outcomes) (sym (x.split ∙ ap (λ (l : List ℕ). x.passed ++ lines_of l) (drop_of_length-le s h) ∙ append-nil x.passed)) x.gives;
  rows_are = x.rows_are;
  report_is = tallied_report x.tallied;
}

-- a line is left, so that there is room for its outcome
pub room_left : {v b s rows : List ℕ} {at : ℕ} {r : Report} (x : Reached v b s at rows r) → length (lines_of s) ≤ max_lines → at < length s → length x.outcomes < 256
room_left {s = s} {at = at} x few h =
    let end = at + length (up_to (code "\n") (drop at s)) in
    let e = lines_from s at end (min (end + 1) (length s)) h refl refl in
    let k : length (lines_of s) ≡ length (x.passed ++ (take (end - at) (drop at s) ∷ lines_of (drop (min (end + 1) (length s)) s))) = ap length (x.split ∙ ap (λ (l : List (List ℕ)). x.passed ++ l) e) in
    omega (arith, length-append x.passed (take (end - at) (drop at s) ∷ lines_of (drop (min (end + 1) (length s)) s)), give_length x.gives)

-- ONE LINE MORE
pub reached_more : {v b s rows rows' : List ℕ} {at end next : ℕ} {r r' : Report} {o : Result Outcome Refusal} (x : Reached v b s at rows r) → length (lines_of s) ≤ max_lines → at < length s →
    end ≡ at + length (up_to (code "\n") (drop at s)) → next ≡ min (end + 1) (length s) → LineGives v b (take (end - at) (drop at s)) o →
    rows' ≡ sets rows (8 * r.lines) (row_of o) → Plus r o r' → Reached v b s next rows' r'
reached_more {v} {b} {s} {rows} {rows'} {at} {end} {next} {r} {r'} {o} x few h e f g w p = record {
  passed = x.passed ++ line ∷ [];
  outcomes = x.outcomes ++ o ∷ [];
  inside = (behind_later at end next (length s) (found_inside (code "\n") s at end (omega arith) e).0 h f).1;
  split = x.split ∙ ap (λ (l : List (List ℕ)). x.passed ++ l) (lines_from s at end next h e f) ∙ sym (append_assoc x.passed (line ∷ []) (lines_of (drop next s)));
  gives = give_more x.gives g;
  rows_are = w ∙ ap (λ (l : List ℕ). sets l (8 * r.lines) (row_of o)) x.rows_are ∙ ap (λ (n : ℕ). sets (padded rows_words (rows_of x.outcomes)) (8 * n) (row_of o)) x.tallied.lines_are ∙ stored;
  tallied = tallied_more x.tallied p;
}
  where
    line : List ℕ
    line = take (end - at) (drop at s)

    stored : sets (padded rows_words (rows_of x.outcomes)) (8 * length x.outcomes) (row_of o) ≡ padded rows_words (rows_of (x.outcomes ++ o ∷ []))
    stored = let k = room_left x few h in rows_stored rows_words x.outcomes o (omega arith)
