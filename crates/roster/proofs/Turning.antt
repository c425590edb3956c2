-- One turn of the loop over the lines. Assumes nothing.
use Prim.Native.Nat.{ℕ, ◌+◌, ◌*◌, ◌≤◌, ◌<◌, min}
use Prim.Native.Char.{code}
use native.Mathlib.Omega.{arith}
use mathlib.Core.Path.{◌≡◌, ap, ◌∙◌}
use mathlib.Core.List.{List}
use lib.ListN.{length, drop}
use lib.Seq.{sets, length-sets}
use Rattle.lines.specs.Lines.{lines_of, up_to}
use Rattle.lines.proofs.Laws.Cutting.{found_inside, behind_later}
use Rattle.std.proofs.Common.{Result}
use Rattle.syntax.specs.declared.Refusal.{Refusal}
use Rattle.matching.specs.declared.Outcome.{Outcome}
use Rattle.line_match.specs.Inner.Asked.{LineRoom}
use Rattle.tally.specs.declared.Report.{Report}
use Rattle.tally.specs.Tally.{row_of}
use Rattle.tally.specs.Inner.Counting.{Few}
use Rattle.tally.proofs.Laws.Totals.{tallied_few}
use Rattle.roster.specs.Roster.{max_lines, rows_words}
use Rattle.roster.specs.Inner.Progress.{Reached}
use Rattle.roster.proofs.Laws.Lines.{room_left}

-- what holds at the loop's test: w, c, table and list are the working memory
pub record Turning (v b s w c table list rows : List ℕ) (r : Report) (at : ℕ) : Type 0 where
  pub room : LineRoom w c table list
  pub reached : Reached v b s at rows r
  pub rows_room : length rows ≡ rows_words

module _ {v b s w c table list rows : List ℕ} {r : Report} {at : ℕ} (x : Turning v b s w c table list rows r at) where
  -- the line ends in the text
  pub ends : {end : ℕ} → end ≡ at + length (up_to (code "\n") (drop at s)) → (at ≤ end) × (end ≤ length s)
  ends {end} e = found_inside (code "\n") s at end x.reached.inside e

  -- the next begins later
  pub goes_on : {end next : ℕ} → at < length s → end ≡ at + length (up_to (code "\n") (drop at s)) → next ≡ min (end + 1) (length s) → (at < next) × (next ≤ length s)
  goes_on {end} {next} h e f = behind_later at end next (length s) (ends e).0 h f

  module _ (few : length (lines_of s) ≤ max_lines) (h : at < length s) where
    pub row_fits : 8 * r.lines + 8 ≤ length rows
    row_fits =
        let k = room_left x.reached few h in
        let e = x.reached.tallied.lines_are in
        let l = x.rows_room in
        omega arith

    pub report_fits : Few r
    report_fits = tallied_few x.reached.tallied (room_left x.reached few h)

-- the rooms stay as long as they were
pub same_rooms : {w c table list w' c' table' list' : List ℕ} → LineRoom w c table list →
    length w' ≡ length w → length c' ≡ length c → length table' ≡ length table → length list' ≡ length list → LineRoom w' c' table' list'
same_rooms x e f g h = record { words = e ∙ x.words; bytes = f ∙ x.bytes; values = g ∙ x.values; entries = h ∙ x.entries }

pub same_rows : (rows : List ℕ) (n : ℕ) (o : Result Outcome Refusal) {rows' : List ℕ} → length rows ≡ rows_words → rows' ≡ sets rows n (row_of o) → length rows' ≡ rows_words
same_rows rows n o e f = ap length f ∙ length-sets rows n (row_of o) ∙ e
