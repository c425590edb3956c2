-- The rooms of a call, and what it leaves in them. Assumes nothing.
use Prim.Native.Nat.{ℕ, ◌≤◌, ◌<◌}
use mathlib.Core.Path.{◌≡◌, sym, ap, ◌∙◌}
use mathlib.Core.Bool.{Bool, true, false}
use mathlib.Core.List.{List, ◌++◌}
use lib.ListN.{length, take, drop, replicate}
use lib.Seq.{length-take-le}
use lib.Dec.{ltb}
use borrow.Author.Tests.{ltb-false}
use Rattle.text.specs.Laws.Booleans.{neither}
use Rattle.lines.specs.Lines.{lines_of}
use Rattle.ad.specs.Layout.{ad_words, ad_bytes_room}
use Rattle.links.specs.Pair.{pair_slots}
use Rattle.admission.specs.Admission.{small_pair, Well}
use Rattle.admission.specs.Laws.Rooms.{rooms}
use Rattle.matching.specs.Matching.{table_words}
use Rattle.tally.specs.declared.Report.{Report}
use Rattle.std.proofs.Common.{Ok}
use Rattle.roster.specs.Roster.{max_lines, rows_words, RosterRefuses, no_room, bad_job, long, Matches}
use Rattle.roster.specs.Inner.Progress.{Tested, Lent, Listed, Cleared}

-- every room is large enough
pub record Fits (v b w c table list rows : List ℕ) : Type 0 where
  pub job_words : ad_words ≤ length v
  pub job_bytes : ad_bytes_room ≤ length b
  pub words : ad_words ≤ length w
  pub bytes : ad_bytes_room ≤ length c
  pub values : table_words ≤ length table
  pub entries : pair_slots ≤ length list
  pub outcomes : rows_words ≤ length rows

module _ {v b w c table list rows : List ℕ} {r : Bool} (t : Tested v b w c table list rows r) where
  pub fits : r ≡ false → Fits v b w c table list rows
  fits e =
      let p = small_pair v b w c (length table) table_words (length list) in
      let h = neither p (ltb (length rows) rows_words) (sym t.told ∙ e) in
      let k = rooms v b w c (length table) table_words (length list) h.0 in
      record {
        job_words = k.first_words;
        job_bytes = k.first_bytes;
        words = k.second_words;
        bytes = k.second_bytes;
        values = k.values;
        entries = k.entries_fit;
        outcomes = ltb-false (length rows) rows_words h.1;
      }

  pub refused_small : {s : List ℕ} → r ≡ true → RosterRefuses v b s w c table list rows 1
  refused_small e = no_room (sym t.told ∙ e)

  pub refused_job : {s : List ℕ} → r ≡ false → ¬ (Well v b) → RosterRefuses v b s w c table list rows 10
  refused_job e h = bad_job (sym t.told ∙ e) h

  pub refused_long : (s : List ℕ) {n : ℕ} → r ≡ false → Well v b → n ≡ length (lines_of s) → max_lines < n → RosterRefuses v b s w c table list rows 16
  refused_long s e h k l = long (sym t.told ∙ e) h (rw k at l)

  -- what is left where nothing is refused: the front parts, and what was behind them
  pub answered : {s w' c' table' list' rows' : List ℕ} {q : Report} → r ≡ false → Well v b → length (lines_of s) ≤ max_lines →
      Listed (take ad_words v) (take ad_bytes_room b) s rows' q → Cleared w' c' table' list' →
      Matches v b s w c table list rows (w' ++ drop ad_words w) (c' ++ drop ad_bytes_room c) (table' ++ drop table_words table) (list' ++ drop pair_slots list) (rows' ++ drop rows_words rows) (Ok q)
  answered e h few l z = record {
    roomy = sym t.told ∙ e;
    job_well = h;
    few_lines = few;
    outcomes = l.outcomes;
    gives = l.gives;
    answers = ap Ok l.report_is;
    rows_are = ap (λ (x : List ℕ). x ++ drop rows_words rows) l.rows_are;
    zeroed = record {
      words = ap (λ (x : List ℕ). x ++ drop ad_words w) z.words;
      bytes = ap (λ (x : List ℕ). x ++ drop ad_bytes_room c) z.bytes;
      values = ap (λ (x : List ℕ). x ++ drop table_words table) z.values;
      entries = ap (λ (x : List ℕ). x ++ drop pair_slots list) z.entries;
    };
  }

-- a front part has its size
pub front : (n : ℕ) (l : List ℕ) → n ≤ length l → n ≡ length (take n l)
front n l h = sym (length-take-le n l h)

-- the front parts are exactly the rooms
pub lent : {v b s w c table list rows : List ℕ} → Fits v b w c table list rows →
    length (lines_of s) ≤ max_lines → Lent s (take ad_words w) (take ad_bytes_room c) (take table_words table) (take pair_slots list) (take rows_words rows)
lent {w = w} {c} {table} {list} {rows} x h = record {
  room = record {
    words = length-take-le ad_words w x.words;
    bytes = length-take-le ad_bytes_room c x.bytes;
    values = length-take-le table_words table x.values;
    entries = length-take-le pair_slots list x.entries;
  };
  few_lines = h;
  rows_room = length-take-le rows_words rows x.outcomes;
}

-- what was cleared is zeros, as many as there were
pub zeros : (n : ℕ) {x : List ℕ} (y : List ℕ) → x ≡ replicate (length y) 0 → length y ≡ n → x ≡ replicate n 0
zeros n y e h = e ∙ ap (λ (k : ℕ). replicate k 0) h
