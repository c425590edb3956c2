-- What a line of a roster gives. v and b are the words and bytes of the job. Assumes nothing.
use Rattle.std.specs.Prelude.{ℕ, ◌≡◌, Result, Ok, Err, List, length}
use Rattle.lines.specs.Lines as lines
use Rattle.lines.specs.Lines.{entry_of}
use Rattle.syntax.specs.Tree.{Ad}
use Rattle.syntax.specs.Reader.{read, accepted, denied}
use Rattle.ad.specs.Layout.{stored_words, stored_bytes}
use Rattle.matching.specs.Matching.{Match}
use Rattle.matching.specs.declared.Outcome.{Outcome}
use Rattle.syntax.specs.Refusals.{refusal}
use Rattle.syntax.specs.declared.Refusal.{Refusal}

-- 'with budget 65,535', which covers every list
abbrev pub line_budget : ℕ
line_budget = 65535

-- What a line gives and leaves: 'what a single match, job first, with budget 65,535 gives, or the line's refusal'. w, c, table and list
-- are the words, bytes, values and entries of the working memory then.
pub data LineLeaves (v b line w c table list : List ℕ) (r : Result Outcome Refusal) : Type 0 where
  -- 'A line without a tab is refusal 4 at its length'
  untabbed : entry_of line ≡ lines.untabbed → r ≡ Err (refusal 4 (length line)) → LineLeaves v b line w c table list r
  -- 'other places count from after the tab'
  refused : {s : List ℕ} {k p : ℕ} → entry_of line ≡ lines.ad s → read s ≡ denied k p → r ≡ Err (refusal k p) → LineLeaves v b line w c table list r
  -- 'demand 3 of its single match before the working memory is zeroed': the bench as it was read, and the match's own table and list
  matched : {s : List ℕ} {a : Ad} {o : Outcome} → entry_of line ≡ lines.ad s → read s ≡ accepted a → w ≡ stored_words a → c ≡ stored_bytes a →
      r ≡ Ok o → Match v b (stored_words a) (stored_bytes a) line_budget table list o → LineLeaves v b line w c table list r

-- What a line gives, whatever the working memory holds later
pub record LineGives (v b line : List ℕ) (r : Result Outcome Refusal) : Type 0 where
  pub words : List ℕ
  pub bytes : List ℕ
  pub values : List ℕ
  pub entries : List ℕ
  pub leaves : LineLeaves v b line words bytes values entries r
