-- What inner functions are given and ensure. Assumes nothing.
use Rattle.std.specs.Prelude.{ℕ, ◌≤◌, ◌≡◌, Result, List, length, replicate}
use Rattle.syntax.specs.Reader as R
use Rattle.ad.specs.declared.Counts.{Counts}
use Rattle.syntax.specs.declared.Refusal.{Refusal}
use Rattle.reader.specs.Content.{answer_of, words_of, bytes_of}

-- exactly the room of an ad, and a text within its bound: 'room for 1,024 nodes, 256 definitions and 16,384 bytes of names and
-- strings'; 'Text 16,384 bytes'
pub record Exact (s w b : List ℕ) : Type 0 where
  pub text : length s ≤ 16384
  pub words : length w ≡ 4864
  pub bytes : length b ≡ 16384

-- what reading into exactly that room leaves: 'Unused room is zero after acceptance', or 'ad memory zero'
pub record Left (p : R.Answer) (w' b' : List ℕ) (r : Result Counts Refusal) : Type 0 where
  pub answers : r ≡ answer_of p
  pub words : w' ≡ words_of p
  pub bytes : b' ≡ bytes_of p

-- 'ad memory zero', whatever was there
pub record Cleared (w b w' b' : List ℕ) : Type 0 where
  pub words : w' ≡ replicate (length w) 0
  pub bytes : b' ≡ replicate (length b) 0
