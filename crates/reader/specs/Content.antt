-- What `read` answers and leaves, whatever text and memory it is lent. s is the text, w and b are the words and bytes of the ad's
-- memory. Assumes nothing.
use Rattle.std.specs.Prelude.{ℕ, ◌≡◌, ◌||◌, Result, Ok, Err, List, ◌++◌, length, drop, replicate, ltb}
use Rattle.syntax.specs.Bounds.{text_bytes}
use Rattle.syntax.specs.Tree.{nodes}
use Rattle.syntax.specs.Token.{pick}
use Rattle.syntax.specs.Reader as R
use Rattle.ad.specs.Layout.{ad_words, ad_bytes_room, stored_words, stored_bytes, small_ad}
use Rattle.ad.specs.declared.Counts.{Counts}
use Rattle.syntax.specs.Refusals.{refusal}
use Rattle.syntax.specs.declared.Refusal.{Refusal}

-- 'the reader answers an enum: accepted with its counts, or refused with number and byte place'
abbrev pub answer_of : R.Answer → Result Counts Refusal
answer_of (R.accepted a) = Ok (record { definitions = length a; nodes = nodes a })
answer_of (R.denied k p) = Err (refusal k p)

-- 'Unused room is zero after acceptance'; refusals 3 to 9 leave 'ad memory zero'
abbrev pub words_of : R.Answer → List ℕ
words_of (R.accepted a) = stored_words a
words_of (R.denied k p) = replicate ad_words 0

-- the same of the bytes: 'Unused room is zero after acceptance'; 'ad memory zero'
abbrev pub bytes_of : R.Answer → List ℕ
bytes_of (R.accepted a) = stored_bytes a
bytes_of (R.denied k p) = replicate ad_bytes_room 0

-- 'Checks go 1, 2, then tokens left to right'; place '0 for 1, 2'
unfoldable pub answer : List ℕ → List ℕ → List ℕ → Result Counts Refusal
answer s w b = pick (small_ad w b) (λ _. Err (refusal 1 0)) (λ _. answer_of (R.read s))

-- 1 and 2 leave 'all unchanged'; 'Memory lent beyond these sizes is never changed'
unfoldable pub words_after : List ℕ → List ℕ → List ℕ → List ℕ
words_after s w b = pick (small_ad w b || ltb text_bytes (length s)) (λ _. w) (λ _. words_of (R.read s) ++ drop ad_words w)

-- the same of the bytes: 'all unchanged'; 'Memory lent beyond these sizes is never changed'
unfoldable pub bytes_after : List ℕ → List ℕ → List ℕ → List ℕ
bytes_after s w b = pick (small_ad w b || ltb text_bytes (length s)) (λ _. b) (λ _. bytes_of (R.read s) ++ drop ad_bytes_room b)

-- THE CONTRACT OF `read`: w' and b' are the words and bytes after it. 'Every public function says what it returns and what each
-- lent slice then holds, whatever came in, refused calls too'
pub record Answered (s w b w' b' : List ℕ) (r : Result Counts Refusal) : Type 0 where
  pub answers : r ≡ answer s w b
  pub words : w' ≡ words_after s w b
  pub bytes : b' ≡ bytes_after s w b
