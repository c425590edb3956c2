-- What the whole reader answers and leaves. Assumes nothing.
use Prim.Native.Nat.{ℕ, zero, suc, ◌+◌, ◌-◌, ◌≤◌}
use native.Mathlib.Omega.{arith}
use native.Mathlib.Nat.{zero-add}
use mathlib.Core.Path.{◌≡◌, refl, sym, ◌∙◌, ap}
use Rattle.std.proofs.Common.{true≢false, true, false}
use mathlib.Core.List.{List, ◌++◌, append_assoc}
use lib.ListN.{length, take, drop, replicate, length-append, length-replicate, replicate-append-replicate}
use lib.Seq.{sets, sets-eq, take_at, drop-append-add}
use borrow.Author.Tests.{le-ltb}
use Rattle.ad.specs.Laws.Content.{length_ad, length_entries}
use Rattle.syntax.specs.Reader.{parse, read}
use Rattle.syntax.proofs.Laws.Accepts.{accepts}
use Rattle.ad.specs.Layout.{padded, ad_nodes, ad_definitions, ad_bytes, stored_words, stored_bytes}
use Rattle.leaves.specs.Inner.Marks.{Memory, memory}
use Rattle.reader.specs.Content.{answer, words_after, bytes_after, Answered}
use Rattle.reader.specs.Inner.Leaving.{Left, Cleared}
use Rattle.ad_reader.specs.Inner.Post.{AgreesAd}
use Rattle.ad.specs.declared.Counts.{Counts}
use Rattle.std.specs.Prelude.{Result, Ok, Err}
use Rattle.std.specs.Result.{is_err}
use Rattle.syntax.specs.declared.Refusal.{Refusal}
use Rattle.syntax.proofs.Laws.Numbered.{refusal_numbered}

zeros : {i j : ℕ} → i ≡ j → replicate {A = ℕ} i 0 ≡ replicate j 0
zeros e = ap (λ (k : ℕ). replicate {A = ℕ} k 0) e

drop_zeros : (k n : ℕ) → drop {A = ℕ} k (replicate n 0) ≡ replicate (n - k) 0
drop_zeros zero n = let e : n ≡ n - zero = omega arith in zeros e
drop_zeros (suc k) zero = let e : zero ≡ zero - suc k = omega arith in zeros e
drop_zeros (suc k) (suc n) = let e : n - k ≡ suc n - suc k = omega arith in drop_zeros k n ∙ zeros e

-- xs at the front of n zeros
pad : (xs : List ℕ) (n : ℕ) → length xs ≤ n → sets (replicate n 0) 0 xs ≡ padded n xs
pad xs n h =
    sets-eq xs (replicate n 0) 0 (simp (length-replicate, zero-add) h)
    ∙ ap (◌++◌ xs) (rw zero-add (drop_zeros (length xs) n))

length_padded : (xs : List ℕ) (n : ℕ) → length xs ≤ n → length (padded n xs) ≡ n
length_padded xs n h = simp (length-append, length-replicate) (omega arith)

-- xs in the first p of p + r zeros, and ys in the others
pad_both :
    (xs ys : List ℕ) (p r : ℕ) → length xs ≤ p → length ys ≤ r → sets
    (sets (replicate (p + r) 0) 0 xs) p ys ≡ padded p xs ++ padded r ys
pad_both xs ys p r h h' =
    let e : p + r - length xs ≡ p - length xs + r = omega arith in
    let a : sets (replicate (p + r) 0) 0 xs ≡ padded p xs ++ replicate r 0 = pad xs (p + r)
    (omega arith)
    ∙ (ap (◌++◌ xs) (zeros e ∙ sym (replicate-append-replicate (p - length xs) r 0))
    ∙ sym (append_assoc xs (replicate (p - length xs) 0) (replicate r 0))) in
    let l = length_padded xs p h in
    let f : p + length ys ≤ length (padded p xs ++ replicate r 0) = omega
    (arith, length-append (padded p xs) (replicate r 0), length-replicate {A = ℕ} r 0) in
    let t : take p (padded p xs ++ replicate r 0) ≡ padded p xs = take_at (padded p xs)
    (replicate r 0) p l in
    let d : drop (p + length ys) (padded p xs ++ replicate r 0) ≡ replicate (r - length ys) 0 = ap
    (λ (k : ℕ). drop (k + length ys) (padded p xs ++ replicate r 0)) (sym l)
    ∙ (drop-append-add (padded p xs) (replicate r 0) (length ys) ∙ drop_zeros (length ys) r) in
    rw a (sets-eq ys (padded p xs ++ replicate r 0) p f
    ∙ rw (t, d) (append_assoc (padded p xs) ys (replicate (r - length ys) 0)))

module _ (s w₀ b₀ w' b' : List ℕ) (hw : w₀ ≡ replicate 4864 0) (hb : b₀ ≡ replicate 16384 0) where
  -- accepted over cleared memory
  pub into_ad : (r : Result Counts Refusal) → is_err r ≡ false → AgreesAd (memory w₀ b₀) (memory w' b') (parse s) r → Left (parse s) w' b' r
  unfolding stored_words stored_bytes
  into_ad (Err r) f h = absurd (true≢false f)
  into_ad (Ok c) f (a, e, hd, hn, hm, hl) =
      let k = ((accepts s a).0 e).3 in
      let l₀ : length b₀ ≡ 16384 = ap length hb ∙ length-replicate {A = ℕ} 16384 0 in
      let f₁ : length (ad_nodes 0 0 a) ≤ 4096 = omega (arith, length_ad 0 0 a, k.few_nodes) in
      let f₂ : length (ad_definitions 0 0 a) ≤ 768 = omega (arith, length_entries 0 0 a, k.few_definitions) in
      let f₃ : length (ad_bytes a) ≤ 16384 = omega arith in
      let m₁ : w' ≡ sets (sets w₀ 0 (ad_nodes 0 0 a)) 4096 (ad_definitions 0 0 a) = ap (λ (z : Memory). z.words) hm in
      let m₂ : b' ≡ sets b₀ 0 (ad_bytes a) = ap (λ (z : Memory). z.bytes) hm in
      record {
        answers = rw (e, hd, hn) refl;
        words = rw e (m₁ ∙ rw hw (pad_both (ad_nodes 0 0 a) (ad_definitions 0 0 a) 4096 768 f₁ f₂));
        bytes = rw e (m₂ ∙ rw hb (pad (ad_bytes a) 16384 f₃));
      }

same_err : {r q : Refusal} → r ≡ q → ◌≡◌ {A = Result Counts Refusal} (Err r) (Err q)
same_err e = λ i. Err (e i)

-- refused, and cleared again
pub into_none : (s w₀ b₀ w b w' b' : List ℕ) (r : Result Counts Refusal) → is_err r ≡ true → AgreesAd (memory w₀ b₀) (memory w b) (parse s) r → Cleared w b w' b' → length w ≡ 4864 → length b ≡ 16384 → Left (parse s) w' b' r
into_none s w₀ b₀ w b w' b' (Ok c) f h z hw hb = absurd (true≢false (sym f))
into_none s w₀ b₀ w b w' b' (Err r) f h z hw hb = record {
  answers = rw h (same_err (refusal_numbered r));
  words = rw h (z.words ∙ zeros hw);
  bytes = rw h (z.bytes ∙ zeros hb);
}

pub whole_text : (s w b w' b' : List ℕ) (r : Result Counts Refusal) → 4864 ≤ length w → 16384 ≤ length b → length s ≤ 16384 → Left (parse s) w' b' r → Answered s w b (w' ++ drop 4864 w) (b' ++ drop 16384 b) r
unfolding answer words_after bytes_after read
whole_text s w b w' b' r h h' h'' l = record {
  answers = rw (le-ltb (length w) 4864 h, le-ltb (length b) 16384 h', le-ltb 16384 (length s) h'') l.answers;
  words = rw (le-ltb (length w) 4864 h, le-ltb (length b) 16384 h', le-ltb 16384 (length s) h'') (ap (λ (x : List ℕ). x ++ drop 4864 w) l.words);
  bytes = rw (le-ltb (length w) 4864 h, le-ltb (length b) 16384 h', le-ltb 16384 (length s) h'') (ap (λ (x : List ℕ). x ++ drop 16384 b) l.bytes);
}

-- so many zeros
pub cleared : (l l' : List ℕ) (n : ℕ) → l' ≡ replicate (length l) 0 → length l ≡ n → l' ≡ replicate n 0
cleared l l' n h e = h ∙ zeros e
