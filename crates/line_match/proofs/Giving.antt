-- What a line gives, by the place of its tab. Assumes nothing.
use Prim.Native.Nat.{ℕ, suc, ◌+◌, ◌-◌, ◌≤◌, ◌<◌}
use Prim.Native.Char.{code}
use native.Mathlib.Omega.{arith}
use mathlib.Core.Path.{◌≡◌, refl, sym, ap, ◌∙◌, subst}
use mathlib.Core.List.{List}
use lib.ListN.{length, take, drop, length-drop}
use lib.Seq.{take_all}
use Rattle.lines.specs.Lines.{ad, entry_of, up_to}
use Rattle.lines.proofs.Laws.Cutting.{up_to_short, no_tab, behind_tab}
use Rattle.syntax.specs.Reader.{read, denied}
use Rattle.ad.specs.Layout.{stored_words}
use Rattle.matching.specs.Matching.{Match}
use Rattle.matching.specs.declared.Outcome.{Outcome}
use Rattle.std.proofs.Common.{Ok, Err}
use Rattle.syntax.specs.Refusals.{refusal}
use Rattle.syntax.specs.declared.Refusal.{Refusal}
use Rattle.ad.specs.declared.Counts.{Counts}
use Rattle.line_match.specs.LineMatch.{LineLeaves, untabbed, refused, matched, line_budget}
use Rattle.line_match.proofs.Reading.{Read}

-- a part up to the end
pub to_end : (n : ℕ) (l : List ℕ) → take (length l - n) (drop n l) ≡ drop n l
to_end n l = take_all (length l - n) (drop n l) (omega (arith, length-drop n l))

-- the text behind the tab
entry : (line : List ℕ) (tab : ℕ) → tab ≡ 0 + length (up_to (code "\t") line) → tab < length line → {s : List ℕ} → s ≡ drop (tab + 1) line → entry_of line ≡ ad s
entry line tab e h {s} behind =
    let k : length (up_to (code "\t") line) < length line = omega arith in
    let q : suc (length (up_to (code "\t") line)) ≡ tab + 1 = omega arith in
    behind_tab line k ∙ ap (λ (n : ℕ). ad (drop n line)) q ∙ sym (ap ad behind)

module _ {v b line w c table list : List ℕ} {tab : ℕ} (at_tab : tab ≡ 0 + length (up_to (code "\t") line)) where
  pub line_untabbed : length line ≤ tab → LineLeaves v b line w c table list (Err (refusal 4 tab))
  line_untabbed h =
      let e : length (up_to (code "\t") line) ≡ length line = omega (arith, up_to_short (code "\t") line) in
      let f : tab ≡ length line = omega arith in
      untabbed (no_tab line e) (ap (λ (p : ℕ). Err (refusal 4 p)) f)

  module _ (inside : tab < length line) {s : List ℕ} (behind : s ≡ drop (tab + 1) line) where
    pub line_refused : {r : Refusal} {k p : ℕ} → read s ≡ denied k p → r ≡ refusal k p → LineLeaves v b line w c table list (Err r)
    line_refused e f = refused (entry line tab at_tab inside behind) e (ap Err f)

    pub line_matched : {k : Counts} {o : Outcome} → Read s w c k → Match v b w c line_budget table list o → LineLeaves v b line w c table list (Ok o)
    line_matched {o = o} x m =
        matched (entry line tab at_tab inside behind) x.reads x.words_are x.bytes_are refl
        (subst (λ (l : List ℕ). Match v b (stored_words x.tree) l line_budget table list o) x.bytes_are
        (subst (λ (l : List ℕ). Match v b l c line_budget table list o) x.words_are m))
