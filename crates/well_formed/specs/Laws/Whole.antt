-- An ad that stands at the front of its memory, with distinct names and zeros behind, is its memory's exact content. Assumes nothing.
use Prim.Native.Nat.{ℕ, zero, suc, ◌+◌, ◌-◌, ◌*◌, ◌≤◌, ◌<◌}
use Rattle.std.proofs.Common.{add-zero, zero-add, sym, ◌∙◌, length-take, length-drop, take-append-drop, drop-drop, get_or-drop, eqb-true}
use native.Mathlib.Omega.{arith}
use Rattle.std.specs.Prelude.{◌≡◌, Bool, true, not, ◌&&◌, get_or}
use Rattle.std.proofs.Math.Path.{refl, ap, subst}
use mathlib.Core.List.{List, [], ◌∷◌, ◌++◌, append_assoc}
use Rattle.std.proofs.Math.ListN.{length, take, drop, replicate, length-append, length-replicate}
use Rattle.std.proofs.lemmas.List.{get_or-replicate}
use Rattle.std.proofs.Math.Seq.{drop_at, take_at, drop-append_seam, take-append-add}
use Rattle.std.proofs.lemmas.Bool.{not-true}
use Rattle.text.specs.Laws.Booleans.{and_left, and_right, and_both}
use Rattle.syntax.specs.Tree.{Definition, Ad, size, nodes}
use Rattle.syntax.specs.Grammar.{defined, NewAfter, Distinct, Within}
use Rattle.syntax.specs.Inner.Lexeme.{every}
use Rattle.ad.specs.Layout.{expr_bytes, ad_bytes, ad_nodes, ad_definitions, stored_words, stored_bytes}
use Rattle.ad.specs.Stored.{offset_at, length_at, bytes_at}
use Rattle.ad.specs.Inner.Names.{defined_in}
use Rattle.ad.specs.Laws.Content.{length_ad, length_entries, padded_length}
use Rattle.ad.specs.Laws.Names.{names_in}
use Rattle.well_formed.specs.WellFormed.{Holds}
use Rattle.well_formed.specs.Laws.Bounds.{bounded, holds}
use Rattle.well_formed.specs.Inner.Decode.{all, ad_at, new_from}
use Rattle.unused_room.specs.Inner.Zeros.{is_zero, zero_behind}
use Rattle.tree_check.specs.Laws.Runs.{Stands, stands_at_lem, stands_as, stands_front, stands_left, stands_right, stands_inside, bytes_are}
use Rattle.well_formed.specs.Laws.Definitions.{Table, offset_is, length_is, AllAd, ad_sound, ad_few, ad_complete}

-- ---- an ad in two parts

pub definitions_append : (n o : ℕ) (a c : Ad) → ad_definitions n o (a ++ c) ≡ ad_definitions n o a ++ ad_definitions (n + nodes a) (o + length (ad_bytes a)) c
unfolding ad_definitions nodes ad_bytes
definitions_append n o [] c = let p = sym (add-zero n) in let q = sym (add-zero o) in λ i. ad_definitions (p i) (q i) c
definitions_append n o (d ∷ a) c =
    let N = n + size d.expression in
    let O = o + length d.name + length (expr_bytes d.expression) in
    let e₁ : N + nodes a ≡ n + (size d.expression + nodes a) = omega arith in
    let e₂ : O + length (ad_bytes a) ≡ o + length (d.name ++ (expr_bytes d.expression ++ ad_bytes a)) = omega (arith, length-append d.name (expr_bytes d.expression ++ ad_bytes a), length-append (expr_bytes d.expression) (ad_bytes a)) in
    ap (λ (l : List ℕ). o ∷ length d.name ∷ (n + size d.expression - 1) ∷ l) (definitions_append N O a c ∙ (λ i. ad_definitions N O a ++ ad_definitions (e₁ i) (e₂ i) c))

pub bytes_append : (a c : Ad) → ad_bytes (a ++ c) ≡ ad_bytes a ++ ad_bytes c
unfolding ad_bytes
bytes_append [] c = refl
bytes_append (d ∷ a) c = rw (bytes_append a c) (sym (append_assoc d.name (expr_bytes d.expression ++ ad_bytes a) (ad_bytes c) ∙ ap (◌++◌ d.name) (append_assoc (expr_bytes d.expression) (ad_bytes a) (ad_bytes c))))

-- ---- distinct names

new_in : Ad → Ad → Bool
new_in a [] = true
new_in a (d ∷ ds) = not (defined d.name a) && new_in (a ++ d ∷ []) ds

new_after : (a ds : Ad) → new_in a ds ≡ true → NewAfter defined a ds
unfolding new_in NewAfter
new_after a [] h = tt
new_after a (d ∷ ds) h =
    let t = not (defined d.name a) in
    let u = new_in (a ++ d ∷ []) ds in
    (not-true (defined d.name a) (and_left t u h), new_after (a ++ d ∷ []) ds (and_right t u h))

after_new : (a ds : Ad) → NewAfter defined a ds → new_in a ds ≡ true
unfolding new_in NewAfter
after_new a [] h = refl
after_new a (d ∷ ds) h = and_both (ap not h.0) (after_new (a ++ d ∷ []) ds h.1)

module _ (w b : List ℕ) where
  name_at : (j n o : ℕ) (d : Definition) (ds : Ad) → Stands w (4096 + 3 * j) (ad_definitions n o (d ∷ ds)) → Stands b o (ad_bytes (d ∷ ds)) → bytes_at b (offset_at w j) (length_at w j) ≡ d.name
  unfolding ad_definitions ad_bytes
  name_at j n o d ds x y =
      let X = ad_definitions (n + size d.expression) (o + length d.name + length (expr_bytes d.expression)) ds in
      rw (offset_is w j o (length d.name) (n + size d.expression - 1) X x, length_is w j o (length d.name) (n + size d.expression - 1) X x)
      (bytes_are b d.name o (stands_left b d.name (expr_bytes d.expression ++ ad_bytes ds) o y))

  names_new : (a ds : Ad) → Stands w (4096 + 3 * 0) (ad_definitions 0 0 (a ++ ds)) → Stands b 0 (ad_bytes (a ++ ds)) → new_from w b (length a) (length ds) ≡ new_in a ds
  unfolding new_from new_in
  names_new a [] h g = refl
  names_new a (d ∷ ds) h g =
      let n = 0 + nodes a in
      let o = 0 + length (ad_bytes a) in
      let D = ad_definitions 0 0 a in
      let h₁ : Stands w (4096 + 3 * 0) (D ++ ad_definitions n o (d ∷ ds)) = stands_as (definitions_append 0 0 a (d ∷ ds)) h in
      let g₁ : Stands b 0 (ad_bytes a ++ ad_bytes (d ∷ ds)) = stands_as (bytes_append a (d ∷ ds)) g in
      let j : 4096 + 3 * 0 + length D ≡ 4096 + 3 * length a = omega (arith, length_entries 0 0 a) in
      let x = stands_at_lem j (stands_right w D (ad_definitions n o (d ∷ ds)) (4096 + 3 * 0) h₁) in
      let y = stands_right b (ad_bytes a) (ad_bytes (d ∷ ds)) 0 g₁ in
      let found : defined_in w b d.name 0 (length a) ≡ defined d.name a = names_in w b d.name 0 0 0 a (drop (4096 + 3 * 0 + length D) w) (drop (0 + length (ad_bytes a)) b) (stands_left w D (ad_definitions n o (d ∷ ds)) (4096 + 3 * 0) h₁).is (stands_left b (ad_bytes a) (ad_bytes (d ∷ ds)) 0 g₁).is in
      let name_is = name_at (length a) n o d ds x y in
      let again : new_from w b (length a + 1) (length ds) ≡ new_in (a ++ d ∷ []) ds =
      ap (λ (k : ℕ). new_from w b k (length ds)) (sym (length-append a (d ∷ [])))
      ∙ names_new (a ++ d ∷ []) ds (stands_as (ap (ad_definitions 0 0) (sym (append_assoc a (d ∷ []) ds))) h) (stands_as (ap ad_bytes (sym (append_assoc a (d ∷ []) ds))) g) in
      rw (name_is, found, again) refl

  pub distinct_of : (a : Ad) → Stands w 4096 (ad_definitions 0 0 a) → Stands b 0 (ad_bytes a) → new_from w b 0 (length a) ≡ true → Distinct a
  distinct_of a h g e = new_after [] a (sym (names_new [] a h g) ∙ e)

  pub of_distinct : (a : Ad) → Stands w 4096 (ad_definitions 0 0 a) → Stands b 0 (ad_bytes a) → Distinct a → new_from w b 0 (length a) ≡ true
  of_distinct a h g d = names_new [] a h g ∙ after_new [] a d

-- ---- zeros

pub zeros_are : (l : List ℕ) → every is_zero l ≡ true → l ≡ replicate (length l) 0
unfolding every
zeros_are [] h = refl
zeros_are (x ∷ l) h = let e = eqb-true x 0 (and_left (is_zero x) (every is_zero l) h) in λ i. e i ∷ zeros_are l (and_right (is_zero x) (every is_zero l) h) i

pub are_zeros : (n : ℕ) → every is_zero (replicate n 0) ≡ true
unfolding every
are_zeros zero = refl
are_zeros (suc n) = are_zeros n

-- behind d definitions, n nodes and k bytes all is zero
pub record Zeros (w b : List ℕ) (d n k : ℕ) : Type 0 where
  pub nodes_zero : take (4096 - 4 * n) (drop (4 * n) w) ≡ replicate (4096 - 4 * n) 0
  pub entries_zero : drop (4096 + 3 * d) w ≡ replicate (768 - 3 * d) 0
  pub bytes_zero : drop k b ≡ replicate (16384 - k) 0

module _ (w b : List ℕ) (hw : length w ≡ 4864) (hb : length b ≡ 16384) where
  -- the memory of N words for the nodes xs, then M words for the definitions ds
  pub table_words_lem : (N M : ℕ) (xs ds : List ℕ) → length xs ≤ N → drop 0 w ≡ xs ++ drop (0 + length xs) w → take (N - length xs) (drop (0 + length xs) w) ≡ replicate (N - length xs) 0 →
      drop N w ≡ ds ++ replicate (M - length ds) 0 → w ≡ (xs ++ replicate (N - length xs) 0) ++ (ds ++ replicate (M - length ds) 0)
  table_words_lem N M xs ds h e z g =
      let c : N ≡ length xs + (N - length xs) = omega arith in
      let t : take N w ≡ xs ++ replicate (N - length xs) 0 = (λ i. take (c i) (e i)) ∙ (take-append-add xs (drop (0 + length xs) w) (N - length xs) ∙ ap (◌++◌ xs) z) in
      sym (take-append-drop N w) ∙ (λ i. t i ++ g i)

  pub table_holds : (a : Ad) → Table w b 0 0 0 a → length a ≤ 256 → new_from w b 0 (length a) ≡ true → Zeros w b (length a) (nodes a) (length (ad_bytes a)) → Holds w b a
  unfolding stored_words stored_bytes
  table_holds a t few new z =
      let N = ad_nodes 0 0 a in
      let D = ad_definitions 0 0 a in
      let l_n = length_ad 0 0 a in
      let l_d = length_entries 0 0 a in
      let small : nodes a ≤ 1024 = omega (arith, t.few) in
      let e₁ : take (4096 - length N) (drop (0 + length N) w) ≡ replicate (4096 - length N) 0 = subst (λ (k : ℕ). take (4096 - k) (drop (0 + k) w) ≡ replicate (4096 - k) 0) (sym l_n) (ap (λ (k : ℕ). take (4096 - 4 * nodes a) (drop k w)) (zero-add (4 * nodes a)) ∙ z.nodes_zero) in
      let e₂ : drop (4096 + length D) w ≡ replicate (768 - length D) 0 = subst (λ (k : ℕ). drop (4096 + k) w ≡ replicate (768 - k) 0) (sym l_d) z.entries_zero in
      let fits : length (ad_bytes a) ≤ 16384 = inside (ad_bytes a) t.bytes in
      let within : Within a = record { few_definitions = few; few_nodes = small; distinct = distinct_of w b a t.entries t.bytes new } in
      holds (record { within = within; writable = t.writable; shallow = t.shallow }) fits
      (table_words_lem 4096 768 N D (omega arith) t.words.is e₁ (t.entries.is ∙ ap (◌++◌ D) e₂))
      (t.bytes.is ∙ ap (◌++◌ (ad_bytes a)) (ap (λ (k : ℕ). drop k b) (zero-add (length (ad_bytes a))) ∙ z.bytes_zero))
    where
      inside : (l : List ℕ) → Stands b 0 l → length l ≤ 16384
      inside [] h = omega arith
      inside (x ∷ l) h = omega (arith, stands_inside b (x ∷ l) 0 h (omega arith))

  -- ---- and back

  pub holds_table : (a : Ad) → Holds w b a → Table w b 0 0 0 a × Zeros w b (length a) (nodes a) (length (ad_bytes a))
  unfolding stored_words stored_bytes
  holds_table a h =
      let N = ad_nodes 0 0 a in
      let D = ad_definitions 0 0 a in
      let B = ad_bytes a in
      let l_n = length_ad 0 0 a in
      let l_d = length_entries 0 0 a in
      let g = bounded h in
      let few : nodes a ≤ 1024 = g.within.few_nodes in
      let small : length a ≤ 256 = g.within.few_definitions in
      let fits : length B ≤ 16384 = h.fits in
      let x = split_words 4096 768 N D (omega arith) h.words in
      let y : drop (length B) b ≡ replicate (16384 - length B) 0 = ap (drop (length B)) h.bytes ∙ drop-append_seam B (replicate (16384 - length B) 0) in (
        record {
          writable = g.writable;
          shallow = g.shallow;
          few = omega arith;
          words = stands_front w N _ 0 (h.words ∙ append_assoc N (replicate (4096 - length N) 0) (D ++ replicate (768 - length D) 0));
          entries = stands_front w D (replicate (768 - length D) 0) 4096 x.1;
          bytes = stands_front b B (replicate (16384 - length B) 0) 0 h.bytes;
        },
        record {
          nodes_zero = subst (λ (k : ℕ). take (4096 - k) (drop k w) ≡ replicate (4096 - k) 0) l_n x.0;
          entries_zero = subst (λ (k : ℕ). drop (4096 + k) w ≡ replicate (768 - k) 0) l_d (sym (drop-drop (length D) 4096 w) ∙ (ap (drop (length D)) x.1 ∙ drop-append_seam D (replicate (768 - length D) 0)));
          bytes_zero = y;
        },
      )
    where
      split_words : (N M : ℕ) (xs ds : List ℕ) → length xs ≤ N → w ≡ (xs ++ replicate (N - length xs) 0) ++ (ds ++ replicate (M - length ds) 0) →
          (take (N - length xs) (drop (length xs) w) ≡ replicate (N - length xs) 0) × (drop N w ≡ ds ++ replicate (M - length ds) 0)
      split_words N M xs ds fits e =
          let Z : List ℕ = replicate (N - length xs) 0 in
          let Y = ds ++ replicate (M - length ds) 0 in
          let l_z : length Z ≡ N - length xs = length-replicate {A = ℕ} (N - length xs) 0 in
          let l : length (xs ++ Z) ≡ N = omega (arith, length-append xs Z, l_z) in (
            ap (λ (v : List ℕ). take (N - length xs) (drop (length xs) v)) (e ∙ append_assoc xs Z Y) ∙ (ap (take (N - length xs)) (drop-append_seam xs (Z ++ Y)) ∙ take_at Z Y (N - length xs) l_z),
            ap (drop N) e ∙ drop_at (xs ++ Z) Y N l,
          )

  -- behind the last definition none is named
  pub stop_zero : (d n k : ℕ) → Zeros w b d n k → d < 256 → length_at w (0 + d) ≡ 0
  stop_zero d n k z h =
      let e : 4096 + 3 * (0 + d) + 1 ≡ 4096 + 3 * d + 1 = omega arith in
      ap (λ (m : ℕ). get_or w m 0) e ∙ (sym (get_or-drop (4096 + 3 * d) w 1 0) ∙ (ap (λ (l : List ℕ). get_or l 1 0) z.entries_zero ∙ get_or-replicate (768 - 3 * d) 1 0 0 (omega arith)))

  -- ---- the tests

  zeros_of : (d n k : ℕ) → d ≤ 256 → n ≤ 1024 → zero_behind w b d n k ≡ true → Zeros w b d n k
  zeros_of d n k hd hn h =
      let P = every is_zero (take (4096 - 4 * n) (drop (4 * n) w)) in
      let Q = every is_zero (drop (4096 + 3 * d) w) in
      let R = every is_zero (drop k b) in
      let t = and_right P (Q && R) h in
      let l₁ : length (take (4096 - 4 * n) (drop (4 * n) w)) ≡ 4096 - 4 * n = omega (arith, length-take (4096 - 4 * n) (drop (4 * n) w), length-drop (4 * n) w) in
      let l₂ : length (drop (4096 + 3 * d) w) ≡ 768 - 3 * d = omega (arith, length-drop (4096 + 3 * d) w) in
      let l₃ : length (drop k b) ≡ 16384 - k = omega (arith, length-drop k b) in
      record {
        nodes_zero = zeros_are (take (4096 - 4 * n) (drop (4 * n) w)) (and_left P (Q && R) h) ∙ ap (λ (m : ℕ). replicate m 0) l₁;
        entries_zero = zeros_are (drop (4096 + 3 * d) w) (and_left Q R t) ∙ ap (λ (m : ℕ). replicate m 0) l₂;
        bytes_zero = zeros_are (drop k b) (and_right Q R t) ∙ ap (λ (m : ℕ). replicate m 0) l₃;
      }

  of_zeros : (d n k : ℕ) → Zeros w b d n k → zero_behind w b d n k ≡ true
  of_zeros d n k z = and_both (ap (every is_zero) z.nodes_zero ∙ are_zeros (4096 - 4 * n)) (and_both (ap (every is_zero) z.entries_zero ∙ are_zeros (768 - 3 * d)) (ap (every is_zero) z.bytes_zero ∙ are_zeros (16384 - k)))

  -- an ad that the memory holds is found, and passes both tests
  pub holds_found : (a : Ad) → Holds w b a → (ad_at 256 w b 0 0 0 ≡ all a) × ((new_from w b 0 (length a) && zero_behind w b (length a) (nodes a) (length (ad_bytes a))) ≡ true)
  holds_found a h =
      let x = holds_table a h in
      let g = (bounded h).within in
      let t = x.0 in
      let z = x.1 in (
        ad_complete a 256 w b 0 0 0 t g.few_definitions (λ lt. stop_zero (length a) (nodes a) (length (ad_bytes a)) z lt),
        and_both (of_distinct w b a t.entries t.bytes g.distinct) (of_zeros (length a) (nodes a) (length (ad_bytes a)) z),
      )

  -- an ad that is found and passes both tests is what the memory holds
  pub found_holds : (a : Ad) → ad_at 256 w b 0 0 0 ≡ all a → (new_from w b 0 (length a) && zero_behind w b (length a) (nodes a) (length (ad_bytes a))) ≡ true → Holds w b a
  found_holds a e h =
      let t : Table w b 0 0 0 a = subst (AllAd (Table w b 0 0 0)) e (ad_sound 256 w b 0 0 0 (omega arith) (omega arith) (omega arith)) in
      let few : length a ≤ 256 = subst (AllAd (λ c. length c ≤ 256)) e (ad_few 256 w b 0 0 0) in
      let N = new_from w b 0 (length a) in
      let Z = zero_behind w b (length a) (nodes a) (length (ad_bytes a)) in
      table_holds a t few (and_left N Z h) (zeros_of (length a) (nodes a) (length (ad_bytes a)) few (omega (arith, t.few)) (and_right N Z h))

pub holds_long : {w b : List ℕ} (a : Ad) → Holds w b a → (length w ≡ 4864) × (length b ≡ 16384)
unfolding stored_words stored_bytes
holds_long {w} {b} a h =
    let N = ad_nodes 0 0 a in
    let D = ad_definitions 0 0 a in
    let f = (bounded h).within.few_nodes in
    let g = (bounded h).within.few_definitions in
    let p = padded_length 4096 N (omega (arith, length_ad 0 0 a)) in
    let q = padded_length 768 D (omega (arith, length_entries 0 0 a)) in
    (ap length h.words ∙ (length-append (N ++ replicate (4096 - length N) 0) (D ++ replicate (768 - length D) 0) ∙ (omega arith)), ap length h.bytes ∙ padded_length 16384 (ad_bytes a) h.fits)
