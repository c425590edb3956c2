-- The ad that is found is the one that stands there, and one that stands there is found. Assumes nothing.
use Rattle.std.specs.Prelude.{ℕ, zero, suc, ◌+◌, ◌-◌, ◌*◌, ◌≤◌, ◌<◌, ◌≡◌, refl, Bool, true, false, ◌&&◌, List, [], ◌∷◌, ◌++◌, get_or, drop, ltb, leb, eqb}
use Rattle.std.proofs.Common.{add-zero, sym, ◌∙◌, ap, subst, drop-cons, get_or-drop, ltb-true, leb-true, eqb-true, lt-ltb, le-leb, eq-eqb, ne_eqb}
use native.Mathlib.Omega.{arith}
use Rattle.std.proofs.Math.ListN.{length}
use Rattle.text.specs.Laws.Booleans.{and_left, and_right, and_both}
use Rattle.syntax.specs.Bounds.{max_nodes, max_level}
use Rattle.syntax.specs.Tree.{Expr, Definition, Ad, size, nodes}
use Rattle.syntax.specs.Token.{pick}
use Rattle.syntax.specs.Print.{level_of, ad_level}
use Rattle.syntax.specs.Inner.Lexeme.{is_name}
use Rattle.syntax.proofs.Laws.FrontTokens.{name_some}
use Rattle.ad.specs.Layout.{expr_bytes, expr_nodes, ad_bytes, ad_nodes, ad_definitions}
use Rattle.ad.specs.Stored.{offset_at, length_at, root_at, bytes_at}
use Rattle.ad.specs.Laws.Content.{length_nodes, size_some}
use Rattle.round_trip.specs.Bounded.{is_writable, are_writable}
use Rattle.tree_check.specs.Inner.Decode.{Found, got, bad, tree_at, stands_at}
use Rattle.well_formed.specs.Inner.Decode.{FoundAd, all, none, chain_ad, with_tree, test_ad, entry_fits, ad_at}
use Rattle.tree_check.specs.Laws.Runs.{Stands, stands_none, stands_at_lem, stands_as, stands_join, stands_left, stands_right, bytes_of, bytes_are}
use Rattle.tree_check.specs.Laws.Leaves.{All, Run}
use Rattle.tree_check.specs.Laws.Trees.{tree_sound, tree_complete}

-- ---- the words of a definition

entry_of : (w : List ℕ) (j : ℕ) → 4096 + 3 * j + 3 ≤ length w → Stands w (4096 + 3 * j) (offset_at w j ∷ length_at w j ∷ root_at w j ∷ [])
entry_of w j h =
    let i₁ : suc (4096 + 3 * j) ≡ 4096 + 3 * j + 1 = omega arith in
    let i₂ : suc (4096 + 3 * j + 1) ≡ 4096 + 3 * j + 2 = omega arith in
    let i₃ : suc (4096 + 3 * j + 2) ≡ 4096 + 3 * j + 3 = omega arith in
    record {
      is = one (4096 + 3 * j) (4096 + 3 * j + 1) (omega arith) i₁ ∙ ap (λ (l : List ℕ). offset_at w j ∷ l)
          (one (4096 + 3 * j + 1) (4096 + 3 * j + 2) (omega arith) i₂ ∙ ap (λ (l : List ℕ). length_at w j ∷ l)
          (one (4096 + 3 * j + 2) (4096 + 3 * j + 3) (omega arith) i₃));
    }
  where
    one : (p q : ℕ) → p < length w → suc p ≡ q → drop p w ≡ get_or w p 0 ∷ drop q w
    one p q lt e = drop-cons w p 0 lt ∙ ap (λ (m : ℕ). get_or w p 0 ∷ drop m w) e

module _ (w : List ℕ) (j o l r : ℕ) (X : List ℕ) (h : Stands w (4096 + 3 * j) (o ∷ l ∷ r ∷ X)) where
  word : (m : ℕ) → get_or w (4096 + 3 * j + m) 0 ≡ get_or ((o ∷ l ∷ r ∷ X) ++ drop (4096 + 3 * j + length (o ∷ l ∷ r ∷ X)) w) m 0
  word m = sym (get_or-drop (4096 + 3 * j) w m 0) ∙ ap (λ (x : List ℕ). get_or x m 0) h.is

  pub offset_is : offset_at w j ≡ o
  offset_is = ap (λ (n : ℕ). get_or w n 0) (sym (add-zero (4096 + 3 * j))) ∙ word 0

  pub length_is : length_at w j ≡ l
  length_is = word 1

  root_is : root_at w j ≡ r
  root_is = word 2

  entries_behind : Stands w (4096 + 3 * (j + 1)) X
  entries_behind = stands_at_lem (let e : 4096 + 3 * j + 3 ≡ 4096 + 3 * (j + 1) = omega arith in e) (stands_right w (o ∷ l ∷ r ∷ []) X (4096 + 3 * j) h)

-- ---- SOUND

-- the definitions a, from the number j on, whose nodes begin at n and whose bytes begin at o
pub record Table (w b : List ℕ) (j n o : ℕ) (a : Ad) : Type 0 where
  pub writable : are_writable a ≡ true
  pub shallow : ad_level a ≤ max_level
  pub few : n + nodes a ≤ max_nodes
  pub words : Stands w (4 * n) (ad_nodes n o a)
  pub entries : Stands w (4096 + 3 * j) (ad_definitions n o a)
  pub bytes : Stands b o (ad_bytes a)

abbrev pub AllAd : (Ad → Type 0) → FoundAd → Type 0
AllAd P (all a) = P a
AllAd P none = Unit {0}

module _ (P : Ad → Type 0) where
  on_test_ad : (t : Bool) (go : Unit {0} → FoundAd) → (t ≡ true → AllAd P (go tt)) → AllAd P (test_ad t go)
  on_test_ad true go f = f refl
  on_test_ad false go f = tt

  on_tree : (Q : Expr → Type 0) (x : Found) (go : Expr → FoundAd) → All Q x → ((e : Expr) → Q e → AllAd P (go e)) → AllAd P (with_tree x go)
  on_tree Q (got e) go h f = f e h
  on_tree Q bad go h f = tt

  on_chain_ad : (Q : Ad → Type 0) (x : FoundAd) (go : Ad → FoundAd) → AllAd Q x → ((a : Ad) → Q a → AllAd P (go a)) → AllAd P (chain_ad x go)
  on_chain_ad Q (all a) go h f = f a h
  on_chain_ad Q none go h f = tt

  on_pick_ad : (t : Bool) (go else : Unit {0} → FoundAd) → (t ≡ true → AllAd P (go tt)) → (t ≡ false → AllAd P (else tt)) → AllAd P (pick t go else)
  on_pick_ad true go else f g = f refl
  on_pick_ad false go else f g = g refl

empty_table : (w b : List ℕ) (j n o : ℕ) → n ≤ 1024 → Table w b j n o []
unfolding are_writable ad_level nodes ad_nodes ad_definitions ad_bytes
empty_table w b j n o h = record {
  writable = refl;
  shallow = omega arith;
  few = omega arith;
  words = stands_none w (4 * n);
  entries = stands_none w (4096 + 3 * j);
  bytes = stands_none b o;
}

module _ {w b : List ℕ} {j n o r : ℕ} where
  more_table : (l : List ℕ) (e : Expr) (a : Ad) → is_name l ≡ true → Stands b o l → level_of e ≤ max_level → Run w b n r (o + length l) e →
      Stands w (4096 + 3 * j) (o ∷ length l ∷ r ∷ []) → Table w b (j + 1) (r + 1) (o + length l + length (expr_bytes e)) a →
      Table w b j n o (record { name = l; expression = e } ∷ a)
  unfolding are_writable ad_level nodes ad_nodes ad_definitions ad_bytes
  more_table l e a name_ok stands level run row rest =
      let z = run.long in
      let c : r + 1 ≡ n + size e = omega arith in
      let c' : r ≡ n + size e - 1 = omega arith in
      let p : 4 * (r + 1) ≡ 4 * n + length (expr_nodes n (o + length l) e) = omega (arith, length_nodes n (o + length l) e) in
      let q : 4096 + 3 * (j + 1) ≡ 4096 + 3 * j + 3 = omega arith in
      let O = o + length l + length (expr_bytes e) in
      record {
        writable = and_both name_ok (and_both run.writable rest.writable);
        shallow = omega (arith, rest.shallow);
        few = omega (arith, rest.few);
        words = stands_join run.words (stands_at_lem p (stands_as (ap (λ (m : ℕ). ad_nodes m O a) c) rest.words));
        entries = stands_join {xs = o ∷ length l ∷ (n + size e - 1) ∷ []} (stands_as (ap (λ (m : ℕ). o ∷ length l ∷ m ∷ []) c') row) (stands_at_lem q (stands_as (ap (λ (m : ℕ). ad_definitions m O a) c) rest.entries));
        bytes = stands_join stands (stands_join run.bytes rest.bytes);
      }

pub ad_sound : (k : ℕ) (w b : List ℕ) (j n o : ℕ) → n ≤ 1024 → k + j ≤ 256 → 4864 ≤ length w → AllAd (Table w b j n o) (ad_at k w b j n o)
unfolding ad_at
ad_sound zero w b j n o h g f = empty_table w b j n o h
ad_sound (suc k) w b j n o h g f =
    let L = length_at w j in
    let l = bytes_at b o L in
    let r = root_at w j in
    let T = Table w b j n o in
    let S = stands_at b o (offset_at w j) L in
    on_pick_ad T (eqb L 0) _ _ (λ _. empty_table w b j n o h) λ _.
    on_test_ad T (entry_fits w b j n o) _ λ t.
    let left = and_left (S && is_name l) (leb n r && ltb r max_nodes) t in
    let right = and_right (S && is_name l) (leb n r && ltb r max_nodes) t in
    let s = and_left S (is_name l) left in
    let at : offset_at w j ≡ o = eqb-true _ _ (and_left (eqb (offset_at w j) o) (eqb (length l) L) s) in
    let long : length l ≡ L = eqb-true _ _ (and_right (eqb (offset_at w j) o) (eqb (length l) L) s) in
    let few : r < 1024 = ltb-true r 1024 (and_right (leb n r) (ltb r max_nodes) right) in
    on_tree T (Run w b n r (o + L)) (tree_at (suc r) w b n r (o + L)) _ (tree_sound (suc r) w b n r (o + L) (omega arith)) λ e run.
    on_test_ad T (leb (level_of e) max_level) _ λ v.
    on_chain_ad T (Table w b (j + 1) (r + 1) (o + L + length (expr_bytes e))) (ad_at k w b (j + 1) (r + 1) (o + L + length (expr_bytes e))) _ (ad_sound k w b (j + 1) (r + 1) (o + L + length (expr_bytes e)) (omega arith) (omega arith) f) λ a rest.
    more_table l e a (and_right S (is_name l) left) (bytes_of b o L) (leb-true (level_of e) max_level v)
    (subst (λ (m : ℕ). Run w b n r (o + m) e) (sym long) run)
    (stands_as (λ m. at m ∷ sym long m ∷ r ∷ []) (entry_of w j (omega arith)))
    (subst (λ (m : ℕ). Table w b (j + 1) (r + 1) (o + m + length (expr_bytes e)) a) (sym long) rest)

-- no more definitions are found than are looked for
pub ad_few : (k : ℕ) (w b : List ℕ) (j n o : ℕ) → AllAd (λ a. length a ≤ k) (ad_at k w b j n o)
unfolding ad_at
ad_few zero w b j n o = omega arith
ad_few (suc k) w b j n o =
    let P : Ad → Type 0 = λ a. length a ≤ suc k in
    on_pick_ad P (eqb (length_at w j) 0) _ _ (λ _. omega arith) λ _.
    on_test_ad P (entry_fits w b j n o) _ λ _.
    on_tree P (λ _. Unit {0}) (tree_at (suc (root_at w j)) w b n (root_at w j) (o + length_at w j)) _ (any (tree_at (suc (root_at w j)) w b n (root_at w j) (o + length_at w j))) λ e _.
    on_test_ad P (leb (level_of e) max_level) _ λ _.
    on_chain_ad P (λ a. length a ≤ k) (ad_at k w b (j + 1) (root_at w j + 1) (o + length_at w j + length (expr_bytes e))) _ (ad_few k w b (j + 1) (root_at w j + 1) (o + length_at w j + length (expr_bytes e))) λ a h.
    omega arith
  where
    any : (x : Found) → All (λ _. Unit {0}) x
    any (got e) = tt
    any bad = tt

-- ---- COMPLETE

-- the first definition of some, and those behind it
pub record Row (w b : List ℕ) (j n o : ℕ) (d : Definition) (a : Ad) : Type 0 where
  pub offset : offset_at w j ≡ o
  pub long : length_at w j ≡ length d.name
  pub root : root_at w j ≡ n + size d.expression - 1
  pub name_ok : is_name d.name ≡ true
  pub name_stands : Stands b o d.name
  pub shallow : level_of d.expression ≤ max_level
  pub run : Run w b n (n + size d.expression - 1) (o + length d.name) d.expression
  pub rest : Table w b (j + 1) (n + size d.expression) (o + length d.name + length (expr_bytes d.expression)) a

pub table_row : {w b : List ℕ} {j n o : ℕ} {d : Definition} {a : Ad} → Table w b j n o (d ∷ a) → Row w b j n o d a
unfolding are_writable ad_level nodes ad_nodes ad_definitions ad_bytes
table_row {w} {b} {j} {n} {o} {d} {a} t =
    let l = d.name in
    let e = d.expression in
    let O = o + length l + length (expr_bytes e) in
    let X = ad_definitions (n + size e) O a in
    let R = n + size e - 1 in
    let some = size_some e in
    let m = and_right (is_name l) (is_writable e && are_writable a) t.writable in
    let b₂ = stands_right b l (expr_bytes e ++ ad_bytes a) o t.bytes in
    let N = expr_nodes n (o + length l) e in
    let N' = ad_nodes (n + size e) O a in
    let p : 4 * n + length N ≡ 4 * (n + size e) = omega (arith, length_nodes n (o + length l) e) in
    record {
      offset = offset_is w j o (length l) R X t.entries;
      long = length_is w j o (length l) R X t.entries;
      root = root_is w j o (length l) R X t.entries;
      name_ok = and_left (is_name l) (is_writable e && are_writable a) t.writable;
      name_stands = stands_left b l (expr_bytes e ++ ad_bytes a) o t.bytes;
      shallow = omega (arith, t.shallow);
      run = record {
        writable = and_left (is_writable e) (are_writable a) m;
        long = omega arith;
        words = stands_left w N N' (4 * n) t.words;
        bytes = stands_left b (expr_bytes e) (ad_bytes a) (o + length l) b₂;
      };
      rest = record {
        writable = and_right (is_writable e) (are_writable a) m;
        shallow = omega (arith, t.shallow);
        few = omega (arith, t.few);
        words = stands_at_lem p (stands_right w N N' (4 * n) t.words);
        entries = entries_behind w j o (length l) R X t.entries;
        bytes = stands_right b (expr_bytes e) (ad_bytes a) (o + length l) b₂;
      };
    }

pub ad_complete : (a : Ad) (k : ℕ) (w b : List ℕ) (j n o : ℕ) → Table w b j n o a → length a ≤ k → (length a < k → length_at w (j + length a) ≡ 0) → ad_at k w b j n o ≡ all a
unfolding ad_at nodes
ad_complete [] zero w b j n o t h z = refl
ad_complete [] (suc k) w b j n o t h z = let e : length_at w j ≡ 0 = ap (length_at w) (sym (add-zero j)) ∙ z (omega arith) in rw e refl
ad_complete (d ∷ a) zero w b j n o t h z = absurd (omega arith)
ad_complete (d ∷ a) (suc k) w b j n o t h z =
    let l = d.name in
    let e = d.expression in
    let O = o + length l + length (expr_bytes e) in
    let R = n + size e - 1 in
    let some = size_some e in
    let row = table_row t in
    let c : R + 1 ≡ n + size e = omega arith in
    rw (row.offset, row.long, row.root, ne_eqb (length l) 0 (λ q. omega (arith, name_some l row.name_ok)), bytes_are b l o row.name_stands, eq-eqb o o refl, eq-eqb (length l) (length l) refl, row.name_ok, le-leb n R (omega arith), lt-ltb R max_nodes (omega (arith, t.few)), tree_complete e w b n R (o + length l) row.run (suc R) (omega arith), le-leb (level_of e) max_level row.shallow, c, ad_complete a k w b (j + 1) (n + size e) O row.rest (omega arith) (λ q. ap (length_at w) (let i : j + 1 + length a ≡ j + suc (length a) = omega arith in i) ∙ z (omega arith))) refl
