-- A name looked up in a stored ad is looked up in its tree. Assumes nothing.
use Rattle.std.specs.Prelude.{◌≡◌, replicate}
use Rattle.std.proofs.Math.Path.{refl, sym, ap}
use Rattle.std.proofs.Common.{◌∙◌, drop-drop}
use mathlib.Core.List.{List, [], ◌∷◌, ◌++◌, append_assoc}
use Prim.Native.Nat.{ℕ, suc, ◌+◌, ◌-◌, ◌*◌, ◌<◌}
use native.Mathlib.Omega.{arith}
use Rattle.std.proofs.Math.ListN.{length, get_or, take, drop}
use Rattle.std.proofs.Math.Seq.{take-append_seam, drop-append_seam}
use Rattle.syntax.specs.Tree.{Ad, size}
use Rattle.ad.specs.Layout.{node_words, ad_bytes_room, expr_bytes, ad_bytes, ad_definitions, stored_bytes}
use Rattle.ad.specs.Stored.{offset_at, length_at, root_at, bytes_at, definition_count, find_from, find}
use Rattle.links.specs.Pair.{definition_at, StoredAd}
use Rattle.links.specs.Laws.Layout.{stored_definitions, stored_behind}

module _ (w b name : List ℕ) where
  find_from_lem : (n o j : ℕ) (ds : Ad) (rest : List ℕ) →
      ((i : ℕ) → i < 3 * length ds → get_or w (node_words + 3 * j + i) 0 ≡ get_or (ad_definitions n o ds) i 0) → drop o b ≡ ad_bytes ds ++ rest →
      find_from w b name j (length ds) ≡ definition_at n name ds
  unfolding find_from definition_at ad_definitions ad_bytes
  find_from_lem n o j [] rest h e = refl
  find_from_lem n o j (d ∷ ds) rest h e =
      let s : ℕ = size d.expression in
      let x : ℕ = length d.name in
      let y : ℕ = length (expr_bytes d.expression) in
      let offset : offset_at w j ≡ o = ap (λ (u : ℕ). get_or w u 0) (let q : node_words + 3 * j ≡ node_words + 3 * j + 0 = omega arith in q) ∙ h 0 (omega arith) in
      let long : length_at w j ≡ x = h 1 (omega arith) in
      let root : root_at w j ≡ n + s - 1 = h 2 (omega arith) in
      let front : drop o b ≡ d.name ++ (expr_bytes d.expression ++ (ad_bytes ds ++ rest)) = e ∙ append_assoc d.name (expr_bytes d.expression ++ ad_bytes ds) rest ∙ ap (λ (u : List ℕ). d.name ++ u) (append_assoc (expr_bytes d.expression) (ad_bytes ds) rest) in
      let named : bytes_at b (offset_at w j) (length_at w j) ≡ d.name =
      ap (λ (u : ℕ). take (length_at w j) (drop u b)) offset ∙ ap (λ (u : ℕ). take u (drop o b)) long ∙ ap (take x) front ∙ take-append_seam d.name _ in
      let behind : drop (o + x + y) b ≡ ad_bytes ds ++ rest =
      sym (drop-drop y (o + x) b) ∙ ap (drop y) (sym (drop-drop x o b) ∙ ap (drop x) front ∙ drop-append_seam d.name _) ∙ drop-append_seam (expr_bytes d.expression) _ in
      let next = find_from_lem (n + s) (o + x + y) (suc j) ds rest
      (λ i l. ap (λ (u : ℕ). get_or w u 0) (let q : node_words + 3 * suc j + i ≡ node_words + 3 * j + suc (suc (suc i)) = omega arith in q) ∙ h (suc (suc (suc i))) (omega arith)) behind in
      rw (named, root, next) refl

-- A NAME LOOKED UP IN A STORED AD IS LOOKED UP IN ITS TREE: '`name` finds its definition'
pub find_tree : {w b : List ℕ} {a : Ad} → StoredAd w b a → (name : List ℕ) → find w b name ≡ definition_at 0 name a
unfolding find stored_bytes
find_tree {w} {b} {a} s name =
    ap (find_from w b name 0) (ap definition_count s.words ∙ stored_definitions a s.few_nodes s.few_definitions s.named)
    ∙ find_from_lem w b name 0 0 0 a (replicate (ad_bytes_room - length (ad_bytes a)) 0)
    (λ i h. ap (λ (u : List ℕ). get_or u (node_words + i) 0) s.words ∙ stored_behind a s.few_nodes s.few_definitions s.named i h) s.bytes_are
