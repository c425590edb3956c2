-- Each way through the functions that read a stored ad. Assumes nothing.
use mathlib.Core.Path.{◌≡◌, sym, ap, ◌∙◌}
use mathlib.Core.Logic.{◌≢◌}
use mathlib.Core.Bool.{Bool, true, false, cond}
use mathlib.Core.List.{List, [], ◌∷◌, map}
use Prim.Native.Nat.{ℕ, suc, ◌+◌, ◌-◌, ◌≤◌, ◌<◌}
use native.Mathlib.Numerals.{add-one}
use native.Mathlib.Omega.{arith}
use lib.ListN.{length}
use Rattle.text.specs.Strings.{same_name}
use Rattle.syntax.specs.Bounds.{max_definitions}
use Rattle.graph.specs.Transition.{marked}
use Rattle.ad.specs.Stored.{length_at, offset_at, root_at, bytes_at, definition_count, find_from, find}
use Rattle.names.specs.Inner.Fingerprint.{fingerprint_of}
use Rattle.names.specs.Laws.Matching.{other_fingerprint}
use Rattle.links.specs.Pair.{numbered}
use Rattle.links.specs.Inner.Asked.{Measured, Fingerprints}
use Rattle.links.specs.Inner.Filling.{Filled}
use Rattle.links.specs.Laws.Counting.{nodes_few}

-- ---- fingerprints

-- the fingerprints of both ads
pub prints_both : {v b w c l₀ l₁ l₂ : List ℕ} {d e : ℕ} → d ≡ definition_count v → e ≡ definition_count w → d ≤ max_definitions → max_definitions + max_definitions ≤ length l₂ →
    Filled false v b d l₀ l₁ → Filled true w c e l₁ l₂ → Fingerprints v b w c l₂
prints_both {e = e} p q few r f g = record {
  first_printed = λ j h. g.kept j (λ m k z. apart j m (omega arith) z) ∙ f.filled j (omega arith);
  second_printed = λ j h. g.filled j (omega arith);
  prints_room = r;
}
  where
    apart : (j m : ℕ) → j < max_definitions → j ≢ max_definitions + m
    apart j m h z = omega arith

pub named_not : (x y : List ℕ) {a b : ℕ} → a ≡ fingerprint_of x → b ≡ fingerprint_of y → a ≢ b → false ≡ same_name x y
named_not x y p q n = sym (other_fingerprint x y (λ z. n (p ∙ z ∙ sym q)))

-- ---- a name is looked up

module _ (w b name : List ℕ) (d : ℕ) (e : d ≡ definition_count w) where
  pub sought_first : find w b name ≡ find_from w b name 0 (d - 0)
  unfolding find
  sought_first = ap (find_from w b name 0) (sym e ∙ (let q : d ≡ d - 0 = omega arith in q))

  -- the first j definitions have another name
  module _ (j : ℕ) (s : find w b name ≡ find_from w b name j (d - j)) where
    one_more : j < d → find w b name ≡ cond (same_name (bytes_at b (offset_at w j) (length_at w j)) name) (root_at w j ∷ []) (find_from w b name (suc j) (d - suc j))
    unfolding find_from
    one_more h = s ∙ ap (find_from w b name j) (let q : d - j ≡ suc (d - suc j) = omega arith in q)

    pub sought_next : j < d → false ≡ same_name (bytes_at b (offset_at w j) (length_at w j)) name → find w b name ≡ find_from w b name (j + 1) (d - (j + 1))
    sought_next h f =
        one_more h ∙ ap (λ (t : Bool). cond t (root_at w j ∷ []) (find_from w b name (suc j) (d - suc j))) (sym f)
        ∙ ap (λ (u : ℕ). find_from w b name u (d - u)) (sym (add-one j))

    pub sought_found : (second : Bool) {r y : ℕ} → j < d → true ≡ same_name (bytes_at b (offset_at w j) (length_at w j)) name → y ≡ root_at w j → r ≡ numbered second y →
        suc r ≡ marked (map (numbered second) (find w b name))
    sought_found second {r} {y} h f g k =
        let z : find w b name ≡ root_at w j ∷ [] = one_more h ∙ ap (λ (t : Bool). cond t (root_at w j ∷ []) (find_from w b name (suc j) (d - suc j))) (sym f) in
        ap suc (k ∙ ap (numbered second) g) ∙ sym (ap (λ (l : List ℕ). marked (map (numbered second) l)) z)

    pub sought_none : (second : Bool) → d ≤ j → 0 ≡ marked (map (numbered second) (find w b name))
    unfolding find_from
    sought_none second h =
        let z : find w b name ≡ [] = s ∙ ap (find_from w b name j) (let q : d - j ≡ 0 = omega arith in q) in
        sym (ap (λ (l : List ℕ). marked (map (numbered second) l)) z)

pub root_small : {w : List ℕ} {n d y j : ℕ} → Measured w n d → j < d → y ≡ root_at w j → y < 1024
root_small {w} {j = j} m h q = let e = m.definitions_are in let a = m.formed.roots_in j (omega arith) in let b = nodes_few w in omega arith
