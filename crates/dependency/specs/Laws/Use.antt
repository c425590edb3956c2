-- The traversal as it is used: cleared memory is what it asks besides two stored ads, and when it is over, what a node's marks lead to are
-- its needs. Assumes nothing.
use Rattle.std.specs.Prelude.{◌≡◌, refl, Bool, true, false, cond, List, [], ℕ, zero, suc, ◌≤◌, length, get_or, replicate}
use Rattle.std.proofs.Common.{sym, ap, ◌∙◌, subst, arith}
use Rattle.std.proofs.lemmas.List.{length-replicate}
use Rattle.graph.specs.Members.{numbers, raised}
use Rattle.graph.specs.Graph.{Graph, Sound, needs}
use Rattle.graph.specs.Transition.{named, led}
use Rattle.graph.proofs.Laws.Traversal.{marks_back}
use Rattle.marks.specs.Inner.Memory.{marks_room, Clear}
use Rattle.dependency.specs.Traversal.{Traversed}
use Rattle.dependency.specs.Inner.Asked.{Ready}

pub clear_zeros : (n : ℕ) → Clear (replicate n 0)
clear_zeros zero i = refl
clear_zeros (suc n) zero = refl
clear_zeros (suc n) (suc i) = clear_zeros n i

-- zeros are what the traversal asks
pub ready_zeros : {target flag list : List ℕ} (n : ℕ) → marks_room ≤ n → target ≡ replicate n 0 → flag ≡ replicate n 0 → list ≡ replicate n 0 →
    Ready target flag list
ready_zeros n h t e l = record {
  target_room = long t;
  flag_room = long e;
  list_room_lem = long l;
  target_clear = clear t;
  flag_clear = clear e;
  list_clear = clear l;
}
  where
    long : {u : List ℕ} → u ≡ replicate n 0 → marks_room ≤ length u
    long q = let a = ap length q in let b = length-replicate {A = ℕ} n 0 in omega arith

    clear : {u : List ℕ} → u ≡ replicate n 0 → Clear u
    clear q = subst Clear (sym q) (clear_zeros n)

-- what a node needs, by its marks
pub needs_led : {G : Graph} → Sound G → {count len : ℕ} {ta fl ls : List ℕ} → Traversed G count len ta fl ls → (x : ℕ) →
    needs G (raised fl) x ≡ cond (raised fl x) [] (led G (numbers ta) x)
unfolding needs led
needs_led {G} w {ta = ta} {fl = fl} t x = ap (λ (l : List ℕ). cond (raised fl x) [] l) (go (G.ref x) refl)
  where
    go : (b : Bool) → G.ref x ≡ b → G.links x ≡ cond b (named G (get_or ta x 0)) (G.links x)
    go true e = sym (ap (named G) (t.resolved x e) ∙ marks_back G w (G.links x) (w.links_in x) (w.single x e))
    go false e = refl
