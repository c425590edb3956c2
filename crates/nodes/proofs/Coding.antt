-- A number that is no kind's is no node's. Assumes nothing.
use Rattle.std.proofs.Common.{◌≡◌, refl, sym, None, List, [], ◌∷◌, Bool, ℕ, zero, suc, ◌≤◌, length, arith}
use Rattle.std.specs.List.{slice_get}
use Rattle.std.proofs.lemmas.Option.{none-some}
use borrow.Author.Tests.{le-ltb, ne_eqb}
use Rattle.ad.specs.Stored.{kinds, kind_of, arity}
use Rattle.nodes.specs.Nodes.{node_of}
use Rattle.nodes.specs.declared.Node.TheVariants.{Constant}
use Rattle.values.specs.declared.Value.TheVariants.{Undefined}

past : {A : Type 0} (l : List A) (k : ℕ) → slice_get l k ≡ None → length l ≤ k
past [] k e = omega arith
past (x ∷ l) zero e = absurd (none-some x (sym e))
past (x ∷ l) (suc k) e = let a = past l k e in omega arith

pub uncoded : (second : Bool) (k a b : ℕ) → kind_of k ≡ None → Constant Undefined ≡ node_of second k a b
unfolding kind_of arity
uncoded second zero a b e = refl
uncoded second (suc k) a b e =
    let l : 27 ≤ k = past kinds k e in
    rw (
      ne_eqb (suc k) 7 (λ z. omega arith),
      ne_eqb (suc k) 8 (λ z. omega arith),
      le-ltb (suc k) 9 (omega arith),
      le-ltb (suc k) 12 (omega arith),
      ne_eqb (suc k) 12 (λ z. omega arith),
      le-ltb (suc k) 28 (omega arith),
      ne_eqb (suc k) 2 (λ z. omega arith),
      ne_eqb (suc k) 3 (λ z. omega arith),
      ne_eqb (suc k) 4 (λ z. omega arith),
      ne_eqb (suc k) 5 (λ z. omega arith),
      ne_eqb (suc k) 6 (λ z. omega arith),
    ) refl
