-- What a traversal comes to, for an order. Assumes nothing.
use Prim.Native.Nat.{ℕ, suc, ◌-◌}
use mathlib.Core.Path.{◌≡◌, ap, ◌∙◌}
use mathlib.Core.List.{List, ◌++◌, map}
use lib.ListN.{length, replicate}
use Rattle.links.specs.Pair.{pair_graph}
use Rattle.dependency.specs.Traversal.{Traversed}
use Rattle.matching.proofs.Laws.Traversed.{entered_of, counted_of}
use Rattle.ordering.specs.Ordering.{Orders}

pub orders_of : (v b w c : List ℕ) {count len : ℕ} {ta fl ls : List ℕ} → length ls ≡ 2048 → Traversed (pair_graph v b w c) count len ta fl ls →
    Orders v b w c fl ls count len
orders_of v b w c e t = record {
  flagged = t.circular;
  bits = t.bits;
  order = t.order;
  entered = entered_of t;
  long = t.length_is;
  listed = t.written ∙ ap (λ (n : ℕ). map suc t.order ++ replicate (n - length t.order) 0) e;
  counted = counted_of t;
}
