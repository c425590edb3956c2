-- The tree that is found is the one that stands there, and one that stands there is found. Assumes nothing.
use Rattle.std.specs.Prelude.{Option, Some, None}
use Rattle.std.specs.Prelude.{ℕ, zero, suc, ◌+◌, ◌-◌, ◌*◌, ◌≤◌, ◌<◌, ◌≡◌, true, ◌&&◌}
use Rattle.std.proofs.Common.{arith, ◌∙◌, subst}
use Rattle.std.proofs.Math.Path.{refl, sym, ap}
use mathlib.Core.List.{List, [], ◌++◌, append-nil}
use Rattle.std.proofs.Math.ListN.{length}
use Rattle.text.specs.Laws.Booleans.{and_left, and_right, and_both}
use Rattle.syntax.specs.Tree.{Expr, literal, reference, unary, binary, conditional, size}
use Rattle.syntax.specs.declared.Binary.{Binary}
use Rattle.syntax.specs.declared.Unary.{Unary}
use Rattle.ad.specs.Layout.{unary_kind, binary_kind, node, expr_bytes, expr_nodes}
use Rattle.ad.specs.Stored.{kind_at, operand_at, unary_of, binary_of}
use Rattle.ad.specs.Laws.Content.{unary_found, unary_range, binary_found, binary_high, binary_low, length_nodes, size_some}
use Rattle.round_trip.specs.Bounded.{is_writable}
use Rattle.tree_check.specs.Inner.Decode.{Found, got, on_shape, leaf_at, tree_at}
use Rattle.node_shapes.specs.Inner.Shapes.{shape_of, shape_at}
use Rattle.tree_check.specs.Laws.Runs.{Stands, stands_at_lem, stands_as, stands_join, stands_left, stands_right, node_of, kind_is, first_is, second_is, third_is}
use Rattle.node_shapes.specs.Laws.Shapes.{Facts, shape_facts, leaf_shape, one_shape, two_shape, three_shape}
use Rattle.tree_check.specs.Laws.Leaves.{All, on_chain, Run, leaf_sound, literal_complete, name_complete}
use Rattle.node_shapes.specs.declared.Shape.{Shape}
use Rattle.node_shapes.specs.declared.Shape.TheVariants.{Leaf, One, Two, Three}

-- ---- kinds

unary_kind_lem : (m : ℕ) → m < 3 → unary_kind (unary_of (9 + m)) ≡ 9 + m
unfolding unary_of
unary_kind_lem zero h = refl
unary_kind_lem (suc zero) h = refl
unary_kind_lem (suc (suc zero)) h = refl
unary_kind_lem (suc (suc (suc m))) h = absurd (omega arith)

pub unary_kind_of : (k : ℕ) → 9 ≤ k → k < 12 → unary_kind (unary_of k) ≡ k
unary_kind_of k h h' = let e : 9 + (k - 9) ≡ k = omega arith in subst (λ (n : ℕ). unary_kind (unary_of n) ≡ n) e (unary_kind_lem (k - 9) (omega arith))

binary_kind_lem : (m : ℕ) → m < 15 → binary_kind (binary_of (13 + m)) ≡ 13 + m
unfolding binary_of
binary_kind_lem zero h = refl
binary_kind_lem (suc zero) h = refl
binary_kind_lem (suc (suc zero)) h = refl
binary_kind_lem (suc (suc (suc zero))) h = refl
binary_kind_lem (suc (suc (suc (suc zero)))) h = refl
binary_kind_lem (suc (suc (suc (suc (suc zero))))) h = refl
binary_kind_lem (suc (suc (suc (suc (suc (suc zero)))))) h = refl
binary_kind_lem (suc (suc (suc (suc (suc (suc (suc zero))))))) h = refl
binary_kind_lem (suc (suc (suc (suc (suc (suc (suc (suc zero)))))))) h = refl
binary_kind_lem (suc (suc (suc (suc (suc (suc (suc (suc (suc zero))))))))) h = refl
binary_kind_lem (suc (suc (suc (suc (suc (suc (suc (suc (suc (suc zero)))))))))) h = refl
binary_kind_lem (suc (suc (suc (suc (suc (suc (suc (suc (suc (suc (suc zero))))))))))) h = refl
binary_kind_lem (suc (suc (suc (suc (suc (suc (suc (suc (suc (suc (suc (suc zero)))))))))))) h = refl
binary_kind_lem (suc (suc (suc (suc (suc (suc (suc (suc (suc (suc (suc (suc (suc zero))))))))))))) h = refl
binary_kind_lem (suc (suc (suc (suc (suc (suc (suc (suc (suc (suc (suc (suc (suc (suc zero)))))))))))))) h = refl
binary_kind_lem (suc (suc (suc (suc (suc (suc (suc (suc (suc (suc (suc (suc (suc (suc (suc m))))))))))))))) h = absurd (omega arith)

pub binary_kind_of : (k : ℕ) → 12 < k → k < 28 → binary_kind (binary_of k) ≡ k
binary_kind_of k h h' = let e : 13 + (k - 13) ≡ k = omega arith in subst (λ (n : ℕ). binary_kind (binary_of n) ≡ n) e (binary_kind_lem (k - 13) (omega arith))

-- ---- the runs of an operator and of its operands

-- sums of numbers, without what else is known where they are needed
last : (a n : ℕ) → a + 1 ≡ n → a ≡ n - 1
last a n h = omega arith

one_more : (s a c : ℕ) → s + a ≡ c → s + (a + 1) ≡ c + 1
one_more s a c h = omega arith

two_more : (s a c i : ℕ) → s + a + c ≡ i → s + (a + c + 1) ≡ i + 1
two_more s a c i h = omega arith

three_more : (s a c d i : ℕ) → s + a + c + d ≡ i → s + (a + c + d + 1) ≡ i + 1
three_more s a c d i h = omega arith

four_times : (s a l u : ℕ) → l ≡ 4 * a → s + a ≡ u → 4 * s + l ≡ 4 * u
four_times s a l u h g = omega arith

-- behind the words of an operand
behind : {w b : List ℕ} {s u o : ℕ} {p : Expr} → Run w b s u o p → 4 * s + length (expr_nodes s o p) ≡ 4 * (u + 1)
behind {s = s} {u} {o} {p} r = four_times s (size p) (length (expr_nodes s o p)) (u + 1) (length_nodes s o p) r.long

-- the node behind an operand
next_node : {w b : List ℕ} {s u o : ℕ} {p : Expr} → Run w b s u o p → (n : ℕ) → s ≡ n → u + 1 ≡ n + size p
next_node {p = p} r n e = sym r.long ∙ ap (λ (m : ℕ). m + size p) e

numbers : {n n' : ℕ} (q : ℕ) (e : Expr) → n ≡ n' → expr_nodes n q e ≡ expr_nodes n' q e
numbers q e h = ap (λ (n : ℕ). expr_nodes n q e) h

module _ {w b : List ℕ} {s u o i : ℕ} where
  pub run_unary : {p : Expr} (j : Unary) → Run w b s u o p → u + 1 ≡ i → Stands w (4 * i) (node (unary_kind j) u 0 0) → Run w b s i o (unary j p)
  unfolding is_writable size expr_nodes expr_bytes
  run_unary {p} j r e n =
      let h = last u (s + size p) (next_node r s refl) in
      let g : 4 * i ≡ 4 * s + length (expr_nodes s o p) = sym (behind r ∙ ap (◌*◌ 4) e) in
      record {
        writable = r.writable;
        long = one_more s (size p) i (r.long ∙ e);
        words = stands_join r.words (stands_at_lem g (stands_as (ap (λ (x : ℕ). node (unary_kind j) x 0 0) h) n));
        bytes = r.bytes;
      }

  pub run_binary : {v : ℕ} {p q : Expr} (j : Binary) → Run w b s u o p → Run w b (u + 1) v (o + length (expr_bytes p)) q → v + 1 ≡ i →
      Stands w (4 * i) (node (binary_kind j) u v 0) → Run w b s i o (binary j p q)
  unfolding is_writable size expr_nodes expr_bytes
  run_binary {v} {p} {q} j r t e n =
      let O = o + length (expr_bytes p) in
      let c = next_node r s refl in
      let d = next_node t (s + size p) c in
      let h = last u (s + size p) c in
      let k = last v (s + size p + size q) d in
      let l : 4 * i ≡ 4 * (u + 1) + length (expr_nodes (u + 1) O q) = sym (behind t ∙ ap (◌*◌ 4) e) in
      record {
        writable = and_both r.writable t.writable;
        long = two_more s (size p) (size q) i (sym d ∙ e);
        words = stands_join r.words (stands_at_lem (sym (behind r)) (stands_as (ap (λ (x : List ℕ). x ++ node (binary_kind j) (s + size p - 1) (s + size p + size q - 1) 0) (numbers O q c))
            (stands_join t.words (stands_at_lem l (stands_as (λ m. node (binary_kind j) (h m) (k m) 0) n)))));
        bytes = stands_join r.bytes t.bytes;
      }

  pub run_conditional : {v x : ℕ} {p q c : Expr} → Run w b s u o p → Run w b (u + 1) v (o + length (expr_bytes p)) q →
      Run w b (v + 1) x (o + length (expr_bytes p) + length (expr_bytes q)) c → x + 1 ≡ i →
      Stands w (4 * i) (node 12 u v x) → Run w b s i o (conditional p q c)
  unfolding is_writable size expr_nodes expr_bytes
  run_conditional {v} {x} {p} {q} {c} r t y e n =
      let O = o + length (expr_bytes p) in
      let O' = o + length (expr_bytes p) + length (expr_bytes q) in
      let c₁ = next_node r s refl in
      let c₂ = next_node t (s + size p) c₁ in
      let c₃ = next_node y (s + size p + size q) c₂ in
      let h = last u (s + size p) c₁ in
      let k = last v (s + size p + size q) c₂ in
      let m = last x (s + size p + size q + size c) c₃ in
      let f : 4 * i ≡ 4 * (v + 1) + length (expr_nodes (v + 1) O' c) = sym (behind y ∙ ap (◌*◌ 4) e) in
      let N = node 12 (s + size p - 1) (s + size p + size q - 1) (s + size p + size q + size c - 1) in
      record {
        writable = and_both r.writable (and_both t.writable y.writable);
        long = three_more s (size p) (size q) (size c) i (sym c₃ ∙ e);
        words = stands_join r.words (stands_at_lem (sym (behind r)) (stands_as (λ z. numbers O q c₁ z ++ (numbers O' c c₂ z ++ N))
            (stands_join t.words (stands_at_lem (sym (behind t)) (stands_join y.words (stands_at_lem f (stands_as (λ z. node 12 (h z) (k z) (m z)) n)))))));
        bytes = stands_join r.bytes (stands_join t.bytes y.bytes);
      }

-- ---- SOUND

module _ (P : Expr → Type 0) (s i k x y z : ℕ) where
  on_shape_lem : (r : Option Shape) (l : Unit {0} → Found) (f : ℕ → Found) (g : ℕ → ℕ → Found) (h : ℕ → ℕ → ℕ → Found) → Facts s i k x y z r →
      (Facts s i k x y z (Some Leaf) → All P (l tt)) →
      ((u : ℕ) → Facts s i k x y z (Some (One u)) → All P (f u)) →
      ((u v : ℕ) → Facts s i k x y z (Some (Two u v)) → All P (g u v)) →
      ((u v t : ℕ) → Facts s i k x y z (Some (Three u v t)) → All P (h u v t)) → All P (on_shape r l f g h)
  on_shape_lem (Some Leaf) l f g h F a c d e = a F
  on_shape_lem (Some (One u)) l f g h F a c d e = c u F
  on_shape_lem (Some (Two u v)) l f g h F a c d e = d u v F
  on_shape_lem (Some (Three u v t)) l f g h F a c d e = e u v t F
  on_shape_lem None l f g h F a c d e = tt

pub tree_sound : (f : ℕ) (w b : List ℕ) (s i o : ℕ) → 4 * i + 4 ≤ length w → All (Run w b s i o) (tree_at f w b s i o)
unfolding tree_at
tree_sound zero w b s i o h = tt
tree_sound (suc f) w b s i o h =
    let k = kind_at w i in
    let x = operand_at w i 0 in
    let y = operand_at w i 1 in
    let z = operand_at w i 2 in
    let Q = Run w b s i o in
    on_shape_lem Q s i k x y z (shape_at w s i) _ _ _ _ (shape_facts s i k x y z)
    (λ F. subst (λ (m : ℕ). All (Run w b m i o) (leaf_at w b i o)) (sym F.1) (leaf_sound w b i o h))
    (λ u F. on_chain _ Q (tree_at f w b s u o) _ (tree_sound f w b s u o (omega arith)) λ p r.
    run_unary (unary_of k) r (omega arith) (node_of w i (unary_kind (unary_of k)) u 0 0 h (sym (unary_kind_of k F.1 F.2)) (sym F.0) F.5 F.6))
    (λ u v F. on_chain _ Q (tree_at f w b s u o) _ (tree_sound f w b s u o (omega arith)) λ p r.
    on_chain _ Q (tree_at f w b (u + 1) v (o + length (expr_bytes p))) _ (tree_sound f w b (u + 1) v (o + length (expr_bytes p)) (omega arith)) λ q t.
    run_binary (binary_of k) r t (omega arith) (node_of w i (binary_kind (binary_of k)) u v 0 h (sym (binary_kind_of k F.2 F.3)) (sym F.0) (sym F.1) F.7))
    (λ u v m F. on_chain _ Q (tree_at f w b s u o) _ (tree_sound f w b s u o (omega arith)) λ p r.
    on_chain _ Q (tree_at f w b (u + 1) v (o + length (expr_bytes p))) _ (tree_sound f w b (u + 1) v (o + length (expr_bytes p)) (omega arith)) λ q t.
    on_chain _ Q (tree_at f w b (v + 1) m (o + length (expr_bytes p) + length (expr_bytes q))) _ (tree_sound f w b (v + 1) m (o + length (expr_bytes p) + length (expr_bytes q)) (omega arith)) λ c y.
    run_conditional r t y (omega arith) (node_of w i 12 u v m h F.3 (sym F.0) (sym F.1) (sym F.2)))

-- ---- COMPLETE

module _ {w b : List ℕ} {s o : ℕ} where
  -- an operand's own run, and what stands behind its words
  first_run : (p : Expr) (X Y : List ℕ) → is_writable p ≡ true → Stands w (4 * s) (expr_nodes s o p ++ X) → Stands b o (expr_bytes p ++ Y) →
      Run w b s (s + size p - 1) o p × Stands w (4 * (s + size p)) X × Stands b (o + length (expr_bytes p)) Y
  first_run p X Y h n m =
      let e : 4 * s + length (expr_nodes s o p) ≡ 4 * (s + size p) = omega (arith, length_nodes s o p) in (
        record {
          writable = h;
          long = omega (arith, size_some p);
          words = stands_left w (expr_nodes s o p) X (4 * s) n;
          bytes = stands_left b (expr_bytes p) Y o m;
        },
        stands_at_lem e (stands_right w (expr_nodes s o p) X (4 * s) n),
        stands_right b (expr_bytes p) Y o m,
      )

module _ {w b : List ℕ} {s i o : ℕ} where
  -- the node of an operator, and the runs of its operands
  pub unary_parts : (j : Unary) (p : Expr) → Run w b s i o (unary j p) →
      (kind_at w i ≡ unary_kind j) × (operand_at w i 0 ≡ s + size p - 1) × (operand_at w i 1 ≡ 0) × (operand_at w i 2 ≡ 0) × Run w b s (s + size p - 1) o p
  unfolding is_writable size expr_nodes expr_bytes
  unary_parts j p r =
      let N = node (unary_kind j) (s + size p - 1) 0 0 in
      let y = first_run p N [] r.writable r.words (stands_as (sym (append-nil (expr_bytes p))) r.bytes) in
      let c : s + size p ≡ i = omega (arith, r.long) in
      let n = stands_at_lem (ap (◌*◌ 4) c) y.1 in
      (kind_is w i _ _ _ _ n, first_is w i _ _ _ _ n, second_is w i _ _ _ _ n, third_is w i _ _ _ _ n, y.0)

  pub binary_parts : (j : Binary) (p q : Expr) → Run w b s i o (binary j p q) →
      (kind_at w i ≡ binary_kind j) × (operand_at w i 0 ≡ s + size p - 1) × (operand_at w i 1 ≡ s + size p + size q - 1) × (operand_at w i 2 ≡ 0)
      × Run w b s (s + size p - 1) o p × Run w b (s + size p) (s + size p + size q - 1) (o + length (expr_bytes p)) q
  unfolding is_writable size expr_nodes expr_bytes
  binary_parts j p q r =
      let O = o + length (expr_bytes p) in
      let N = node (binary_kind j) (s + size p - 1) (s + size p + size q - 1) 0 in
      let y = first_run p (expr_nodes (s + size p) O q ++ N) (expr_bytes q) (and_left (is_writable p) (is_writable q) r.writable) r.words r.bytes in
      let t = first_run q N [] (and_right (is_writable p) (is_writable q) r.writable) y.1 (stands_as (sym (append-nil (expr_bytes q))) y.2) in
      let c : s + size p + size q ≡ i = omega (arith, r.long) in
      let n = stands_at_lem (ap (◌*◌ 4) c) t.1 in
      (kind_is w i _ _ _ _ n, first_is w i _ _ _ _ n, second_is w i _ _ _ _ n, third_is w i _ _ _ _ n, y.0, t.0)

  pub conditional_parts : (p q c : Expr) → Run w b s i o (conditional p q c) →
      (kind_at w i ≡ 12) × (operand_at w i 0 ≡ s + size p - 1) × (operand_at w i 1 ≡ s + size p + size q - 1) × (operand_at w i 2 ≡ s + size p + size q + size c - 1)
      × Run w b s (s + size p - 1) o p × Run w b (s + size p) (s + size p + size q - 1) (o + length (expr_bytes p)) q
      × Run w b (s + size p + size q) (s + size p + size q + size c - 1) (o + length (expr_bytes p) + length (expr_bytes q)) c
  unfolding is_writable size expr_nodes expr_bytes
  conditional_parts p q c r =
      let O = o + length (expr_bytes p) in
      let O' = o + length (expr_bytes p) + length (expr_bytes q) in
      let N = node 12 (s + size p - 1) (s + size p + size q - 1) (s + size p + size q + size c - 1) in
      let d = and_right (is_writable p) (is_writable q && is_writable c) r.writable in
      let y = first_run p (expr_nodes (s + size p) O q ++ (expr_nodes (s + size p + size q) O' c ++ N)) (expr_bytes q ++ expr_bytes c) (and_left (is_writable p) (is_writable q && is_writable c) r.writable) r.words r.bytes in
      let t = first_run q (expr_nodes (s + size p + size q) O' c ++ N) (expr_bytes c) (and_left (is_writable q) (is_writable c) d) y.1 y.2 in
      let v = first_run c N [] (and_right (is_writable q) (is_writable c) d) t.1 (stands_as (sym (append-nil (expr_bytes c))) t.2) in
      let a : s + size p + size q + size c ≡ i = omega (arith, r.long) in
      let n = stands_at_lem (ap (◌*◌ 4) a) v.1 in
      (kind_is w i _ _ _ _ n, first_is w i _ _ _ _ n, second_is w i _ _ _ _ n, third_is w i _ _ _ _ n, y.0, t.0, v.0)

  -- a literal or a reference is found at its node
  pub leaf_parts : (e : Expr) → Run w b s i o e → size e ≡ 1 → (leaf_at w b i o ≡ got e) × (kind_at w i < 9)
  unfolding is_writable size expr_nodes expr_bytes
  leaf_parts (literal l) r z = let e : s ≡ i = omega (arith, r.long) in literal_complete w b i o l r.writable (stands_at_lem (ap (◌*◌ 4) e) r.words) r.bytes
  leaf_parts (reference m l) r z = let e : s ≡ i = omega (arith, r.long) in name_complete w b i o m l r.writable (stands_at_lem (ap (◌*◌ 4) e) r.words) r.bytes
  leaf_parts (unary j p) r z = absurd (omega (arith, size_some p))
  leaf_parts (binary j p q) r z = absurd (omega (arith, size_some p))
  leaf_parts (conditional p q c) r z = absurd (omega (arith, size_some p))

-- where the operands end that have a, c and d nodes, the last nodes being u, v and x: in order, and f is enough for each
back : (n m : ℕ) → 1 ≤ m → n + m - 1 + 1 ≡ n + m
back n m h = omega arith

one_place : (s i a u f : ℕ) → u + 1 ≡ s + a → 1 ≤ a → s + (a + 1) ≡ i + 1 → i < suc f + s → (s ≤ u) × (u + 1 ≡ i) × (u < f + s)
one_place s i a u f e h g k = omega arith

two_places : (s i a c u v f : ℕ) → u + 1 ≡ s + a → v + 1 ≡ s + a + c → 1 ≤ a → 1 ≤ c → s + (a + c + 1) ≡ i + 1 → i < suc f + s →
    (s ≤ u) × (u < v) × (v + 1 ≡ i) × (u < f + s) × (v < f + (s + a))
two_places s i a c u v f e₁ e₂ h₁ h₂ g k = omega arith

three_places : (s i a c d u v x f : ℕ) → u + 1 ≡ s + a → v + 1 ≡ s + a + c → x + 1 ≡ s + a + c + d → 1 ≤ a → 1 ≤ c → 1 ≤ d → s + (a + c + d + 1) ≡ i + 1 → i < suc f + s →
    (s ≤ u) × (u < v) × (v < x) × (x + 1 ≡ i) × (u < f + s) × (v < f + (s + a)) × (x < f + (s + a + c))
three_places s i a c d u v x f e₁ e₂ e₃ h₁ h₂ h₃ g k = omega arith

unary_between : (j : Unary) (k : ℕ) → k ≡ unary_kind j → (9 ≤ k) × (k < 12)
unary_between j k e = omega (arith, unary_range j)

binary_between : (j : Binary) (k : ℕ) → k ≡ binary_kind j → (12 < k) × (k < 28)
binary_between j k e = omega (arith, binary_high j, binary_low j)

alone : (s i : ℕ) → s + 1 ≡ i + 1 → s ≡ i
alone s i h = omega arith

too_few : (s i n : ℕ) → s + n ≡ i + 1 → 1 ≤ n → i < 0 + s → ⊥
too_few s i n h g k = omega arith

pub tree_complete : (e : Expr) (w b : List ℕ) (s i o : ℕ) → Run w b s i o e → (f : ℕ) → i < f + s → tree_at f w b s i o ≡ got e
unfolding tree_at is_writable size expr_nodes expr_bytes
tree_complete e w b s i o r zero h = absurd (too_few s i (size e) r.long (size_some e) h)
tree_complete (literal l) w b s i o r (suc f) h =
    let c = leaf_parts (literal l) r refl in
    rw (leaf_shape s i (kind_at w i) (operand_at w i 0) (operand_at w i 1) (operand_at w i 2) c.1 (alone s i r.long)) c.0
tree_complete (reference m l) w b s i o r (suc f) h =
    let c = leaf_parts (reference m l) r refl in
    rw (leaf_shape s i (kind_at w i) (operand_at w i 0) (operand_at w i 1) (operand_at w i 2) c.1 (alone s i r.long)) c.0
tree_complete (unary j p) w b s i o r (suc f) h =
    let y = unary_parts j p r in
    let k = unary_between j (kind_at w i) y.0 in
    let x₁ = s + size p - 1 in
    let n = one_place s i (size p) x₁ f (back s (size p) (size_some p)) (size_some p) r.long h in
    let sh : shape_at w s i ≡ Some (One x₁) = (λ m. shape_of s i (kind_at w i) (y.1 m) (operand_at w i 1) (operand_at w i 2)) ∙ one_shape s i (kind_at w i) x₁ (operand_at w i 1) (operand_at w i 2) k.0 k.1 n.0 n.1 y.2 y.3 in
    rw (sh, tree_complete p w b s x₁ o y.4 f n.2, y.0, unary_found j) refl
tree_complete (binary j p q) w b s i o r (suc f) h =
    let y = binary_parts j p q r in
    let k = binary_between j (kind_at w i) y.0 in
    let x₁ = s + size p - 1 in
    let x₂ = s + size p + size q - 1 in
    let e = back s (size p) (size_some p) in
    let n = two_places s i (size p) (size q) x₁ x₂ f e (back (s + size p) (size q) (size_some q)) (size_some p) (size_some q) r.long h in
    let sh : shape_at w s i ≡ Some (Two x₁ x₂) = (λ m. shape_of s i (kind_at w i) (y.1 m) (y.2 m) (operand_at w i 2)) ∙ two_shape s i (kind_at w i) x₁ x₂ (operand_at w i 2) k.0 k.1 n.0 n.1 n.2 y.3 in
    rw (sh, tree_complete p w b s x₁ o y.4 f n.3, e, tree_complete q w b (s + size p) x₂ (o + length (expr_bytes p)) y.5 f n.4, y.0, binary_found j) refl
tree_complete (conditional p q c) w b s i o r (suc f) h =
    let y = conditional_parts p q c r in
    let x₁ = s + size p - 1 in
    let x₂ = s + size p + size q - 1 in
    let x₃ = s + size p + size q + size c - 1 in
    let e = back s (size p) (size_some p) in
    let e' = back (s + size p) (size q) (size_some q) in
    let n = three_places s i (size p) (size q) (size c) x₁ x₂ x₃ f e e' (back (s + size p + size q) (size c) (size_some c)) (size_some p) (size_some q) (size_some c) r.long h in
    let sh : shape_at w s i ≡ Some (Three x₁ x₂ x₃) = (λ m. shape_of s i (kind_at w i) (y.1 m) (y.2 m) (y.3 m)) ∙ three_shape s i (kind_at w i) x₁ x₂ x₃ y.0 n.0 n.1 n.2 n.3 in
    rw (sh, tree_complete p w b s x₁ o y.4 f n.4, e, tree_complete q w b (s + size p) x₂ (o + length (expr_bytes p)) y.5 f n.5, e', tree_complete c w b (s + size p + size q) x₃ (o + length (expr_bytes p) + length (expr_bytes q)) y.6 f n.6) refl
