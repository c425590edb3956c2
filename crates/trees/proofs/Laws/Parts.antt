-- Where the expressions of an ad stand among its nodes. Assumes nothing.
use Rattle.std.specs.Prelude.{ℕ, ◌+◌, ◌-◌, ◌≤◌, ◌<◌, ◌≡◌, refl, true, ◌&&◌, List, [], ◌∷◌, ◌++◌, length, get_or}
use Rattle.std.proofs.Common.{arith, sym, ap, ◌∙◌, append_assoc, length-append}
use Rattle.std.proofs.Math.Decide.{dec_lt}
use Rattle.std.proofs.lemmas.List.{get_or_at}
use Rattle.text.specs.Laws.Booleans.{and_left, and_right}
use Rattle.syntax.specs.Tree.{undefined, Expr, literal, reference, unary, binary, conditional, Ad, size, nodes}
use Rattle.syntax.specs.Inner.Lexeme.{is_name}
use Rattle.round_trip.specs.Bounded.{is_writable, are_writable}
use Rattle.trees.specs.Nodes.{Node, leaf, refers, of_one, of_two, of_three, last_of, nodes_of, nodes_in, nth_node}
use Rattle.trees.specs.Values.{Defines, defines_first, defines_later, Part, whole, under, left, right, test, taken, otherwise}
use Rattle.trees.proofs.Laws.Stored.{length_of, length_in}

-- the nodes l hold those of e, from node n on, l beginning with node k
record Split (l : List Node) (k n : ℕ) (e : Expr) : Type 0 where
  before : List Node
  after : List Node
  is : l ≡ before ++ (nodes_of n e ++ after)
  long : k + length before ≡ n

split_whole : {k n : ℕ} {a : Ad} {e : Expr} → Defines k a n e → Split (nodes_in k a) k n e
unfolding nodes_in
split_whole (defines_first {k = k} {d = d} {ds = ds}) = record { before = []; after = nodes_in (k + size d.expression) ds; is = refl; long = let q : k + 0 ≡ k = omega arith in q }
split_whole (defines_later {k = k} {n = n} {d = d} {ds = ds} {e = e} h) =
    let s : Split (nodes_in (k + size d.expression) ds) (k + size d.expression) n e = split_whole h in
    let x : List Node = nodes_of k d.expression in
    record {
      before = x ++ s.before;
      after = s.after;
      is = ap (λ (l : List Node). x ++ l) s.is ∙ sym (append_assoc x s.before (nodes_of n e ++ s.after));
      long = simp length-append (let p = length_of k d.expression in let q = s.long in omega arith);
    }

module _ {l : List Node} {k : ℕ} where
  -- a first operand, or the only one; z is what stands behind it
  split_first : {n : ℕ} (e f : Expr) (z : List Node) → nodes_of n f ≡ nodes_of n e ++ z → Split l k n f → Split l k n e
  split_first {n} e f z h s = record {
    before = s.before;
    after = z ++ s.after;
    is = s.is ∙ ap (λ (x : List Node). s.before ++ (x ++ s.after)) h ∙ ap (λ (x : List Node). s.before ++ x) (append_assoc (nodes_of n e) z s.after);
    long = s.long;
  }

  -- a later one; x is what stands before it
  split_later : {n m : ℕ} (e f : Expr) (x z : List Node) → nodes_of n f ≡ x ++ (nodes_of m e ++ z) → n + length x ≡ m → Split l k n f → Split l k m e
  split_later {n} {m} e f x z h g s = record {
    before = s.before ++ x;
    after = z ++ s.after;
    is = s.is ∙ ap (λ (y : List Node). s.before ++ (y ++ s.after)) h ∙ regroup s.before x (nodes_of m e) z s.after;
    long = simp length-append (let q = s.long in omega arith);
  }
    where
      regroup : (p x y z q : List Node) → p ++ ((x ++ (y ++ z)) ++ q) ≡ (p ++ x) ++ (y ++ (z ++ q))
      regroup p x y z q = simp append_assoc

split : {a : Ad} {n : ℕ} {e : Expr} → Part a n e → Split (nodes_in 0 a) 0 n e
unfolding nodes_of
split (whole h) = split_whole h
split (under {n = n} u {e = e} p) = split_first e (unary u e) (of_one u (last_of n e) ∷ []) refl (split p)
split (left {n = n} j {e = e} f p) = split_first e (binary j e f) (nodes_of (n + size e) f ++ of_two j (last_of n e) (last_of (n + size e) f) ∷ []) refl (split p)
split (right {n = n} j e {f = f} p) = split_later f (binary j e f) (nodes_of n e) (of_two j (last_of n e) (last_of (n + size e) f) ∷ []) refl (let q = length_of n e in omega arith) (split p)
split (test {n = n} {e = e} f g p) = split_first e (conditional e f g) (nodes_of (n + size e) f ++ (nodes_of (n + size e + size f) g ++ of_three (last_of n e) (last_of (n + size e) f) (last_of (n + size e + size f) g) ∷ [])) refl (split p)
split (taken {n = n} e {f = f} g p) = split_later f (conditional e f g) (nodes_of n e) (nodes_of (n + size e + size f) g ++ of_three (last_of n e) (last_of (n + size e) f) (last_of (n + size e + size f) g) ∷ []) refl (let q = length_of n e in omega arith) (split p)
split (otherwise {n = n} e f {g = g} p) =
    split_later g (conditional e f g) (nodes_of n e ++ nodes_of (n + size e) f) (of_three (last_of n e) (last_of (n + size e) f) (last_of (n + size e + size f) g) ∷ [])
    (sym (append_assoc (nodes_of n e) (nodes_of (n + size e) f) (nodes_of (n + size e + size f) g ++ of_three (last_of n e) (last_of (n + size e) f) (last_of (n + size e + size f) g) ∷ [])))
    (simp length-append (let q = length_of n e in let r = length_of (n + size e) f in omega arith)) (split p)

-- an expression's own node
unfoldable pub top_of : ℕ → Expr → Node
top_of n (literal l) = leaf l
top_of n (reference s w) = refers s w
top_of n (unary u e) = of_one u (last_of n e)
top_of n (binary j e f) = of_two j (last_of n e) (last_of (n + size e) f)
top_of n (conditional e f g) = of_three (last_of n e) (last_of (n + size e) f) (last_of (n + size e + size f) g)

top_last : (n : ℕ) (e : Expr) → (l : List Node) × (nodes_of n e ≡ l ++ top_of n e ∷ [])
unfolding nodes_of top_of
top_last n (literal l) = ([], refl)
top_last n (reference s w) = ([], refl)
top_last n (unary u e) = (nodes_of n e, refl)
top_last n (binary j e f) = (nodes_of n e ++ nodes_of (n + size e) f, sym (append_assoc (nodes_of n e) (nodes_of (n + size e) f) _))
top_last n (conditional e f g) =
    (nodes_of n e ++ (nodes_of (n + size e) f ++ nodes_of (n + size e + size f) g), regroup (nodes_of n e) (nodes_of (n + size e) f) (nodes_of (n + size e + size f) g) _)
  where
    regroup : (x y z t : List Node) → x ++ (y ++ (z ++ t)) ≡ (x ++ (y ++ z)) ++ t
    regroup x y z t = simp append_assoc

-- where it stands
pub record Top (a : Ad) (n : ℕ) (e : Expr) : Type 0 where
  pub stands : last_of n e < nodes a
  pub is : nth_node a (last_of n e) ≡ top_of n e

pub top : {a : Ad} {n : ℕ} {e : Expr} → Part a n e → Top a n e
top {a} {n} {e} p = go (split p) (top_last n e)
  where
    go : Split (nodes_in 0 a) 0 n e → (l : List Node) × (nodes_of n e ≡ l ++ top_of n e ∷ []) → Top a n e
    go s (l, h) =
        let t : List Node = top_of n e ∷ [] in
        let x : nodes_in 0 a ≡ (s.before ++ l) ++ top_of n e ∷ s.after =
        s.is ∙ ap (λ (y : List Node). s.before ++ (y ++ s.after)) h ∙ regroup s.before l t s.after in
        let b : length s.before ≡ n = let q = s.long in omega arith in
        let z : size e ≡ length l + 1 = sym (length_of n e) ∙ ap length h ∙ length-append l t in
        let y : length (s.before ++ l) ≡ last_of n e = length-append s.before l ∙ (let q : length s.before + length l ≡ n + size e - 1 = omega arith in q) in
        record {
          stands = let q = ap length x ∙ length-append (s.before ++ l) (top_of n e ∷ s.after) in let r = length_in 0 a in omega arith;
          is = ap (λ (u : List Node). get_or u (last_of n e) (leaf undefined)) x ∙ get_or_at (s.before ++ l) (top_of n e) s.after (leaf undefined) (last_of n e) y;
        }
      where
        regroup : (p x y q : List Node) → p ++ ((x ++ y) ++ q) ≡ (p ++ x) ++ (y ++ q)
        regroup p x y q = simp append_assoc

-- ---- every name and literal of a part can be written

defines_writable : {k n : ℕ} {a : Ad} {e : Expr} → are_writable a ≡ true → Defines k a n e → is_writable e ≡ true
unfolding are_writable
defines_writable h (defines_first {d = d} {ds = ds}) =
    and_left (is_writable d.expression) (are_writable ds) (and_right (is_name d.name) (is_writable d.expression && are_writable ds) h)
defines_writable h (defines_later {d = d} {ds = ds} p) =
    defines_writable (and_right (is_writable d.expression) (are_writable ds) (and_right (is_name d.name) (is_writable d.expression && are_writable ds) h)) p

pub part_writable : {a : Ad} {n : ℕ} {e : Expr} → are_writable a ≡ true → Part a n e → is_writable e ≡ true
unfolding is_writable
part_writable h (whole p) = defines_writable h p
part_writable h (under u p) = part_writable h p
part_writable h (left j {e = e} f p) = and_left (is_writable e) (is_writable f) (part_writable h p)
part_writable h (right j e {f = f} p) = and_right (is_writable e) (is_writable f) (part_writable h p)
part_writable h (test {e = e} f g p) = and_left (is_writable e) (is_writable f && is_writable g) (part_writable h p)
part_writable h (taken e {f = f} g p) = and_left (is_writable f) (is_writable g) (and_right (is_writable e) (is_writable f && is_writable g) (part_writable h p))
part_writable h (otherwise e f {g = g} p) = and_right (is_writable f) (is_writable g) (and_right (is_writable e) (is_writable f && is_writable g) (part_writable h p))

-- ---- every node is some part's own

pub record Owned (a : Ad) (i : ℕ) : Type 0 where
  pub from : ℕ
  pub expression : Expr
  pub part : Part a from expression
  pub is : i ≡ last_of from expression

in_part : {a : Ad} (n : ℕ) (e : Expr) → Part a n e → (i : ℕ) → n ≤ i → i < n + size e → Owned a i
unfolding size
in_part n (literal l) p i h k = record { from = n; expression = literal l; part = p; is = omega arith }
in_part n (reference s w) p i h k = record { from = n; expression = reference s w; part = p; is = omega arith }
in_part {a} n (unary u e) p i h k = go (λ x. in_part n e (under u p) i h x) (dec_lt i (n + size e))
  where
    go : (i < n + size e → Owned a i) → Dec (i < n + size e) → Owned a i
    go f (yes x) = f x
    go f (no x) = let y : ¬ (i < n + size e) = x in record { from = n; expression = unary u e; part = p; is = omega arith }
in_part {a} n (binary j e f) p i h k =
    go (λ x. in_part n e (left j f p) i h x) (λ x y. in_part (n + size e) f (right j e p) i x y) (dec_lt i (n + size e)) (dec_lt i (n + size e + size f))
  where
    go : (i < n + size e → Owned a i) → (n + size e ≤ i → i < n + size e + size f → Owned a i) → Dec (i < n + size e) → Dec (i < n + size e + size f) → Owned a i
    go g g' (yes x) y = g x
    go g g' (no x) (yes y) = g' (let z : ¬ (i < n + size e) = x in omega arith) y
    go g g' (no x) (no y) = let z : ¬ (i < n + size e + size f) = y in record { from = n; expression = binary j e f; part = p; is = omega arith }
in_part {a} n (conditional e f g) p i h k =
    go (λ x. in_part n e (test f g p) i h x) (λ x y. in_part (n + size e) f (taken e g p) i x y) (λ x y. in_part (n + size e + size f) g (otherwise e f p) i x y)
    (dec_lt i (n + size e)) (dec_lt i (n + size e + size f)) (dec_lt i (n + size e + size f + size g))
  where
    go : (i < n + size e → Owned a i) → (n + size e ≤ i → i < n + size e + size f → Owned a i) → (n + size e + size f ≤ i → i < n + size e + size f + size g → Owned a i) →
        Dec (i < n + size e) → Dec (i < n + size e + size f) → Dec (i < n + size e + size f + size g) → Owned a i
    go q q' q'' (yes x) y z = q x
    go q q' q'' (no x) (yes y) z = q' (let r : ¬ (i < n + size e) = x in omega arith) y
    go q q' q'' (no x) (no y) (yes z) = q'' (let r : ¬ (i < n + size e + size f) = y in omega arith) z
    go q q' q'' (no x) (no y) (no z) = let r : ¬ (i < n + size e + size f + size g) = z in record { from = n; expression = conditional e f g; part = p; is = omega arith }

in_ad : {a : Ad} (k : ℕ) (ds : Ad) → ((n : ℕ) (e : Expr) → Defines k ds n e → Defines 0 a n e) → (i : ℕ) → k ≤ i → i < k + nodes ds → Owned a i
unfolding nodes
in_ad k [] f i h l = absurd (let q : ⊥ = omega arith in q)
in_ad {a} k (d ∷ ds) f i h l =
    go (λ x. in_part k d.expression (whole (f k d.expression defines_first)) i h x) (λ x. in_ad (k + size d.expression) ds (λ n e p. f n e (defines_later p)) i x (omega arith)) (dec_lt i (k + size d.expression))
  where
    go : (i < k + size d.expression → Owned a i) → (k + size d.expression ≤ i → Owned a i) → Dec (i < k + size d.expression) → Owned a i
    go g g' (yes x) = g x
    go g g' (no x) = g' (let z : ¬ (i < k + size d.expression) = x in omega arith)

-- EVERY NODE OF AN AD IS AN EXPRESSION'S OWN
pub owned : (a : Ad) (i : ℕ) → i < nodes a → Owned a i
owned a i h = in_ad 0 a (λ n e p. p) i (omega arith) (omega arith)
