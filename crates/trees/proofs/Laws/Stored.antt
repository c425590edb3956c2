-- Node i of a stored ad is the i-th node of its tree. Assumes nothing.
use Prim.Native.Nat.{ℕ, zero, suc, ◌+◌, ◌-◌, ◌≤◌, ◌<◌}
use Rattle.std.proofs.Common.{arith, sym, ap, ◌∙◌, subst, drop-drop}
use Rattle.std.specs.Prelude.{◌≡◌, cond, get_or, take, replicate}
use Rattle.std.proofs.Math.Path.{refl}
use mathlib.Core.List.{List, [], ◌∷◌, ◌++◌, append_assoc}
use Rattle.std.proofs.Math.ListN.{length, drop, length-append}
use Rattle.std.proofs.Math.Seq.{take-append_seam, drop-append_seam}
use Rattle.links.specs.Laws.Layout.{kind_next, operand_next}
use Rattle.syntax.specs.Tree.{Literal, undefined, error, boolean, integer, real, string, Scope, own, other, Expr, literal, reference, unary, binary, conditional, Ad, size, nodes}
use Rattle.syntax.specs.declared.Binary.{Binary}
use Rattle.syntax.specs.declared.Binary.TheVariants.{Or, And, Equal, NotEqual, Is, Isnt, Less, LessOrEqual, Greater, GreaterOrEqual, Add, Subtract, Multiply, Divide, Remainder}
use Rattle.syntax.specs.declared.Unary.{Unary}
use Rattle.syntax.specs.declared.Unary.TheVariants.{Not, Plus, Minus}
use Rattle.ad.specs.Layout.{unary_kind, binary_kind, scope_kind, node, literal_node, literal_bytes, expr_bytes, expr_nodes, ad_bytes, ad_nodes, node_words, ad_words, ad_bytes_room, padded, ad_definitions, stored_words, stored_bytes}
use Rattle.ad.specs.Stored.{kind_at, operand_at, operands, bytes_at, name_at, arity}
use Rattle.links.specs.Pair.{StoredAd}
use Rattle.trees.specs.Nodes.{Node, leaf, refers, of_one, of_two, of_three, nodes_of, nodes_in, nth_node, operands_of, words_of, bytes_of, Says}

-- ---- how many

pub length_of : (n : ℕ) (e : Expr) → length (nodes_of n e) ≡ size e
unfolding nodes_of size
length_of n (literal l) = refl
length_of n (reference s w) = refl
length_of n (unary u a) = simp length-append (omega (arith, length_of n a))
length_of n (binary j a b) = simp length-append (omega (arith, length_of n a, length_of (n + size a) b))
length_of n (conditional a b c) = simp length-append (omega (arith, length_of n a, length_of (n + size a) b, length_of (n + size a + size b) c))

pub length_in : (n : ℕ) (a : Ad) → length (nodes_in n a) ≡ nodes a
unfolding nodes_in nodes
length_in n [] = refl
length_in n (d ∷ ds) = simp length-append (omega (arith, length_of n d.expression, length_in (n + size d.expression) ds))

-- ---- the words of some nodes, whose bytes stand in b

module _ (b : List ℕ) where
  data Packs : List ℕ → List Node → Type 0 where
    packs_none : Packs [] []
    packs_one : {k x y z : ℕ} (o : ℕ) {t : Node} {xs : List ℕ} {ts : List Node} → node k x y z ≡ words_of o t → take (length (bytes_of t)) (drop o b) ≡ bytes_of t →
        o + length (bytes_of t) ≤ length b → Packs xs ts → Packs (k ∷ x ∷ y ∷ z ∷ xs) (t ∷ ts)

  packs_append : {xs ys : List ℕ} {ts us : List Node} → Packs xs ts → Packs ys us → Packs (xs ++ ys) (ts ++ us)
  packs_append packs_none e = e
  packs_append (packs_one o f g h d) e = packs_one o f g h (packs_append d e)

  -- what stands in the bytes from o on
  front : (o : ℕ) (l rest : List ℕ) → drop o b ≡ l ++ rest → take (length l) (drop o b) ≡ l
  front o l rest h = ap (take (length l)) h ∙ take-append_seam l rest

  behind : (o : ℕ) (l rest : List ℕ) → drop o b ≡ l ++ rest → drop (o + length l) b ≡ rest
  behind o l rest h = sym (drop-drop (length l) o b) ∙ ap (drop (length l)) h ∙ drop-append_seam l rest

  plain : (o k x y z : ℕ) (t : Node) → node k x y z ≡ words_of o t → bytes_of t ≡ [] → o ≤ length b → Packs (node k x y z) (t ∷ [])
  plain o k x y z t f g h =
      packs_one o f (ap (λ (l : List ℕ). take (length l) (drop o b)) g ∙ sym g) (rw g (omega arith)) packs_none

  literal_packs : (o : ℕ) (l : Literal) (rest : List ℕ) → drop o b ≡ literal_bytes l ++ rest → o + length (literal_bytes l) ≤ length b → Packs (literal_node o l) (leaf l ∷ [])
  unfolding literal_node literal_bytes words_of bytes_of
  literal_packs o undefined rest h k = plain o 1 0 0 0 (leaf undefined) refl refl (omega arith)
  literal_packs o error rest h k = plain o 2 0 0 0 (leaf error) refl refl (omega arith)
  literal_packs o (boolean t) rest h k = plain o 3 (cond t 1 0) 0 0 (leaf (boolean t)) refl refl (omega arith)
  literal_packs o (integer m) rest h k = plain o 4 m 0 0 (leaf (integer m)) refl refl (omega arith)
  literal_packs o (real m places) rest h k = plain o 5 m places 0 (leaf (real m places)) refl refl (omega arith)
  literal_packs o (string l) rest h k = packs_one o {t = leaf (string l)} refl (front o l rest h) k packs_none

  expr_packs : (n o : ℕ) (e : Expr) (rest : List ℕ) → drop o b ≡ expr_bytes e ++ rest → o + length (expr_bytes e) ≤ length b → Packs (expr_nodes n o e) (nodes_of n e)
  unfolding expr_nodes expr_bytes nodes_of words_of bytes_of
  expr_packs n o (literal l) rest h k = literal_packs o l rest h k
  expr_packs n o (reference s w) rest h k = packs_one o {t = refers s w} refl (front o w rest h) k packs_none
  expr_packs n o (unary u a) rest h k =
      packs_append (expr_packs n o a rest h k) (plain o (unary_kind u) (n + size a - 1) 0 0 (of_one u (n + size a - 1)) refl refl (omega arith))
  expr_packs n o (binary j a c) rest h k =
      let long = length-append (expr_bytes a) (expr_bytes c) in
      let h₁ : drop o b ≡ expr_bytes a ++ (expr_bytes c ++ rest) = h ∙ append_assoc (expr_bytes a) (expr_bytes c) rest in
      let h₂ = behind o (expr_bytes a) (expr_bytes c ++ rest) h₁ in
      packs_append (expr_packs n o a (expr_bytes c ++ rest) h₁ (omega arith))
      (packs_append (expr_packs (n + size a) (o + length (expr_bytes a)) c rest h₂ (omega arith))
      (plain o (binary_kind j) (n + size a - 1) (n + size a + size c - 1) 0 (of_two j (n + size a - 1) (n + size a + size c - 1)) refl refl (omega arith)))
  expr_packs n o (conditional a c d) rest h k =
      let long = length-append (expr_bytes a) (expr_bytes c ++ expr_bytes d) in
      let long₁ = length-append (expr_bytes c) (expr_bytes d) in
      let h₁ : drop o b ≡ expr_bytes a ++ ((expr_bytes c ++ expr_bytes d) ++ rest) = h ∙ append_assoc (expr_bytes a) (expr_bytes c ++ expr_bytes d) rest in
      let h₂ : drop (o + length (expr_bytes a)) b ≡ expr_bytes c ++ (expr_bytes d ++ rest) = behind o (expr_bytes a) ((expr_bytes c ++ expr_bytes d) ++ rest) h₁ ∙ append_assoc (expr_bytes c) (expr_bytes d) rest in
      let h₃ = behind (o + length (expr_bytes a)) (expr_bytes c) (expr_bytes d ++ rest) h₂ in
      packs_append (expr_packs n o a ((expr_bytes c ++ expr_bytes d) ++ rest) h₁ (omega arith))
      (packs_append (expr_packs (n + size a) (o + length (expr_bytes a)) c (expr_bytes d ++ rest) h₂ (omega arith))
      (packs_append (expr_packs (n + size a + size c) (o + length (expr_bytes a) + length (expr_bytes c)) d rest h₃ (omega arith))
      (plain o 12 (n + size a - 1) (n + size a + size c - 1) (n + size a + size c + size d - 1)
      (of_three (n + size a - 1) (n + size a + size c - 1) (n + size a + size c + size d - 1)) refl refl (omega arith))))

  ad_packs : (n o : ℕ) (a : Ad) (rest : List ℕ) → drop o b ≡ ad_bytes a ++ rest → o + length (ad_bytes a) ≤ length b → Packs (ad_nodes n o a) (nodes_in n a)
  unfolding ad_nodes ad_bytes nodes_in
  ad_packs n o [] rest h k = packs_none
  ad_packs n o (d ∷ ds) rest h k =
      let x : List ℕ = d.name in
      let y : List ℕ = expr_bytes d.expression in
      let long = length-append x (y ++ ad_bytes ds) in
      let long₁ = length-append y (ad_bytes ds) in
      let h₁ : drop o b ≡ x ++ ((y ++ ad_bytes ds) ++ rest) = h ∙ append_assoc x (y ++ ad_bytes ds) rest in
      let h₂ : drop (o + length x) b ≡ y ++ (ad_bytes ds ++ rest) = behind o x ((y ++ ad_bytes ds) ++ rest) h₁ ∙ append_assoc y (ad_bytes ds) rest in
      let h₃ = behind (o + length x) y (ad_bytes ds ++ rest) h₂ in
      packs_append (expr_packs n (o + length x) d.expression (ad_bytes ds ++ rest) h₂ (omega arith))
      (ad_packs (n + size d.expression) (o + length x + length y) ds rest h₃ (omega arith))

  -- ---- by their index, whatever follows them

  -- the words of a node, by its index
  abbrev words_at : List ℕ → ℕ → List ℕ
  words_at w i = kind_at w i ∷ operand_at w i 0 ∷ operand_at w i 1 ∷ operand_at w i 2 ∷ []

  words_next : (k x y z : ℕ) (l : List ℕ) (i : ℕ) → words_at (k ∷ x ∷ y ∷ z ∷ l) (suc i) ≡ words_at l i
  words_next k x y z l i =
      rw (kind_next k x y z l i, operand_next k x y z l i 0, operand_next k x y z l i 1, operand_next k x y z l i 2) refl

  -- the operands that four words have
  led : List ℕ → List ℕ
  led l = take (arity (get_or l 0 0)) (get_or l 1 0 ∷ get_or l 2 0 ∷ get_or l 3 0 ∷ [])

  led_literal : (o : ℕ) (l : Literal) → led (literal_node o l) ≡ []
  unfolding led literal_node arity
  led_literal o undefined = refl
  led_literal o error = refl
  led_literal o (boolean t) = refl
  led_literal o (integer m) = refl
  led_literal o (real m places) = refl
  led_literal o (string l) = refl

  led_scope : (s : Scope) (x y : ℕ) → led (node (scope_kind s) x y 0) ≡ []
  unfolding led scope_kind arity
  led_scope own x y = refl
  led_scope other x y = refl

  led_unary : (u : Unary) (x : ℕ) → led (node (unary_kind u) x 0 0) ≡ x ∷ []
  unfolding led arity
  led_unary Not x = refl
  led_unary Plus x = refl
  led_unary Minus x = refl

  led_binary : (j : Binary) (x y : ℕ) → led (node (binary_kind j) x y 0) ≡ x ∷ y ∷ []
  unfolding led arity
  led_binary Or x y = refl
  led_binary And x y = refl
  led_binary Equal x y = refl
  led_binary NotEqual x y = refl
  led_binary Is x y = refl
  led_binary Isnt x y = refl
  led_binary Less x y = refl
  led_binary LessOrEqual x y = refl
  led_binary Greater x y = refl
  led_binary GreaterOrEqual x y = refl
  led_binary Add x y = refl
  led_binary Subtract x y = refl
  led_binary Multiply x y = refl
  led_binary Divide x y = refl
  led_binary Remainder x y = refl

  -- the words of a node lead to its operands
  led_words : (o : ℕ) (t : Node) → led (words_of o t) ≡ operands_of t
  unfolding led words_of operands_of arity
  led_words o (leaf l) = led_literal o l
  led_words o (refers s w) = led_scope s o (length w)
  led_words o (of_one u i) = led_unary u i
  led_words o (of_two j i k) = led_binary j i k
  led_words o (of_three i j k) = refl

  operands_led : (w : List ℕ) (i : ℕ) → operands w i ≡ led (words_at w i)
  unfolding operands led
  operands_led w i = refl

  says : (w : List ℕ) (i o : ℕ) (t : Node) → words_at w i ≡ words_of o t → take (length (bytes_of t)) (drop o b) ≡ bytes_of t → o + length (bytes_of t) ≤ length b → Says w b i t
  says w i o t f g h = record {
    place = o;
    words = f;
    bytes_are = g;
    in_bytes = h;
    operands_are = operands_led w i ∙ ap led f ∙ led_words o t;
  }

  packs_says : {xs : List ℕ} {ts : List Node} → Packs xs ts → (zs : List ℕ) (i : ℕ) → i < length ts → Says (xs ++ zs) b i (get_or ts i (leaf undefined))
  packs_says packs_none zs i h = absurd (let q : ⊥ = omega arith in q)
  packs_says (packs_one o {t = t} f g k d) zs zero h = says _ zero o t f g k
  packs_says (packs_one {k = c} {x = x} {y = y} {z = z} o {xs = xs} {ts = ts} f g k d) zs (suc i) h =
      let s : Says (xs ++ zs) b i (get_or ts i (leaf undefined)) = packs_says d zs i (omega arith) in
      says (c ∷ x ∷ y ∷ z ∷ (xs ++ zs)) (suc i) s.place _ (words_next c x y z (xs ++ zs) i ∙ s.words) s.bytes_are s.in_bytes

-- ---- THE THEOREMS

long_bytes : (a : Ad) → length (ad_bytes a) ≤ length (stored_bytes a)
unfolding stored_bytes
long_bytes a = simp length-append (omega arith)

-- NODE i OF A STORED AD IS THE i-TH NODE OF ITS TREE: its kind, its literal or name, and the numbers of its operands
pub stored_node : {w b : List ℕ} {a : Ad} → StoredAd w b a → (i : ℕ) → i < nodes a → Says w b i (nth_node a i)
unfolding stored_words stored_bytes
stored_node {w} {b} {a} s i h =
    let xs = ad_nodes 0 0 a in
    let zs = replicate (node_words - length xs) 0 ++ padded (ad_words - node_words) (ad_definitions 0 0 a) in
    let e : w ≡ xs ++ zs = s.words ∙ append_assoc xs (replicate (node_words - length xs) 0) (padded (ad_words - node_words) (ad_definitions 0 0 a)) in
    let k : length (ad_bytes a) ≤ length b = subst (λ (l : List ℕ). length (ad_bytes a) ≤ length l) (sym s.bytes_are) (long_bytes a) in
    let p = ad_packs b 0 0 a (replicate (ad_bytes_room - length (ad_bytes a)) 0) s.bytes_are (omega arith) in
    subst (λ (l : List ℕ). Says l b i (nth_node a i)) (sym e) (packs_says b p zs i (let q = length_in 0 a in omega arith))

-- the name of a reference: 'Names .. are kept as written'
pub said_name : {w b : List ℕ} {i : ℕ} {s : Scope} {name : List ℕ} → Says w b i (refers s name) → name_at w b i ≡ name
unfolding words_of bytes_of
said_name {w} {b} {i} {s} {name} t =
    let x : operand_at w i 0 ≡ t.place = ap (λ (l : List ℕ). get_or l 1 0) t.words in
    let y : operand_at w i 1 ≡ length name = ap (λ (l : List ℕ). get_or l 2 0) t.words in
    ap (λ (u : ℕ). bytes_at b u (operand_at w i 1)) x ∙ ap (bytes_at b t.place) y ∙ t.bytes_are
