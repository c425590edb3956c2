-- What a match works out for a node is the value of its expression on the trees. Assumes nothing.
use Rattle.std.specs.Prelude.{ℕ, ◌+◌, ◌^◌, ◌≤◌, ◌<◌, ◌≡◌, Bool, not, ◌&&◌, length, get_or, ltb, leb}
use native.Mathlib.Omega.{arith}
use Rattle.std.proofs.Math.Path.{refl, sym, ap, subst}
use Rattle.std.proofs.Common.{◌∙◌, leb-true, ltb-true}
use Rattle.std.proofs.Math.Bool.{true, false, cond}
use Rattle.std.proofs.lemmas.Bool.{false≢true}
use mathlib.Core.List.{List, [], ◌∷◌, map}
use Rattle.text.specs.Laws.Booleans.{and_left, and_right}
use Rattle.syntax.specs.Bounds.{max_integer, string_bytes, real_digits}
use Rattle.syntax.specs.Tree.{Literal, undefined, error, boolean, integer, real, string, Scope, Expr, literal, reference, unary, binary, conditional, Ad, size}
use Rattle.syntax.specs.declared.Binary.{Binary}
use Rattle.syntax.specs.declared.Unary.{Unary}
use Rattle.syntax.specs.Inner.Lexeme.{is_literal, is_real, is_string, every, in_string}
use Rattle.ad.specs.Layout.{literal_bytes, stored_words, stored_bytes}
use Rattle.ad.specs.Stored.{bytes_at}
use Rattle.graph.specs.Graph.{Flags, needs}
use Rattle.links.specs.Pair.{linked, numbered, definition_at}
use Rattle.round_trip.specs.Bounded.{is_writable}
use Rattle.well_formed.specs.WellFormed.{Holds}
use Rattle.well_formed.specs.Laws.Bounds.{bounded}
use Rattle.values.specs.declared.Value.{Value}
use Rattle.values.specs.declared.Value.TheVariants.{Undefined}
use Rattle.nodes.specs.declared.Node.TheVariants.{Constant, Reference, OfOne, OfTwo, Conditional}
use Rattle.nodes.specs.Nodes.{literal_value, node_of, value_in}
use Rattle.nodes.specs.Laws.Integers.{integer_literal}
use Rattle.nodes.specs.Laws.Stored.{LiteralFits, literal_value_lem, reference_node, unary_node, conditional_node, binary_node}
use Rattle.valuation.specs.Gives.{Give, nil, cons, Gives}
use Rattle.valuation.proofs.Laws.Transfer.{Alike, anil, acons}
use Rattle.evaluation.specs.Evaluation.{node_from}
use Rattle.trees.specs.Nodes.{Node, leaf, refers, of_one, of_two, of_three, last_of, words_of, bytes_of, Says}
use Rattle.trees.specs.Links.{leads, is_reference, tree_graph}
use Rattle.trees.specs.Values.{Denotes, ad_of, side_of, Means, is_literal_lem, is_circular, is_absent, is_found, is_unary, is_binary, is_conditional, Part, whole, under, left, right, test, taken, otherwise}
use Rattle.trees.proofs.Laws.Parts.{top_of, part_writable}
use Rattle.trees.proofs.Laws.Own.{Looked, nowhere, somewhere, look, finds_defines, own_leaf, stored_long, holds, links_own, ref_own, rule_own, said, rule_in, leads_name}
use Rattle.trees.proofs.Laws.Returning.{returns_circular, circular_returns}

-- ---- literals

-- the bounds of a literal that a text can write
literal_fits : (o : ℕ) (l : Literal) → is_literal l ≡ true → o < 65536 → LiteralFits o l
unfolding is_literal is_real is_string LiteralFits
literal_fits o undefined h k = tt
literal_fits o error h k = tt
literal_fits o (boolean b) h k = tt
literal_fits o (integer n) h k = leb-true n max_integer h
literal_fits o (real n places) h k =
    let some : (leb 1 places && ltb places real_digits) ≡ true = and_right (ltb n (10 ^ real_digits)) (leb 1 places && ltb places real_digits) h in (
      ltb-true n (10 ^ real_digits) (and_left (ltb n (10 ^ real_digits)) (leb 1 places && ltb places real_digits) h),
      leb-true 1 places (and_left (leb 1 places) (ltb places real_digits) some),
      ltb-true places real_digits (and_right (leb 1 places) (ltb places real_digits) some),
    )
literal_fits o (string l) h k =
    (k, let q : length l ≤ string_bytes = leb-true (length l) string_bytes (and_right (every in_string l) (leb (length l) string_bytes) h) in omega arith)

-- a stored literal's value is the literal's
literal_denotes : (second : Bool) (b : List ℕ) (o : ℕ) (l : Literal) → LiteralFits o l → bytes_at b o (length (bytes_of (leaf l))) ≡ bytes_of (leaf l) → Denotes second b l (literal_value second o l)
unfolding LiteralFits Denotes literal_value bytes_of literal_bytes
literal_denotes second b o undefined f h = refl
literal_denotes second b o error f h = refl
literal_denotes second b o (boolean t) f h = refl
literal_denotes second b o (integer n) f h = (refl, integer_literal n f)
literal_denotes second b o (real n places) f h = refl
literal_denotes second b o (string l) f h = (o, refl, h)

-- ---- what the numbers of a node are evaluated as

module _ {w b : List ℕ} {i : ℕ} (second : Bool) where
  -- by the node's words
  from_words : {t : Node} (s : Says w b i t) →
      node_from second w i ≡ node_of second (get_or (words_of s.place t) 0 0) (get_or (words_of s.place t) 1 0) (get_or (words_of s.place t) 2 0)
  from_words s = ap (λ (l : List ℕ). node_of second (get_or l 0 0) (get_or l 1 0) (get_or l 2 0)) s.words

  as_literal : {l : Literal} (s : Says w b i (leaf l)) → LiteralFits s.place l → node_from second w i ≡ Constant (literal_value second s.place l)
  unfolding words_of
  as_literal {l} s f = from_words s ∙ literal_value_lem second s.place l f

  as_reference : {c : Scope} {name : List ℕ} → Says w b i (refers c name) → node_from second w i ≡ Reference
  unfolding words_of
  as_reference {c} {name} s = from_words s ∙ reference_node second c s.place (length name)

  as_unary : {u : Unary} {x : ℕ} → Says w b i (of_one u x) → node_from second w i ≡ OfOne u
  unfolding words_of
  as_unary {u} {x} s = from_words s ∙ unary_node second u x 0

  as_binary : {j : Binary} {x y : ℕ} → Says w b i (of_two j x y) → node_from second w i ≡ OfTwo j
  unfolding words_of
  as_binary {j} {x} {y} s = from_words s ∙ binary_node second j x y

  as_conditional : {x y z : ℕ} → Says w b i (of_three x y z) → node_from second w i ≡ Conditional
  unfolding words_of
  as_conditional {x} {y} s = from_words s ∙ conditional_node second x y

-- ---- values

module _ {a a' : Ad} (h : Holds (stored_words a) (stored_bytes a) a) (h' : Holds (stored_words a') (stored_bytes a') a') where
  module _ (c : ℕ → Bool) (fl : Flags (tree_graph a a') c) where
    abbrev need : ℕ → List ℕ
    need = needs (tree_graph a a') c

    -- an operator or a literal is not circular, and needs what it leads to
    needs_own : (second : Bool) {n : ℕ} {e : Expr} (p : Part (ad_of a a' second) n e) → is_reference (top_of n e) ≡ false →
        need (numbered second (last_of n e)) ≡ map (linked second) (leads (ad_of a a' second) (ad_of a a' (not second)) (top_of n e))
    unfolding needs
    needs_own second {n} {e} p k = ap (λ (t : Bool). cond t [] ((tree_graph a a').links (numbered second (last_of n e)))) (straight (c (numbered second (last_of n e))) refl) ∙ links_own h h' second p
      where
        straight : (t : Bool) → c (numbered second (last_of n e)) ≡ t → t ≡ false
        straight true q = absurd (false≢true (sym k ∙ sym (ref_own h h' second p) ∙ ((fl (numbered second (last_of n e))).0 q).0))
        straight false q = refl

    -- u is the value of every expression whose own node is x
    abbrev Meant : ℕ → Value → Type 0
    Meant x u = (second : Bool) (n : ℕ) (e : Expr) → Part (ad_of a a' second) n e → x ≡ numbered second (last_of n e) → Means a a' second n e u

    none_meant : {us : List Value} → Alike Meant [] us → value_in us 0 ≡ Undefined
    unfolding value_in
    none_meant anil = refl

    meant_0 : {y : ℕ} {ys : List ℕ} {us : List Value} → Alike Meant (y ∷ ys) us → Meant y (value_in us 0)
    unfolding value_in
    meant_0 (acons m l) = m

    meant_1 : {x y : ℕ} {ys : List ℕ} {us : List Value} → Alike Meant (x ∷ y ∷ ys) us → Meant y (value_in us 1)
    unfolding value_in
    meant_1 (acons m l) = meant_0 l

    meant_2 : {x y z : ℕ} {ys : List ℕ} {us : List Value} → Alike Meant (x ∷ y ∷ z ∷ ys) us → Meant z (value_in us 2)
    unfolding value_in
    meant_2 (acons m l) = meant_1 l

    -- the value of a reference
    refers_means : (second : Bool) (n : ℕ) (s : Scope) (name : List ℕ) → Part (ad_of a a' second) n (reference s name) → (us : List Value) →
        Alike Meant (need (numbered second n)) us → (tree_graph a a').links (numbered second n) ≡ map (numbered (side_of second s)) (definition_at 0 name (ad_of a a' (side_of second s))) →
        Means a a' second n (reference s name) (value_in us 0)
    unfolding needs
    refers_means second n s name p us l k = by_flag (c (numbered second n)) refl l
      where
        undefined_as : value_in us 0 ≡ Undefined → Means a a' second n (reference s name) Undefined → Means a a' second n (reference s name) (value_in us 0)
        undefined_as q m = subst (λ (u : Value). Means a a' second n (reference s name) u) (sym q) m

        looked : c (numbered second n) ≡ false → Alike Meant (map (numbered (side_of second s)) (definition_at 0 name (ad_of a a' (side_of second s)))) us →
            Looked name 0 (ad_of a a' (side_of second s)) → Means a a' second n (reference s name) (value_in us 0)
        looked q d (nowhere x y) = undefined_as (none_meant (subst (λ (r : List ℕ). Alike Meant (map (numbered (side_of second s)) r) us) x d)) (is_absent y)
        looked q d (somewhere m e x f) =
            is_found (λ z. false≢true (sym q ∙ (fl (numbered second n)).1 (returns_circular h h' second p z))) f
            (meant_0 (subst (λ (r : List ℕ). Alike Meant (map (numbered (side_of second s)) r) us) x d) (side_of second s) m e (whole (finds_defines f)) refl)

        by_flag : (t : Bool) → c (numbered second n) ≡ t → Alike Meant (cond t [] ((tree_graph a a').links (numbered second n))) us → Means a a' second n (reference s name) (value_in us 0)
        by_flag true q d = undefined_as (none_meant d) (is_circular (circular_returns h h' second p ((fl (numbered second n)).0 q)))
        by_flag false q d = looked q (subst (λ (r : List ℕ). Alike Meant r us) k d) (look name 0 (ad_of a a' (side_of second s)))

    -- the value of an expression, from those of what its own node needs
    step_means : (second : Bool) (n : ℕ) (e : Expr) → Part (ad_of a a' second) n e → (us : List Value) → Alike Meant (need (numbered second (last_of n e))) us →
        Means a a' second n e (rule_in a a' (numbered second (last_of n e)) us)
    unfolding top_of is_reference leads is_writable
    step_means second n (literal l) p us k =
        let s = said h h' second p in
        let o : s.place < 65536 = let q = s.in_bytes in let r = stored_long (ad_of a a' second) (holds h h' second).fits in omega arith in
        let f : LiteralFits s.place l = literal_fits s.place l (part_writable (bounded (holds h h' second)).writable p) o in
        subst (λ (u : Value). Means a a' second n (literal l) u) (sym (rule_own h h' second p us (as_literal second s f))) (is_literal_lem (literal_denotes second (stored_bytes (ad_of a a' second)) s.place l f s.bytes_are))
    step_means second n (reference s name) p us k =
        let q : last_of n (reference s name) ≡ n = own_leaf n s name in
        subst (λ (u : Value). Means a a' second n (reference s name) u) (sym (rule_own h h' second p us (as_reference second (said h h' second p))))
        (refers_means second n s name p us (subst (λ (x : ℕ). Alike Meant (need (numbered second x)) us) q k)
        (ap (λ (x : ℕ). (tree_graph a a').links (numbered second x)) (sym q) ∙ links_own h h' second p ∙ leads_name h h' second s name))
    step_means second n (unary u e) p us k =
        let d = subst (λ (l : List ℕ). Alike Meant l us) (needs_own second p refl) k in
        subst (λ (x : Value). Means a a' second n (unary u e) x) (sym (rule_own h h' second p us (as_unary second (said h h' second p))))
        (is_unary (meant_0 d second n e (under u p) refl))
    step_means second n (binary j e f) p us k =
        let d = subst (λ (l : List ℕ). Alike Meant l us) (needs_own second p refl) k in
        subst (λ (x : Value). Means a a' second n (binary j e f) x) (sym (rule_own h h' second p us (as_binary second (said h h' second p))))
        (is_binary (meant_0 d second n e (left j f p) refl) (meant_1 d second (n + size e) f (right j e p) refl))
    step_means second n (conditional e f g) p us k =
        let d = subst (λ (l : List ℕ). Alike Meant l us) (needs_own second p refl) k in
        subst (λ (x : Value). Means a a' second n (conditional e f g) x) (sym (rule_own h h' second p us (as_conditional second (said h h' second p))))
        (is_conditional (meant_0 d second n e (test f g p) refl) (meant_1 d second (n + size e) f (taken e g p) refl) (meant_2 d second (n + size e + size f) g (otherwise e f p) refl))

    give_means : {xs : List ℕ} {us : List Value} → Give need (rule_in a a') xs us → Alike Meant xs us
    give_means nil = anil
    give_means (cons {x = x} {us = us} d e) =
        let l = give_means d in
        acons (λ second n f p q. subst (λ (y : ℕ). Means a a' second n f (rule_in a a' y us)) (sym q) (step_means second n f p us (subst (λ (y : ℕ). Alike Meant (need y) us) q l))) (give_means e)

    pub gives_means : {x : ℕ} {u : Value} → Gives need (rule_in a a') x u → Meant x u
    gives_means {x} {u} (us, d, e) second n f p q =
        subst (Means a a' second n f) (sym e) (subst (λ (y : ℕ). Means a a' second n f (rule_in a a' y us)) (sym q) (step_means second n f p us (subst (λ (y : ℕ). Alike Meant (need y) us) q (give_means d))))
