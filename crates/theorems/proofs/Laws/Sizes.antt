-- What the rules make of values read in slots fits two words, whatever the table and the ads hold. Assumes nothing.
use Rattle.std.specs.Prelude.{ℕ, zero, suc, ◌%◌, ◌^◌, Bool, true, false, cond, List, [], ◌∷◌, map, eqb}
use Rattle.std.proofs.Common.{mod-lt, pow_pos}
use Rattle.integers.specs.Integers.{width}
use Rattle.reals.specs.Reals.{stored_real}
use Rattle.reals.proofs.Literals.{stored_fits}
use Rattle.values.specs.declared.Value.{Value}
use Rattle.values.specs.declared.Value.TheVariants.{Undefined, Error, Boolean, Integer, Real, String}
use Rattle.values.specs.Values.{Sized}
use Rattle.operators.proofs.Sizes.{binary_sized, unary_sized, conditional_sized, choose}
use Rattle.slots.specs.declared.Slot.{Slot}
use Rattle.slots.specs.declared.Slot.TheVariants.{Blank, Held}
use Rattle.slots.specs.Packed.{slot_at}
use Rattle.slots.specs.Inner.Packing.{SizedSlot}
use Rattle.slots.proofs.Sizes.{sized_at}
use Rattle.nodes.specs.declared.Node.{Node}
use Rattle.nodes.specs.declared.Node.TheVariants.{Constant, Reference, OfOne, OfTwo, Conditional}
use Rattle.nodes.specs.Nodes.{constant_of, node_of, applied, value_in}
use Rattle.links.specs.Laws.Soundness.{both_each}
use Rattle.ad.specs.Stored.{kind_at, operand_at, arity, unary_of, binary_of, is_reference}
use Rattle.evaluation.specs.Evaluation.{node_from, node_at, rule_at, seen}

-- a literal's value fits
abbrev SizedNode : Node → Type 0
SizedNode (Constant v) = Sized v
SizedNode Reference = Unit {0}
SizedNode (OfOne op) = Unit {0}
SizedNode (OfTwo op) = Unit {0}
SizedNode Conditional = Unit {0}

pick : (b : Bool) (m n : Node) → SizedNode m → SizedNode n → SizedNode (cond b m n)
pick true m n p q = p
pick false m n p q = q

constant_sized : (s : Bool) (k a b : ℕ) → Sized (constant_of s k a b)
constant_sized s k a b =
    choose (eqb k 2) Error _ tt
    (choose (eqb k 3) (Boolean _) _ tt
    (choose (eqb k 4) (Integer (a % 2 ^ width)) _ (mod-lt a (pow_pos width))
    (choose (eqb k 5) (Real (stored_real a b)) _ (stored_fits a b)
    (choose (eqb k 6) (String s (a % 2 ^ 16) (b % 2 ^ 16)) Undefined (mod-lt a (pow_pos 16), mod-lt b (pow_pos 16)) tt))))

node_sized : (s : Bool) (k a b : ℕ) → SizedNode (node_of s k a b)
node_sized s k a b =
    pick (is_reference k) Reference _ tt
    (pick (eqb (arity k) 1) (OfOne (unary_of k)) _ tt
    (pick (eqb (arity k) 2) (OfTwo (binary_of k)) _ tt
    (pick (eqb (arity k) 3) Conditional (Constant (constant_of s k a b)) tt (constant_sized s k a b))))

applied_sized : (first second : List ℕ) (n : Node) (a b c : Value) → SizedNode n → Sized a → Sized b → Sized c → Sized (applied first second n a b c)
applied_sized first second (Constant v) a b c h p q r = h
applied_sized first second Reference a b c h p q r = p
applied_sized first second (OfOne op) a b c h p q r = unary_sized op a p
applied_sized first second (OfTwo op) a b c h p q r = binary_sized first second op a b p
applied_sized first second Conditional a b c h p q r = conditional_sized a b c q r

-- ---- what a step reads

seen_sized : (s : Slot) → SizedSlot s → Sized (seen s)
seen_sized Blank h = tt
seen_sized (Held v) h = h

value_sized : (t l : List ℕ) (i : ℕ) → Sized (value_in (map (λ y. seen (slot_at t y)) l) i)
unfolding value_in
value_sized t [] i = tt
value_sized t (y ∷ l) zero = seen_sized (slot_at t y) (sized_at t y)
value_sized t (y ∷ l) (suc i) = value_sized t l i

at_sized : (v w : List ℕ) (x : ℕ) → SizedNode (node_at v w x)
at_sized v w =
    both_each (λ x n. SizedNode n) (node_from false v) (node_from true w) (λ x h. node_sized false (kind_at v x) (operand_at v x 0) (operand_at v x 1))
    (λ x. node_sized true (kind_at w x) (operand_at w x 0) (operand_at w x 1))

pub rule_sized : (v b w c t l : List ℕ) (x : ℕ) → Sized (rule_at v b w c x (map (λ y. seen (slot_at t y)) l))
unfolding rule_at
rule_sized v b w c t l x = applied_sized b c (node_at v w x) _ _ _ (at_sized v w x) (value_sized t l 0) (value_sized t l 1) (value_sized t l 2)
