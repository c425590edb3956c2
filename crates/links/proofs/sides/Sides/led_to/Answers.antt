use Rattle.std.proofs.Common.{◌≡◌, ◌<◌, List, ℕ, Bool, arith, refl, ap, ◌∙◌, get_or}
use Rattle.links.specs.Laws.Numbering.{ref_is, led_any, to_some, to_target, to_few, to_below, to_small, to_operand}
use Rattle.ad.specs.Stored.{kind_at, is_reference}
use Rattle.graph.specs.Members.{numbers}
use Rattle.graph.specs.Transition.{led}
use Rattle.links.specs.Pair.{both, pair_graph}
use Rattle.links.specs.Graphs.{graph_of_sides}
use Rattle.links.specs.declared.sides.Sides.{Sides}
use Rattle.links.proofs.sides.Sides.led_to.Goals as goal

-- whether a node is a reference, by the number of its kind
kind_read : (s : Sides) {x : ℕ} → x < 2048 → {t : Bool} → ((b d : List ℕ) → t ≡ (pair_graph s.first.words.now b s.second.words.now d).ref x) → t ≡ is_reference (both (kind_at s.first.words.now) (kind_at s.second.words.now) x)
kind_read s {x} h e =
    e s.first.bytes.now s.second.bytes.now ∙ ref_is s.first.words.now s.first.bytes.now s.second.words.now s.second.bytes.now x s.first_formed s.second_formed h

-- what a node leads to goes by the words alone
led_at : (s : Sides) (b d : List ℕ) {x : ℕ} → x < 2048 → (ta : List ℕ) (i : ℕ) →
    get_or (led (graph_of_sides s) (numbers ta) x) i 0 ≡ get_or (led (pair_graph s.first.words.now b s.second.words.now d) (numbers ta) x) i 0
led_at s b d h ta i = ap (λ (l : List ℕ). get_or l i 0) (led_any s.first.bytes.now s.second.bytes.now b d s.first_formed s.second_formed h ta)

pub overflow_sub-result : goal.overflow_sub-result
overflow_sub-result c =
    let s = c.args.self in
    (to_some s.first.words.now s.first.bytes.now s.second.words.now s.second.bytes.now c.args.x
    s.first_formed s.second_formed c.requires.0 refl
    (kind_read s c.requires.0 c.refers.ensures)
    c.args.target.now c.args.i c.if-refers.true c.requires.2).0

pub returns-then-refers-clause-by_index : goal.returns-then-refers-clause-by_index
returns-then-refers-clause-by_index c = λ b d.
    let s = c.args.self in
    to_target s.first.words.now s.first.bytes.now s.second.words.now s.second.bytes.now c.args.x
    s.first_formed s.second_formed c.requires.0 refl
    (kind_read s c.requires.0 c.refers.ensures)
    c.args.target.now c.args.i c.if-refers.true c.requires.2
    ∙ led_at s b d c.requires.0 c.args.target.now c.args.i

pub returns-then-refers-clause-small : goal.returns-then-refers-clause-small
returns-then-refers-clause-small c =
    let s = c.args.self in
    let h = to_some s.first.words.now s.first.bytes.now s.second.words.now s.second.bytes.now c.args.x
    s.first_formed s.second_formed c.requires.0 refl
    (kind_read s c.requires.0 c.refers.ensures)
    c.args.target.now c.args.i c.if-refers.true c.requires.2 in
    omega arith

pub operand-requires : goal.operand-requires
operand-requires c =
    let s = c.args.self in
    let t = kind_read s c.requires.0 c.refers.ensures in (
      c.requires.0,
      to_few s.first.words.now s.first.bytes.now s.second.words.now s.second.bytes.now c.args.x
          s.first_formed s.second_formed c.requires.0 refl t
          c.args.target.now c.args.i c.if-refers.false c.requires.2,
      to_below s.first.words.now s.first.bytes.now s.second.words.now s.second.bytes.now c.args.x
          s.first_formed s.second_formed c.requires.0 refl t
          c.args.target.now c.args.i c.if-refers.false c.requires.2,
    )

pub returns-else-refers-clause-by_index : goal.returns-else-refers-clause-by_index
returns-else-refers-clause-by_index c = λ b d.
    let s = c.args.self in
    to_operand s.first.words.now s.first.bytes.now s.second.words.now s.second.bytes.now c.args.x
    s.first_formed s.second_formed c.requires.0 refl
    (kind_read s c.requires.0 c.refers.ensures)
    c.args.target.now c.args.i c.if-refers.false c.requires.2 c.operand.ensures
    ∙ led_at s b d c.requires.0 c.args.target.now c.args.i

pub returns-else-refers-clause-small : goal.returns-else-refers-clause-small
returns-else-refers-clause-small c =
    let s = c.args.self in
    to_small s.first.words.now s.first.bytes.now s.second.words.now s.second.bytes.now c.args.x
    s.first_formed s.second_formed c.requires.0 refl
    (kind_read s c.requires.0 c.refers.ensures)
    c.args.target.now c.args.i c.if-refers.false c.requires.2 c.operand.ensures
