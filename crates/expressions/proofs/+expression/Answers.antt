use Rattle.std.proofs.Common.{arith}
use Rattle.std.proofs.lemmas.Result.{err_from_is_err_and}
use Rattle.syntax.specs.Token.{symbol, operator}
use Rattle.syntax.specs.Grammar.{unary_token}
use Rattle.syntax.specs.declared.Symbol.TheVariants.{Question, Colon, CloseParenthesis}
use Rattle.leaves.specs.Inner.Marks.{mark_at, memory}
use Rattle.leaves.proofs.Laws.{fewer_left}
use Rattle.expressions.proofs.Words.{more}
use Rattle.expressions.proofs.Laws.{conditional_refused, conditional_done, binary_unary, binary_refused, binary_done, rest_stop, rest_full, rest_refused, rest_more, arms_stop, arms_deep, arms_full, arms_first, arms_colon, arms_second, arms_done, unary_primary, unary_deep, unary_full, unary_refused, unary_done, primary_leaf, primary_no, primary_deep, primary_refused, primary_unclosed, primary_done, within_from}
use Rattle.expressions.proofs.+expression.Goals as goal

pub read_conditional-returns-in_err-operand-clause-exact : goal.read_conditional-returns-in_err-operand-clause-exact
read_conditional-returns-in_err-operand-clause-exact t c =
    let r = err_from_is_err_and c.from_residual.result c.from_residual.ensures.1 in
    rw (r.1, r.2) (conditional_refused c.args.text.now c.args.from.place c.args.depth (mark_at c.args.from) c.args.begun (memory c.args.words.now c.args.bytes.now) (memory c.args.words.now c.args.bytes.now) (memory c.args.words.now c.args.bytes.now) _ c.in_err-operand.ensures.exact)

pub read_conditional-returns-clause-exact : goal.read_conditional-returns-clause-exact
read_conditional-returns-clause-exact t c =
    conditional_done c.args.text.now c.args.from.place c.args.depth (mark_at c.args.from) c.args.begun (memory c.args.words.now c.args.bytes.now) (memory c.read_binary.new.words c.read_binary.new.bytes) _ _ (mark_at c.in_ok-operand.operand) c.read_arms.result c.in_ok-operand.ensures.exact c.read_arms.ensures.exact c.in_ok-operand.ensures.within.fewer

pub read_arms-returns-in_default-clause-exact : goal.read_arms-returns-in_default-clause-exact
read_arms-returns-in_default-clause-exact t c =
    arms_stop c.args.text.now c.args.from.place c.args.depth (mark_at c.args.from) c.args.begun (memory c.args.words.now c.args.bytes.now) c.in_default.ensures.0

pub read_arms-returns-in_err-deeper-clause-exact : goal.read_arms-returns-in_err-deeper-clause-exact
read_arms-returns-in_err-deeper-clause-exact t c =
    let r = err_from_is_err_and c.from_residual.result c.from_residual.ensures.1 in
    rw (r.1, r.2) (arms_deep c.args.text.now c.args.from.place c.args.depth (mark_at c.args.from) c.args.begun (memory c.args.words.now c.args.bytes.now) _ _ c.in-Ok.ensures (memory c.args.words.now c.args.bytes.now) _ c.in_err-deeper.ensures.0 c.in_err-deeper.ensures.1)

pub read_arms-returns-in_err-room-clause-exact : goal.read_arms-returns-in_err-room-clause-exact
read_arms-returns-in_err-room-clause-exact t c =
    let r = err_from_is_err_and c.from_residual-in_err-room.result c.from_residual-in_err-room.ensures.1 in
    rw (r.1, r.2) (arms_full c.args.text.now c.args.from.place c.args.depth (mark_at c.args.from) c.args.begun (memory c.args.words.now c.args.bytes.now) _ _ c.in-Ok.ensures (memory c.args.words.now c.args.bytes.now) _ c.in_ok-deeper.ensures c.in_err-room.ensures.0 c.in_err-room.ensures.1)

pub read_arms-returns-in_err-first-clause-exact : goal.read_arms-returns-in_err-first-clause-exact
read_arms-returns-in_err-first-clause-exact t c =
    let r = err_from_is_err_and c.from_residual-in_err-first.result c.from_residual-in_err-first.ensures.1 in
    rw (r.1, r.2) (arms_first c.args.text.now c.args.from.place c.args.depth (mark_at c.args.from) c.args.begun (memory c.args.words.now c.args.bytes.now) _ _ c.in-Ok.ensures c.in_ok-deeper.ensures c.in_ok-room.ensures (memory c.args.words.now c.args.bytes.now) (memory c.args.words.now c.args.bytes.now) _ c.in_err-first.ensures.exact)

pub read_arms-returns-in_err-colon-clause-exact : goal.read_arms-returns-in_err-colon-clause-exact
read_arms-returns-in_err-colon-clause-exact t c =
    let r = err_from_is_err_and c.from_residual-in_err-colon.result c.from_residual-in_err-colon.ensures.1 in
    rw (r.1, r.2) (arms_colon c.args.text.now c.args.from.place c.args.depth (mark_at c.args.from) c.args.begun (memory c.args.words.now c.args.bytes.now) _ _ c.in-Ok.ensures c.in_ok-deeper.ensures c.in_ok-room.ensures (memory c.read_conditional.new.words c.read_conditional.new.bytes) _ (mark_at c.in_ok-first.first) c.in_ok-first.ensures.exact (memory c.args.words.now c.args.bytes.now) _ c.in_err-colon.ensures)

pub read_arms-returns-in_err-second-clause-exact : goal.read_arms-returns-in_err-second-clause-exact
read_arms-returns-in_err-second-clause-exact t c =
    let r = err_from_is_err_and c.from_residual-in_err-second.result c.from_residual-in_err-second.ensures.1 in
    rw (r.1, r.2) (arms_second c.args.text.now c.args.from.place c.args.depth (mark_at c.args.from) c.args.begun (memory c.args.words.now c.args.bytes.now) _ _ c.in-Ok.ensures c.in_ok-deeper.ensures c.in_ok-room.ensures (memory c.read_conditional.new.words c.read_conditional.new.bytes) _ (mark_at c.in_ok-first.first) c.in_ok-first.ensures.exact _ _ c.in_ok-colon.ensures c.in_ok-first.ensures.within.fewer (memory c.args.words.now c.args.bytes.now) (memory c.args.words.now c.args.bytes.now) _ c.in_err-second.ensures.exact)

pub read_arms-returns-clause-exact : goal.read_arms-returns-clause-exact
read_arms-returns-clause-exact t c =
    arms_done c.args.text.now c.args.from.place c.args.depth (mark_at c.args.from) c.args.begun (memory c.args.words.now c.args.bytes.now) _ _ c.in-Ok.ensures c.in_ok-deeper.ensures c.in_ok-room.ensures (memory c.read_conditional.new.words c.read_conditional.new.bytes) _ (mark_at c.in_ok-first.first) c.in_ok-first.ensures.exact _ _ c.in_ok-colon.ensures c.in_ok-first.ensures.within.fewer (memory c.read_conditional-2.new.words c.read_conditional-2.new.bytes) _ _ (mark_at c.in_ok-second.second) c.in_ok-second.ensures.exact c.store_node.ensures

pub read_arms-returns-clause-within : goal.read_arms-returns-clause-within
read_arms-returns-clause-within t c =
    let i = c.in_ok-first.ensures.within in
    let j = c.in_ok-second.ensures.within in
    let g = c.in-Ok.ensures in
    let d = c.in_ok-colon.ensures in
    let f₁ = fewer_left c.args.text.now _ _ _ (symbol Question) g in
    let f₂ = fewer_left c.args.text.now _ _ _ (symbol Colon) d in
    record {
      low = omega arith;
      high = j.high;
      grows = omega arith;
      some = omega arith;
      fits = omega arith;
      short = j.short;
      fewer = omega arith;
    }

pub read_binary-returns-then-level-ge7-clause-exact : goal.read_binary-returns-then-level-ge7-clause-exact
read_binary-returns-then-level-ge7-clause-exact t c =
    binary_unary c.args.text.now c.args.from.place c.args.depth (mark_at c.args.from) c.args.begun (memory c.args.words.now c.args.bytes.now) c.args.level _ c.read_unary.result c.if-level-ge7.true c.requires.0 c.read_unary.ensures.exact

pub read_binary-returns-in_err-operand-clause-exact : goal.read_binary-returns-in_err-operand-clause-exact
read_binary-returns-in_err-operand-clause-exact t c =
    let r = err_from_is_err_and c.from_residual.result c.from_residual.ensures.1 in
    rw (r.1, r.2) (binary_refused c.args.text.now c.args.from.place c.args.depth (mark_at c.args.from) c.args.begun (memory c.args.words.now c.args.bytes.now) c.args.level (memory c.args.words.now c.args.bytes.now) (memory c.args.words.now c.args.bytes.now) _ c.if-level-ge7.false c.in_err-operand.ensures.exact)

pub read_binary-returns-clause-exact : goal.read_binary-returns-clause-exact
read_binary-returns-clause-exact t c =
    binary_done c.args.text.now c.args.from.place c.args.depth (mark_at c.args.from) c.args.begun (memory c.args.words.now c.args.bytes.now) c.args.level (memory c.read_binary.new.words c.read_binary.new.bytes) _ _ (mark_at c.in_ok-operand.operand) c.read_rest.result c.if-level-ge7.false c.in_ok-operand.ensures.exact c.read_rest.ensures.exact c.in_ok-operand.ensures.within.fewer

pub read_rest-returns-in_default-clause-exact : goal.read_rest-returns-in_default-clause-exact
read_rest-returns-in_default-clause-exact t c =
    rest_stop c.args.text.now c.args.from.place c.args.depth (mark_at c.args.from) c.args.begun (memory c.args.words.now c.args.bytes.now) c.args.level c.in_default.ensures

pub read_rest-returns-in_err-room-clause-exact : goal.read_rest-returns-in_err-room-clause-exact
read_rest-returns-in_err-room-clause-exact t c =
    let r = err_from_is_err_and c.from_residual.result c.from_residual.ensures.1 in
    rw (r.1, r.2) (rest_full c.args.text.now c.args.from.place c.args.depth (mark_at c.args.from) c.args.begun (memory c.args.words.now c.args.bytes.now) c.args.level c.in-Some.operator _ _ c.in-Some.ensures.0 c.in-Some.ensures.1 (memory c.args.words.now c.args.bytes.now) _ c.in_err-room.ensures.0 c.in_err-room.ensures.1)

pub read_rest-returns-in_err-right-clause-exact : goal.read_rest-returns-in_err-right-clause-exact
read_rest-returns-in_err-right-clause-exact t c =
    let r = err_from_is_err_and c.from_residual-in_err-right.result c.from_residual-in_err-right.ensures.1 in
    rw (r.1, r.2) (rest_refused c.args.text.now c.args.from.place c.args.depth (mark_at c.args.from) c.args.begun (memory c.args.words.now c.args.bytes.now) c.args.level c.in-Some.operator _ _ c.in-Some.ensures.0 c.in-Some.ensures.1 c.in_ok-room.ensures (memory c.args.words.now c.args.bytes.now) (memory c.args.words.now c.args.bytes.now) _ c.in_err-right.ensures.exact)

pub read_rest-returns-clause-exact : goal.read_rest-returns-clause-exact
read_rest-returns-clause-exact t c =
    rest_more c.args.text.now c.args.from.place c.args.depth (mark_at c.args.from) c.args.begun (memory c.args.words.now c.args.bytes.now) c.args.level c.in-Some.operator _ _ c.in-Some.ensures.0 c.in-Some.ensures.1 c.in_ok-room.ensures (memory c.read_binary.new.words c.read_binary.new.bytes) _ _ _ (mark_at c.in_ok-right.right) c.read_rest.result c.in_ok-right.ensures.exact c.in_ok-right.ensures.within.fewer c.store_node.ensures c.read_rest.ensures.exact

pub read_rest-returns-clause-within : goal.read_rest-returns-clause-within
read_rest-returns-clause-within t c =
    let i = c.in_ok-right.ensures.within in
    let g = c.in-Some.ensures.1 in
    let f = fewer_left c.args.text.now _ _ _ (operator c.in-Some.operator) g in
    within_from c.args.text.now c.args.from.place _ 0 (mark_at c.args.from) (more (mark_at c.in_ok-right.right)) c.args.begun c.read_rest.result (omega (arith, g.low, g.wide)) (omega arith) (omega arith) c.read_rest.ensures.within

pub read_unary-returns-in_default-clause-exact : goal.read_unary-returns-in_default-clause-exact
read_unary-returns-in_default-clause-exact t c =
    unary_primary c.args.text.now c.args.from.place c.args.depth (mark_at c.args.from) c.args.begun (memory c.args.words.now c.args.bytes.now) _ c.read_primary.result c.in_default.ensures c.read_primary.ensures.exact

pub read_unary-returns-in_err-deeper-clause-exact : goal.read_unary-returns-in_err-deeper-clause-exact
read_unary-returns-in_err-deeper-clause-exact t c =
    let r = err_from_is_err_and c.from_residual.result c.from_residual.ensures.1 in
    rw (r.1, r.2) (unary_deep c.args.text.now c.args.from.place c.args.depth (mark_at c.args.from) c.args.begun (memory c.args.words.now c.args.bytes.now) c.in-Some.operator _ _ c.in-Some.ensures (memory c.args.words.now c.args.bytes.now) _ c.in_err-deeper.ensures.0 c.in_err-deeper.ensures.1)

pub read_unary-returns-in_err-room-clause-exact : goal.read_unary-returns-in_err-room-clause-exact
read_unary-returns-in_err-room-clause-exact t c =
    let r = err_from_is_err_and c.from_residual-in_err-room.result c.from_residual-in_err-room.ensures.1 in
    rw (r.1, r.2) (unary_full c.args.text.now c.args.from.place c.args.depth (mark_at c.args.from) c.args.begun (memory c.args.words.now c.args.bytes.now) c.in-Some.operator _ _ c.in-Some.ensures (memory c.args.words.now c.args.bytes.now) _ c.in_ok-deeper.ensures c.in_err-room.ensures.0 c.in_err-room.ensures.1)

pub read_unary-returns-in_err-operand-clause-exact : goal.read_unary-returns-in_err-operand-clause-exact
read_unary-returns-in_err-operand-clause-exact t c =
    let r = err_from_is_err_and c.from_residual-in_err-operand.result c.from_residual-in_err-operand.ensures.1 in
    rw (r.1, r.2) (unary_refused c.args.text.now c.args.from.place c.args.depth (mark_at c.args.from) c.args.begun (memory c.args.words.now c.args.bytes.now) c.in-Some.operator _ _ c.in-Some.ensures c.in_ok-deeper.ensures c.in_ok-room.ensures (memory c.args.words.now c.args.bytes.now) (memory c.args.words.now c.args.bytes.now) _ c.in_err-operand.ensures.exact)

pub read_unary-returns-clause-exact : goal.read_unary-returns-clause-exact
read_unary-returns-clause-exact t c =
    unary_done c.args.text.now c.args.from.place c.args.depth (mark_at c.args.from) c.args.begun (memory c.args.words.now c.args.bytes.now) c.in-Some.operator _ _ c.in-Some.ensures c.in_ok-deeper.ensures c.in_ok-room.ensures (memory c.read_unary.new.words c.read_unary.new.bytes) _ _ (mark_at c.in_ok-operand.operand) c.in_ok-operand.ensures.exact c.store_node.ensures

pub read_unary-returns-clause-within : goal.read_unary-returns-clause-within
read_unary-returns-clause-within t c =
    let i = c.in_ok-operand.ensures.within in
    let g = c.in-Some.ensures in
    let f = fewer_left c.args.text.now _ _ _ (unary_token c.in-Some.operator) g in
    record {
      low = omega arith;
      high = i.high;
      grows = omega arith;
      some = omega arith;
      fits = omega arith;
      short = i.short;
      fewer = omega arith;
    }

pub read_primary-returns-in_err-done-clause-exact : goal.read_primary-returns-in_err-done-clause-exact
read_primary-returns-in_err-done-clause-exact t c =
    let r = err_from_is_err_and c.from_residual.result c.from_residual.ensures.1 in
    rw (r.1, r.2) (primary_no c.args.text.now c.args.from.place c.args.depth (mark_at c.args.from) c.args.begun (memory c.args.words.now c.args.bytes.now) (memory c.args.words.now c.args.bytes.now) (memory c.args.words.now c.args.bytes.now) _ c.in_err-done.ensures.exact)

pub read_primary-returns-in-Done-clause-exact : goal.read_primary-returns-in-Done-clause-exact
read_primary-returns-in-Done-clause-exact t c =
    primary_leaf c.args.text.now c.args.from.place c.args.depth (mark_at c.args.from) c.args.begun (memory c.args.words.now c.args.bytes.now) _ c.in-Done.done (rw c.in-Done.is at c.in_ok-done.ensures.exact)

pub read_primary-returns-in_err-deeper-clause-exact : goal.read_primary-returns-in_err-deeper-clause-exact
read_primary-returns-in_err-deeper-clause-exact t c =
    let i = (rw c.in-Open.is at c.in_ok-done.ensures.within) in
    let l = (rw c.in-Open.is at c.in_ok-done.ensures.exact) in
    let r = err_from_is_err_and c.from_residual-in_err-deeper.result c.from_residual-in_err-deeper.ensures.1 in
    rw (r.1, r.2) (primary_deep c.args.text.now c.args.from.place c.args.depth (mark_at c.args.from) c.args.begun (memory c.args.words.now c.args.bytes.now) _ (memory c.leaf_at.new.words c.leaf_at.new.bytes) i.3 l i.2 (memory c.args.words.now c.args.bytes.now) _ c.in_err-deeper.ensures.0 c.in_err-deeper.ensures.1)

pub read_primary-returns-in_err-inner-clause-exact : goal.read_primary-returns-in_err-inner-clause-exact
read_primary-returns-in_err-inner-clause-exact t c =
    let i = (rw c.in-Open.is at c.in_ok-done.ensures.within) in
    let l = (rw c.in-Open.is at c.in_ok-done.ensures.exact) in
    let r = err_from_is_err_and c.from_residual-in_err-inner.result c.from_residual-in_err-inner.ensures.1 in
    rw (r.1, r.2) (primary_refused c.args.text.now c.args.from.place c.args.depth (mark_at c.args.from) c.args.begun (memory c.args.words.now c.args.bytes.now) _ (memory c.leaf_at.new.words c.leaf_at.new.bytes) i.3 l i.2 c.in_ok-deeper.ensures (memory c.args.words.now c.args.bytes.now) (memory c.args.words.now c.args.bytes.now) _ c.in_err-inner.ensures.exact)

pub read_primary-returns-in_err-close-clause-exact : goal.read_primary-returns-in_err-close-clause-exact
read_primary-returns-in_err-close-clause-exact t c =
    let i = (rw c.in-Open.is at c.in_ok-done.ensures.within) in
    let l = (rw c.in-Open.is at c.in_ok-done.ensures.exact) in
    let r = err_from_is_err_and c.from_residual-in_err-close.result c.from_residual-in_err-close.ensures.1 in
    rw (r.1, r.2) (primary_unclosed c.args.text.now c.args.from.place c.args.depth (mark_at c.args.from) c.args.begun (memory c.args.words.now c.args.bytes.now) _ (memory c.leaf_at.new.words c.leaf_at.new.bytes) i.3 l i.2 c.in_ok-deeper.ensures (memory c.read_conditional.new.words c.read_conditional.new.bytes) _ (mark_at c.in_ok-inner.inner) c.in_ok-inner.ensures.exact (memory c.args.words.now c.args.bytes.now) _ c.in_err-close.ensures)

pub read_primary-returns-clause-exact : goal.read_primary-returns-clause-exact
read_primary-returns-clause-exact t c =
    let i = (rw c.in-Open.is at c.in_ok-done.ensures.within) in
    let l = (rw c.in-Open.is at c.in_ok-done.ensures.exact) in
    primary_done c.args.text.now c.args.from.place c.args.depth (mark_at c.args.from) c.args.begun (memory c.args.words.now c.args.bytes.now) _ (memory c.leaf_at.new.words c.leaf_at.new.bytes) i.3 l i.2 c.in_ok-deeper.ensures (memory c.read_conditional.new.words c.read_conditional.new.bytes) _ (mark_at c.in_ok-inner.inner) c.in_ok-inner.ensures.exact _ _ c.in_ok-close.ensures

pub read_primary-returns-clause-within : goal.read_primary-returns-clause-within
read_primary-returns-clause-within t c =
    let i = (rw c.in-Open.is at c.in_ok-done.ensures.within) in
    let j = c.in_ok-inner.ensures.within in
    let d = c.in_ok-close.ensures in
    let f = fewer_left c.args.text.now _ _ _ (symbol CloseParenthesis) d in
    record {
      low = omega arith;
      high = d.high;
      grows = j.grows;
      some = j.some;
      fits = j.fits;
      short = omega arith;
      fewer = omega arith;
    }
