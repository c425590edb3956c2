use Rattle.std.proofs.Common.{arith, refl}
use Rattle.leaves.specs.Inner.Marks.{mark_at, memory}
use Rattle.leaves.proofs.Laws.{own_within, own_exact, string_within, string_exact, constant_within, constant_exact, leaf_further, stands_of, fewer_left}
use Rattle.leaves.proofs.leaf_at.Goals as goal

pub returns-in_ok-done-in-Word-clause-within : goal.returns-in_ok-done-in-Word-clause-within
returns-in_ok-done-in-Word-clause-within c =
    let t = (rw c.in-Word.is at c.in_ok-token.ensures) in
    let g = stands_of c.args.text.now c.args.from.place _ _ _ t.lies.0 t.lies.1 t.lies.2 t.means_it in
    own_within c.args.text.now c.args.from.place _ _ (mark_at c.args.from) c.args.begun (memory c.args.words.now c.args.bytes.now) _ c.in_ok-done-in-Word.done g c.requires.short c.in_ok-done-in-Word.ensures

pub returns-in_ok-done-in-Word-clause-exact : goal.returns-in_ok-done-in-Word-clause-exact
returns-in_ok-done-in-Word-clause-exact c =
    let t = (rw c.in-Word.is at c.in_ok-token.ensures) in
    let g = stands_of c.args.text.now c.args.from.place _ _ _ t.lies.0 t.lies.1 t.lies.2 t.means_it in
    own_exact c.args.text.now c.args.from.place _ _ (mark_at c.args.from) c.args.begun (memory c.args.words.now c.args.bytes.now) _ c.in_ok-done-in-Word.done g c.in_ok-done-in-Word.ensures

pub returns-in_ok-constant_leaf-in-Constant-clause-within : goal.returns-in_ok-constant_leaf-in-Constant-clause-within
returns-in_ok-constant_leaf-in-Constant-clause-within c =
    let t = (rw c.in-Constant.is at c.in_ok-token.ensures) in
    let g = stands_of c.args.text.now c.args.from.place _ _ _ t.lies.0 t.lies.1 t.lies.2 t.means_it in
    constant_within c.args.text.now c.args.from.place c.in-Constant.at (mark_at c.args.from) c.args.begun (memory c.args.words.now c.args.bytes.now) (memory c.constant_leaf.new.words c.args.bytes.now) c.in_ok-constant_leaf-in-Constant.field-0 c.in-Constant.c g c.requires.short c.in_ok-constant_leaf-in-Constant.ensures

pub returns-in_ok-constant_leaf-in-Constant-clause-exact : goal.returns-in_ok-constant_leaf-in-Constant-clause-exact
returns-in_ok-constant_leaf-in-Constant-clause-exact c =
    let t = (rw c.in-Constant.is at c.in_ok-token.ensures) in
    let g = stands_of c.args.text.now c.args.from.place _ _ _ t.lies.0 t.lies.1 t.lies.2 t.means_it in
    constant_exact c.args.text.now c.args.from.place c.in-Constant.at (mark_at c.args.from) c.args.begun (memory c.args.words.now c.args.bytes.now) (memory c.constant_leaf.new.words c.args.bytes.now) c.in_ok-constant_leaf-in-Constant.field-0 c.in-Constant.c g refl c.in_ok-constant_leaf-in-Constant.ensures

pub returns-in_ok-done-in-String-clause-within : goal.returns-in_ok-done-in-String-clause-within
returns-in_ok-done-in-String-clause-within c =
    let t = (rw c.in-String.is at c.in_ok-token.ensures) in
    let g = stands_of c.args.text.now c.args.from.place _ _ _ t.lies.0 (omega (arith, t.lies.1)) t.lies.2 t.means_it in
    string_within c.args.text.now c.args.from.place _ _ (mark_at c.args.from) c.args.begun (memory c.args.words.now c.args.bytes.now) _ c.in_ok-done-in-String.done g c.requires.short (omega (arith, t.lies.1, t.lies.3)) c.in_ok-done-in-String.ensures

pub returns-in_ok-done-in-String-clause-exact : goal.returns-in_ok-done-in-String-clause-exact
returns-in_ok-done-in-String-clause-exact c =
    let t = (rw c.in-String.is at c.in_ok-token.ensures) in
    let g = stands_of c.args.text.now c.args.from.place _ _ _ t.lies.0 (omega (arith, t.lies.1)) t.lies.2 t.means_it in
    string_exact c.args.text.now c.args.from.place _ _ (mark_at c.args.from) c.args.begun (memory c.args.words.now c.args.bytes.now) _ c.in_ok-done-in-String.done g c.in_ok-done-in-String.ensures

pub returns-in_ok-done-in-Symbol-Other-default-clause-within : goal.returns-in_ok-done-in-Symbol-Other-default-clause-within
returns-in_ok-done-in-Symbol-Other-default-clause-within c =
    let t = (rw c.in-Symbol-Other-default.is at c.in_ok-token.ensures) in
    let g = stands_of c.args.text.now c.args.from.place _ _ _ t.lies.0 t.lies.1 t.lies.2 t.means_it in
    leaf_further c.args.text.now c.args.from.place _ _ _ (mark_at c.args.from) c.args.begun c.in_ok-done-in-Symbol-Other-default.done g c.in_ok-done-in-Symbol-Other-default.ensures.within

pub returns-in-Symbol-OpenParenthesis-default-clause-within : goal.returns-in-Symbol-OpenParenthesis-default-clause-within
returns-in-Symbol-OpenParenthesis-default-clause-within c =
    let t = (rw c.in-Symbol-OpenParenthesis-default.is at c.in_ok-token.ensures) in
    let g = stands_of c.args.text.now c.args.from.place _ _ _ t.lies.0 t.lies.1 t.lies.2 t.means_it in
    (omega arith, t.lies.2, omega (arith, fewer_left c.args.text.now c.args.from.place _ _ _ g), refl {a = memory c.args.words.now c.args.bytes.now})
