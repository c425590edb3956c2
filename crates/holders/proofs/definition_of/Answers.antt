-- `holders::definition_of` meets its contract. Assumes nothing.
use mathlib.Core.Path.{sym, ◌∙◌, subst}
use Prim.Native.Nat.{ℕ, ◌≤◌, ◌<◌}
use Rattle.holders.proofs.Holders.{too_short, start, no_name, found, next, all_passed, long_enough}
use Rattle.holders.proofs.definition_of.Goals as goal

pub returns-then-words-lt-WORDS : goal.returns-then-words-lt-WORDS
returns-then-words-lt-WORDS c = too_short c.args.words.now c.args.node c.if-words-lt-WORDS.true

pub loop-j-init : goal.loop-j-init
loop-j-init c = start _ _ 256

pub returns-then-name_length-eq0 : goal.returns-then-name_length-eq0
returns-then-name_length-eq0 c = no_name c.args.words.now c.args.node 256 c.loop-j.j c.loop-j.invariant c.loop-j-test.true (sym c.name_length.ensures ∙ c.if-name_length-eq0.true)
    ∙ long_enough c.args.words.now c.args.node c.if-words-lt-WORDS.false

pub returns-then-node-root : goal.returns-then-node-root
returns-then-node-root c = found c.args.words.now c.args.node 256 c.loop-j.j c.loop-j.invariant c.loop-j-test.true (λ e. c.if-name_length-eq0.false
    (c.name_length.ensures ∙ e))
    (subst (λ (x : ℕ). c.args.node ≤ x) c.root.ensures c.if-node-root.true)
    ∙ long_enough c.args.words.now c.args.node c.if-words-lt-WORDS.false

pub loop-j-preserved : goal.loop-j-preserved
loop-j-preserved c = next c.args.words.now c.args.node 256 c.loop-j.j c.loop-j.invariant c.loop-j-test.true (λ e. c.if-name_length-eq0.false
    (c.name_length.ensures ∙ e))
    (subst (λ (x : ℕ). x < c.args.node) c.root.ensures c.if-node-root.false)

pub returns : goal.returns
returns c = all_passed c.args.words.now c.args.node 256 c.loop-j.j c.loop-j.invariant
    c.loop-j-test.false
    ∙ long_enough c.args.words.now c.args.node c.if-words-lt-WORDS.false
