use Rattle.printer.proofs.Ads.{small_words, small_bytes, prints_front}
use Rattle.inspection.specs.Inspection.{node_text}
use Rattle.inspection.proofs.expression.Goals as goal

pub returns-then-words-lt-WORDS : goal.returns-then-words-lt-WORDS
returns-then-words-lt-WORDS c = rw c.into.ensures (small_words (λ a. node_text a c.args.node) c.args.words.now c.args.bytes.now _ c.if-words-lt-WORDS.true)

pub returns-then-bytes-lt-BYTES : goal.returns-then-bytes-lt-BYTES
returns-then-bytes-lt-BYTES c = rw c.into-then-bytes-lt-BYTES.ensures (small_bytes (λ a. node_text a c.args.node) c.args.words.now c.args.bytes.now _ c.if-bytes-lt-BYTES.true)

pub returns : goal.returns
returns c = prints_front (λ a. node_text a c.args.node) c.args.words.now c.args.bytes.now _ _ c.if-words-lt-WORDS.false
    c.if-bytes-lt-BYTES.false c.expression_room.result c.expression_room.ensures
