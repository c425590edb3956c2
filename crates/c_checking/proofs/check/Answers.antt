use mathlib.Core.Path.{refl}
use Rattle.c_checking.proofs.Checking.{small_words, small_bytes, checked}
use Rattle.c_checking.proofs.check.Goals as goal

pub returns-then-words-lt-WORDS : goal.returns-then-words-lt-WORDS
returns-then-words-lt-WORDS c = small_words c.args.words.now c.args.bytes.now c.if-words-lt-WORDS.true refl

pub returns-then-bytes-lt-BYTES : goal.returns-then-bytes-lt-BYTES
returns-then-bytes-lt-BYTES c = small_bytes c.args.words.now c.args.bytes.now c.if-words-lt-WORDS.false
    c.if-bytes-lt-BYTES.true refl

pub returns : goal.returns
returns c = checked c.args.words.now c.args.bytes.now c.check.result
    c.if-words-lt-WORDS.false c.if-bytes-lt-BYTES.false c.check.ensures c.check_numbers.ensures
