use Rattle.well_formed.proofs.Answer.{small}
use Rattle.well_formed.proofs.check.Goals as goal

pub returns-then-words-lt-WORDS : goal.returns-then-words-lt-WORDS
returns-then-words-lt-WORDS c = small c.args.words.now c.args.bytes.now c.then-words-lt-WORDS.either
