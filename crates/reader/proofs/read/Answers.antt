use Rattle.std.proofs.Common.{arith}
use Rattle.reader.proofs.Whole.{whole_text}
use Rattle.reader.proofs.read.Goals as goal

pub returns : goal.returns
returns c = whole_text c.args.text.now c.args.words.now c.args.bytes.now _ _ c.read_into.result (omega arith) (omega arith) (omega arith) c.read_into.ensures
