use Rattle.std.proofs.Common.{arith}
use Rattle.lexer.proofs.Laws.{string_broken, string_long, string_token, string_length, string_body}
use Rattle.lexer.proofs.string.Goals as goal

pub returns-in_default : goal.returns-in_default
returns-in_default c = record {
  means_it = string_broken c.args.text.now c.args.start c.in_default.ensures;
  lies = tt;
}

pub returns-then-found-gt-STRING_BYTES : goal.returns-then-found-gt-STRING_BYTES
returns-then-found-gt-STRING_BYTES c =
    let b = c.in-Some.ensures in
    record {
      means_it = string_long c.args.text.now c.args.start _ _ b.0 b.1 b.2 c.if-found-gt-STRING_BYTES.true;
      lies = tt;
    }

pub returns : goal.returns
returns c =
    let b = c.in-Some.ensures in
    record {
      means_it = string_token c.args.text.now c.args.start _ _ b.0 b.1 b.2 c.if-found-gt-STRING_BYTES.false;
      lies = (
        omega arith,
        omega arith,
        b.1,
        string_length c.args.text.now c.args.start _ _ b.0 b.1 b.2,
        string_body c.args.text.now c.args.start _ _ b.0 b.1 b.2,
      );
    }
