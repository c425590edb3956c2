use mathlib.Core.Path.{sym, ◌∙◌}
use Rattle.syntax.proofs.Laws.FrontTokens.{starts_continues}
use Rattle.lexer.proofs.Laws.{scan_end, scan_name, scan_number, scan_string, scan_symbol}
use Rattle.lexer.proofs.token_from.Goals as goal

pub returns-then-text-p : goal.returns-then-text-p
returns-then-text-p c = record {
  means_it = scan_end c.args.text.now c.args.p
      c.if-text-p.true;
  lies = tt;
}

pub name-requires : goal.name-requires
name-requires c = record {
  inside = c.if-text-p.false;
  byte = starts_continues _ (sym c.starts_name.ensures ∙ c.if-starts_name.true);
}

pub returns-then-starts_name : goal.returns-then-starts_name
returns-then-starts_name c = record {
  means_it = scan_name c.args.text.now c.args.p
      c.if-text-p.false (c.requires.stop c.if-text-p.false)
      (sym c.starts_name.ensures ∙ c.if-starts_name.true)
      ∙ c.name.ensures.means_it;
  lies = c.name.ensures.lies;
}

pub number-requires : goal.number-requires
number-requires c = record {
  inside = c.if-text-p.false;
  byte = sym c.is_digit.ensures ∙ c.if-is_digit.true;
}

pub returns-then-is_digit : goal.returns-then-is_digit
returns-then-is_digit c = record {
  means_it = scan_number c.args.text.now c.args.p
      c.if-text-p.false (c.requires.stop c.if-text-p.false)
      (sym c.starts_name.ensures ∙ c.if-starts_name.false)
      (sym c.is_digit.ensures ∙ c.if-is_digit.true)
      ∙ c.number.ensures.means_it;
  lies = c.number.ensures.lies;
}

pub returns-then-b-eq34 : goal.returns-then-b-eq34
returns-then-b-eq34 c = record {
  means_it = scan_string c.args.text.now c.args.p
      c.if-text-p.false (c.requires.stop c.if-text-p.false)
      (sym c.starts_name.ensures ∙ c.if-starts_name.false)
      (sym c.is_digit.ensures ∙ c.if-is_digit.false) c.if-b-eq34.true
      ∙ c.string.ensures.means_it;
  lies = c.string.ensures.lies;
}

pub returns : goal.returns
returns c = record {
  means_it = scan_symbol c.args.text.now c.args.p
      c.if-text-p.false (c.requires.stop c.if-text-p.false)
      (sym c.starts_name.ensures ∙ c.if-starts_name.false)
      (sym c.is_digit.ensures ∙ c.if-is_digit.false) c.if-b-eq34.false
      ∙ c.symbol_token.ensures.means_it;
  lies = c.symbol_token.ensures.lies;
}
