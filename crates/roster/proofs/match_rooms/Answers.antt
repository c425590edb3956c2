use mathlib.Core.Path.{◌∙◌}
use Rattle.roster.proofs.Rooms.{zeros}
use Rattle.roster.proofs.match_rooms.Goals as goal

pub match_lines-report-requires : goal.match_lines-report-requires
match_lines-report-requires c = record {
  room = c.requires.room;
  few_lines = c.requires.few_lines;
  rows_clear = zeros 2048 c.args.outcomes.now (c.fill.ensures.after (λ y e. e))
      c.requires.rows_room;
}

pub returns : goal.returns
returns c = record {
  listed = c.match_lines-report.ensures;
  cleared = record {
    words = zeros 4864 c.match_lines-report.new.words (c.fill-2.ensures.after (λ y e. e))
        (c.match_lines-report.auto.words ∙ c.requires.room.words);
    bytes = zeros 16384 c.match_lines-report.new.bytes (c.fill-3.ensures.after (λ y e. e))
        (c.match_lines-report.auto.bytes ∙ c.requires.room.bytes);
    values = zeros 4096 c.match_lines-report.new.table
        (c.fill-4.ensures.after (λ y e. e)) (c.match_lines-report.auto.table
        ∙ c.requires.room.values);
    entries = zeros 2048 c.match_lines-report.new.list
        (c.fill-5.ensures.after (λ y e. e))
        (c.match_lines-report.auto.list ∙ c.requires.room.entries);
  };
}
