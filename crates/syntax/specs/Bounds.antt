-- 'Numbers that bound it': each is itself accepted, and one more is refused. Assumes nothing.
use Rattle.std.specs.Prelude.{ℕ}

-- 'Text 16,384 bytes'
abbrev pub text_bytes : ℕ
text_bytes = 16384

-- '256 definitions'
abbrev pub max_definitions : ℕ
max_definitions = 256

-- '1,024 nodes'
abbrev pub max_nodes : ℕ
max_nodes = 1024

-- 'name 64 bytes'
abbrev pub name_bytes : ℕ
name_bytes = 64

-- 'string 1,024 bytes after escapes'
abbrev pub string_bytes : ℕ
string_bytes = 1024

-- 'level 64'
abbrev pub max_level : ℕ
max_level = 64

-- 'Integer: .. 0 to 2,147,483,647'
abbrev pub max_integer : ℕ
max_integer = 2147483647

-- 'Real: .. at most 15 digits in all'
abbrev pub real_digits : ℕ
real_digits = 15
