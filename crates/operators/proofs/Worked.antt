-- The examples hold: antt computes both sides. Assumes nothing.
use mathlib.Core.Path.{refl}
use lib.Ieee
use Rattle.integers.specs.Integers.{wrap, signed}
use Rattle.text.specs.Bytes.{bytes, lower_case}
use Rattle.text.specs.Strings.{string_order, bytes_order, same_bytes}
use Rattle.operators.specs.Expressions.{value_of}
use Rattle.operators.specs.Examples.{Holds, memory, examples, edges}

pub examples_hold : Holds examples
unfolding memory examples value_of wrap signed bytes lower_case string_order bytes_order same_bytes
examples_hold = refl

pub edges_hold : Holds edges
unfolding memory edges value_of wrap signed bytes lower_case string_order bytes_order same_bytes Ieee.round Ieee.add Ieee.div Ieee.rem Ieee.neg Ieee.eq Ieee.ne Ieee.lt Ieee.le Ieee.of_int
edges_hold = refl
