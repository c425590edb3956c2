use Prim.Native.Nat.{◌+◌, ◌<◌}
use Rattle.text.specs.Bytes.{bytes}
use Rattle.ad_printer.proofs.Definitions.{none_written, row_fits, one_row, semicolon_near, rest_fits, more_rows}
use native.Mathlib.Omega.{arith}
use Rattle.ad_printer.proofs.+put_definitions.Goals as goal

pub returns-then-d-j : goal.returns-then-d-j
returns-then-d-j t c = none_written c.args.ad.words.now c.args.ad.bytes.now c.args.j c.args.d c.args.at _
    c.if-d-j.true

pub put_definition-m-requires : goal.put_definition-m-requires
put_definition-m-requires t c = row_fits c.args.ad.words.now c.args.ad.bytes.now c.args.j c.args.d
    (let h : c.args.j < c.args.d = omega (arith, c.if-d-j.false) in h) c.args.at
    c.requires

pub overflow_add-next : goal.overflow_add-next
overflow_add-next t c = omega (arith, c.requires.few)

pub returns-then-d-next : goal.returns-then-d-next
returns-then-d-next t c = one_row c.args.ad.words.now c.args.ad.bytes.now c.args.j c.args.d
    (let h : c.args.j < c.args.d = omega (arith, c.if-d-j.false) in h) c.args.at _ _ _
    c.if-d-next.true c.put_definition-m.ensures

pub put-n-requires : goal.put-n-requires
unfolding bytes
put-n-requires t c = semicolon_near c.args.ad.words.now c.args.ad.bytes.now c.args.j c.args.d
    (let h : c.args.j < c.args.d = omega (arith, c.if-d-j.false) in h)
    (let h : c.args.j + 1 < c.args.d = omega (arith, c.if-d-next.false) in h) c.args.at _
    _ _ c.requires c.put_definition-m.ensures

pub put_definitions-requires : goal.put_definitions-requires
unfolding bytes
put_definitions-requires t c = (
  omega (arith, c.decreases),
  rest_fits c.args.ad.words.now c.args.ad.bytes.now c.args.j c.args.d
      (let h : c.args.j < c.args.d = omega (arith, c.if-d-j.false) in h) (let h :
      c.args.j + 1 < c.args.d = omega (arith, c.if-d-next.false) in
      h) c.args.at _ c.put-n.result _ _ c.requires c.put_definition-m.ensures
      c.put-n.ensures.behind,
)

pub returns : goal.returns
unfolding bytes
returns t c = more_rows c.args.ad.words.now c.args.ad.bytes.now c.args.j c.args.d
    (let h : c.args.j < c.args.d = omega (arith, c.if-d-j.false) in h)
    (let h : c.args.j + 1 < c.args.d = omega (arith, c.if-d-next.false) in h)
    c.args.at _ _ _ _ _ _ _ c.put_definition-m.ensures c.put-n.ensures
    c.put_definitions.ensures
