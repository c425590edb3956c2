use Rattle.std.proofs.Common.{◌∙◌, rules}
use Rattle.ad.specs.Stored.{kind_at, binary_of}
use Rattle.ad.specs.Laws.Coding.{binary_told}
use Rattle.ad.proofs.stored.StoredAd.binary.Goals as goal

pub unwrap-requires : goal.unwrap-requires
unwrap-requires c =
    let e = c.kind.ensures ∙ binary_told _ c.requires.operator.0 c.requires.operator.1 in
    search (rules, e)

pub unreachable-requires : goal.unreachable-requires
unreachable-requires c =
    let e = c.kind.ensures ∙ binary_told _ c.requires.operator.0 c.requires.operator.1 in
    c.in_default.not-Binary (binary_of (kind_at c.args.self.words.now c.args.i)) (cc)

pub returns : goal.returns
returns c =
    let e = c.kind.ensures ∙ binary_told _ c.requires.operator.0 c.requires.operator.1 in
    cc
