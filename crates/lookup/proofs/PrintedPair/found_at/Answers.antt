use Rattle.links.specs.Laws.Numbering.{stands_first, stands_second, stands_small, found_first, found_second}
use Rattle.lookup.proofs.PrintedPair.found_at.Goals as goal

pub found_from-requires-clause-node : goal.found_from-requires-clause-node
found_from-requires-clause-node c =
    let p = c.args.self.ads in
    stands_first p.first.ad.words.now p.second.ad.words.now c.args.x c.requires c.if-x-lt-NODES.true

pub returns-then-x-lt-NODES-clause-found : goal.returns-then-x-lt-NODES-clause-found
returns-then-x-lt-NODES-clause-found c =
    let p = c.args.self.ads in
    found_first p.first.ad.words.now p.first.ad.bytes.now p.second.ad.words.now p.second.ad.bytes.now c.args.x
    p.first.measured.formed p.second.measured.formed
    (stands_small p.first.ad.words.now p.second.ad.words.now c.args.x c.requires) c.if-x-lt-NODES.true c.found_from.ensures.found

pub found_from-requires-else-x-lt-NODES-clause-node : goal.found_from-requires-else-x-lt-NODES-clause-node
found_from-requires-else-x-lt-NODES-clause-node c =
    let p = c.args.self.ads in
    stands_second p.first.ad.words.now p.second.ad.words.now c.args.x c.requires c.if-x-lt-NODES.false

pub returns-else-x-lt-NODES-clause-found : goal.returns-else-x-lt-NODES-clause-found
returns-else-x-lt-NODES-clause-found c =
    let p = c.args.self.ads in
    found_second p.first.ad.words.now p.first.ad.bytes.now p.second.ad.words.now p.second.ad.bytes.now c.args.x
    p.first.measured.formed p.second.measured.formed
    (stands_small p.first.ad.words.now p.second.ad.words.now c.args.x c.requires) c.if-x-lt-NODES.false c.found_from-else-x-lt-NODES.ensures.found
