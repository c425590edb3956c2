use Rattle.std.proofs.Common.{◌≡◌, ◌-◌}
use Rattle.ad.specs.Inner.Names.{defined_in}
use Rattle.ad.proofs.stored.StoredAd.defined.Given as goal

abbrev pub invariant-loop-j : goal.invariant-loop-j
invariant-loop-j l =
    defined_in l.self.words.now l.self.bytes.now l.name 0 l.d ≡ defined_in l.self.words.now l.self.bytes.now l.name l.j (l.d - l.j)
