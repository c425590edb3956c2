use Rattle.std.proofs.Common.{refl}
use Rattle.listing.proofs.Rule.{resolve_more, resolve_last}
use Rattle.listing.proofs.resolve.Goals as goal

pub returns-then-i-n : goal.returns-then-i-n
returns-then-i-n c = λ G len ma fl ls a. rw c.mark.ensures (resolve_more a len _ ma fl ls c.requires.1 refl c.if-i-n.true)

pub returns-else-i-n : goal.returns-else-i-n
returns-else-i-n c = λ G len ma fl ls a. rw c.mark.ensures (resolve_last a len _ ma fl ls c.requires.1 refl c.requires.0 c.if-i-n.false)
