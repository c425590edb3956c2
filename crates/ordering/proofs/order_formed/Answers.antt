use Rattle.std.proofs.Common.{ℕ, ap, ◌∙◌, arith, refl, replicate}
use Rattle.dependency.specs.Laws.Use.{ready_zeros}
use Rattle.ordering.proofs.Orders.{orders_of}
use Rattle.ordering.proofs.order_formed.Goals as goal

pub traverse-t-requires : goal.traverse-t-requires
traverse-t-requires c =
    ready_zeros 2048 (omega arith) refl (c.fill.ensures.after (λ y e. e) ∙ ap (λ (n : ℕ). replicate n 0) c.requires.0)
    (c.fill-2.ensures.after (λ y e. e) ∙ ap (λ (n : ℕ). replicate n 0) c.requires.1)

pub returns : goal.returns
returns c =
    let p = c.args.ads in
    orders_of p.first.ad.words.now p.first.ad.bytes.now p.second.ad.words.now p.second.ad.bytes.now (omega arith) c.traverse-t.ensures.traversed
