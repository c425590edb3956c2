use Rattle.std.proofs.Common.{ℕ, ap, ◌∙◌, arith, refl, replicate}
use Rattle.dependency.specs.Laws.Use.{ready_zeros}
use Rattle.match_memory.proofs.match_formed.Goals as goal

pub match_marked-requires-clause-ready : goal.match_marked-requires-clause-ready
match_marked-requires-clause-ready c =
    ready_zeros 2048 (omega arith) refl refl (c.fill-2.ensures.after (λ y e. e) ∙ ap (λ (n : ℕ). replicate n 0) c.requires.1)

pub match_marked-requires-clause-room : goal.match_marked-requires-clause-room
match_marked-requires-clause-room c =
    (c.fill-2.ensures.len ∙ c.requires.1, c.fill.ensures.after (λ y e. e) ∙ ap (λ (n : ℕ). replicate n 0) c.requires.0)
