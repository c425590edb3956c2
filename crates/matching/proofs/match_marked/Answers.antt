use Rattle.std.proofs.Common.{arith, refl}
use Rattle.matching.specs.declared.Outcome.TheVariants.{Finished}
use Rattle.matching.proofs.Assembling.{clear_long, at_run, match_of}
use Rattle.matching.proofs.match_marked.Goals as goal

pub run-steps-requires : goal.run-steps-requires
run-steps-requires c =
    let p = c.args.ads in
    at_run p.first.ad.words.now p.first.ad.bytes.now p.second.ad.words.now p.second.ad.bytes.now p.first.measured.formed p.second.measured.formed
    c.traverse-t.ensures.traversed (omega arith) (omega arith) (clear_long c.requires.room.1)

pub returns-then-steps-t : goal.returns-then-steps-t
returns-then-steps-t c =
    let p = c.args.ads in
    let r = c.traverse-t.result.roots in
    match_of p.first.ad.words.now p.first.ad.bytes.now p.second.ad.words.now p.second.ad.bytes.now p.first.measured.formed p.second.measured.formed
    c.traverse-t.ensures.traversed c.requires.room.1 c.run-steps.ensures r.first_requirements r.second_requirements r.first_rank r.second_rank
    (omega arith) c.traverse-t.ensures.roots (λ h. refl) (λ h. absurd (omega arith))

pub returns : goal.returns
returns c =
    let p = c.args.ads in
    let r = c.traverse-t.result.roots in
    match_of p.first.ad.words.now p.first.ad.bytes.now p.second.ad.words.now p.second.ad.bytes.now p.first.measured.formed p.second.measured.formed
    c.traverse-t.ensures.traversed c.requires.room.1 c.run-steps.ensures r.first_requirements r.second_requirements r.first_rank r.second_rank
    (omega arith) c.traverse-t.ensures.roots (λ h. absurd (omega arith))
    (λ h i. Finished (c.conclude-answer.ensures.verdict i) (c.conclude-answer.ensures.ranks.0 i) (c.conclude-answer.ensures.ranks.1 i)
    c.run-steps.result c.traverse-t.result.count)
