use Rattle.std.proofs.Common.{rules, subst, ◌<◌, ◌≡◌}
use Rattle.std.specs.Prelude.{MatchOption, ⊤}
use Rattle.poly_tasks.specs.Judged.{IsSpoiler}
use Rattle.poly_tasks.proofs.Lacking.{spoilt_stair}
use Rattle.poly_tasks.proofs.spoilt.is_spoilt.Goals as goal

pub returns-else-guard-stair-2 : goal.returns-else-guard-stair-2
returns-else-guard-stair-2 c = λ so.
    let w = c.args.view.now in
    let log = c.args.log.now in
    let s = c.in-Some.guard in
    let t = c.in-Some-last_stair.stair in
    let own = c.in-Some-last_stair.ensures log c.requires.own in
    let spoiler : IsSpoiler w log s = subst (λ o. MatchOption o ⊤ (λ x. IsSpoiler w log x)) c.in-Some.is c.requires.spoiler in
    let low : s.index < t.index = (search rules) in
    let same : s.edition ≡ t.edition = search rules in
    spoilt_stair w log s t _ own.1.0 spoiler own.0 same low own.1.1
