use Rattle.std.proofs.Common.{ap, ◌++◌, ◌∙◌}
use Rattle.std.specs.List.{filter}
use Rattle.poly_tasks.specs.Judged.{is_harmful}
use Rattle.poly_tasks.specs.Meaning.{laid_of, own_of}
use Rattle.poly_tasks.proofs.Spotting.{spotted_both}
use Rattle.poly_tasks.proofs.task.append_harmful.Goals as goal

pub returns-clause-ok : goal.returns-clause-ok
returns-clause-ok c =
    let log = c.args.log.now in
    let f = c.args.frozen.now in
    let ps = c.args.spots.now.placements.items in
    c.in_ok-append_since.ensures.ok ∙ ap (λ A. A ++ filter (is_harmful ps) (laid_of log f)) c.in_ok-append_harmful_own.ensures.ok
    ∙ spotted_both ps (own_of log f.own) (laid_of log f) c.args.atoms.now.items
