use Rattle.std.proofs.Common.{[], ap, map, not, ◌++◌, ◌∙◌}
use Rattle.poly_atom.specs.Hopeless.{hopeless}
use Rattle.poly_atom.specs.Stairs.{stairs}
use Rattle.poly_tasks.specs.Judged.{AreJudged}
use Rattle.poly_tasks.proofs.fresh.opened_stairs.Goals as goal

pub returns-clause-ok : goal.returns-clause-ok
returns-clause-ok c = λ log le.
    let g = c.args.guards.now in
    let w = c.args.view.now in
    let judged : AreJudged w [] (stairs g) c.deref.result.now = c.deref.ensures.value ∙ c.in_ok-judge_first.ensures.flags ∙ ap (λ B. map (λ A. not (hopeless w (B ++ A))) (stairs g)) c.new-atoms.ensures.items in
    c.in_ok-tasks.ensures.ok w g log le judged
