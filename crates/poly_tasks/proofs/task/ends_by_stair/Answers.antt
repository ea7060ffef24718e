use Rattle.std.proofs.Common.{subst, sym, true, ◌++◌, ◌≡◌}
use Rattle.poly_tiling.proofs.Lists.{in_append_right}
use Rattle.poly_atom.specs.Hopeless.{hopeless}
use Rattle.poly_atom.specs.Logs.{stair_of}
use Rattle.poly_tasks.proofs.Judging.{hopeless_within}
use Rattle.poly_tasks.proofs.task.ends_by_stair.Goals as goal

pub returns-in-Some : goal.returns-in-Some
returns-in-Some c = λ so.
    let w = c.args.view.now in
    let stair = stair_of c.args.log.now c.in-Some.stair in
    let own = c.in-Some.ensures c.args.log.now c.requires in
    subst (λ A. hopeless w A ≡ true) (sym own.1.1) (hopeless_within w stair (own.1.0 ++ stair) (λ a i. in_append_right a own.1.0 stair i) (c.ends_alone.ensures so))
