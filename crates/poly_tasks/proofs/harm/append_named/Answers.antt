use Rattle.std.proofs.Common.{[], ap, ◌++◌, ◌∙◌, ◌∷◌}
use Rattle.poly_tasks.specs.Judged.{named}
use Rattle.poly_tasks.proofs.Harming.{named_more}
use Rattle.poly_tasks.proofs.harm.append_named.Goals as goal

pub loop-atom-preserved : goal.loop-atom-preserved
loop-atom-preserved c =
    c.in_ok-append_placement.ensures.ok ∙ ap (λ ps. ps ++ named (c.atom-item.result ∷ [])) c.loop-atom.invariant
    ∙ named_more c.args.atoms.now c.loop-atom.atom-index c.atom-item.result c.args.placements.now.items c.loop-atom-test.true c.atom-item.is
