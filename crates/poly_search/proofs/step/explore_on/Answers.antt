use Rattle.std.proofs.Common.{ap, arith, length, refl, ◌+◌, ◌≤◌, ◌∙◌}
use Rattle.std.proofs.lemmas.Result.{IfOk-weaker}
use Rattle.poly_report.specs.Shapes.{plan_of}
use Rattle.poly_search.proofs.Growing.{explored}
use Rattle.poly_search.proofs.step.explore_on.Goals as goal

pub returns-in-Ok-clause-tree : goal.returns-in-Ok-clause-tree
returns-in-Ok-clause-tree c =
    let g = c.in-Ok.ensures.grows in
    let w = c.args.frame.now in
    let root = g.3 refl (omega arith) c.requires.some (omega arith) in
    IfOk-weaker c.with_leaves.result _ _ (λ x e. (
      g.0,
      λ k. ap plan_of e.0 ∙ g.1 k,
      explored w w.scene c.args.atoms.now c.args.nodes _ _ g.0 x.leaves.tilings.items x.leaves.rests g.2 (λ i. record { scene = w.scene; atoms = c.requires.atoms i; given = c.requires.given i }) refl refl c.new.ensures.tilings c.new.ensures.paths root e.1 e.2,
    )) c.with_leaves.ensures.made

pub grow-requires : goal.grow-requires
grow-requires c =
    let w = c.args.frame.now in
    let r = c.requires in
    let long = ap length r.atoms in
    let steps : length w.atoms + 4096 ≤ w.given + 4096 + 0 = omega (arith, long, r.given) in
    record { room = omega arith; low = omega arith; steps = steps; begun = omega (arith, long, r.given); once = r.once }
