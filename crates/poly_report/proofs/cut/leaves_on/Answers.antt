use Rattle.std.proofs.Common.{ap, refl, sym, ◌++◌, ◌∙◌}
use Rattle.poly_report.specs.Holds.{holds}
use Rattle.poly_report.specs.Leaves.{tilings}
use Rattle.poly_report.specs.Shapes.{plan_of}
use Rattle.poly_report.proofs.Followed.{followed}
use Rattle.poly_report.proofs.cut.leaves_on.Goals as goal

pub returns-clause-value : goal.returns-clause-value
returns-clause-value c =
    let t = plan_of c.args.tree.now in
    let v = c.args.frame.now.scene in
    let same = c.requires.atoms in
    let walked = c.in_ok-yes.ensures in
    let yes = c.if-not-yes.false in
    record {
      right = sym (ap (λ A. holds v A t) same) ∙ sym walked.says ∙ yes;
      tilings = c.in_ok-leaves.ensures.tilings ∙ walked.tilings yes refl ∙ ap (λ xs. xs ++ tilings v c.args.frame.now.atoms t) c.new-all.ensures.tilings ∙ ap (λ A. tilings v A t) same;
      rests = followed c.args.frame.now v c.args.atoms.now t c.new-all.result.paths c.walk.new.out.paths c.in_ok-leaves.leaves.rests (λ i. record { scene = v; atoms = same i; given = c.requires.given i }) c.new-all.ensures.paths (walked.paths yes refl) c.in_ok-leaves.ensures.rests;
    }
