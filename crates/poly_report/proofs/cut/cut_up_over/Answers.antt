use Rattle.std.proofs.Common.{IfOk, MatchOption, false, subst, ◌≡◌}
use Rattle.poly_frame.specs.Walk.{Walk}
use Rattle.poly_report.specs.Gather.{IsCutUp}
use Rattle.poly_report.specs.Holds.{holds}
use Rattle.poly_report.specs.Shapes.{plan_of}
use Rattle.poly_report.proofs.cut.cut_up_over.Goals as goal

pub returns-clause-value : goal.returns-clause-value
returns-clause-value c =
    let A = c.args.atoms.now in
    let t = plan_of c.args.tree.now in
    subst (λ (w : Walk). IfOk c.leaves_on.result (λ o. MatchOption o (holds w.scene A t ≡ false) (λ l. IsCutUp w.scene A t l.tilings.items (l.rests)))) c.in_ok-frame.ensures.made c.leaves_on.ensures.value
