use Rattle.std.proofs.Common.{IfOk, subst, ◌≡◌}
use Rattle.poly_frame.specs.Walk.{Walk}
use Rattle.poly_report.specs.Holds.{holds}
use Rattle.poly_report.specs.Shapes.{plan_of}
use Rattle.poly_report.proofs.cut.holds.Goals as goal

pub returns-clause-value : goal.returns-clause-value
returns-clause-value c = subst (λ (w : Walk). IfOk c.walk.result (λ yes. yes ≡ holds w.scene w.atoms (plan_of c.args.tree.now))) c.in_ok-frame.ensures.made c.walk.ensures.says
