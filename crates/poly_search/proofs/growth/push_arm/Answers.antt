use Rattle.std.proofs.Common.{ap, ◌∙◌}
use Rattle.poly_report.specs.Shapes.{arms_list}
use Rattle.poly_report.specs.declared.tree.Arm.{Arm}
use Rattle.poly_search.proofs.Nodes.{list_snoc}
use Rattle.poly_search.proofs.growth.push_arm.Goals as goal

pub returns-clause-arms : goal.returns-clause-arms
returns-clause-arms c = λ k.
    let a : Arm = record { placement = c.args.placement; tree = c.args.tree } in
    ap arms_list c.in_ok-push.ensures.items ∙ list_snoc c.args.arms.now.items a
