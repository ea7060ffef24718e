use Rattle.std.proofs.Common.{ap, arith, inl, inr, sym, ◌∙◌}
use Rattle.poly_report.specs.Trees.{Branches}
use Rattle.poly_report.specs.Shapes.{arms_list, plan_of}
use Rattle.poly_report.specs.Sizes.{deep, total}
use Rattle.poly_report.proofs.Measures.{deep_some, total_some}
use Rattle.poly_report.proofs.Rows.{plan_of-Branch}
use Rattle.poly_report.proofs.size.+nodes_left.Goals as goal

pub returns-then-nodes-eq0-clause-none : goal.returns-then-nodes-eq0-clause-none
returns-then-nodes-eq0-clause-none t c =
    let a = total_some (plan_of c.args.tree.now) in
    let b = deep_some (plan_of c.args.tree.now) in
    λ h. elim c.then-nodes-eq0.either [ inl e ↦ absurd (omega arith) | inr e ↦ let z = e.1 in omega arith ]

pub loop-arm-init : goal.loop-arm-init
loop-arm-init t c =
    let tree = ap plan_of c.in-Branch.is ∙ plan_of-Branch c.in-Branch.item c.in-Branch.arms ∙ ap (λ xs. Branches c.in-Branch.item (arms_list xs)) (sym c.deref-arm-items.ensures.value) in
    let nodes = ap total tree in
    let depth = ap deep tree in
    record { total = omega arith; low = λ h. omega arith; deep = omega arith }
