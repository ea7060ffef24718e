use Rattle.std.proofs.Common.{drop, ◌+◌, ◌-◌, ◌≡◌, ◌≤◌}
use Rattle.poly_report.specs.Shapes.{arms_list, plan_of}
use Rattle.poly_report.specs.Sizes.{arms_deep, arms_total, deep, total}
use Rattle.poly_report.proofs.size.+nodes_left.Given as goal

abbrev pub decreases-nodes_left : goal.decreases-nodes_left
decreases-nodes_left l = goal.size-nodes_left l

abbrev pub invariant-loop-arm : goal.invariant-loop-arm
invariant-loop-arm l =
    let more = arms_list (drop l.arm-index l.arm-items) in
    record {
      total : l.nodes + arms_total more ≡ l.left + total (plan_of l.tree);
      low : arms_deep more ≤ l.depth - 1 → deep (plan_of l.tree) ≤ l.depth;
      deep : arms_deep more + 1 ≤ deep (plan_of l.tree);
    }
