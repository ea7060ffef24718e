use Rattle.std.proofs.Common.{length, ◌≡◌}
use Rattle.poly_tiling.specs.Lists.{distinct}
use Rattle.poly_report.specs.Trees.{heads}
use Rattle.poly_report.specs.Shapes.{arms_list}
use Rattle.poly_report.proofs.arms.stand_once.Given as goal

abbrev pub decreases-loop-left : goal.decreases-loop-left
decreases-loop-left l = length l.left

abbrev pub invariant-loop-left : goal.invariant-loop-left
invariant-loop-left l = distinct (heads (arms_list l.arms)) ≡ distinct (heads (arms_list l.left))
