use Rattle.std.proofs.Common.{◌≡◌, ◌+◌, ◌*◌, true}
use Rattle.poly_report.specs.Trees.{Arms}
use Rattle.poly_report.specs.Shapes.{arms_list}
use Rattle.poly_search.specs.Grows.{stand_of}
use Rattle.poly_search.specs.Walked.{Walks}
use Rattle.poly_search.proofs.growth.+grow.Given as goal

abbrev pub decreases-grow : goal.decreases-grow
decreases-grow l = 5 * l.depth + 2

abbrev pub decreases-child : goal.decreases-child
decreases-child l = 5 * l.depth + 3

abbrev pub decreases-arm : goal.decreases-arm
decreases-arm l = 5 * l.depth + 4

abbrev pub decreases-branch : goal.decreases-branch
decreases-branch l = 5 * l.depth + 1

abbrev pub decreases-walk_arms : goal.decreases-walk_arms
decreases-walk_arms l = 5 * l.depth

abbrev pub decreases-split : goal.decreases-split
decreases-split l = 5 * l.depth

abbrev pub invariant-walk_arms-loop-j : goal.invariant-walk_arms-loop-j
invariant-walk_arms-loop-j l = (arms : Arms) × (l.fn.growth.keep ≡ true → arms_list l.arms.items ≡ arms) × (l.growth.keep ≡ l.fn.growth.keep) × Walks l.fn.frame l.frame l.depth l.kept l.chained l.options (stand_of l.fn.growth) (stand_of l.growth) l.held l.j arms
