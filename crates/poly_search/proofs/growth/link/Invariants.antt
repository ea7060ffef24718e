use Rattle.std.proofs.Common.{◌≡◌, vec_len}
use Rattle.poly_report.specs.Trees.{Rests}
use Rattle.poly_report.specs.Shapes.{plan_of, arms_list}
use Rattle.poly_search.specs.Chains.{chain}
use Rattle.poly_search.proofs.growth.link.Given as goal

abbrev pub invariant-loop-arm : goal.invariant-loop-arm
invariant-loop-arm l = chain (arms_list l.arms.items) (plan_of l.tree) ≡ chain (arms_list l.fn.arms.items) Rests

abbrev pub decreases-loop-arm : goal.decreases-loop-arm
decreases-loop-arm l = vec_len l.arms
