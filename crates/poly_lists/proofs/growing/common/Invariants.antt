use Rattle.std.proofs.Common.{take, ◌-◌, ◌≡◌, ◌≤◌}
use Rattle.poly_lists.proofs.growing.common.Given as goal

abbrev pub invariant-loop-count : goal.invariant-loop-count
invariant-loop-count l = (l.count ≤ l.limit) × (take l.count l.one ≡ take l.count l.other)

abbrev pub decreases-loop-count : goal.decreases-loop-count
decreases-loop-count l = l.limit - l.count
