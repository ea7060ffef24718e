use Rattle.std.proofs.Common.{length, reverse, ◌++◌, ◌≡◌, ◌≤◌}
use Rattle.std.specs.List.{filter}
use Rattle.poly_lists.specs.Linked.{at_node}
use Rattle.poly_lists.specs.Words.{is_other}
use Rattle.poly_lists.proofs.others.others_back.Given as goal

abbrev pub invariant-loop-left : goal.invariant-loop-left
invariant-loop-left l = (l.left ≤ length l.nodes) × (l.buffer.items ++ reverse (filter is_other (at_node l.nodes l.left)) ≡ l.fn.buffer.items ++ reverse (filter is_other (at_node l.nodes l.node)))

abbrev pub decreases-loop-left : goal.decreases-loop-left
decreases-loop-left l = l.left
