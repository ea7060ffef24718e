use Rattle.std.proofs.Common.{length, reverse, ◌++◌, ◌≡◌, ◌≤◌}
use Rattle.poly_lists.specs.Linked.{at_node}
use Rattle.poly_lists.proofs.walk.read_back.Given as goal

abbrev pub invariant-loop-left : goal.invariant-loop-left
invariant-loop-left l = (l.left ≤ length l.nodes) × (l.buffer.items ++ reverse (at_node l.nodes l.left) ≡ l.fn.buffer.items ++ reverse (at_node l.nodes l.node))

abbrev pub decreases-loop-left : goal.decreases-loop-left
decreases-loop-left l = l.left
