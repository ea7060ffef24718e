use Rattle.std.proofs.Common.{List, length, ◌++◌, ◌≡◌, ◌≤◌}
use Rattle.poly_atom.specs.declared.atom.Atom.{Atom}
use Rattle.poly_lists.specs.Linked.{at_node}
use Rattle.poly_lists.proofs.walk.without_list.Given as goal

abbrev pub invariant-loop-left : goal.invariant-loop-left
invariant-loop-left l = (l.left ≤ length l.nodes) × ((B : List Atom) → (B ++ at_node l.nodes l.left ≡ l.rest → B ++ at_node l.nodes l.node ≡ l.list) × (B ++ at_node l.nodes l.node ≡ l.list → B ++ at_node l.nodes l.left ≡ l.rest))

abbrev pub decreases-loop-left : goal.decreases-loop-left
decreases-loop-left l = l.left
