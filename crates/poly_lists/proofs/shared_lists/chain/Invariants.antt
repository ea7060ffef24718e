use Rattle.std.proofs.Common.{length, take, ◌≡◌}
use Rattle.poly_lists.specs.Linked.{AreEarlier, at_node}
use Rattle.poly_lists.proofs.shared_lists.chain.Given as goal

abbrev pub invariant-loop-atom : goal.invariant-loop-atom
invariant-loop-atom l = AreEarlier 0 l.nodes × (at_node l.nodes (length l.nodes) ≡ take l.atom-index l.list)
