use Rattle.std.proofs.Common.{length, take, ◌++◌, ◌≡◌}
use Rattle.poly_lists.specs.Linked.{Extends}
use Rattle.poly_lists.specs.Trails.{IsAt}
use Rattle.poly_lists.proofs.growing.extend.Given as goal

abbrev pub invariant-loop-atom : goal.invariant-loop-atom
invariant-loop-atom l = Extends l.fn.nodes l.nodes × IsAt l.nodes l.trail.items l.last.items (length l.nodes) × (l.last.items ≡ l.fn.last.items ++ take l.atom-index l.atoms)
