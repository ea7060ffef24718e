use Rattle.std.proofs.Common.{take, ◌++◌, ◌≡◌}
use Rattle.poly_tasks.specs.Judged.{named}
use Rattle.poly_tasks.proofs.harm.append_named.Given as goal

abbrev pub invariant-loop-atom : goal.invariant-loop-atom
invariant-loop-atom l = l.placements.items ≡ l.fn.placements.items ++ named (take l.atom-index l.atoms)
