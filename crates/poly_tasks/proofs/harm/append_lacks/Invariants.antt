use Rattle.std.proofs.Common.{take, ◌++◌, ◌≡◌}
use Rattle.std.specs.List.{filter}
use Rattle.poly_tasks.specs.Judged.{is_harmful}
use Rattle.poly_tasks.proofs.harm.append_lacks.Given as goal

abbrev pub invariant-loop-atom : goal.invariant-loop-atom
invariant-loop-atom l = l.atoms.items ≡ l.fn.atoms.items ++ filter (is_harmful l.placements) (take l.atom-index l.list)
