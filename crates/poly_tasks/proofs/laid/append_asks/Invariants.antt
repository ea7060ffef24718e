use Rattle.std.proofs.Common.{take, ◌++◌, ◌≡◌}
use Rattle.std.specs.List.{filter}
use Rattle.poly_tasks.specs.Judged.{is_has}
use Rattle.poly_tasks.proofs.laid.append_asks.Given as goal

abbrev pub invariant-loop-atom : goal.invariant-loop-atom
invariant-loop-atom l = l.buffer.items ≡ l.fn.buffer.items ++ filter is_has (take l.atom-index l.atoms)
