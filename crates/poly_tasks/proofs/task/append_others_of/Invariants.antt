use Rattle.std.proofs.Common.{take, ◌++◌, ◌≡◌}
use Rattle.std.specs.List.{filter}
use Rattle.poly_lists.specs.Words.{is_other}
use Rattle.poly_tasks.proofs.task.append_others_of.Given as goal

abbrev pub invariant-loop-atom : goal.invariant-loop-atom
invariant-loop-atom l = l.buffer.items ≡ l.fn.buffer.items ++ filter is_other (take l.atom-index l.atoms)
