use Rattle.std.proofs.Common.{map, take, ◌++◌, ◌≡◌}
use Rattle.poly_tasks.specs.Mapped.{run_from}
use Rattle.poly_tasks.proofs.maps.begin_runs.Given as goal

abbrev pub invariant-loop-atom : goal.invariant-loop-atom
invariant-loop-atom l = l.runs.items ≡ l.fn.runs.items ++ map (λ a. run_from l.number a) (take l.atom-index l.atoms)
