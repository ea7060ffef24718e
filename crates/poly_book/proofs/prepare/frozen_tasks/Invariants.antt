use Rattle.std.proofs.Common.{map, take, ◌≡◌}
use Rattle.poly_tasks.specs.Meaning.{AreFrozen, frozen_of, tasks_of}
use Rattle.poly_tasks.specs.Tasks.{atoms_of}
use Rattle.poly_book.proofs.prepare.frozen_tasks.Given as goal

abbrev pub invariant-loop-task : goal.invariant-loop-task
invariant-loop-task l = record {
  atoms : map (λ f. frozen_of l.log f) l.all.items ≡ map (λ t. atoms_of t) (tasks_of l.log (take l.task-index l.tasks));
  frozen : AreFrozen l.log l.all.items;
}
