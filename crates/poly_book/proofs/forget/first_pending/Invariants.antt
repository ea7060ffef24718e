use Rattle.std.proofs.Common.{get_or, ℕ, ◌<◌, ◌≤◌}
use Rattle.poly_tasks.specs.declared.task.Pending.{Pending}
use Rattle.poly_tasks.specs.Needed.{IsTaskFrom}
use Rattle.poly_book.proofs.forget.first_pending.Given as goal

abbrev pub invariant-loop-task : goal.invariant-loop-task
invariant-loop-task l = record {
  so_far : (k : ℕ) (d : Pending) → k < l.task-index → IsTaskFrom l.edition (get_or l.tasks k d).own (get_or l.tasks k d).made;
  low : l.edition ≤ l.fn.end;
}
