use Rattle.std.proofs.Common.{get_or, ℕ, ◌<◌, ◌≤◌}
use Rattle.poly_tasks.specs.declared.shelf.Frozen.{Frozen}
use Rattle.poly_tasks.specs.Needed.{IsFrozenFrom}
use Rattle.poly_book.proofs.forget.first_frozen.Given as goal

abbrev pub invariant-loop-task : goal.invariant-loop-task
invariant-loop-task l = record {
  so_far : (k : ℕ) (d : Frozen) → k < l.task-index → IsFrozenFrom l.edition (get_or l.frozen k d);
  low : l.edition ≤ l.fn.end;
}
