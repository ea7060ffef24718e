use Rattle.std.proofs.Common.{length, ◌++◌, ◌+◌, ◌≡◌, ◌≤◌}
use Rattle.std.specs.Prelude.{vec_len, vec_capacity}
use Rattle.std.specs.Vec.Iter.{into_iter_items}
use Rattle.poly_book.proofs.apply.push_tasks.Given as goal

abbrev pub invariant-loop-task : goal.invariant-loop-task
invariant-loop-task l = record {
  same : l.out.items ++ into_iter_items l.task-iterator ≡ l.fn.out.items ++ l.fn.fresh.items;
  room : vec_len l.out + length (into_iter_items l.task-iterator) ≤ vec_capacity l.out;
}
