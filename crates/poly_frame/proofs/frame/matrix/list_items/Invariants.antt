use Rattle.std.proofs.Common.{length, vec_capacity, ◌+◌, ◌≤◌}
use Rattle.poly_frame.specs.Matrices.{ListsTo}
use Rattle.poly_frame.proofs.frame.matrix.list_items.Given as goal

abbrev pub invariant-loop-p : goal.invariant-loop-p
invariant-loop-p l = record {
  lists : ListsTo l.view l.numbers l.starts.items l.indices.items l.p-index;
  room : length l.numbers + 1 ≤ vec_capacity l.starts;
}
