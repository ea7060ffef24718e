use Rattle.std.proofs.Common.{length, vec_capacity, vec_len, ◌+◌, ◌≤◌}
use Rattle.poly_frame.proofs.frame.occupied.list_occupied.Given as goal

abbrev pub invariant-loop-row : goal.invariant-loop-row
invariant-loop-row l = record {
  inside : l.at ≤ length l.rows;
  room : vec_len l.into + l.count ≤ vec_capacity l.into + l._row;
}
