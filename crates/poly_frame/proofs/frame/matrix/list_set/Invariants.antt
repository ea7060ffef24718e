use Rattle.std.proofs.Common.{length, vec_capacity, ◌*◌, ◌≤◌}
use Rattle.poly_frame.specs.Matrices.{ListedTo}
use Rattle.poly_frame.proofs.frame.matrix.list_set.Given as goal

abbrev pub invariant-loop-k : goal.invariant-loop-k
invariant-loop-k l = record {
  listed : ListedTo l.given l.given_homes l.row l.numbers.items l.homes.items (64 * l.k);
  space : length l.given ≤ vec_capacity l.numbers;
  room : length l.given ≤ vec_capacity l.homes;
}
