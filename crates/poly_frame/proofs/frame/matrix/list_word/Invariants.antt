use Rattle.std.proofs.Common.{vec_capacity, ◌≡◌}
use Rattle.poly_frame.proofs.Listed.{RestOf}
use Rattle.poly_frame.proofs.frame.matrix.list_word.Given as goal

abbrev pub invariant-loop-t : goal.invariant-loop-t
invariant-loop-t l = record {
  state : RestOf l.given l.given_homes l.row l.numbers.items l.homes.items l.k l.rest;
  space : vec_capacity l.numbers ≡ vec_capacity l.fn.numbers;
  room : vec_capacity l.homes ≡ vec_capacity l.fn.homes;
}

abbrev pub decreases-loop-t : goal.decreases-loop-t
decreases-loop-t l = l.rest
