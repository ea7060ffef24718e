use Rattle.std.proofs.Common.{get_or, length, vec_capacity, ℕ, ◌<◌, ◌≡◌, ◌≤◌}
use Rattle.poly_frame.proofs.frame.matrix.all_homes.Given as goal

abbrev pub invariant-loop-j : goal.invariant-loop-j
invariant-loop-j l = record {
  len : length l.homes.items ≡ l.j;
  room : l.count ≤ vec_capacity l.homes;
  each : (i : ℕ) → i < l.j → get_or l.homes.items i 0 ≡ i;
}
