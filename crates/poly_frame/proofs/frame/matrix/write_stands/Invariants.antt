use Rattle.std.proofs.Common.{get_or, length, ℕ, ◌<◌, ◌≡◌, ◌≤◌}
use Rattle.poly_frame.proofs.frame.matrix.write_stands.Given as goal

abbrev pub invariant-loop-j : goal.invariant-loop-j
invariant-loop-j l = record {
  len : l.size ≤ length l.stands.items;
  done : (i : ℕ) → i < l.j → get_or l.stands.items (get_or l.numbers i 0) 0 ≡ i;
}
