use Rattle.std.proofs.Common.{false, length, true, ℕ, ◌*◌, ◌<◌, ◌≡◌, ◌≤◌}
use Rattle.poly_frame.specs.Bits.{has_bit}
use Rattle.poly_frame.proofs.frame.opened.first_row.Given as goal

abbrev pub invariant-loop-j : goal.invariant-loop-j
invariant-loop-j l = record {
  len : length l.row.items ≡ l.width;
  inside : (i : ℕ) → i < l.j → has_bit l.row.items i ≡ true;
  past : (i : ℕ) → l.j ≤ i → i < 64 * l.width → has_bit l.row.items i ≡ false;
}
