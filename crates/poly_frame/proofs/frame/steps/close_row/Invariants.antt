use Rattle.std.proofs.Common.{get_or, leb, length, not, take, ℕ, ◌&&◌, ◌*◌, ◌-◌, ◌<◌, ◌≡◌, ◌≤◌}
use Rattle.std.specs.List.{list_any}
use Rattle.poly_frame.specs.Bits.{has_bit}
use Rattle.poly_frame.specs.Matrices.{bit_index}
use Rattle.poly_frame.proofs.frame.steps.close_row.Given as goal

abbrev pub invariant-loop-k : goal.invariant-loop-k
invariant-loop-k l = record {
  inside : l.k ≤ length l.indices;
  len : length l.row ≡ length l.fn.row;
  bits : (j : ℕ) → j < 64 * length l.fn.row → has_bit l.row j ≡ (has_bit l.fn.row j && not (list_any (λ b. leb (get_or l.limits b 0) (get_or l.have b 0) && has_bit l.rows (bit_index (length l.fn.row) b j)) (take l.k l.indices)));
}

abbrev pub decreases-loop-k : goal.decreases-loop-k
decreases-loop-k l = length l.indices - l.k
