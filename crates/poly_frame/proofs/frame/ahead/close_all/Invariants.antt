use Rattle.std.proofs.Common.{length, not, take, ℕ, ◌&&◌, ◌*◌, ◌-◌, ◌<◌, ◌≡◌, ◌≤◌}
use Rattle.std.specs.List.{list_any}
use Rattle.poly_frame.specs.Bits.{has_bit}
use Rattle.poly_frame.specs.Matrices.{bit_index}
use Rattle.poly_frame.proofs.frame.ahead.close_all.Given as goal

abbrev pub invariant-loop-k : goal.invariant-loop-k
invariant-loop-k l = record {
  inside : l.k ≤ length l.indices;
  len : length l.row ≡ length l.fn.row;
  bits : (x : ℕ) → x < 64 * length l.fn.row → has_bit l.row x ≡ (has_bit l.fn.row x && not (list_any (λ b. has_bit l.rows (bit_index (length l.fn.row) b x)) (take l.k l.indices)));
}

abbrev pub decreases-loop-k : goal.decreases-loop-k
decreases-loop-k l = length l.indices - l.k
