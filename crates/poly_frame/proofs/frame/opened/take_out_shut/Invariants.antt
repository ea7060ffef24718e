use Rattle.std.proofs.Common.{get_or, length, not, ℕ, ◌&&◌, ◌*◌, ◌<◌, ◌≡◌}
use Rattle.poly_frame.specs.Bits.{has_bit}
use Rattle.poly_frame.specs.FrameItems.{item_at}
use Rattle.poly_frame.specs.FrameTable.{shut_at}
use Rattle.poly_frame.specs.Matrices.{any_below, bit_index}
use Rattle.poly_frame.proofs.frame.opened.take_out_shut.Given as goal

abbrev pub invariant-loop-b : goal.invariant-loop-b
invariant-loop-b l = record {
  len : length l.row.items ≡ length l.fn.row.items;
  bits : (j : ℕ) → j < 64 * l.whole.width → has_bit l.row.items j ≡ (has_bit l.fn.row.items j && not (any_below (λ b. shut_at (item_at l.bounds b) (get_or l.mosts b 0) (get_or l.have b 0) && has_bit l.whole.rows.items (bit_index l.whole.width b j)) l.b));
}
