use Rattle.std.proofs.Common.{get_or, length, ltb, ℕ, ◌&&◌, ◌*◌, ◌<◌, ◌≡◌}
use Rattle.poly_tiling.specs.Puzzle.{has_item}
use Rattle.poly_frame.specs.Bits.{has_bit}
use Rattle.poly_frame.specs.FrameItems.{item_of}
use Rattle.poly_frame.specs.Matrices.{bit_index}
use Rattle.poly_frame.proofs.frame.matrix.fill.Given as goal

abbrev pub invariant-loop-j : goal.invariant-loop-j
invariant-loop-j l = record {
  len : length l.rows ≡ l.width * length l.view.bounds;
  bits : (b i : ℕ) → b < length l.view.bounds → i < 64 * l.width → has_bit l.rows (bit_index l.width b i) ≡ (ltb i l.j && has_item l.view (get_or l.numbers i 0) (item_of l.view b));
}
