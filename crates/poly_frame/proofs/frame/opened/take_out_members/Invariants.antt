use Rattle.std.proofs.Common.{false, get_or, length, not, take, ℕ, ◌&&◌, ◌<◌, ◌≡◌}
use Rattle.poly_tiling.specs.Lists.{mem}
use Rattle.poly_frame.specs.Bits.{has_bit}
use Rattle.poly_frame.proofs.frame.opened.take_out_members.Given as goal

abbrev pub invariant-loop-p : goal.invariant-loop-p
invariant-loop-p l = record {
  len : length l.row.items ≡ length l.fn.row.items;
  past : (j : ℕ) → has_bit l.fn.row.items j ≡ false → has_bit l.row.items j ≡ false;
  bits : (j : ℕ) → j < length l.whole.numbers.items → has_bit l.row.items j ≡ (has_bit l.fn.row.items j && not (mem (take l.p-index l.members) (get_or l.whole.numbers.items j 0)));
}
