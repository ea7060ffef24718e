use Rattle.std.proofs.Common.{false, get_or, length, not, take, ℕ, ◌&&◌, ◌<◌, ◌≡◌}
use Rattle.std.specs.List.{list_any}
use Rattle.poly_atom.specs.Hopeless.{lacks}
use Rattle.poly_frame.specs.Bits.{has_bit}
use Rattle.poly_frame.proofs.frame.opened.take_out_lacked.Given as goal

abbrev pub invariant-loop-atom : goal.invariant-loop-atom
invariant-loop-atom l = record {
  len : length l.row.items ≡ length l.fn.row.items;
  past : (j : ℕ) → has_bit l.fn.row.items j ≡ false → has_bit l.row.items j ≡ false;
  bits : (j : ℕ) → j < length l.whole.numbers.items → has_bit l.row.items j ≡ (has_bit l.fn.row.items j && not (list_any (λ a. lacks a (get_or l.whole.numbers.items j 0)) (take l.atom-index l.atoms)));
}
