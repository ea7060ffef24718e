use Rattle.std.proofs.Common.{length, take, ℕ, ◌||◌, ◌≡◌}
use Rattle.poly_tiling.specs.Lists.{mem}
use Rattle.poly_frame.specs.Bits.{has_bit}
use Rattle.poly_frame.proofs.frame.alive.put_numbers.Given as goal

abbrev pub invariant-loop-p : goal.invariant-loop-p
invariant-loop-p l = record {
  len : length l.words.items ≡ length l.fn.words.items;
  bits : (x : ℕ) → has_bit l.words.items x ≡ (has_bit l.fn.words.items x || mem (take l.p-index l.numbers) x);
}
