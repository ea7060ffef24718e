use Rattle.std.proofs.Common.{eqb, length, take, ℕ, ◌||◌, ◌≡◌}
use Rattle.std.specs.List.{list_any}
use Rattle.poly_frame.specs.Bits.{has_bit}
use Rattle.poly_frame.specs.Matrices.{bit_index}
use Rattle.poly_frame.proofs.frame.matrix.put_bit.Given as goal

abbrev pub invariant-loop-b : goal.invariant-loop-b
invariant-loop-b l = record {
  len : length l.words ≡ length l.fn.words;
  bits : (x : ℕ) → has_bit l.words x ≡ (has_bit l.fn.words x || list_any (λ b. eqb (bit_index l.width b l.t) x) (take l.b-index l.indices));
}
