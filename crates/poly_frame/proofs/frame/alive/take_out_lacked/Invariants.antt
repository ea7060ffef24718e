use Rattle.std.proofs.Common.{length, not, take, ℕ, ◌&&◌, ◌≡◌}
use Rattle.std.specs.List.{list_any}
use Rattle.poly_atom.specs.Hopeless.{lacks}
use Rattle.poly_frame.specs.Bits.{has_bit}
use Rattle.poly_frame.proofs.frame.alive.take_out_lacked.Given as goal

abbrev pub invariant-loop-atom : goal.invariant-loop-atom
invariant-loop-atom l = record {
  len : length l.words.items ≡ length l.fn.words.items;
  bits : (x : ℕ) → has_bit l.words.items x ≡ (has_bit l.fn.words.items x && not (list_any (λ a. lacks a x) (take l.atom-index l.atoms)));
}
