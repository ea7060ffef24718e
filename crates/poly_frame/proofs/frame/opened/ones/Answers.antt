use Rattle.std.proofs.Common.{ap, arith, w64, ◌-◌, ◌∙◌}
use Rattle.std.proofs.lemmas.Nat.Bits.{bit_at-zero, bit_at_not}
use Rattle.poly_frame.proofs.frame.opened.ones.Goals as goal

pub returns : goal.returns
returns c = λ t h. bit_at_not w64 0 t (omega arith) h ∙ ap (λ n. 1 - n) (bit_at-zero t)
