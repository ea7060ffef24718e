use Rattle.std.proofs.Common.{ap, ◌+◌, ◌/◌, ◌∙◌}
use Rattle.poly_frame.specs.Bits.{has_bit}
use Rattle.poly_frame.proofs.Words.{no_bits}
use Rattle.poly_frame.proofs.frame.alive.no_bits.Goals as goal

pub returns-clause-bits : goal.returns-clause-bits
returns-clause-bits c = λ x. ap (λ ws. has_bit ws x) (c.in_ok-words.ensures.items_if_clones_equal (λ a e. e)) ∙ no_bits (c.args.count / 64 + 1) x
