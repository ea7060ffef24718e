use Rattle.std.proofs.Common.{arith, length}
use Rattle.poly_frame.proofs.Words.{words_less}
use Rattle.poly_frame.proofs.bits.take_out_words.Goals as goal

pub returns-clause-bits : goal.returns-clause-bits
returns-clause-bits c = words_less c.args.words.now c.args.row.now c.loop-k.words (length c.args.words.now) (λ k t h l. c.loop-k.invariant.done k t (omega (arith, h)) l)
