use Rattle.std.proofs.Common.{arith}
use Rattle.poly_frame.proofs.Words.{bit_less}
use Rattle.poly_frame.proofs.bits.less.Goals as goal

pub returns : goal.returns
returns c = λ t h. bit_less c.args.word c.args.row t (omega arith) h
