use Rattle.poly_frame.proofs.Words.{bit_both}
use Rattle.poly_frame.proofs.bits.both.Goals as goal

pub returns : goal.returns
returns c = λ t. bit_both c.args.word c.args.row t
