use Rattle.poly_frame.proofs.Alive.{cleared_past}
use Rattle.std.proofs.Common.{arith}
use Rattle.poly_frame.proofs.frame.alive.take_out_number.Goals as goal

pub returns-else-j-len-clause-bits : goal.returns-else-j-len-clause-bits
returns-else-j-len-clause-bits c = λ x. cleared_past c.args.words.now.items c.args.number x (omega (arith, c.if-j-len.false, c.len.ensures, c.args.words.now.ok.0))
