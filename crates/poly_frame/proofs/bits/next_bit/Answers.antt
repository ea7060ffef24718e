use Rattle.std.proofs.Common.{arith}
use Rattle.poly_frame.proofs.Words.{first_from, none_from}
use Rattle.poly_frame.proofs.bits.next_bit.Goals as goal

pub returns-then-rest-eq0 : goal.returns-then-rest-eq0
returns-then-rest-eq0 c = none_from c.args.word c.args.low c.if-rest-eq0.true

pub returns : goal.returns
returns c = first_from c.args.word c.args.low (omega arith) (λ e. omega (arith, c.if-rest-eq0.false, e))
