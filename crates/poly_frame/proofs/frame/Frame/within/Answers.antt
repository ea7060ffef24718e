use Rattle.std.proofs.Common.{arith, length, ap}
use Rattle.poly_frame.proofs.frame.Frame.within.Goals as goal

pub begin-requires-clause-part : goal.begin-requires-clause-part
begin-requires-clause-part c = c.requires.part

pub begin-requires-clause-whole : goal.begin-requires-clause-whole
begin-requires-clause-whole c = c.requires.whole.part

pub begin-requires-clause-all : goal.begin-requires-clause-all
begin-requires-clause-all c = c.requires.all

pub begin-requires-clause-alive : goal.begin-requires-clause-alive
begin-requires-clause-alive c = record { low = omega arith; bits = λ h. absurd (omega (arith, h, ap length c.new-alive.ensures.items)) }

pub returns : goal.returns
returns c = c.begin.ensures
