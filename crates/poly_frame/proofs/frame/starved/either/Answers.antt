use Rattle.std.proofs.Common.{arith}
use Rattle.std.proofs.lemmas.Nat.{le_or_l, le_or_r}
use Rattle.poly_frame.proofs.frame.starved.either.Goals as goal

pub returns-clause-first : goal.returns-clause-first
returns-clause-first c = λ h. omega (arith, h, le_or_l c.args.word c.args.other)

pub returns-clause-second : goal.returns-clause-second
returns-clause-second c = λ h. omega (arith, h, le_or_r c.args.word c.args.other)
