use Rattle.std.proofs.Common.{rules}
use Rattle.poly_atom.proofs.log.GuardLog.forget_before.Goals as goal

pub returns : goal.returns
returns c = search rules
