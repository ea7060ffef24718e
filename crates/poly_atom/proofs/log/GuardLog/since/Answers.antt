use Rattle.std.proofs.Common.{rules}
use Rattle.poly_atom.proofs.log.GuardLog.since.Goals as goal

pub returns : goal.returns
returns c = search rules
